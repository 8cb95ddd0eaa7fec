use Rattle.std.proofs.Common.{◌≡◌, true, rules}
use Rattle.p10_core.specs.Views.{plain_program, plain_object}
use Rattle.p10_core.specs.WholePrograms.{IsWholeObject}
use Rattle.p10_whole.proofs.Each.{each_next, each_end}
use Rattle.p10_whole.proofs.objects.are_whole_objects.Goals as goal

pub loop-object-preserved : goal.loop-object-preserved
loop-object-preserved c =
    let passed : c.is_whole_object.result ≡ true = search rules in
    each_next (IsWholeObject (plain_program c.args.program.now)) plain_object _ c.args.all.now c.loop-object.object-index c.object-item.result c.loop-object-test.true c.object-item.is (c.is_whole_object.ensures.shows passed) c.loop-object.invariant

pub returns : goal.returns
returns c = record { shows = λ _. c.loop-object.invariant (each_end (IsWholeObject (plain_program c.args.program.now)) plain_object c.args.all.now c.loop-object.object-index c.loop-object-test.false) }
