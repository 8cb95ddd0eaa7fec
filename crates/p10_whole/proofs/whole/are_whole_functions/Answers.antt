use Rattle.std.proofs.Common.{◌≡◌, true, rules}
use Rattle.p10_core.specs.Views.{plain_program}
use Rattle.p10_whole.proofs.Assembling.{next_function, all_functions}
use Rattle.p10_whole.proofs.whole.are_whole_functions.Goals as goal

pub loop-number-preserved : goal.loop-number-preserved
loop-number-preserved c =
    let passed : c.in_ok-whole.whole ≡ true = search rules in
    next_function (plain_program c.args.program.now) c.args.all.now c.loop-number.number c.index-all-number.result c.loop-number-test.true c.index-all-number.is (c.in_ok-whole.ensures.shows passed) c.loop-number.invariant

pub returns : goal.returns
returns c = record { shows = λ _. all_functions (plain_program c.args.program.now) c.args.all.now c.loop-number.number c.loop-number-test.false c.loop-number.invariant }
