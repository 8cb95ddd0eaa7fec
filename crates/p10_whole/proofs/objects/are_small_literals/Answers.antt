use Rattle.std.proofs.Common.{◌≤◌, length, arith}
use Rattle.p10_base.specs.declared.report.TheConstants.Limit.{MOST_OBJECT_BYTES}
use Rattle.p10_core.specs.Views.{plain_literal}
use Rattle.p10_whole.proofs.Each.{each_next, each_end}
use Rattle.p10_whole.proofs.objects.are_small_literals.Goals as goal

pub loop-literal-preserved : goal.loop-literal-preserved
loop-literal-preserved c =
    let small : length c.literal-item.result.bytes ≤ MOST_OBJECT_BYTES = grind arith in
    each_next (λ l. length l.bytes ≤ MOST_OBJECT_BYTES) plain_literal _ c.args.all.now c.loop-literal.literal-index c.literal-item.result c.loop-literal-test.true c.literal-item.is small c.loop-literal.invariant

pub returns : goal.returns
returns c = record { shows = λ _. c.loop-literal.invariant (each_end (λ l. length l.bytes ≤ MOST_OBJECT_BYTES) plain_literal c.args.all.now c.loop-literal.literal-index c.loop-literal-test.false) }
