use Rattle.std.proofs.Common.{length}
use Rattle.p10_base.specs.Words.{plain_words}
use Rattle.p10_nesting.specs.Nesting.{outermost}
use Rattle.std.specs.Prelude.{false}
use Rattle.p10_nesting.specs.private.Tallies.{Stands, is_over}
use Rattle.p10_nesting.proofs.nested.is_too_nested.Given as goal

abbrev pub invariant-loop-rest : goal.invariant-loop-rest
invariant-loop-rest l = Stands l.open l.after_string (plain_words l.rest) (is_over outermost false (plain_words l.words))

abbrev pub decreases-loop-rest : goal.decreases-loop-rest
decreases-loop-rest l = length l.rest
