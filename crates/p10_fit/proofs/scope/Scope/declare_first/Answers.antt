use Rattle.std.proofs.Common.{◌∙◌, ◌∷◌, ◌++◌, [], sym, ap, zero-add}
use Rattle.p10_core.specs.WholePrograms.{numbers_from}
use Rattle.p10_fit.proofs.Counting.{row_and_next}
use Rattle.p10_fit.proofs.scope.Scope.declare_first.Goals as goal

pub loop-number-preserved : goal.loop-number-preserved
loop-number-preserved c = record {
  numbers = c.in_ok-declare.ensures.ok ∙ ap (λ xs. xs ++ (c.loop-number.number ∷ [])) c.loop-number.invariant.numbers ∙ ap (λ n. numbers_from 0 c.loop-number.number ++ (n ∷ [])) (sym (zero-add c.loop-number.number)) ∙ sym (row_and_next 0 c.loop-number.number);
  same = c.declare.ensures.same ∙ c.loop-number.invariant.same;
}
