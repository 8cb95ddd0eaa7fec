use Rattle.p10_direct.proofs.Truths.{shallow_first, no_budget, no_operand, first_operand, next_operand, last_choice}
use Rattle.p10_direct.proofs.condition.+condition.Goals as goal

pub read-returns-then-budget-eq0-clause-value : goal.read-returns-then-budget-eq0-clause-value
read-returns-then-budget-eq0-clause-value t c = no_budget _ _ _ c.if-budget-eq0.true

pub read-returns-in_err-left-clause-value : goal.read-returns-in_err-left-clause-value
read-returns-in_err-left-clause-value t c = no_operand _ _ _ _ _ c.from_residual.ensures c.if-budget-eq0.false c.in_err-left.ensures.value

pub read-loop-op-init : goal.read-loop-op-init
read-loop-op-init t c = record {
  shallow = shallow_first _ _ c.if-budget-eq0.false c.in_ok-left.ensures.shallow;
  so_far = first_operand _ _ _ _ _ c.if-budget-eq0.false c.in_ok-left.ensures.value;
}

pub read-loop-op-preserved : goal.read-loop-op-preserved
read-loop-op-preserved t c = record {
  shallow = c.if-left-budget.false;
  so_far = next_operand _ _ _ _ _ _ _ _ _ _ c.loop-op.invariant.so_far c.in-Some.ensures c.binding.ensures.value c.behind.ensures c.in_ok-right.ensures.value (c.join_parts-left.ensures _) c.if-left-budget.false;
}

pub read-returns-then-level-eq0-clause-value : goal.read-returns-then-level-eq0-clause-value
read-returns-then-level-eq0-clause-value t c = last_choice _ _ _ _ _ _ c.loop-op.invariant.so_far c.in_default.ensures c.if-budget-eq0.false c.if-level-eq0.true c.read_choice.ensures.value
