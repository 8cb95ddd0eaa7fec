use Rattle.p10_allocation.proofs.Runs.{nothing_is_allocated_late, kept_rule_allocates_nothing_late}
use Rattle.p10_allocation.proofs.laws.nothing_is_allocated_late.Goals as goal

pub returns-clause-list : goal.returns-clause-list
returns-clause-list c = nothing_is_allocated_late

pub returns-clause-rule : goal.returns-clause-rule
returns-clause-rule c = kept_rule_allocates_nothing_late
