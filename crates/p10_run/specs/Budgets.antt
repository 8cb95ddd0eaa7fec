-- How far runs may go.
use Rattle.std.specs.Prelude.{ℕ, Some, None}
use Rattle.p10_base.specs.declared.report.Bounds.{Bounds}
use Rattle.p10_run.specs.declared.budget.Budget.{Budget}

-- `steps` steps for `main` or the part before its task loop, and afresh as many in each turn
abbrev pub budget_of_steps : ℕ → ℕ → ℕ → Budget
budget_of_steps steps turns denied = record { prefix = steps; turn = steps; turns = turns; denied = denied; room = None }

-- the steps of bounds, for which room is made
abbrev pub budget_within : Bounds → ℕ → ℕ → Budget
budget_within bounds turns denied = record { prefix = bounds.prefix; turn = bounds.turn; turns = turns; denied = denied; room = Some bounds }
