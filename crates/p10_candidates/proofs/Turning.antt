-- Rounds of loops, by whole statements.
use Rattle.std.proofs.Common.{◌≡◌, List, Some}
use Rattle.p10_core.specs.Typed.{PlainStatement, statement, loop, PlainVariable}
use Rattle.p10_absx.specs.Environments.{Environment}
use Rattle.p10_pass.specs.Passing.{Round, trial_manner}
use Rattle.p10_pass.specs.Rounds.{round_at}
use Rattle.p10_candidates.specs.Trials.{rounds_in}

-- the round that a pass gives is that of the trial
pub round_is : (variables : List PlainVariable) (s : PlainStatement) (env : Environment) (r : Round) → round_at (trial_manner variables) s env ≡ Some r → r ≡ rounds_in variables s env
round_is variables (statement at (loop head first tested third body)) env r e = cc
round_is variables (statement at form) env r e = absurd cc
