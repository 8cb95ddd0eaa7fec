-- What a whole run over a source and a sink gives, by what `run_of` says of a run in a world (C99 5.1.2.2, 5.1.2.3).
use Rattle.std.specs.Prelude.{◌≡◌, ℕ, ◌==◌, if◌then◌else◌, Bool, false, ℤ, List, [], ◌∷◌, ◌++◌, Option}
use Rattle.std.specs.Io.KnownBytes.{Appends}
use Rattle.p10_core.specs.Typed.{PlainProgram}
use Rattle.p10_meaning.specs.declared.world.World.{World}
use Rattle.p10_meaning.specs.States.{AssertionFailed as HasFailed, Undefined as IsUndefined, StepsSpent as HasSpent}
use Rattle.p10_meaning.specs.Runs.{Outcome, Returned as HasReturned, Turns as HasTurned, Ended, Ran, run_of}
use Rattle.p10_interp.specs.Resting.{rest_of, Asks}
use Rattle.p10_run.specs.declared.budget.Budget.{Budget}
use Rattle.p10_run.specs.declared.finished.RunOutcome.{RunOutcome}
use Rattle.p10_run.specs.declared.finished.RunOutcome.TheVariants.{Returned, Turns, AssertionFailed, Undefined, StepsSpent}
use Rattle.p10_run.specs.declared.finished.FinishedRun.{FinishedRun}

-- the requests for memory that are denied: the one with this number, or none at 0
abbrev pub denied_requests : ℕ → List ℕ
denied_requests number = if number == 0 then [] else number ∷ []

-- the world of a run with these values of sensors and this input
abbrev pub world_of : List ℤ → List ℕ → ℕ → World
world_of sensors input denied = record { input = input; denied = denied_requests denied; sensors = sensors }

-- the run of a program with a budget, these values of sensors and this input
abbrev pub run_with : PlainProgram → Budget → List ℤ → List ℕ → Ran
run_with p b sensors input = run_of p (world_of sensors input b.denied) b.prefix b.turn b.turns

-- an outcome, as the meaning has it
abbrev pub outcome_of : RunOutcome → Outcome
outcome_of (Returned z) = HasReturned z
outcome_of (Turns n) = HasTurned n
outcome_of (AssertionFailed span) = Ended (HasFailed span)
outcome_of (Undefined stop span) = Ended (IsUndefined stop span)
outcome_of StepsSpent = Ended HasSpent

-- what is known of a finished run is what the run gives, and the sink took all of its output
pub record IsRun (run : FinishedRun) (taken taken_after : Option (List ℕ)) (r : Ran) : Type 0 where
  pub outcome : r.outcome ≡ outcome_of run.outcome
  pub calls : r.calls ≡ run.calls
  pub bytes : r.bytes ≡ run.bytes
  pub output : Appends taken taken_after r.output

-- a claim holds for each input that a source may have held: the bytes that it gave and, unless it has ended, any others after them
pub record ForEachInput (left left_after : Option (List ℕ)) (Claim : List ℕ → Type 0) : Type 0 where
  pub given : List ℕ
  pub ended : Bool
  pub source : Asks false ended left left_after given
  pub holds : (rest : List ℕ) → Claim (given ++ rest_of ended rest)
