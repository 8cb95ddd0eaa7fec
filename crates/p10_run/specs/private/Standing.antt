-- How far a whole run has come between two calls of its machine.
use Rattle.std.specs.Prelude.{◌≡◌, ℕ, ◌+◌, ◌⊎◌, false, ℤ, List, [], ◌++◌, Option}
use Rattle.std.specs.Io.KnownBytes.{Appends}
use Rattle.p10_world.specs.Sink.{TakesFront}
use Rattle.p10_core.specs.Typed.{PlainProgram}
use Rattle.p10_meaning.specs.States.{State, Progress}
use Rattle.p10_meaning.specs.Statements.{Frame}
use Rattle.p10_meaning.specs.Opening.{opening}
use Rattle.p10_meaning.specs.Runs.{Ran}
use Rattle.p10_interp.specs.Stages.{Stage, turn_stage, ran_stages}
use Rattle.p10_interp.specs.Resting.{Position, fresh, Resting, rest_of, reached, Asks, Means}
use Rattle.p10_interp.specs.declared.ended.Ended.{Ended}
use Rattle.p10_interp.specs.declared.ended.Ended.TheVariants.{AtLoop, TurnDone, Returned, AssertionFailed, Undefined, StepsSpent}
use Rattle.p10_run.specs.declared.budget.Budget.{Budget}
use Rattle.p10_run.specs.declared.finished.RunOutcome.{RunOutcome}
use Rattle.p10_run.specs.declared.finished.RunOutcome.TheVariants.{Returned as HasReturned, Turns, AssertionFailed as HasFailed, Undefined as IsUndefined, StepsSpent as HasSpent}
use Rattle.p10_run.specs.WholeRuns.{run_with, ForEachInput}

-- a machine that has run nothing yet
abbrev pub new_machine : PlainProgram → List ℕ → List ℤ → Resting
new_machine p denied sensors = record {
  program = p;
  position = fresh;
  state = opening p (record { input = []; denied = denied; sensors = sensors }) 0;
  ended = false;
  turns = 0;
}

-- the run of a machine that has run nothing yet, with a budget and this input
abbrev pub run_from : Resting → Budget → List ℕ → Ran
run_from m b input = run_with m.program b m.state.sensors input

-- the outcome of a run whose last call of the machine was answered so, after this many turns
abbrev pub outcome_after : Ended → ℕ → RunOutcome
outcome_after AtLoop made = Turns made
outcome_after TurnDone made = Turns made
outcome_after (Returned z) made = HasReturned z
outcome_after (AssertionFailed span) made = HasFailed span
outcome_after (Undefined stop span) made = IsUndefined stop span
outcome_after StepsSpent made = HasSpent

-- a whole run is what comes of a stage with n turns more, and the last answer, with where the machine stands and its state, is
-- that stage
pub record IsAt (whole : Ran) (turn : Frame → State → Progress Stage) (budget n made : ℕ) (answer : Ended) (position : Position) (w : State) : Type 0 where
  pub stage : Progress Stage
  pub loop : Ended
  pub again : (loop ≡ AtLoop) ⊎ (loop ≡ TurnDone)
  pub means : Means loop stage answer position w
  pub is : whole ≡ ran_stages turn budget n made stage

-- from the beginning of a run up to here the source gave bytes and the sink took bytes, and whatever the source has left, what
-- comes of the machine is the whole run
pub record Stands (p : PlainProgram) (b : Budget) (sensors : List ℤ) (answer : Ended) (m : Resting) (left left_now taken taken_now : Option (List ℕ)) : Type 0 where
  pub given : List ℕ
  pub put : List ℕ
  pub more : ℕ
  pub program : m.program ≡ p
  pub turns : m.turns + more ≡ b.turns
  pub waiting : m.state.output ≡ []
  pub source : Asks false m.ended left left_now given
  pub sink : Appends taken taken_now put
  pub comes : (rest : List ℕ) →
      IsAt (run_with p b sensors (given ++ rest_of m.ended rest)) (turn_stage p b.turn) b.turn more m.turns answer m.position (reached m (rest_of m.ended rest) put)

-- a run was given up: what the sink took is a prefix of its output
abbrev pub GivenUp : PlainProgram → Budget → List ℤ → Option (List ℕ) → Option (List ℕ) → Option (List ℕ) → Option (List ℕ) → Type 0
GivenUp p b sensors left left_now taken taken_now = ForEachInput left left_now (λ bytes. TakesFront taken taken_now (run_with p b sensors bytes).output)
