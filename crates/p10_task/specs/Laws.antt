-- What holds of runs with a task loop.
use Rattle.std.specs.Prelude.{ℕ, Some}
use Rattle.p10_core.specs.Typed.{PlainFunction, PlainProgram}
use Rattle.p10_core.specs.WholePrograms.{IsWholeProgram}
use Rattle.p10_cert.specs.Claims.{Claims}
use Rattle.p10_meaning.specs.declared.world.World.{World}
use Rattle.p10_meaning.specs.States.{IsWorld, State}
use Rattle.p10_meaning.specs.Statements.{Frame}
use Rattle.p10_meaning.specs.Calling.{no_depth, deeper, call_at}
use Rattle.p10_meaning.specs.Runs.{Task}
use Rattle.p10_meaning.specs.SoundRuns.{HasTask, ComesToLoop}
use Rattle.p10_absx.specs.Entering.{entry_at}
use Rattle.p10_pass.specs.Passing.{pass_body}
use Rattle.p10_evaluation.specs.Claimed.{ResultsLie}
use Rattle.p10_execution.specs.Leaving.{NoneFails}
use Rattle.p10_task.specs.Coming.{IsAsClaimed}

-- wherever a run of a whole program comes to its task loop, the ranges that are claimed there hold: in whatever world, with whatever budgets
-- before the loop and for a turn, and after however many turns, if none of K3, K5, K6 and K7 fails in the pass over `main` and calls that
-- claims cover give results in the claimed ranges
abbrev pub TasksStayAsClaimed : Type 0
TasksStayAsClaimed =
    (p : PlainProgram) → IsWholeProgram p → (c : Claims) (f : PlainFunction) (i : ℕ) (task : Task) → HasTask p f i task → NoneFails (pass_body f (Some c) p.main (entry_at p c p.main)) →
    (world : World) → IsWorld world → (prefix turn : ℕ) → ResultsLie p (Some c) prefix (call_at prefix p (deeper f no_depth)) → ResultsLie p (Some c) turn (call_at turn p (deeper f no_depth)) →
    (frame : Frame) (w : State) → ComesToLoop p world prefix turn f i task frame w → IsAsClaimed p c f i frame.held
