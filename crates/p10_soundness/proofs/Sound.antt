-- Accepted certificates bound runs: all parts together.
use Rattle.std.proofs.Common.{◌≡◌, ℕ, true, List, sym, subst, Some, None, slice_get}
use Rattle.p10_core.specs.Typed.{PlainFunction, PlainProgram}
use Rattle.p10_core.specs.WholePrograms.{IsWholeProgram}
use Rattle.p10_cert.specs.Claims.{Loop, Claims}
use Rattle.p10_meaning.specs.declared.world.World.{World}
use Rattle.p10_meaning.specs.States.{IsWorld}
use Rattle.p10_meaning.specs.Calling.{no_depth, deeper, call_at}
use Rattle.p10_meaning.specs.Runs.{Task, Within}
use Rattle.p10_meaning.specs.SoundRuns.{HasTask}
use Rattle.p10_meaning.proofs.SoundOpening.{opening_sound}
use Rattle.p10_fit.specs.Sites.{loop_sites, task_loop_number}
use Rattle.p10_fit.specs.Fits.{fits_loops}
use Rattle.p10_sums.specs.Counting.{loops_claimed, task_of}
use Rattle.p10_sums.proofs.SpendingClaims.{claims_kept}
use Rattle.p10_sums.proofs.SpendingTasks.{first_parts_take, turns_take}
use Rattle.p10_check.specs.Passes.{Standing}
use Rattle.p10_check.specs.Accepting.{Holds}
use Rattle.p10_check.proofs.Holding.{accepted_hold}
use Rattle.p10_evaluation.specs.Claimed.{ResultsLie}
use Rattle.p10_turns.specs.Evidence.{stands_by_ranges}
use Rattle.p10_turns.specs.Laws.{IsLawful}
use Rattle.p10_turns.proofs.Bounded.{ranges_lawful}
use Rattle.p10_task.specs.Covering.{RunIsCovered}
use Rattle.p10_task.proofs.WholeRuns.{run_covered}
use Rattle.p10_allocation.proofs.Runs.{nothing_is_allocated_late}
use Rattle.p10_execution.specs.Bounding.{loop_trees, AreCounted}
use Rattle.p10_soundness.specs.Calls.{AcceptedCertificatesBoundCalls, BoundsCalls}
use Rattle.p10_soundness.specs.Laws.{AcceptedCertificatesBoundRuns, CertificatesAcceptedByRangesBoundRuns}
use Rattle.p10_soundness.proofs.Accepted.{FunctionMeets, MeetsConditions, accepted_meets}
use Rattle.p10_soundness.proofs.Bodies.{Stood, stood_parts, none_fails, all_stood, kept, body_safe}
use Rattle.p10_soundness.proofs.Entering.{calls_enter}
use Rattle.p10_soundness.proofs.Fitting.{loops_fit}
use Rattle.p10_soundness.proofs.MainLoops.{AreMainLoops, main_loops}
use Rattle.p10_soundness.proofs.Calls.{BodyIsSafe}
use Rattle.p10_soundness.proofs.Within.{bounds_calls, stays_within}

module _ (stands : Standing) (p : PlainProgram) (whole : IsWholeProgram p) (lawful : IsLawful p stands) (c : Claims) (meets : MeetsConditions stands p c) where
  fit : (k : ℕ) (f : PlainFunction) → slice_get p.functions k ≡ Some f → fits_loops f (task_loop_number p k f) (loop_sites f) (loops_claimed (slice_get c.funcs k)) ≡ true
  fit k f there = loops_fit p c meets.fits k f there

  -- the body of each function that has no task loop
  bodies : (k : ℕ) (f : PlainFunction) → slice_get p.functions k ≡ Some f → task_of p k ≡ None → BodyIsSafe p c k f
  bodies k f there none = body_safe p whole stands lawful c k f there (meets.functions k f there) (fit k f there) none

  -- runs of `main` with its task loop
  tasks : (f : PlainFunction) (i : ℕ) (task : Task) → HasTask p f i task → (world : World) → IsWorld world → (prefix turn : ℕ) → ((n : ℕ) → ResultsLie p (Some c) n (call_at n p (deeper f no_depth))) → RunIsCovered p c world prefix turn f i task
  tasks f i task has world is prefix turn lie =
      let here : FunctionMeets stands p c p.main f = meets.functions p.main f has.main in
      let claimed : List Loop = loops_claimed (slice_get c.funcs p.main) in
      let ranks : AreMainLoops f claimed i task = main_loops p whole f i task has claimed (fit p.main f has.main) in
      run_covered p whole c f i task has (Stood p whole stands lawful c p.main f has.main here) (stood_parts p whole stands lawful c p.main f has.main here)
      (none_fails p whole stands lawful c p.main f has.main here) (all_stood p whole stands lawful c p.main f has.main here) world is prefix turn (lie prefix) (lie turn)
      (λ x. AreCounted f claimed (loop_trees x)) ranks.before ranks.inside
      (kept p whole stands lawful c p.main f has.main here prefix (deeper f no_depth) (lie prefix)) (kept p whole stands lawful c p.main f has.main here turn (deeper f no_depth) (lie turn))

  meeting_bounds : Within p c.total
  meeting_bounds = stays_within stands p whole c claims_kept first_parts_take turns_take calls_enter meets (λ world prefix turn n. nothing_is_allocated_late p whole meets.nothing_late world prefix turn n) bodies opening_sound tasks

  meeting_bounds_calls : BoundsCalls p whole c
  meeting_bounds_calls = bounds_calls stands p whole c claims_kept first_parts_take turns_take calls_enter meets (λ world prefix turn n. nothing_is_allocated_late p whole meets.nothing_late world prefix turn n) bodies opening_sound tasks

pub accepted_bound : AcceptedCertificatesBoundRuns
accepted_bound p whole stands lawful c b verdict =
    let h : (b ≡ c.total) × Holds stands p c = accepted_hold stands p c b verdict in
    subst (λ b. Within p b) (sym h.0) (meeting_bounds stands p whole lawful c (accepted_meets stands p whole c h.1))

pub accepted_by_ranges_bound : CertificatesAcceptedByRangesBoundRuns
accepted_by_ranges_bound p whole c b verdict = accepted_bound p whole (stands_by_ranges p) (ranges_lawful p whole) c b verdict

pub accepted_bound_calls : AcceptedCertificatesBoundCalls
accepted_bound_calls p whole stands lawful c b verdict = meeting_bounds_calls stands p whole lawful c (accepted_meets stands p whole c (accepted_hold stands p c b verdict).1)
