-- Runs with a task loop don't end in an undefined operation, where the part before the loop and each turn stay clean.
use Rattle.std.proofs.Common.{◌≡◌, ◌≢◌, ℕ, zero, suc, ◌≤◌, Bool, List, [], refl, ◌∙◌, ap, sym, subst, arith, inl, inr, Option, Some, slice_get}
use Rattle.std.specs.Prelude.{◌⊎◌}
use Rattle.p10_base.specs.declared.span.Span.{Span}
use Rattle.p10_int.specs.declared.operators.Stop.{Stop}
use Rattle.p10_core.specs.Typed.{PlainStatement, PlainStatements, PlainFunction, PlainProgram}
use Rattle.p10_core.specs.WholePrograms.{IsWholeStatement, AreWholeStatements, IsWholeProgram}
use Rattle.p10_cert.specs.Claims.{Claims}
use Rattle.p10_meaning.specs.declared.pointers.Scalar.{Scalar}
use Rattle.p10_meaning.specs.declared.world.World.{World}
use Rattle.p10_meaning.specs.States.{IsWorld, State, End, AssertionFailed, Undefined, StepsSpent, Progress, gives, ends}
use Rattle.p10_meaning.specs.Statements.{Frame, Flow, normal, broken, continued, returned, Done}
use Rattle.p10_meaning.specs.Calling.{no_depth, deeper, call_at}
use Rattle.p10_meaning.specs.Opening.{opening}
use Rattle.p10_meaning.specs.Runs.{Ended, Ran, ran, ran_call, Task, task_turn, before_task, after_turn, run_turns, after_part, run_task}
use Rattle.p10_meaning.specs.Sound.{region_at, opening_kinds}
use Rattle.p10_meaning.specs.SoundRuns.{main_setting, HasTask, ComesToLoop, at_first, again}
use Rattle.p10_meaning.proofs.SoundOpening.{opening_sound}
use Rattle.p10_absx.specs.Environments.{Environment}
use Rattle.p10_absx.specs.Entering.{entry_at}
use Rattle.p10_absx.specs.Describing.{Describes}
use Rattle.p10_pass.specs.Claiming.{head_of}
use Rattle.p10_pass.specs.Passing.{pass_statements, pass_body}
use Rattle.p10_evaluation.specs.Claimed.{ResultsLie}
use Rattle.p10_execution.specs.Leaving.{NoneFails}
use Rattle.p10_task.specs.Coming.{items_before, main_manner, item_claimed, IsAsClaimed}
use Rattle.p10_task.proofs.Passes.{manner_is}
use Rattle.p10_task.proofs.WholeRuns.{stay_as_claimed}
use Rattle.p10_clean.specs.Settings.{set_at_entry}
use Rattle.p10_clean.specs.Statements.{flaws_in_statements}
use Rattle.p10_clean_soundness.specs.private.Stays.{IsDefinedEnd, Stays}
use Rattle.p10_clean_soundness.proofs.CleanTasks.{loops, result, item, claim, known, AtTask, before_clean, turn_clean}
use Rattle.p10_clean_soundness.proofs.OpeningStates.{opening_settled}
use Rattle.p10_clean_soundness.proofs.Reaching.{GoesClean, AllClean, ValuesClean}

-- a run doesn't end in an undefined operation
abbrev pub EndsDefined : Ran → Type 0
EndsDefined r = (stop : Stop) (span : Span) → r.outcome ≢ Ended (Undefined stop span)

ended_defined : (end : End) (w : State) → IsDefinedEnd end → EndsDefined (ran (Ended end) w)
ended_defined (AssertionFailed span) w h = λ stop at e. absurd cc
ended_defined (Undefined stop span) w h = absurd h
ended_defined StepsSpent w h = λ stop at e. absurd cc

-- a run of all of `main`
pub call_defined : (P : Option Scalar → State → Type 0) (o : Progress (Option Scalar)) → Stays P o → EndsDefined (ran_call o)
call_defined P (gives x w) h = λ stop at e. absurd cc
call_defined P (ends end w) h = ended_defined end w h

module _ (p : PlainProgram) (whole : IsWholeProgram p) (c : Claims) (f : PlainFunction) (i : ℕ) (task : Task) (has : HasTask p f i task) (none : NoneFails (pass_body f (Some c) p.main (entry_at p c p.main)))
    (flaws : flaws_in_statements (main_manner p c f) f.body (set_at_entry f) (entry_at p c p.main) ≡ []) (lie : (n : ℕ) → ResultsLie p (Some c) n (call_at n p (deeper f no_depth)))
    (values : (n : ℕ) → ValuesClean p whole n (deeper f no_depth) p.main f has.main (Some c) (Some (loops p whole c f i task has none flaws)) (result p whole c f i task has none flaws) (lie n))
    (statements : (n : ℕ) (scope : List ℕ) (l b : Bool) (x : PlainStatement) → IsWholeStatement (region_at p p.main f scope l b) x → GoesClean p whole n (deeper f no_depth) p.main f has.main (Some c) (Some (loops p whole c f i task has none flaws)) (result p whole c f i task has none flaws) (lie n) scope x)
    (all : (n : ℕ) (scope : List ℕ) (l b : Bool) (xs : PlainStatements) → AreWholeStatements (region_at p p.main f scope l b) xs → AllClean p whole n (deeper f no_depth) p.main f has.main (Some c) (Some (loops p whole c f i task has none flaws)) (result p whole c f i task has none flaws) (lie n) scope xs)
    (world : World) (is : IsWorld world) (prefix budget : ℕ) where
  abbrev At : Frame → State → Type 0
  At frame w = AtTask p whole c f i task has none flaws frame w

  abbrev ComesTo : Frame → State → Type 0
  ComesTo frame w = ComesToLoop p world prefix budget f i task frame w

  abbrev one_turn : Frame → State → Progress Done
  one_turn frame w = task_turn (main_setting p budget f) task frame w

  at_most : (n : ℕ) → n ≤ n
  at_most n = omega arith

  -- ## A turn

  -- what is known at the head of the task loop
  record Known (frame : Frame) : Type 0 where
    entry : Environment
    comes : known p whole c f i task has none flaws ≡ Some entry
    describes : Describes f.variables (head_of (claim p whole c f i task has none flaws) f.variables entry) frame.held frame.held

  known_here : (frame : Frame) (w : State) → ComesTo frame w → Known frame
  known_here frame w come =
      let h : IsAsClaimed p c f i frame.held = stay_as_claimed p whole c f i task has none world is prefix budget (lie prefix) (lie budget) frame w come in
      record {
        entry = h.entry;
        comes = ap (λ m. (pass_statements m (items_before i f.body) (entry_at p c p.main)).normal) (sym (manner_is c f (slice_get c.funcs p.main))) ∙ h.comes;
        describes = subst (λ l. Describes f.variables (head_of l f.variables h.entry) frame.held frame.held) (ap (item_claimed (loops p whole c f i task has none flaws)) (item p whole c f i task has none flaws).is) h.describes;
      }

  turn_stays : (frame : Frame) (w : State) → ComesTo frame w → At frame w → Stays (λ d u. (d.flow ≡ normal → At d.frame u) × (d.flow ≡ continued → At d.frame u)) (one_turn frame (record w { left = budget }))
  turn_stays frame w come h =
      let k : Known frame = known_here frame w come in
      let now : At frame (record w { left = budget }) = record { kinds = h.kinds; sound = h.sound; fits = h.fits; in_frame = h.in_frame; set_up = h.set_up; live = h.live; settled = h.settled } in
      both (one_turn frame (record w { left = budget })) (turn_clean p whole c f i task has none flaws budget (lie budget) (values budget) (statements budget) (all budget) k.entry k.comes frame (record w { left = budget }) now (at_most budget) k.describes)
    where
      both : (o : Progress Done) → Stays (λ d u. (d.flow ≡ normal) ⊎ (d.flow ≡ continued) → At d.frame u) o → Stays (λ d u. (d.flow ≡ normal → At d.frame u) × (d.flow ≡ continued → At d.frame u)) o
      both (gives d u) h = ((λ e. h (inl e)), (λ e. h (inr e)))
      both (ends end u) h = h

  -- ## All turns

  -- what follows a turn, by how it goes on
  after_defined : (next : Frame → State → Ran) (o : Progress Done) → Stays (λ d u. (d.flow ≡ normal → At d.frame u) × (d.flow ≡ continued → At d.frame u)) o →
      ((d : Done) (u : State) → o ≡ gives d u → (d.flow ≡ normal) ⊎ (d.flow ≡ continued) → At d.frame u → EndsDefined (next d.frame u)) → EndsDefined (after_turn o next)
  after_defined next (ends end u) h go = ended_defined end u h
  after_defined next (gives d u) h go = at d.flow refl
    where
      at : (flow : Flow) → d.flow ≡ flow → EndsDefined (after_turn (gives d u) next)
      at normal e = rw e (go d u refl (inl e) (h.0 e))
      at continued e = rw e (go d u refl (inr e) (h.1 e))
      at broken e = rw e (λ stop span q. absurd cc)
      at (returned x) e = rw e (λ stop span q. absurd cc)

  turns_defined : (n made : ℕ) (frame : Frame) (w : State) → ComesTo frame w → At frame w → EndsDefined (run_turns n made one_turn budget frame w)
  turns_defined zero made frame w come h = λ stop span q. absurd cc
  turns_defined (suc n) made frame w come h =
      after_defined (λ frame w. run_turns n (suc made) one_turn budget frame w) (one_turn frame (record w { left = budget })) (turn_stays frame w come h)
      (λ d u e on k. turns_defined n (suc made) d.frame u (again frame w d u come e on) k)

  -- ## The run

  part_defined : (n : ℕ) (o : Progress Done) → before_task (main_setting p prefix f) f i (deeper f no_depth) (opening p world prefix) ≡ o → Stays (λ d u. d.flow ≡ normal → At d.frame u) o → EndsDefined (after_part o (λ frame w. run_turns n 0 one_turn budget frame w))
  part_defined n (ends end u) e h = ended_defined end u h
  part_defined n (gives d u) e h = at d.flow refl
    where
      at : (flow : Flow) → d.flow ≡ flow → EndsDefined (after_part (gives d u) (λ frame w. run_turns n 0 one_turn budget frame w))
      at normal q = rw q (turns_defined n 0 d.frame u (at_first d u e q) (h q))
      at broken q = rw q (λ stop span r. absurd cc)
      at continued q = rw q (λ stop span r. absurd cc)
      at (returned x) q = rw q (λ stop span r. absurd cc)

  -- a run of `main` with a task loop
  pub task_defined : (n : ℕ) → EndsDefined (run_task p prefix budget n f i (Some task) (opening p world prefix))
  task_defined n = part_defined n _ refl (before_clean p whole c f i task has none flaws prefix (lie prefix) (values prefix) (statements prefix) (all prefix) (opening p world prefix) (opening_kinds p) (opening_sound p whole world is prefix) (opening_settled p world prefix) (at_most prefix))
