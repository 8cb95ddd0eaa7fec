-- Whole runs: wherever one comes to the task loop its frame is as claimed, by induction on the turns.
use Rattle.std.proofs.Common.{◌≡◌, ℕ, Bool, List, subst, Some}
use Rattle.p10_core.specs.Typed.{PlainStatement, PlainFunction, PlainProgram}
use Rattle.p10_core.specs.WholePrograms.{declared_in, IsWholeStatement, IsWholeProgram}
use Rattle.p10_cert.specs.Claims.{Claims}
use Rattle.p10_meaning.specs.declared.world.World.{World}
use Rattle.p10_meaning.specs.States.{IsWorld, State, Progress, gives}
use Rattle.p10_meaning.specs.Values.{Held}
use Rattle.p10_meaning.specs.Statements.{Frame, normal, Done}
use Rattle.p10_meaning.specs.Calling.{no_depth, deeper, call_at}
use Rattle.p10_meaning.specs.Opening.{opening}
use Rattle.p10_meaning.specs.Runs.{Task}
use Rattle.p10_meaning.specs.Sound.{region_at, opening_kinds}
use Rattle.p10_meaning.specs.SoundRuns.{main_setting, HasTask, ComesToLoop, at_first, again}
use Rattle.p10_meaning.proofs.SoundOpening.{opening_sound}
use Rattle.p10_sums.specs.Counting.{counting_of}
use Rattle.p10_sums.specs.Keeping.{HoldsOf, StatementKeeps}
use Rattle.p10_absx.specs.Environments.{Environment}
use Rattle.p10_absx.specs.Entering.{entry_at}
use Rattle.p10_absx.specs.Describing.{Describes}
use Rattle.p10_pass.specs.Passing.{Weakness, pass_statement, pass_body}
use Rattle.p10_evaluation.specs.Claimed.{IsCoveredCall, ResultsLie}
use Rattle.p10_execution.specs.Scoping.{IsBefore}
use Rattle.p10_execution.specs.Standing.{StandsSoundly}
use Rattle.p10_execution.specs.Leaving.{NoneFails}
use Rattle.p10_task.specs.Coming.{IsAsClaimed}
use Rattle.p10_task.specs.Covering.{RunIsCovered}
use Rattle.p10_task.specs.Laws.{TasksStayAsClaimed}
use Rattle.p10_task.proofs.Passes.{Stands, IsFine}
use Rattle.p10_task.proofs.Items.{AreRanked}
use Rattle.p10_task.proofs.Runs.{m, at_most, Comes, as_claimed, first_comes, turn_comes, first_covered, turn_covered}
use Rattle.p10_task.proofs.Turns.{GoesOnTurning}

given_here : {A : Type 0} (P : A → State → Type 0) (o : Progress A) (a : A) (w : State) → o ≡ gives a w → HoldsOf P o → P a w
given_here P o a w e h = subst (λ o. HoldsOf P o) e h

module _ (p : PlainProgram) (whole : IsWholeProgram p) (c : Claims) (f : PlainFunction) (i : ℕ) (task : Task) (has : HasTask p f i task) (Stood : List Weakness → Type 0) (stands : Stands Stood)
    (none : NoneFails (pass_body f (Some c) p.main (entry_at p c p.main))) (stood : Stood (pass_body f (Some c) p.main (entry_at p c p.main)).weak)
    (world : World) (is : IsWorld world) (prefix fresh : ℕ) (lie_before : ResultsLie p (Some c) prefix (call_at prefix p (deeper f no_depth))) (lie : ResultsLie p (Some c) fresh (call_at fresh p (deeper f no_depth))) where
  abbrev Here : Frame → State → Type 0
  Here frame w = Comes p whole c f i task has Stood stands none stood frame w

  -- each turn begins with a fresh budget
  refreshed : (frame : Frame) (w : State) → Here frame w → Here frame (record w { left = fresh })
  refreshed frame w h = record { entry = h.entry; comes = h.comes; at = record { kinds = h.at.kinds; sound = h.at.sound; fits = h.at.fits; in_frame = h.at.in_frame; describes = h.at.describes } }

  comes_here : (frame : Frame) (w : State) → ComesToLoop p world prefix fresh f i task frame w → Here frame w
  comes_here frame w (at_first done u e normal_end) =
      given_here (λ (d : Done) w. d.flow ≡ normal → Here d.frame w) _ done u e
      (first_comes p whole c f i task has Stood stands none stood prefix lie_before (opening p world prefix) (opening_kinds p) (opening_sound p whole world is prefix) (at_most prefix)) normal_end
  comes_here frame w (again before u done next come e on) =
      given_here (λ (d : Done) w. GoesOnTurning d.flow → Here d.frame w) _ done next e
      (turn_comes p whole c f i task has Stood stands none stood fresh lie before (record u { left = fresh }) (refreshed before u (comes_here before u come)) (at_most fresh)) on

  pub heads_claimed : (frame : Frame) (w : State) → ComesToLoop p world prefix fresh f i task frame w → IsAsClaimed p c f i frame.held
  heads_claimed frame w come = as_claimed p whole c f i task has Stood stands none stood frame w (comes_here frame w come)

  -- statements of `main` keep claims, with a budget
  abbrev pub Kept : (PlainStatement → Type 0) → ℕ → Type 0
  Kept Ranked n = (scope : List ℕ) (l b : Bool) (x : PlainStatement) → IsWholeStatement (region_at p p.main f scope l b) x → Ranked x → (env : Environment) → IsBefore f.variables (declared_in x) env →
      IsFine Stood (pass_statement (m p whole c f i task has Stood stands none stood) x env) → (head : List Held) (frame : Frame) (w : State) → StandsSoundly p f.variables n frame w → Describes f.variables env head frame.held →
      StatementKeeps (counting_of p c.funcs p.main f) (main_setting p n f) (IsCoveredCall p (Some c) n) x frame w

  module _ (Ranked : PlainStatement → Type 0) (ranked_before : AreRanked Ranked i f.body) (ranked : Ranked task.body) (kept_before : Kept Ranked prefix) (kept : Kept Ranked fresh) where
    pub run_covered : RunIsCovered p c world prefix fresh f i task
    run_covered = record {
      first = first_covered p whole c f i task has Stood stands none stood prefix lie_before Ranked ranked_before ranked kept_before (opening p world prefix) (opening_kinds p) (opening_sound p whole world is prefix) (at_most prefix);
      turns = λ frame w come. turn_covered p whole c f i task has Stood stands none stood fresh lie Ranked ranked_before ranked kept frame (record w { left = fresh }) (refreshed frame w (comes_here frame w come)) (at_most fresh);
    }

-- ## The law of heads

-- nothing is asked of ranks
any_stand : Stands (λ (weak : List Weakness). Unit {0})
any_stand = record { nothing = tt; left = λ xs ys h. tt; right = λ xs ys h. tt }

pub stay_as_claimed : TasksStayAsClaimed
stay_as_claimed p whole c f i task has none world is prefix turn lie_before lie frame w come =
    heads_claimed p whole c f i task has (λ (weak : List Weakness). Unit {0}) any_stand none tt world is prefix turn lie_before lie frame w come
