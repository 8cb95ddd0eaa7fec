-- A run that ends after a number of turns stands at its task loop.
use Rattle.std.proofs.Common.{◌≡◌, ℕ, zero, suc, refl, sym, ◌∙◌, ap, subst, Some, inl, inr}
use Rattle.p10_core.specs.Typed.{PlainFunction, PlainProgram}
use Rattle.p10_meaning.specs.declared.world.World.{World}
use Rattle.p10_meaning.specs.States.{State, Progress, gives, ends}
use Rattle.p10_meaning.specs.Statements.{Frame, Flow, normal, broken, continued, returned, Done}
use Rattle.p10_meaning.specs.Calling.{no_depth, deeper}
use Rattle.p10_meaning.specs.Opening.{opening}
use Rattle.p10_meaning.specs.Runs.{Outcome, Returned, Turns, Ended, Ran, ran, Task, task_turn, after_turn, run_turns, before_task, after_part, run_task, run_main, run_of}
use Rattle.p10_meaning.specs.SoundRuns.{main_setting, HasTask, ComesToLoop, at_first, again, EndsAtLoop, TurnsEndAtLoop}

number_in : Outcome → ℕ → ℕ
number_in (Turns n) m = n
number_in (Returned z) m = m
number_in (Ended end) m = m

same_turns : (n m : ℕ) → Turns n ≡ Turns m → n ≡ m
unfolding number_in
same_turns n m e = ap (λ o. number_in o n) e

module _ (p : PlainProgram) (world : World) (prefix turn m : ℕ) (f : PlainFunction) (i : ℕ) (task : Task) where
  abbrev Comes : Frame → State → Type 0
  Comes = ComesToLoop p world prefix turn f i task

  abbrev Arrives : Ran → Type 0
  Arrives r = r.outcome ≡ Turns m → EndsAtLoop p world prefix turn f i task m r

  abbrev turned : Frame → State → Progress Done
  turned = task_turn (main_setting p turn f) task

  -- a turn, and what comes after it
  turn_arrives : (o : Progress Done) (next : Frame → State → Ran) → ((done : Done) (w : State) → o ≡ gives done w → done.flow ≡ normal → Arrives (next done.frame w)) →
      ((done : Done) (w : State) → o ≡ gives done w → done.flow ≡ continued → Arrives (next done.frame w)) → Arrives (after_turn o next)
  turn_arrives (ends end w) next first second e = absurd cc
  turn_arrives (gives done w) next first second e = case done.flow refl e
    where
      case : (flow : Flow) → done.flow ≡ flow → (after_turn (gives (record { flow = flow; frame = done.frame }) w) next).outcome ≡ Turns m →
          EndsAtLoop p world prefix turn f i task m (after_turn (gives (record { flow = flow; frame = done.frame }) w) next)
      case normal is e = first done w refl is e
      case continued is e = second done w refl is e
      case broken is e = absurd cc
      case (returned x) is e = absurd cc

  turns_arrive : (n made : ℕ) (frame : Frame) (w : State) → Comes frame w → Arrives (run_turns n made turned turn frame w)
  turns_arrive zero made frame w c e = record { frame = frame; state = w; comes = c; is = ap (λ k. ran (Turns k) w) (same_turns made m e) }
  turns_arrive (suc n) made frame w c e =
      turn_arrives (turned frame (record w { left = turn })) (λ frame w. run_turns n (suc made) turned turn frame w)
      (λ done u is flow e. turns_arrive n (suc made) done.frame u (again frame w done u c is (inl flow)) e)
      (λ done u is flow e. turns_arrive n (suc made) done.frame u (again frame w done u c is (inr flow)) e) e

  -- the part before the loop, and the turns after it
  part_arrives : (o : Progress Done) (next : Frame → State → Ran) → ((done : Done) (w : State) → o ≡ gives done w → done.flow ≡ normal → Arrives (next done.frame w)) → Arrives (after_part o next)
  part_arrives (ends end w) next go e = absurd cc
  part_arrives (gives done w) next go e = case done.flow refl e
    where
      case : (flow : Flow) → done.flow ≡ flow → (after_part (gives (record { flow = flow; frame = done.frame }) w) next).outcome ≡ Turns m →
          EndsAtLoop p world prefix turn f i task m (after_part (gives (record { flow = flow; frame = done.frame }) w) next)
      case normal is e = go done w refl is e
      case continued is e = absurd cc
      case broken is e = absurd cc
      case (returned x) is e = absurd cc

  task_arrives : (n : ℕ) → Arrives (run_task p prefix turn n f i (Some task) (opening p world prefix))
  task_arrives n e = part_arrives (before_task (main_setting p prefix f) f i (deeper f no_depth) (opening p world prefix)) (λ frame w. run_turns n 0 turned turn frame w)
      (λ done w is flow e. turns_arrive n 0 done.frame w (at_first done w is flow) e) e

-- a run of a program whose `main` has a task loop
run_is : (p : PlainProgram) (world : World) (prefix turn n : ℕ) (f : PlainFunction) (i : ℕ) (task : Task) → HasTask p f i task →
    run_of p world prefix turn n ≡ run_task p prefix turn n f i (Some task) (opening p world prefix)
run_is p world prefix turn n f i task h =
    ap (λ main. run_main p prefix turn n main p.task (opening p world prefix)) h.main ∙
    (ap (λ at. run_main p prefix turn n (Some f) at (opening p world prefix)) h.item ∙ ap (λ o. run_task p prefix turn n f i o (opening p world prefix)) h.loop)

pub turns_end : TurnsEndAtLoop
turns_end p world prefix turn n m f i task h e =
    let is : run_of p world prefix turn n ≡ run_task p prefix turn n f i (Some task) (opening p world prefix) = run_is p world prefix turn n f i task h in
    subst (λ r. EndsAtLoop p world prefix turn f i task m r) (sym is) (task_arrives p world prefix turn m f i task n (sym (ap (λ (r : Ran). r.outcome) is) ∙ e))
