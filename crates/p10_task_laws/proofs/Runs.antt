-- Whole runs: after the part before the task loop, and after each turn, the rest of a run is that many turns fewer.
use Rattle.std.proofs.Common.{◌≡◌, ℕ, zero, suc, ◌+◌, refl, sym, ◌∙◌, ap, subst, arith, Some, inl, inr}
use Rattle.p10_core.specs.Typed.{PlainFunction, PlainProgram}
use Rattle.p10_meaning.specs.declared.world.World.{World}
use Rattle.p10_meaning.specs.States.{State, Progress, gives, ends}
use Rattle.p10_meaning.specs.Statements.{Frame, Flow, normal, broken, continued, returned, Done}
use Rattle.p10_meaning.specs.Calling.{no_depth, deeper}
use Rattle.p10_meaning.specs.Opening.{opening}
use Rattle.p10_meaning.specs.Runs.{Turns, Ran, Task, task_turn, after_turn, run_turns, before_task, after_part, run_task, run_main, run_of}
use Rattle.p10_meaning.specs.SoundRuns.{main_setting, HasTask, ComesToLoop, at_first, again}
use Rattle.p10_sums.specs.Keeping.{HoldsOf}
use Rattle.p10_task_laws.specs.Turns.{ComesToNextTurn, at_end, at_continue, TurnsOrEnds, all_turns, on_the_way, RunsGoOnTurning}
use Rattle.p10_task_laws.proofs.Tasks.{turn_comes}

module _ (p : PlainProgram) (world : World) (prefix turn : ℕ) (f : PlainFunction) (i : ℕ) (task : Task) (has : HasTask p f i task) where
  abbrev pub turned : Frame → State → Progress Done
  turned = task_turn (main_setting p turn f) task

  -- the rest of a run, of n turns after those that were made
  abbrev pub rest : ℕ → ℕ → Frame → State → Ran
  rest n made frame w = run_turns n made turned turn frame w

  abbrev first : Progress Done
  first = before_task (main_setting p prefix f) f i (deeper f no_depth) (opening p world prefix)

  run_is : (n : ℕ) → run_of p world prefix turn n ≡ after_part first (rest n 0)
  run_is n =
      ap (λ main. run_main p prefix turn n main p.task (opening p world prefix)) has.main ∙
      (ap (λ at. run_main p prefix turn n (Some f) at (opening p world prefix)) has.item ∙ ap (λ o. run_task p prefix turn n f i o (opening p world prefix)) has.loop)

  part_goes : (done : Done) (w : State) (next : Frame → State → Ran) → done.flow ≡ normal → after_part (gives done w) next ≡ next done.frame w
  part_goes done w next e = ap (λ flow. after_part (gives (record { flow = flow; frame = done.frame }) w) next) e

  turn_goes : (done : Done) (w : State) (next : Frame → State → Ran) → ComesToNextTurn done.flow → after_turn (gives done w) next ≡ next done.frame w
  turn_goes done w next c = by_flow done.flow c
    where
      by_flow : (flow : Flow) → ComesToNextTurn flow → after_turn (gives (record { flow = flow; frame = done.frame }) w) next ≡ next done.frame w
      by_flow normal at_end = refl
      by_flow continued at_continue = refl
      by_flow broken c = elim c [ ]
      by_flow (returned x) c = elim c [ ]

  -- a run after its first part
  pub after_first : (n : ℕ) (done : Done) (w : State) → first ≡ gives done w → done.flow ≡ normal → run_of p world prefix turn n ≡ rest n 0 done.frame w
  after_first n done w e normal_is = run_is n ∙ (ap (λ o. after_part o (rest n 0)) e ∙ part_goes done w (rest n 0) normal_is)

  -- ## Where a run comes to its loop

  -- some turns were made, and the rest of each run of more is what follows
  pub record Made (frame : Frame) (w : State) : Type 0 where
    pub made : ℕ
    pub then_is : (n : ℕ) → run_of p world prefix turn (made + n) ≡ rest n made frame w

  one_later : (m n : ℕ) → suc m + n ≡ m + suc n
  one_later m n = omega arith

  none_before : (n : ℕ) → 0 + n ≡ n
  none_before n = omega arith

  pub comes_after : (frame : Frame) (w : State) → ComesToLoop p world prefix turn f i task frame w → Made frame w
  comes_after frame w (at_first done u e is) = record { made = 0; then_is = λ n. ap (λ k. run_of p world prefix turn k) (none_before n) ∙ after_first n done u e is }
  comes_after frame w (again before u done next c e on) =
      let m : Made before u = comes_after before u c in record {
        made = suc m.made;
        then_is = λ n. ap (λ k. run_of p world prefix turn k) (one_later m.made n) ∙
            (m.then_is (suc n) ∙ (ap (λ o. after_turn o (rest n (suc m.made))) e ∙ turn_goes done next (rest n (suc m.made)) (elim on [ inl is ↦ subst ComesToNextTurn (sym is) at_end | inr is ↦ subst ComesToNextTurn (sym is) at_continue ])));
      }

-- ## Runs whose turns go on

module _ (p : PlainProgram) (world : World) (prefix turn : ℕ) (f : PlainFunction) (i : ℕ) (task : Task) (has : HasTask p f i task)
    (goes : (frame : Frame) (w : State) → HoldsOf (λ (done : Done) w. ComesToNextTurn done.flow) (task_turn (main_setting p turn f) task frame w)) (all : ℕ) where
  turn_ends : (o : Progress Done) (next : Frame → State → Ran) → HoldsOf (λ (done : Done) w. ComesToNextTurn done.flow) o → ((frame : Frame) (w : State) → TurnsOrEnds all (next frame w).outcome) → TurnsOrEnds all (after_turn o next).outcome
  turn_ends (gives done w) next h k = subst (λ (r : Ran). TurnsOrEnds all r.outcome) (sym (turn_goes p world prefix turn f i task has done w next h)) (k done.frame w)
  turn_ends (ends end w) next h k = on_the_way end

  turns_end : (n made : ℕ) → made + n ≡ all → (frame : Frame) (w : State) → TurnsOrEnds all (run_turns n made (task_turn (main_setting p turn f) task) turn frame w).outcome
  turns_end zero made e frame w = subst (λ k. TurnsOrEnds all (Turns k)) (none_after made e) all_turns
    where
      none_after : (m : ℕ) → m + 0 ≡ all → all ≡ m
      none_after m e = omega (arith, e)
  turns_end (suc n) made e frame w =
      turn_ends (task_turn (main_setting p turn f) task frame (record w { left = turn })) _ (goes frame (record w { left = turn })) (λ frame w. turns_end n (suc made) (one_more made e) frame w)
    where
      one_more : (m : ℕ) → m + suc n ≡ all → suc m + n ≡ all
      one_more m e = omega (arith, e)

pub runs_go_on_turning : RunsGoOnTurning
runs_go_on_turning p whole none f i task has world prefix turn n done w e is =
    subst (λ (r : Ran). TurnsOrEnds n r.outcome) (sym (after_first p world prefix turn f i task has n done w e is))
    (turns_end p world prefix turn f i task has (turn_comes p whole none f i task has turn) n n 0 (from_none n) done.frame w)
  where
    from_none : (n : ℕ) → 0 + n ≡ n
    from_none n = omega arith
