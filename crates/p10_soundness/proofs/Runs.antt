-- Runs stay within bounds where `main` keeps its claims: all of it, or the part before its task loop and each turn.
use Rattle.std.proofs.Common.{◌≡◌, ◌≢◌, ℕ, zero, suc, ◌<◌, ◌≤◌, max, Bool, refl, subst, arith, inl, inr, Option}
use Rattle.p10_core.specs.Typed.{PlainFunction, PlainProgram}
use Rattle.p10_meaning.specs.declared.pointers.Scalar.{Scalar}
use Rattle.p10_meaning.specs.declared.world.World.{World}
use Rattle.p10_meaning.specs.States.{State, End, AssertionFailed, Undefined, StepsSpent, Progress, gives, ends}
use Rattle.p10_meaning.specs.Statements.{Frame, Flow, normal, broken, continued, returned, Done}
use Rattle.p10_meaning.specs.Calling.{no_depth, deeper}
use Rattle.p10_meaning.specs.Opening.{opening}
use Rattle.p10_meaning.specs.Runs.{Outcome, Ended, Ran, ran, ran_call, Task, task_turn, before_task, after_turn, run_turns, after_part}
use Rattle.p10_meaning.specs.SoundRuns.{main_setting, ComesToLoop, at_first, again}
use Rattle.p10_sums.specs.Laws.{Spends, Takes}

-- ## Pieces

-- a piece doesn't run out of steps, and its depths are at most these
abbrev pub StaysWithin : {A : Type 0} → ℕ → ℕ → Progress A → Type 0
StaysWithin C B (gives a w) = (w.calls ≤ C) × (w.bytes ≤ B)
StaysWithin C B (ends e w) = (e ≢ StepsSpent) × ((w.calls ≤ C) × (w.bytes ≤ B))

deepest : (a b C c : ℕ) → a ≤ C → c ≤ C → b ≤ max a c → b ≤ C
deepest a b C c h k m = omega (arith, h, k, m)

depths : (n c b C B : ℕ) (alloc : Bool) (from to : State) → from.calls ≤ C → c ≤ C → from.bytes ≤ B → b ≤ B → Spends n c b alloc from to → (to.calls ≤ C) × (to.bytes ≤ B)
depths n c b C B alloc from to h k i j s = (deepest from.calls to.calls C c h k s.calls_at_most, deepest from.bytes to.bytes B b i j s.bytes_at_most)

-- a piece that takes at most the steps that are there
pub stays : {A : Type 0} (n c b C B : ℕ) (alloc : Bool) (from : State) (o : Progress A) → Takes n c b alloc from o → n ≤ from.left → from.calls ≤ C → c ≤ C → from.bytes ≤ B → b ≤ B → StaysWithin C B o
stays n c b C B alloc from (gives a to) t few h k i j = depths n c b C B alloc from to h k i j t.taken
stays n c b C B alloc from (ends (AssertionFailed span) to) t few h k i j = ((λ e. absurd cc), depths n c b C B alloc from to h k i j t.taken)
stays n c b C B alloc from (ends (Undefined stop span) to) t few h k i j = ((λ e. absurd cc), depths n c b C B alloc from to h k i j t.taken)
stays n c b C B alloc from (ends StepsSpent to) t few h k i j = absurd (too_few from.left t.taken.too_few few)
  where
    too_few : (l : ℕ) → l < n → n ≤ l → ⊥
    too_few l a b = omega (arith, a, b)

-- ## Runs

-- a run doesn't run out of steps, and its depths are at most these
pub record RunStays (C B : ℕ) (r : Ran) : Type 0 where
  pub steps : r.outcome ≢ Ended StepsSpent
  pub calls : r.calls ≤ C
  pub bytes : r.bytes ≤ B

returned_stays : (C B : ℕ) (outcome : Outcome) (w : State) → outcome ≢ Ended StepsSpent → (w.calls ≤ C) × (w.bytes ≤ B) → RunStays C B (ran outcome w)
returned_stays C B outcome w e h = record { steps = e; calls = h.0; bytes = h.1 }

ended_stays : (C B : ℕ) (end : End) (w : State) → (end ≢ StepsSpent) × ((w.calls ≤ C) × (w.bytes ≤ B)) → RunStays C B (ran (Ended end) w)
ended_stays C B end w h = record { steps = λ e. h.0 (same end e); calls = h.1.0; bytes = h.1.1 }
  where
    same : (end : End) → Ended end ≡ Ended StepsSpent → end ≡ StepsSpent
    same (AssertionFailed span) e = absurd cc
    same (Undefined stop span) e = absurd cc
    same StepsSpent e = refl

-- a run of all of `main`
pub call_stays : (C B : ℕ) (o : Progress (Option Scalar)) → StaysWithin C B o → RunStays C B (ran_call o)
call_stays C B (gives x w) h = returned_stays C B _ w (λ e. absurd cc) h
call_stays C B (ends e w) h = ended_stays C B e w h

module _ (p : PlainProgram) (world : World) (prefix budget : ℕ) (f : PlainFunction) (i : ℕ) (task : Task) (C B : ℕ) where
  abbrev Comes : Frame → State → Type 0
  Comes frame w = ComesToLoop p world prefix budget f i task frame w

  abbrev one_turn : Frame → State → Progress Done
  one_turn frame w = task_turn (main_setting p budget f) task frame w

  module _ (each : (frame : Frame) (w : State) → Comes frame w → w.calls ≤ C → w.bytes ≤ B → StaysWithin C B (one_turn frame (record w { left = budget }))) where
    -- what follows a turn, by how it goes on
    after_stays : (next : Frame → State → Ran) (o : Progress Done) → StaysWithin C B o → ((done : Done) (w : State) → o ≡ gives done w → (done.flow ≡ normal → RunStays C B (next done.frame w)) × (done.flow ≡ continued → RunStays C B (next done.frame w))) → RunStays C B (after_turn o next)
    after_stays next (ends e w) h go = ended_stays C B e w h
    after_stays next (gives done w) h go = at done.flow refl
      where
        at : (flow : Flow) → done.flow ≡ flow → RunStays C B (after_turn (gives done w) next)
        at normal e = rw e ((go done w refl).0 e)
        at continued e = rw e ((go done w refl).1 e)
        at broken e = rw e (returned_stays C B _ w (λ e. absurd cc) h)
        at (returned x) e = rw e (returned_stays C B _ w (λ e. absurd cc) h)

    turns_stay : (n made : ℕ) (frame : Frame) (w : State) → Comes frame w → w.calls ≤ C → w.bytes ≤ B → RunStays C B (run_turns n made one_turn budget frame w)
    turns_stay zero made frame w k c b = returned_stays C B _ w (λ e. absurd cc) (c, b)
    turns_stay (suc n) made frame w k c b =
        let h : StaysWithin C B (one_turn frame (record w { left = budget })) = each frame w k c b in
        after_stays (λ frame w. run_turns n (suc made) one_turn budget frame w) (one_turn frame (record w { left = budget })) h
        (λ done v e.
        let d : (v.calls ≤ C) × (v.bytes ≤ B) = subst (λ (o : Progress Done). StaysWithin C B o) e h in (
          (λ g. turns_stay n (suc made) done.frame v (again frame w done v k e (inl g)) d.0 d.1),
          (λ g. turns_stay n (suc made) done.frame v (again frame w done v k e (inr g)) d.0 d.1),
        ))

    -- a run with a task loop
    part_stays : (n : ℕ) (o : Progress Done) → before_task (main_setting p prefix f) f i (deeper f no_depth) (opening p world prefix) ≡ o → StaysWithin C B o →
        RunStays C B (after_part o (λ frame w. run_turns n 0 one_turn budget frame w))
    part_stays n (ends e w) is h = ended_stays C B e w h
    part_stays n (gives done w) is h = at (λ e. turns_stay n 0 done.frame w (at_first done w is e) h.0 h.1) done.flow refl
      where
        at : (done.flow ≡ normal → RunStays C B (run_turns n 0 one_turn budget done.frame w)) → (flow : Flow) → done.flow ≡ flow → RunStays C B (after_part (gives done w) (λ frame w. run_turns n 0 one_turn budget frame w))
        at go normal e = rw e (go e)
        at go broken e = rw e (returned_stays C B _ w (λ e. absurd cc) h)
        at go continued e = rw e (returned_stays C B _ w (λ e. absurd cc) h)
        at go (returned x) e = rw e (returned_stays C B _ w (λ e. absurd cc) h)

    pub run_stays : (n : ℕ) → StaysWithin C B (before_task (main_setting p prefix f) f i (deeper f no_depth) (opening p world prefix)) →
        RunStays C B (after_part (before_task (main_setting p prefix f) f i (deeper f no_depth) (opening p world prefix)) (λ frame w. run_turns n 0 one_turn budget frame w))
    run_stays n h = part_stays n _ refl h
