-- Loops take at most what their turns cost, whatever their tests and bodies are.
use Rattle.std.proofs.Common.{◌≡◌, ℕ, zero, suc, ◌+◌, ◌*◌, ◌<◌, ◌≤◌, Bool, true, false, [], refl, arith}
use Rattle.p10_meaning.specs.States.{State, Progress}
use Rattle.p10_meaning.specs.Statements.{Frame, Flow, normal, broken, continued, returned, Done, go_on, in_block, next_turn, turns, before_third}
use Rattle.p10_sums.specs.Keeping.{OnNormal, OnBack, TurnsKeep}
use Rattle.p10_sums.specs.Laws.{Takes}
use Rattle.p10_sums.proofs.Spending.{takes_more, takes_here, takes_then, takes_last, takes_if}
use Rattle.p10_sums.proofs.SpendingValues.{same}

-- the steps of at most n turns, test by test
abbrev pub turn_steps : ℕ → ℕ → ℕ → ℕ
turn_steps zero t r = t
turn_steps (suc n) t r = t + (r + turn_steps n t r)

pub turn_steps_are : (n t r : ℕ) → turn_steps n t r ≡ (n + 1) * t + n * r
turn_steps_are zero t r = omega arith
turn_steps_are (suc n) t r = omega (arith, turn_steps_are n t r)

-- what is left only falls
pub lower : (a b n : ℕ) → a ≤ b → b ≤ n → a ≤ n
lower a b n h l = omega (arith, h, l)

pub lower_step : (a b n : ℕ) → suc a ≡ b → b ≤ n → a ≤ n
lower_step a b n h l = omega (arith, h, l)

module _ (C B : ℕ) (A : Bool) where
  -- the rest where execution goes on with the next statement
  pub go_takes : (n : ℕ) (flow : Flow) (frame : Frame) (w : State) (P : Type 0) (rest : Frame → State → Progress Done) → OnNormal flow P → (P → Takes n C B A w (rest frame w)) → Takes n C B A w (go_on flow frame w rest)
  go_takes n normal frame w P rest h k = k h
  go_takes n broken frame w P rest h k = takes_here C B A n _ w w (same w)
  go_takes n continued frame w P rest h k = takes_here C B A n _ w w (same w)
  go_takes n (returned x) frame w P rest h k = takes_here C B A n _ w w (same w)

  -- the same, whatever holds
  pub go_any : (n : ℕ) (flow : Flow) (frame : Frame) (w : State) (rest : Frame → State → Progress Done) → Takes n C B A w (rest frame w) → Takes n C B A w (go_on flow frame w rest)
  go_any n normal frame w rest h = h
  go_any n broken frame w rest h = takes_here C B A n _ w w (same w)
  go_any n continued frame w rest h = takes_here C B A n _ w w (same w)
  go_any n (returned x) frame w rest h = takes_here C B A n _ w w (same w)

  pub third_takes : (n : ℕ) (flow : Flow) (frame : Frame) (w : State) (P : Type 0) (rest : Frame → State → Progress Done) → OnBack flow P → (P → Takes n C B A w (rest frame w)) → Takes n C B A w (before_third flow frame w rest)
  third_takes n normal frame w P rest h k = k h
  third_takes n continued frame w P rest h k = k h
  third_takes n broken frame w P rest h k = takes_here C B A n _ w w (same w)
  third_takes n (returned x) frame w P rest h k = takes_here C B A n _ w w (same w)

  pub next_takes : (n : ℕ) (flow : Flow) (frame : Frame) (w : State) (P : Type 0) (go : Frame → State → Progress Done) → OnBack flow P → (P → Takes n C B A w (go frame w)) → Takes n C B A w (next_turn flow frame w go)
  next_takes n normal frame w P go h k = k h
  next_takes n continued frame w P go h k = k h
  next_takes n broken frame w P go h k = takes_here C B A n _ w w (same w)
  next_takes n (returned x) frame w P go h k = takes_here C B A n _ w w (same w)

  -- the objects of a block die without a step
  pub block_takes : (n : ℕ) (run : Frame → State → Progress Done) (frame : Frame) (w : State) → Takes n C B A w (run (record frame { opened = [] }) w) → Takes n C B A w (in_block run frame w)
  block_takes n run frame w h = takes_last C B A n w (run (record frame { opened = [] }) w) _ h (λ done u. takes_here C B A 0 _ u _ (record { left = refl; calls = refl; bytes = refl; counted = refl }))

  module _ (most t r : ℕ) (test : Frame → State → Progress Bool) (body : Frame → State → Progress Done) (TestKeeps BodyKeeps : Frame → State → Type 0)
      (test_takes : (frame : Frame) (w : State) → w.left ≤ most → TestKeeps frame w → Takes t C B A w (test frame w))
      (body_takes : (frame : Frame) (w : State) → w.left ≤ most → BodyKeeps frame w → Takes r C B A w (body frame w)) where
    -- a bound on turns that is greater than the turns never counts
    pub turns_take : (n j : ℕ) (frame : Frame) (w : State) → n < j → w.left ≤ most → TurnsKeep n test body TestKeeps BodyKeeps frame w → Takes (turn_steps n t r) C B A w (turns j test body frame w)
    turns_take n zero frame w lt l k = absurd (omega (arith, lt))
    turns_take zero (suc j) frame w lt l k = takes_more C B A (t + 0) t w _ (no_more t)
        (takes_then C B A t 0 w (test frame w) _ _ (test_takes frame w l k.0) k.1 (λ more u d h. takes_if C B A 0 u more _ _ (λ e. absurd (none more e h)) (λ e. takes_here C B A 0 _ u u (same u))))
      where
        no_more : (a : ℕ) → a + 0 ≤ a
        no_more a = omega arith

        none : (b : Bool) → b ≡ true → b ≡ false → ⊥
        none b e h = absurd cc
    turns_take (suc n) (suc j) frame w lt l k =
        takes_then C B A t (r + turn_steps n t r) w (test frame w) _ _ (test_takes frame w l k.0) k.1 (λ more u d h. takes_if C B A (r + turn_steps n t r) u more _ _
        (λ e. takes_then C B A r (turn_steps n t r) u (body frame u) _ _ (body_takes frame u (lower u.left w.left most d l) (h e).0) (h e).1 (λ done v f x.
        next_takes (turn_steps n t r) done.flow done.frame v (TurnsKeep n test body TestKeeps BodyKeeps done.frame v) (turns j test body) x
        (λ y. turns_take n j done.frame v (less n j lt) (lower v.left u.left most f (lower u.left w.left most d l)) y)))
        (λ e. takes_here C B A (r + turn_steps n t r) _ u u (same u)))
      where
        less : (a b : ℕ) → suc a < suc b → a < b
        less a b h = omega (arith, h)
