-- Rules for what holds of the outcome of a piece: a step, one piece after another, an operation that may stop, a choice.
use Rattle.std.proofs.Common.{◌≡◌, ℕ, zero, suc, ◌≤◌, cond, Bool, true, false, List, refl, arith, Result, Ok, Err}
use Rattle.p10_base.specs.declared.span.Span.{Span}
use Rattle.p10_int.specs.declared.operators.Stop.{Stop}
use Rattle.p10_core.specs.Typed.{PlainProgram}
use Rattle.p10_meaning.specs.States.{State, Progress, gives, ends, step_at, step, and_then, or_undefined}
use Rattle.p10_meaning.specs.Laws.{EndsAfter}
use Rattle.p10_meaning.specs.Sound.{Kind, Sound, Grows, Keeps}
use Rattle.p10_sums.specs.Keeping.{HoldsOf, AfterStepAt, AfterStep}

-- ## Steps

holds_step_at : {A : Type 0} (Q : A → State → Type 0) (m n : ℕ) (w : State) (go : State → Progress A) → m ≤ n → ((l : ℕ) → l ≤ n → HoldsOf Q (go (record w { left = l }))) → HoldsOf Q (step_at m w go)
holds_step_at Q zero n w go b h = tt
holds_step_at Q (suc m) n w go b h = h m (omega (arith, b))

-- a piece that takes a step, of n at most
pub holds_step : {A : Type 0} (Q : A → State → Type 0) (n : ℕ) (w : State) (go : State → Progress A) → w.left ≤ n → ((l : ℕ) → l ≤ n → HoldsOf Q (go (record w { left = l }))) → HoldsOf Q (step w go)
holds_step Q n w go b h = holds_step_at Q w.left n w go b h

after_step_at : (m n : ℕ) (w : State) (P : State → Type 0) → m ≤ n → ((l : ℕ) → l ≤ n → P (record w { left = l })) → AfterStepAt m w P
after_step_at zero n w P b h = tt
after_step_at (suc m) n w P b h = h m (omega (arith, b))

-- what holds after a step, of n at most
pub after_step : (n : ℕ) (w : State) (P : State → Type 0) → w.left ≤ n → ((l : ℕ) → l ≤ n → P (record w { left = l })) → AfterStep w P
after_step n w P b h = record { after = after_step_at w.left n w P b h }

-- ## One piece after another

pub holds_any : {A : Type 0} (o : Progress A) → HoldsOf (λ a w. Unit {0}) o
holds_any (gives a w) = tt
holds_any (ends end w) = tt

pub holds_map : {A : Type 0} (P Q : A → State → Type 0) (o : Progress A) → ((a : A) (w : State) → P a w → Q a w) → HoldsOf P o → HoldsOf Q o
holds_map P Q (gives a w) h k = h a w k
holds_map P Q (ends end w) h k = tt

pub holds_last : {A B : Type 0} (P : A → State → Type 0) (Q : B → State → Type 0) (o : Progress A) (go : A → State → Progress B) → HoldsOf P o → ((a : A) (w : State) → P a w → HoldsOf Q (go a w)) → HoldsOf Q (and_then o go)
holds_last P Q (gives a w) go h k = k a w h
holds_last P Q (ends end w) go h k = tt

-- what is known of a piece that gives something: it leaves a sound state with no more steps, what it gives fits, and something holds of it
pub record Given {A : Type 0} (p : PlainProgram) (n : ℕ) (ks : List Kind) (T : List Kind → A → Type 0) (P : A → State → Type 0) (a : A) (w : State) : Type 0 where
  pub kinds : List Kind
  pub grows : Grows ks kinds
  pub sound : Sound p kinds w
  pub few : w.left ≤ n
  pub fits : T kinds a
  pub holds : P a w

-- all that is known of a piece
pub given_of : {A : Type 0} (p : PlainProgram) (n : ℕ) (ks : List Kind) (T : List Kind → A → Type 0) (P : A → State → Type 0) (from : State) (o : Progress A) → from.left ≤ n → Keeps p ks T o → EndsAfter from o → HoldsOf P o →
    HoldsOf (Given p n ks T P) o
given_of p n ks T P from (gives a w) b k e h = record { kinds = k.kinds; grows = k.grows; sound = k.sound; few = less b e.left; fits = k.value; holds = h }
  where
    less : from.left ≤ n → w.left ≤ from.left → w.left ≤ n
    less b l = omega (arith, b, l)
given_of p n ks T P from (ends end w) b k e h = tt

-- a value that fits its type, by what is known of the state
pub typed : {A : Type 0} (p : PlainProgram) (ks : List Kind) (T : List Kind → A → Type 0) (P Q : A → State → Type 0) (o : Progress A) → Keeps p ks T o → HoldsOf P o → ((js : List Kind) (a : A) (w : State) → T js a → P a w → Q a w) → HoldsOf Q o
typed p ks T P Q (gives a w) k h go = go k.kinds a w k.value h
typed p ks T P Q (ends end w) k h go = tt

-- ## Operations and choices

pub holds_or : {A B : Type 0} (Q : B → State → Type 0) (r : Result A Stop) (span : Span) (w : State) (go : A → Progress B) → ((a : A) → r ≡ Ok a → HoldsOf Q (go a)) → HoldsOf Q (or_undefined r span w go)
holds_or Q (Ok a) span w go h = h a refl
holds_or Q (Err stop) span w go h = tt

pub holds_if : {A : Type 0} (Q : A → State → Type 0) (b : Bool) (x y : Progress A) → (b ≡ true → HoldsOf Q x) → (b ≡ false → HoldsOf Q y) → HoldsOf Q (cond b x y)
holds_if Q true x y f g = f (λ i. true)
holds_if Q false x y f g = g (λ i. false)
