-- Rules for pieces that don't end in an undefined operation: a step, one piece after another, results, and choices.
use Rattle.std.proofs.Common.{◌≡◌, ℕ, zero, suc, cond, Bool, true, false, refl, subst, Result, Ok, Err}
use Rattle.p10_base.specs.declared.span.Span.{Span}
use Rattle.p10_int.specs.declared.operators.Stop.{Stop}
use Rattle.p10_meaning.specs.States.{State, Progress, gives, ends, step_at, step, and_then, or_undefined}
use Rattle.p10_sums.specs.Keeping.{HoldsOf}
use Rattle.p10_clean_soundness.specs.private.Stays.{Stays}

stays_step_at : {A : Type 0} (P : A → State → Type 0) (m : ℕ) (w : State) (go : State → Progress A) → m ≡ w.left → ((left : ℕ) → suc left ≡ w.left → Stays P (go (record w { left = left }))) → Stays P (step_at m w go)
stays_step_at P zero w go e h = tt
stays_step_at P (suc m) w go e h = h m e

pub stays_step : {A : Type 0} (P : A → State → Type 0) (w : State) (go : State → Progress A) → ((left : ℕ) → suc left ≡ w.left → Stays P (go (record w { left = left }))) → Stays P (step w go)
stays_step P w go h = stays_step_at P w.left w go refl h

pub stays_then : {A B : Type 0} (P : A → State → Type 0) (Q : B → State → Type 0) (o : Progress A) (go : A → State → Progress B) → Stays P o → ((a : A) (w : State) → P a w → Stays Q (go a w)) → Stays Q (and_then o go)
stays_then P Q (gives a w) go h k = k a w h
stays_then P Q (ends end w) go h k = h

pub stays_or : {A B : Type 0} (Q : B → State → Type 0) (r : Result A Stop) (a : A) (span : Span) (w : State) (go : A → Progress B) → r ≡ Ok a → Stays Q (go a) → Stays Q (or_undefined r span w go)
stays_or Q (Ok b) a span w go e h = let same : a ≡ b = cc in subst (λ x. Stays Q (go x)) same h
stays_or Q (Err stop) a span w go e h = absurd cc

pub stays_if : {A : Type 0} (Q : A → State → Type 0) (b : Bool) (x y : Progress A) → (b ≡ true → Stays Q x) → (b ≡ false → Stays Q y) → Stays Q (cond b x y)
stays_if Q true x y f g = f refl
stays_if Q false x y f g = g refl

pub stays_weaker : {A : Type 0} (P Q : A → State → Type 0) (o : Progress A) → Stays P o → ((a : A) (w : State) → P a w → Q a w) → Stays Q o
stays_weaker P Q (gives a w) h k = k a w h
stays_weaker P Q (ends end w) h k = h

-- with what holds by another law
pub stays_with : {A : Type 0} (P Q : A → State → Type 0) (o : Progress A) → Stays P o → HoldsOf Q o → Stays (λ a w. P a w × Q a w) o
stays_with P Q (gives a w) h k = (h, k)
stays_with P Q (ends end w) h k = h

-- what holds of what is given
pub stays_holds : {A : Type 0} (P : A → State → Type 0) (o : Progress A) → Stays P o → HoldsOf P o
stays_holds P (gives a w) h = h
stays_holds P (ends end w) h = tt
