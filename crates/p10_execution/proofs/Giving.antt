-- What holds of what pieces give: the rules for a step, for one piece after another, for stops and for choices.
use Rattle.std.proofs.Common.{◌≡◌, ℕ, zero, suc, cond, Bool, true, false, refl, Result, Ok, Err}
use Rattle.p10_base.specs.declared.span.Span.{Span}
use Rattle.p10_int.specs.declared.operators.Stop.{Stop}
use Rattle.p10_meaning.specs.States.{State, Progress, gives, ends, step_at, step, and_then, or_undefined}
use Rattle.p10_sums.specs.Keeping.{HoldsOf}

pub holds_any : {A : Type 0} (o : Progress A) → HoldsOf (λ a w. Unit {0}) o
holds_any (gives a w) = tt
holds_any (ends end w) = tt

holds_step_at : {A : Type 0} (P : A → State → Type 0) (m : ℕ) (w : State) (go : State → Progress A) → m ≡ w.left → ((left : ℕ) → suc left ≡ w.left → HoldsOf P (go (record w { left = left }))) → HoldsOf P (step_at m w go)
holds_step_at P zero w go e h = tt
holds_step_at P (suc m) w go e h = h m e

pub holds_step : {A : Type 0} (P : A → State → Type 0) (w : State) (go : State → Progress A) → ((left : ℕ) → suc left ≡ w.left → HoldsOf P (go (record w { left = left }))) → HoldsOf P (step w go)
holds_step P w go h = holds_step_at P w.left w go refl h

pub holds_then : {A B : Type 0} (P : A → State → Type 0) (Q : B → State → Type 0) (o : Progress A) (go : A → State → Progress B) → HoldsOf P o → ((a : A) (w : State) → P a w → HoldsOf Q (go a w)) → HoldsOf Q (and_then o go)
holds_then P Q (gives a w) go h k = k a w h
holds_then P Q (ends end w) go h k = tt

pub holds_after : {A B : Type 0} (Q : B → State → Type 0) (o : Progress A) (go : A → State → Progress B) → ((a : A) (w : State) → HoldsOf Q (go a w)) → HoldsOf Q (and_then o go)
holds_after Q o go k = holds_then (λ a w. Unit {0}) Q o go (holds_any o) (λ a w h. k a w)

pub holds_or : {A B : Type 0} (Q : B → State → Type 0) (r : Result A Stop) (span : Span) (w : State) (go : A → Progress B) → ((a : A) → r ≡ Ok a → HoldsOf Q (go a)) → HoldsOf Q (or_undefined r span w go)
holds_or Q (Ok a) span w go h = h a refl
holds_or Q (Err stop) span w go h = tt

pub holds_if : {A : Type 0} (Q : A → State → Type 0) (b : Bool) (x y : Progress A) → (b ≡ true → HoldsOf Q x) → (b ≡ false → HoldsOf Q y) → HoldsOf Q (cond b x y)
holds_if Q true x y f g = f refl
holds_if Q false x y f g = g refl

pub holds_both : {A : Type 0} (P Q : A → State → Type 0) (o : Progress A) → HoldsOf P o → HoldsOf Q o → HoldsOf (λ a w. P a w × Q a w) o
holds_both P Q (gives a w) h k = (h, k)
holds_both P Q (ends end w) h k = tt

pub holds_weaker : {A : Type 0} (P Q : A → State → Type 0) (o : Progress A) → HoldsOf P o → ((a : A) (w : State) → P a w → Q a w) → HoldsOf Q o
holds_weaker P Q (gives a w) h k = k a w h
holds_weaker P Q (ends end w) h k = tt
