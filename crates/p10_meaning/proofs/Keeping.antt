-- Outcomes that keep sound states: the rules for a step, for one piece after another, and for stops.
use Rattle.std.proofs.Common.{◌≡◌, ℕ, zero, suc, cond, Bool, true, false, List, Result, Ok, Err}
use Rattle.p10_base.specs.declared.span.Span.{Span}
use Rattle.p10_int.specs.declared.operators.Stop.{Stop}
use Rattle.p10_core.specs.Typed.{PlainProgram}
use Rattle.p10_meaning.specs.States.{State, Progress, gives, ends, step_at, step, and_then, or_undefined}
use Rattle.p10_meaning.specs.Sound.{Kind, Sound, Grows, Kept, Keeps}
use Rattle.p10_meaning.proofs.Fitting.{grows_same, grows_trans}
use Rattle.p10_meaning.proofs.Moves.{OnOk}

pub keeps_from : {A : Type 0} (p : PlainProgram) (ks js : List Kind) (P : List Kind → A → Type 0) (o : Progress A) → Grows ks js → Keeps p js P o → Keeps p ks P o
keeps_from p ks js P (gives a w) g k = record { kinds = k.kinds; grows = grows_trans ks js k.kinds g k.grows; sound = k.sound; value = k.value }
keeps_from p ks js P (ends e w) g k = record { kinds = k.kinds; grows = grows_trans ks js k.kinds g k.grows; sound = k.sound; value = tt }

pub kept : {A : Type 0} (p : PlainProgram) (ks : List Kind) (P : List Kind → A → Type 0) (a : A) (w : State) → Sound p ks w → P ks a → Keeps p ks P (gives a w)
kept p ks P a w s v = record { kinds = ks; grows = grows_same ks; sound = s; value = v }

pub ended : (p : PlainProgram) (ks : List Kind) (w : State) → Sound p ks w → Kept p ks w (λ ks. Unit {0})
ended p ks w s = record { kinds = ks; grows = grows_same ks; sound = s; value = tt }

keeps_step_at : {A : Type 0} (p : PlainProgram) (ks : List Kind) (P : List Kind → A → Type 0) (m : ℕ) (w : State) (go : State → Progress A) → Sound p ks w →
    ((n : ℕ) → Keeps p ks P (go (record w { left = n }))) → Keeps p ks P (step_at m w go)
keeps_step_at p ks P zero w go s h = ended p ks w s
keeps_step_at p ks P (suc n) w go s h = h n

pub keeps_step : {A : Type 0} (p : PlainProgram) (ks : List Kind) (P : List Kind → A → Type 0) (w : State) (go : State → Progress A) → Sound p ks w →
    ((n : ℕ) → Keeps p ks P (go (record w { left = n }))) → Keeps p ks P (step w go)
keeps_step p ks P w go s h = keeps_step_at p ks P w.left w go s h

pub keeps_then : {A B : Type 0} (p : PlainProgram) (ks : List Kind) (P : List Kind → A → Type 0) (Q : List Kind → B → Type 0) (o : Progress A) (go : A → State → Progress B) →
    Keeps p ks P o → ((a : A) (w : State) (js : List Kind) → Sound p js w → Grows ks js → P js a → Keeps p js Q (go a w)) → Keeps p ks Q (and_then o go)
keeps_then p ks P Q (gives a w) go k h = keeps_from p ks k.kinds Q (go a w) k.grows (h a w k.kinds k.sound k.grows k.value)
keeps_then p ks P Q (ends e w) go k h = k

pub keeps_or : {A B : Type 0} (p : PlainProgram) (ks : List Kind) (P : A → Type 0) (Q : List Kind → B → Type 0) (r : Result A Stop) (span : Span) (w : State) (go : A → Progress B) → Sound p ks w → OnOk P r →
    ((a : A) → P a → Keeps p ks Q (go a)) → Keeps p ks Q (or_undefined r span w go)
keeps_or p ks P Q (Ok a) span w go s k h = h a k
keeps_or p ks P Q (Err e) span w go s k h = ended p ks w s

pub keeps_if : {A : Type 0} (p : PlainProgram) (ks : List Kind) (Q : List Kind → A → Type 0) (b : Bool) (x y : Progress A) → (b ≡ true → Keeps p ks Q x) → (b ≡ false → Keeps p ks Q y) → Keeps p ks Q (cond b x y)
keeps_if p ks Q true x y f g = f (λ i. true)
keeps_if p ks Q false x y f g = g (λ i. false)
