-- Rules for pieces whose stops all have a property: a step, one piece after another, results, and choices.
use Rattle.std.proofs.Common.{◌≡◌, ℕ, zero, suc, cond, Bool, true, false, List, refl, Result, Ok, Err}
use Rattle.p10_base.specs.declared.span.Span.{Span}
use Rattle.p10_int.specs.declared.operators.Stop.{Stop}
use Rattle.p10_core.specs.Typed.{PlainProgram}
use Rattle.p10_meaning.specs.States.{State, AssertionFailed, Undefined, StepsSpent, Progress, gives, ends, step_at, step, and_then, or_undefined}
use Rattle.p10_meaning.specs.Variables.{OnGiven}
use Rattle.p10_meaning.specs.Sound.{Kind, Sound, Grows, Keeps}
use Rattle.p10_stop_laws.specs.Causes.{StopsWhere}
use Rattle.p10_stop_laws.proofs.Alive.{OnState}

stops_step_at : {A : Type 0} (P : Stop → Span → Type 0) (m : ℕ) (w : State) (go : State → Progress A) → ((left : ℕ) → StopsWhere P (go (record w { left = left }))) → StopsWhere P (step_at m w go)
stops_step_at P zero w go h = tt
stops_step_at P (suc m) w go h = h m

pub stops_step : {A : Type 0} (P : Stop → Span → Type 0) (w : State) (go : State → Progress A) → ((left : ℕ) → StopsWhere P (go (record w { left = left }))) → StopsWhere P (step w go)
stops_step P w go h = stops_step_at P w.left w go h

-- one piece after another, whatever the first gives
pub stops_on : {A B : Type 0} (P : Stop → Span → Type 0) (o : Progress A) (go : A → State → Progress B) → StopsWhere P o → ((a : A) (w : State) → StopsWhere P (go a w)) → StopsWhere P (and_then o go)
stops_on P (gives a w) go s h = h a w
stops_on P (ends (Undefined stop span) w) go s h = s
stops_on P (ends (AssertionFailed span) w) go s h = tt
stops_on P (ends StepsSpent w) go s h = tt

-- one piece after another, where the first keeps sound states
pub stops_then : {A B : Type 0} (p : PlainProgram) (ks : List Kind) (K : List Kind → A → Type 0) (P : Stop → Span → Type 0) (o : Progress A) (go : A → State → Progress B) → Keeps p ks K o → StopsWhere P o →
    ((a : A) (w : State) (js : List Kind) → Sound p js w → Grows ks js → K js a → StopsWhere P (go a w)) → StopsWhere P (and_then o go)
stops_then p ks K P (gives a w) go k s h = h a w k.kinds k.sound k.grows k.value
stops_then p ks K P (ends (Undefined stop span) w) go k s h = s
stops_then p ks K P (ends (AssertionFailed span) w) go k s h = tt
stops_then p ks K P (ends StepsSpent w) go k s h = tt

-- so, and where what it gives has a property
pub stops_with : {A B : Type 0} (p : PlainProgram) (ks : List Kind) (K : List Kind → A → Type 0) (Q : A → Type 0) (P : Stop → Span → Type 0) (o : Progress A) (go : A → State → Progress B) → Keeps p ks K o → OnGiven Q o → StopsWhere P o →
    ((a : A) (w : State) (js : List Kind) → Sound p js w → Grows ks js → K js a → Q a → StopsWhere P (go a w)) → StopsWhere P (and_then o go)
stops_with p ks K Q P (gives a w) go k q s h = h a w k.kinds k.sound k.grows k.value q
stops_with p ks K Q P (ends (Undefined stop span) w) go k q s h = s
stops_with p ks K Q P (ends (AssertionFailed span) w) go k q s h = tt
stops_with p ks K Q P (ends StepsSpent w) go k q s h = tt

pub stops_or : {A B : Type 0} (P : Stop → Span → Type 0) (r : Result A Stop) (span : Span) (w : State) (go : A → Progress B) → ((stop : Stop) → r ≡ Err stop → P stop span) → ((a : A) → r ≡ Ok a → StopsWhere P (go a)) →
    StopsWhere P (or_undefined r span w go)
stops_or P (Ok a) span w go s h = h a refl
stops_or P (Err stop) span w go s h = s stop refl

pub stops_if : {A : Type 0} (P : Stop → Span → Type 0) (b : Bool) (x y : Progress A) → (b ≡ true → StopsWhere P x) → (b ≡ false → StopsWhere P y) → StopsWhere P (cond b x y)
stops_if P true x y f g = f refl
stops_if P false x y f g = g refl

pub stops_weaker : {A : Type 0} (P Q : Stop → Span → Type 0) (o : Progress A) → ((stop : Stop) (span : Span) → P stop span → Q stop span) → StopsWhere P o → StopsWhere Q o
stops_weaker P Q (gives a w) h s = tt
stops_weaker P Q (ends (Undefined stop span) w) h s = h stop span s
stops_weaker P Q (ends (AssertionFailed span) w) h s = tt
stops_weaker P Q (ends StepsSpent w) h s = tt

-- one piece after another, where the first leaves a state with a property
pub stops_kept : {A B : Type 0} (P : Stop → Span → Type 0) (S : State → Type 0) (o : Progress A) (go : A → State → Progress B) → OnState S o → StopsWhere P o → ((a : A) (w : State) → S w → StopsWhere P (go a w)) → StopsWhere P (and_then o go)
stops_kept P S (gives a w) go k s h = h a w k
stops_kept P S (ends (Undefined stop span) w) go k s h = s
stops_kept P S (ends (AssertionFailed span) w) go k s h = tt
stops_kept P S (ends StepsSpent w) go k s h = tt
