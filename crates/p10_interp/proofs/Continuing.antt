-- One piece after another, on both sides of an equation.
use Rattle.std.proofs.Common.{◌≡◌, ℕ, zero, suc, Bool, true, false, refl, Result, Ok, Err}
use Rattle.std.specs.Prelude.{if◌then◌else◌}
use Rattle.p10_base.specs.declared.span.Span.{Span}
use Rattle.p10_int.specs.declared.operators.Stop.{Stop}
use Rattle.p10_meaning.specs.States.{State, Progress, gives, ends, step_at, step, and_then, or_undefined}

-- what comes after one of two pieces in a row comes after both
pub after_right : {A B C : Type 0} (o : Progress A) (go : A → State → Progress B) (g : B → State → Progress C) (h : A → State → Progress C) →
    ((a : A) (w : State) → and_then (go a w) g ≡ h a w) → and_then (and_then o go) g ≡ and_then o h
after_right (gives a w) go g h e = e a w
after_right (ends end w) go g h e = refl

-- a piece with two rests
pub then_same : {A B : Type 0} (o : Progress A) (g h : A → State → Progress B) → ((a : A) (w : State) → g a w ≡ h a w) → and_then o g ≡ and_then o h
then_same (gives a w) g h e = e a w
then_same (ends end w) g h e = refl

-- the same first piece, and then two pieces with their rests
pub then_right : {A B C D : Type 0} (o : Progress A) (go : A → State → Progress B) (to : A → State → Progress C) (g : B → State → Progress D) (h : C → State → Progress D) →
    ((a : A) (w : State) → and_then (go a w) g ≡ and_then (to a w) h) → and_then (and_then o go) g ≡ and_then (and_then o to) h
then_right (gives a w) go to g h e = e a w
then_right (ends end w) go to g h e = refl

step_at_right : {A B C : Type 0} (n : ℕ) (w : State) (go : State → Progress A) (to : State → Progress B) (g : A → State → Progress C) (h : B → State → Progress C) →
    ((w : State) → and_then (go w) g ≡ and_then (to w) h) → and_then (step_at n w go) g ≡ and_then (step_at n w to) h
step_at_right zero w go to g h e = refl
step_at_right (suc n) w go to g h e = e (record w { left = n })

-- a step, and then two pieces with their rests
pub step_right : {A B C : Type 0} (w : State) (go : State → Progress A) (to : State → Progress B) (g : A → State → Progress C) (h : B → State → Progress C) →
    ((w : State) → and_then (go w) g ≡ and_then (to w) h) → and_then (step w go) g ≡ and_then (step w to) h
step_right w go to g h e = step_at_right w.left w go to g h e

-- what may stop, and then two pieces with their rests
pub or_right : {A B C D : Type 0} (r : Result A Stop) (span : Span) (w : State) (go : A → Progress B) (to : A → Progress C) (g : B → State → Progress D) (h : C → State → Progress D) →
    ((a : A) → and_then (go a) g ≡ and_then (to a) h) → and_then (or_undefined r span w go) g ≡ and_then (or_undefined r span w to) h
or_right (Ok a) span w go to g h e = e a
or_right (Err stop) span w go to g h e = refl

-- one of two pieces, each with a rest
pub if_right : {B C D : Type 0} (b : Bool) (x u : Progress B) (y v : Progress C) (g : B → State → Progress D) (h : C → State → Progress D) →
    (b ≡ true → and_then x g ≡ and_then y h) → (b ≡ false → and_then u g ≡ and_then v h) → and_then (if b then x else u) g ≡ and_then (if b then y else v) h
if_right true x u y v g h e d = e refl
if_right false x u y v g h e d = d refl
