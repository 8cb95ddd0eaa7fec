-- Rules for pieces that take exactly a number of steps.
use Rattle.std.proofs.Common.{◌≡◌, ℕ, zero, suc, ◌+◌, cond, Bool, true, false, refl, sym, subst, arith, Result, Ok, Err}
use Rattle.p10_base.specs.declared.span.Span.{Span}
use Rattle.p10_int.specs.declared.operators.Stop.{Stop}
use Rattle.p10_meaning.specs.States.{State, Progress, gives, ends, step_at, step, and_then, or_undefined}
use Rattle.p10_cost_laws.specs.Exactly.{Exactly, Anything}

-- no step is added
pub stays : (n : ℕ) → n + 0 ≡ n
stays n = omega arith

-- a number of steps that is the same
pub exact_same : {A : Type 0} (P : A → Type 0) (n m : ℕ) (from : State) (o : Progress A) → n ≡ m → Exactly P n from o → Exactly P m from o
exact_same P n m from o e h = subst (λ (k : ℕ). Exactly P k from o) e h

-- a state that has the same steps left
pub exact_from : {A : Type 0} (P : A → Type 0) (n : ℕ) (from other : State) (o : Progress A) → from.left ≡ other.left → Exactly P n from o → Exactly P n other o
exact_from P n from other (gives a to) e h = let f = h.0 in (omega (arith, e, f), h.1)
exact_from P n from other (ends end to) e h = tt

pub exact_step : {A : Type 0} (P : A → Type 0) (n : ℕ) (w : State) (go : State → Progress A) → ((left : ℕ) → Exactly P n (record w { left = left }) (go (record w { left = left }))) → Exactly P (1 + n) w (step w go)
exact_step {A} P n w go h = by_left w.left refl
  where
    added : (left : ℕ) (o : Progress A) → suc left ≡ w.left → Exactly P n (record w { left = left }) o → Exactly P (1 + n) w o
    added left (gives a to) e k = let f = k.0 in (omega (arith, e, f), k.1)
    added left (ends end to) e k = tt

    by_left : (m : ℕ) → m ≡ w.left → Exactly P (1 + n) w (step_at m w go)
    by_left zero e = tt
    by_left (suc m) e = added m (go (record w { left = m })) e (h m)

pub exact_then : {A B : Type 0} (P : A → Type 0) (Q : B → Type 0) (n m : ℕ) (w : State) (o : Progress A) (go : A → State → Progress B) → Exactly P n w o → ((a : A) (u : State) → P a → Exactly Q m u (go a u)) → Exactly Q (n + m) w (and_then o go)
exact_then {A} {B} P Q n m w (gives a u) go h k = added (go a u) h.0 (k a u h.1)
  where
    added : (o : Progress B) → u.left + n ≡ w.left → Exactly Q m u o → Exactly Q (n + m) w o
    added (gives b to) e h = let f = h.0 in (omega (arith, e, f), h.1)
    added (ends end to) e h = tt
exact_then {A} {B} P Q n m w (ends end u) go h k = tt

pub exact_or : {A B : Type 0} (Q : B → Type 0) (n : ℕ) (from : State) (r : Result A Stop) (span : Span) (w : State) (go : A → Progress B) → ((a : A) → Exactly Q n from (go a)) → Exactly Q n from (or_undefined r span w go)
exact_or Q n from (Ok a) span w go h = h a
exact_or Q n from (Err stop) span w go h = tt

pub exact_if : {A : Type 0} (Q : A → Type 0) (n : ℕ) (from : State) (b : Bool) (x y : Progress A) → Exactly Q n from x → Exactly Q n from y → Exactly Q n from (cond b x y)
exact_if Q n from true x y h k = h
exact_if Q n from false x y h k = k

-- the last piece takes no step
pub exact_on : {A B : Type 0} (P : A → Type 0) (Q : B → Type 0) (n : ℕ) (w : State) (o : Progress A) (go : A → State → Progress B) → Exactly P n w o → ((a : A) (u : State) → P a → Exactly Q 0 u (go a u)) → Exactly Q n w (and_then o go)
exact_on P Q n w o go h k = exact_same Q (n + 0) n w (and_then o go) (omega arith) (exact_then P Q n 0 w o go h k)

-- the first piece takes no step
pub exact_after : {A B : Type 0} (P : A → Type 0) (Q : B → Type 0) (m : ℕ) (w : State) (o : Progress A) (go : A → State → Progress B) → Exactly P 0 w o → ((a : A) (u : State) → P a → Exactly Q m u (go a u)) → Exactly Q m w (and_then o go)
exact_after P Q m w o go h k = exact_same Q (0 + m) m w (and_then o go) (omega arith) (exact_then P Q 0 m w o go h k)
