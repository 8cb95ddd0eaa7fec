-- Two runs of one piece, the other with k more steps: what comes of them agrees.
use Rattle.std.proofs.Common.{◌≡◌, ℕ, zero, suc, ◌+◌, ◌≤◌, cond, Bool, true, false, List, refl, sym, ap, subst, arith, Result, Ok, Err}
use Rattle.p10_base.specs.declared.span.Span.{Span}
use Rattle.p10_int.specs.declared.operators.Stop.{Stop}
use Rattle.p10_meaning.specs.declared.pointers.Scalar.{Scalar}
use Rattle.p10_meaning.specs.States.{State, AssertionFailed, Undefined, StepsSpent, Progress, gives, ends, step_at, step, and_then, or_undefined}
use Rattle.p10_meaning.specs.Values.{Calls}
use Rattle.p10_meaning.specs.Laws.{Follows, EndsAfter, with_more}
use Rattle.p10_meaning.proofs.Following.{follows_same, follows_trans, follows_left}

-- the same with k more steps; where the first runs out of steps, so does the other, if k is 0
abbrev pub IsSame : {A : Type 0} → ℕ → Progress A → Progress A → Type 0
IsSame k (gives a w) other = other ≡ gives a (with_more k w)
IsSame k (ends (AssertionFailed span) w) other = other ≡ ends (AssertionFailed span) (with_more k w)
IsSame k (ends (Undefined stop span) w) other = other ≡ ends (Undefined stop span) (with_more k w)
IsSame k (ends StepsSpent w) other = k ≡ 0 → other ≡ ends StepsSpent w

-- a value leaves at most m steps
abbrev pub Leaves : {A : Type 0} → ℕ → Progress A → Type 0
Leaves m (gives a w) = w.left ≤ m
Leaves m (ends end w) = Unit {0}

pub record Agrees {A : Type 0} (k m : ℕ) (from : State) (one other : Progress A) : Type 0 where
  pub same : IsSame k one other
  pub leaves : Leaves m one
  pub follows : EndsAfter from one

-- ## One after another

pub no_more : (w : State) (k : ℕ) → k ≡ 0 → with_more k w ≡ w
no_more w k e = ap (λ n. record w { left = n }) (let d : k ≡ 0 = e in omega (arith, d))

pub after_trans : {A : Type 0} (u v : State) (o : Progress A) → Follows u v → EndsAfter v o → EndsAfter u o
after_trans u v (gives a w) f g = follows_trans u v w f g
after_trans u v (ends end w) f g = follows_trans u v w f g

pub agrees_from : {A : Type 0} (k m : ℕ) (u v : State) (o other : Progress A) → Follows u v → Agrees k m v o other → Agrees k m u o other
agrees_from k m u v o other f a = record { same = a.same; leaves = a.leaves; follows = after_trans u v o f a.follows }

leaves_more : {A : Type 0} (m n : ℕ) (o : Progress A) → m ≤ n → Leaves m o → Leaves n o
leaves_more m n (gives a w) l h = omega (arith, l, h)
leaves_more m n (ends end w) l h = tt

pub agrees_within : {A : Type 0} (k m n : ℕ) (u : State) (o other : Progress A) → m ≤ n → Agrees k m u o other → Agrees k n u o other
agrees_within k m n u o other l a = record { same = a.same; leaves = leaves_more m n o l a.leaves; follows = a.follows }

pub agrees_gives : {A : Type 0} (k m : ℕ) (from : State) (a : A) (w : State) → w.left ≤ m → Follows from w → Agrees k m from (gives a w) (gives a (with_more k w))
agrees_gives k m from a w l f = record { same = refl; leaves = l; follows = f }

pub agrees_here : {A : Type 0} (k m : ℕ) (a : A) (w : State) → w.left ≤ m → Agrees k m w (gives a w) (gives a (with_more k w))
agrees_here k m a w l = record { same = refl; leaves = l; follows = follows_same w }

pub agrees_undefined : {A : Type 0} (k m : ℕ) (w : State) (stop : Stop) (span : Span) → Agrees {A = A} k m w (ends (Undefined stop span) w) (ends (Undefined stop span) (with_more k w))
agrees_undefined k m w stop span = record { same = refl; leaves = tt; follows = follows_same w }

pub agrees_spent : {A : Type 0} (k m : ℕ) (w : State) (other : Progress A) → (k ≡ 0 → other ≡ ends StepsSpent w) → Agrees {A = A} k m w (ends StepsSpent w) other
agrees_spent k m w other e = record { same = e; leaves = tt; follows = follows_same w }

pub agrees_then : {A B : Type 0} (k m n : ℕ) (from : State) (o other : Progress A) (go to : A → State → Progress B) →
    Agrees k m from o other → ((a : A) (w : State) → w.left ≤ m → Agrees k n w (go a w) (to a (with_more k w))) → Agrees k n from (and_then o go) (and_then other to)
agrees_then k m n from (gives a w) other go to h go_on =
    let there : Agrees k n w (go a w) (to a (with_more k w)) = go_on a w h.leaves in
    agrees_from k n from w (go a w) (and_then other to) h.follows
    (subst (λ o. Agrees k n w (go a w) (and_then o to)) (sym h.same) there)
agrees_then k m n from (ends (AssertionFailed span) w) other go to h go_on =
    record { same = ap (λ o. and_then o to) h.same; leaves = tt; follows = h.follows }
agrees_then k m n from (ends (Undefined stop span) w) other go to h go_on =
    record { same = ap (λ o. and_then o to) h.same; leaves = tt; follows = h.follows }
agrees_then k m n from (ends StepsSpent w) other go to h go_on =
    record { same = λ e. ap (λ o. and_then o to) (h.same e); leaves = tt; follows = h.follows }

-- ## A step

zero_more : (k : ℕ) → k ≡ 0 → 0 ≡ 0 + k
zero_more k d = omega (arith, d)

one_more : (n k : ℕ) → suc (n + k) ≡ suc n + k
one_more n k = omega arith

agrees_step_at : {A : Type 0} (k m l : ℕ) (w : State) (go to : State → Progress A) → w.left ≡ l → l ≤ suc m →
    ((n : ℕ) → n ≤ m → Agrees k m (record w { left = n }) (go (record w { left = n })) (to (with_more k (record w { left = n })))) →
    Agrees k m w (step_at l w go) (step_at (l + k) (with_more k w) to)
agrees_step_at k m zero w go to e b h = agrees_spent k m w _ (λ d. none d)
  where
    none : k ≡ 0 → step_at (0 + k) (with_more k w) to ≡ ends StepsSpent w
    none d = subst (λ n. step_at n (with_more k w) to ≡ ends StepsSpent w) (zero_more k d) (ap (λ w. ends StepsSpent w) (no_more w k d))
agrees_step_at k m (suc n) w go to e b h =
    let one_less : Follows w (record w { left = n }) = follows_left w n (let d : w.left ≡ suc n = e in omega (arith, d)) in
    agrees_from k m w (record w { left = n }) _ _ one_less
    (subst (λ i. Agrees k m (record w { left = n }) (go (record w { left = n })) (step_at i (with_more k w) to)) (one_more n k) (h n (omega (arith, b))))

pub agrees_step : {A : Type 0} (k m : ℕ) (w : State) (go to : State → Progress A) → w.left ≤ suc m →
    ((n : ℕ) → n ≤ m → Agrees k m (record w { left = n }) (go (record w { left = n })) (to (with_more k (record w { left = n })))) →
    Agrees k m w (step w go) (step (with_more k w) to)
agrees_step k m w go to b h = agrees_step_at k m w.left w go to refl b h

-- ## Branches and stops

pub agrees_or : {A B : Type 0} (k m : ℕ) (r : Result A Stop) (span : Span) (w : State) (go to : A → Progress B) →
    ((a : A) → Agrees k m w (go a) (to a)) → Agrees k m w (or_undefined r span w go) (or_undefined r span (with_more k w) to)
agrees_or k m (Ok a) span w go to h = h a
agrees_or k m (Err stop) span w go to h = agrees_undefined k m w stop span

pub agrees_if : {A : Type 0} (k m : ℕ) (w : State) (b : Bool) (x y u v : Progress A) → Agrees k m w x u → Agrees k m w y v → Agrees k m w (cond b x y) (cond b u v)
agrees_if k m w true x y u v f g = f
agrees_if k m w false x y u v f g = g

-- calls that agree, wherever at most `most` steps are left
pub record CallsAgree (k most : ℕ) (call other : Calls) : Type 0 where
  pub agree : (f : ℕ) (xs : List Scalar) (w : State) (m : ℕ) → m ≤ most → w.left ≤ m → Agrees k m w (call f xs w) (other f xs (with_more k w))
