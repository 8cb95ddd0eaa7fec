-- Environments whose entries are changed, one by one.
use Rattle.std.proofs.Common.{◌≡◌, ℕ, zero, suc, ◌+◌, ◌≤◌, ◌&&◌, true, List, [], ◌∷◌, length, take, drop, Option, Some, None, refl, ap, sym, ◌∙◌, arith, add-one, zero-add}
use Rattle.std.specs.Prelude.{slice_get}
use Rattle.p10_range.specs.Ranges.{Interval}
use Rattle.p10_core.specs.Constants.{integer_of}
use Rattle.p10_core.specs.Typed.{PlainVariable}
use Rattle.p10_cert.specs.Claims.{Loop}
use Rattle.p10_absx.specs.Abstract.{Abstract}
use Rattle.p10_absx.specs.Environments.{Environment, known}
use Rattle.p10_pass.specs.Scopes.{changed_each}
use Rattle.p10_pass.specs.Claiming.{range_claimed, ranges_hold}
use Rattle.p10_pass.specs.private.Renewing.{entry_changed, renewed, entry_lies, entries_lie}

-- an entry under another one is changed
under : (e : Option Abstract) (g : Abstract → Abstract) (n : ℕ) (o : Option Abstract) (env : Environment) → entry_changed g (suc n) o (e ∷ env) ≡ e ∷ entry_changed g n o env
under e g n None env = refl
under e g n (Some a) env = refl

step : (f : ℕ → PlainVariable → Abstract → Abstract) (k n : ℕ) (vs : List PlainVariable) (v : PlainVariable) (env : Environment) → slice_get vs n ≡ Some v →
    entry_changed (f (k + n) v) n (known (changed_each f k (take n vs) env) n) (changed_each f k (take n vs) env) ≡ changed_each f k (take (suc n) vs) env
step f k n [] v env h = absurd cc
step f k zero (x ∷ vs) v [] h = refl
step f k zero (x ∷ vs) v (None ∷ env) h = refl
step f k zero (x ∷ vs) v (Some a ∷ env) h =
    let p : v ≡ x = cc in
    let q : k + zero ≡ k = omega arith in
    λ i. Some (f (q i) (p i) a) ∷ env
step f k (suc n) (x ∷ vs) v [] h = refl
step f k (suc n) (x ∷ vs) v (None ∷ env) h =
    let later : Environment = changed_each f (suc k) (take n vs) env in
    let q : k + suc n ≡ suc k + n = omega arith in
    under None (f (k + suc n) v) n (known later n) later ∙ ap (λ e. None ∷ e) (ap (λ m. entry_changed (f m v) n (known later n) later) q ∙ step f (suc k) n vs v env h)
step f k (suc n) (x ∷ vs) v (Some a ∷ env) h =
    let later : Environment = changed_each f (suc k) (take n vs) env in
    let q : k + suc n ≡ suc k + n = omega arith in
    under (Some (f k x a)) (f (k + suc n) v) n (known later n) later ∙ ap (λ e. Some (f k x a) ∷ e) (ap (λ m. entry_changed (f m v) n (known later n) later) q ∙ step f (suc k) n vs v env h)

-- one more entry is changed
pub renewed_more : (f : ℕ → PlainVariable → Abstract → Abstract) (n : ℕ) (vs : List PlainVariable) (v : PlainVariable) (env now : Environment) → slice_get vs n ≡ Some v →
    now ≡ changed_each f 0 (take n vs) env → renewed f n v now ≡ changed_each f 0 (take (n + 1) vs) env
renewed_more f n vs v env now h so-far =
    ap (renewed f n v) so-far ∙ (ap (λ m. entry_changed (f m v) n (known (changed_each f 0 (take n vs) env) n) (changed_each f 0 (take n vs) env)) (sym (zero-add n)) ∙
    (step f 0 n vs v env h ∙ ap (λ m. changed_each f 0 (take m vs) env) (sym (add-one n))))

-- two changes that are the same on variables of a list
pub same_changes : (f g : ℕ → PlainVariable → Abstract → Abstract) (k : ℕ) (vs : List PlainVariable) (env : Environment) →
    ((n : ℕ) (v : PlainVariable) (a : Abstract) → slice_get vs n ≡ Some v → f (k + n) v a ≡ g (k + n) v a) → changed_each f k vs env ≡ changed_each g k vs env
same_changes f g k [] env h = refl
same_changes f g k (x ∷ vs) [] h = refl
same_changes f g k (x ∷ vs) (None ∷ env) h =
    ap (λ e. None ∷ e) (same_changes f g (suc k) vs env (λ n v a s. let q : suc k + n ≡ k + suc n = omega arith in ap (λ m. f m v a) q ∙ (h (suc n) v a s ∙ ap (λ m. g m v a) (sym q))))
same_changes f g k (x ∷ vs) (Some a ∷ env) h =
    let here : f k x a ≡ g k x a = let q : k ≡ k + zero = omega arith in ap (λ m. f m x a) q ∙ (h zero x a refl ∙ ap (λ m. g m x a) (sym q)) in
    (λ i. Some (here i) ∷ changed_each f (suc k) vs env) ∙
    ap (λ e. Some (g k x a) ∷ e) (same_changes f g (suc k) vs env (λ n v b s. let q : suc k + n ≡ k + suc n = omega arith in ap (λ m. f m v b) q ∙ (h (suc n) v b s ∙ ap (λ m. g m v b) (sym q))))

-- ## Entries in claimed ranges

past_known : (env : Environment) (n : ℕ) → length env ≤ n → known env n ≡ None
past_known [] n h = refl
past_known (e ∷ env) zero h = absurd (omega (arith, h))
past_known (e ∷ env) (suc n) h = past_known env n (omega (arith, h))

past_lie : (claim : Loop) (k : ℕ) (vs : List PlainVariable) (env : Environment) → length env ≤ k → entries_lie (λ n v. range_claimed claim.vars n (integer_of v.type)) k vs env ≡ true
past_lie claim k [] env h = refl
past_lie claim k (x ∷ vs) env h =
    ap (λ o. entry_lies (range_claimed claim.vars k (integer_of x.type)) o && entries_lie (λ n v. range_claimed claim.vars n (integer_of v.type)) (suc k) vs env) (past_known env k h) ∙
    past_lie claim (suc k) vs env (omega (arith, h))

no_more : (claim : Loop) (k : ℕ) (vs : List PlainVariable) → ranges_hold claim k vs [] ≡ true
no_more claim k [] = refl
no_more claim k (x ∷ vs) = refl

-- the entries from a number on
lie_from : (claim : Loop) (k : ℕ) (vs : List PlainVariable) (env rest : Environment) → drop k env ≡ rest → entries_lie (λ n v. range_claimed claim.vars n (integer_of v.type)) k vs env ≡ ranges_hold claim k vs rest
lie_from claim k [] env rest d = refl
lie_from claim k (x ∷ vs) env [] d = past_lie claim k (x ∷ vs) env (ended env k d)
  where
    ended : (xs : Environment) (k : ℕ) → drop k xs ≡ [] → length xs ≤ k
    ended [] k d = omega arith
    ended (x ∷ xs) zero d = absurd cc
    ended (x ∷ xs) (suc k) d = let h : length xs ≤ k = ended xs k d in omega arith
lie_from claim k (x ∷ vs) env (e ∷ rest) d =
    ap (λ o. entry_lies (range_claimed claim.vars k (integer_of x.type)) o && entries_lie (λ n v. range_claimed claim.vars n (integer_of v.type)) (suc k) vs env) (here env k e rest d) ∙
    (ap (λ b. entry_lies (range_claimed claim.vars k (integer_of x.type)) e && b) (lie_from claim (suc k) vs env rest (next env k e rest d)) ∙ at e)
  where
    here : (xs : Environment) (k : ℕ) (e : Option Abstract) (rest : Environment) → drop k xs ≡ e ∷ rest → known xs k ≡ e
    here [] zero e rest d = absurd cc
    here [] (suc k) e rest d = absurd cc
    here (x ∷ xs) zero e rest d = cc
    here (x ∷ xs) (suc k) e rest d = here xs k e rest d

    next : (xs : Environment) (k : ℕ) (e : Option Abstract) (rest : Environment) → drop k xs ≡ e ∷ rest → drop (suc k) xs ≡ rest
    next [] zero e rest d = absurd cc
    next [] (suc k) e rest d = absurd cc
    next (x ∷ xs) zero e rest d = cc
    next (x ∷ xs) (suc k) e rest d = next xs k e rest d

    at : (e : Option Abstract) → entry_lies (range_claimed claim.vars k (integer_of x.type)) e && ranges_hold claim (suc k) vs rest ≡ ranges_hold claim k (x ∷ vs) (e ∷ rest)
    at None = refl
    at (Some a) = refl

pub lie_where_claimed : (claim : Loop) (vs : List PlainVariable) (env : Environment) → entries_lie (λ n v. range_claimed claim.vars n (integer_of v.type)) 0 vs env ≡ ranges_hold claim 0 vs env
lie_where_claimed claim vs env = lie_from claim 0 vs env env refl

-- two families of ranges that are the same on variables of a list
pub same_ranges : (r s : ℕ → PlainVariable → Interval) (k : ℕ) (vs : List PlainVariable) (env : Environment) →
    ((n : ℕ) (v : PlainVariable) → slice_get vs n ≡ Some v → r (k + n) v ≡ s (k + n) v) → entries_lie r k vs env ≡ entries_lie s k vs env
same_ranges r s k [] env h = refl
same_ranges r s k (x ∷ vs) env h =
    let here : r k x ≡ s k x = let q : k ≡ k + zero = omega arith in ap (λ m. r m x) q ∙ (h zero x refl ∙ ap (λ m. s m x) (sym q)) in
    (λ i. entry_lies (here i) (known env k) && entries_lie r (suc k) vs env) ∙
    ap (λ b. entry_lies (s k x) (known env k) && b) (same_ranges r s (suc k) vs env (λ n v e. let q : suc k + n ≡ k + suc n = omega arith in ap (λ m. r m v) q ∙ (h (suc n) v e ∙ ap (λ m. s m v) (sym q))))
