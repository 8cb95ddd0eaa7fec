-- What environments know after changes.
use Rattle.std.proofs.Common.{◌≡◌, ℕ, zero, suc, ◌+◌, true, false, List, [], ◌∷◌, refl, ◌∙◌, ap, sym, inl, inr, arith, Option, Some, None}
use Rattle.std.specs.Prelude.{slice_get, ◌⊎◌, is_some}
use Rattle.std.specs.Option.{option_map}
use Rattle.std.proofs.lemmas.Option.{same_Some}
use Rattle.p10_core.specs.Typed.{PlainVariable}
use Rattle.p10_absx.specs.Abstract.{Abstract}
use Rattle.p10_absx.specs.Environments.{Environment, known_in, known, learned, out_of_scope, hull_entry, hull_environment}
use Rattle.p10_absx.proofs.Entries.{got_after, get_other}
use Rattle.p10_pass.specs.Scopes.{changed_each}

-- ## One entry

of : (env : Environment) (n m : ℕ) (a x : Abstract) (y : Option Abstract) → ((m ≡ n) × (y ≡ Some a)) ⊎ ((m ≡ n → ⊥) × (slice_get env m ≡ Some y)) → y ≡ Some x → ((m ≡ n) × (x ≡ a)) ⊎ ((m ≡ n → ⊥) × (known env m ≡ Some x))
of env n m a x y (inl p) e = inl (p.0, same_Some _ _ (sym e ∙ p.1))
of env n m a x y (inr p) e = inr (p.0, ap known_in p.1 ∙ e)

-- what is known after something was learned of a variable is that, or what was known
pub known_learned : (env : Environment) (n m : ℕ) (a x : Abstract) → known (learned env n a) m ≡ Some x → ((m ≡ n) × (x ≡ a)) ⊎ ((m ≡ n → ⊥) × (known env m ≡ Some x))
known_learned env n m a x e = at (slice_get (learned env n a) m) refl e
  where
    at : (o : Option (Option Abstract)) → slice_get (learned env n a) m ≡ o → known_in o ≡ Some x → ((m ≡ n) × (x ≡ a)) ⊎ ((m ≡ n → ⊥) × (known env m ≡ Some x))
    at None s e = absurd cc
    at (Some y) s e = of env n m a x y (got_after env n m (Some a) y s) e

pub learned_other : (env : Environment) (n m : ℕ) (a : Abstract) → (m ≡ n → ⊥) → known (learned env n a) m ≡ known env m
learned_other env n m a h = ap known_in (get_other env n m (Some a) h)

pub learned_here : (env : Environment) (n : ℕ) (a : Abstract) → is_some (known env n) ≡ true → known (learned env n a) n ≡ Some a
learned_here [] n a e = absurd cc
learned_here (x ∷ env) zero a e = refl
learned_here (x ∷ env) (suc n) a e = learned_here env n a e

pub out_here : (env : Environment) (n : ℕ) → known (out_of_scope env n) n ≡ None
out_here [] n = refl
out_here (x ∷ env) zero = refl
out_here (x ∷ env) (suc n) = out_here env n

pub out_other : (env : Environment) (n m : ℕ) → (m ≡ n → ⊥) → known (out_of_scope env n) m ≡ known env m
out_other env n m h = ap known_in (get_other env n m None h)

-- ## Each entry

pub known_hull : (a b : Environment) (n : ℕ) → known (hull_environment a b) n ≡ hull_entry (known a n) (known b n)
known_hull [] b n = refl
known_hull (x ∷ a) [] zero = none x
  where
    none : (x : Option Abstract) → None ≡ hull_entry x None
    none None = refl
    none (Some x) = refl
known_hull (x ∷ a) [] (suc n) = none (known a n)
  where
    none : (x : Option Abstract) → None ≡ hull_entry x None
    none None = refl
    none (Some x) = refl
known_hull (x ∷ a) (y ∷ b) zero = refl
known_hull (x ∷ a) (y ∷ b) (suc n) = known_hull a b n

pub changed_at : (f : ℕ → PlainVariable → Abstract → Abstract) (i : ℕ) (variables : List PlainVariable) (env : Environment) (n j : ℕ) (v : PlainVariable) → slice_get variables n ≡ Some v → i + n ≡ j →
    known (changed_each f i variables env) n ≡ option_map (f j v) (known env n)
changed_at f i [] env n j v e s = absurd cc
changed_at f i (u ∷ variables) [] n j v e s = refl
changed_at f i (u ∷ variables) (Some a ∷ env) zero j v e s =
    let p : u ≡ v = same_Some _ _ e in
    let q : i ≡ j = omega (arith, s) in
    ap (λ (u : PlainVariable). Some (f i u a)) p ∙ ap (λ k. Some (f k v a)) q
changed_at f i (u ∷ variables) (None ∷ env) zero j v e s = refl
changed_at f i (u ∷ variables) (Some a ∷ env) (suc n) j v e s = changed_at f (suc i) variables env n j v e (omega (arith, s))
changed_at f i (u ∷ variables) (None ∷ env) (suc n) j v e s = changed_at f (suc i) variables env n j v e (omega (arith, s))

-- the same variables stay known
pub changed_knows : (f : ℕ → PlainVariable → Abstract → Abstract) (i : ℕ) (variables : List PlainVariable) (env : Environment) (n : ℕ) → is_some (known (changed_each f i variables env) n) ≡ is_some (known env n)
changed_knows f i [] env n = refl
changed_knows f i (u ∷ variables) [] n = refl
changed_knows f i (u ∷ variables) (Some a ∷ env) zero = refl
changed_knows f i (u ∷ variables) (None ∷ env) zero = refl
changed_knows f i (u ∷ variables) (Some a ∷ env) (suc n) = changed_knows f (suc i) variables env n
changed_knows f i (u ∷ variables) (None ∷ env) (suc n) = changed_knows f (suc i) variables env n

-- ## Whether something is known

pub known_some : {A : Type 0} (o : Option A) (x : A) → o ≡ Some x → is_some o ≡ true
known_some o x e = ap is_some e

pub known_none : {A : Type 0} (o : Option A) → is_some o ≡ false → o ≡ None
known_none None e = refl
known_none (Some x) e = absurd cc
