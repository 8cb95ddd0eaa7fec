-- Environments whose ranges are of their variables' types stay so.
use Rattle.std.proofs.Common.{◌≡◌, ℕ, zero, suc, ◌+◌, Bool, true, false, List, [], ◌∷◌, length, Option, Some, None, refl, sym, ap, ◌∙◌, subst, arith, inl, inr}
use Rattle.std.specs.Prelude.{slice_get, slice_set, ◌⊎◌, if◌then◌else◌, nat_eq}
use Rattle.std.specs.Option.{option_map}
use Rattle.std.proofs.lemmas.Bool.{eqb-true, eqb-false}
use Rattle.std.proofs.lemmas.Option.{same_Some}
use Rattle.p10_int.specs.declared.types.IntType.{IntType}
use Rattle.p10_range.specs.Ranges.{Interval, meet_of}
use Rattle.p10_core.specs.Constants.{integer_of}
use Rattle.p10_core.specs.Typed.{statement, declare, PlainStatements, no_statements, more_statements, PlainVariable}
use Rattle.p10_absx.specs.Abstract.{Abstract, whole_type}
use Rattle.p10_absx.specs.Environments.{Environment, known_in, known, learned, out_of_scope, hull_entry, hull_environment, hull_reached}
use Rattle.p10_absx.specs.Comparing.{met_with, side_met}
use Rattle.p10_absx.proofs.Entries.{got_after, get_other}
use Rattle.p10_pass.specs.Scopes.{left_scope, changed_each, assigned_forgotten, offset_in, offsets_restored}
use Rattle.p10_known.specs.Typing.{AreOfTypes, MaybeOfTypes}
use Rattle.p10_known.proofs.Ranges.{Has, all_of_type, hull_of_type, met_of_type}

-- ## What is known after changes

learned_of : (env : Environment) (n m : ℕ) (a x : Abstract) (y : Option Abstract) → ((m ≡ n) × (y ≡ Some a)) ⊎ ((m ≡ n → ⊥) × (slice_get env m ≡ Some y)) → y ≡ Some x → ((m ≡ n) × (x ≡ a)) ⊎ ((m ≡ n → ⊥) × (known env m ≡ Some x))
learned_of env n m a x y (inl p) e = inl (p.0, same_Some _ _ (sym e ∙ p.1))
learned_of env n m a x y (inr p) e = inr (p.0, ap known_in p.1 ∙ e)

-- what is known after something was learned of a variable is that, or what was known
known_learned : (env : Environment) (n m : ℕ) (a x : Abstract) → known (learned env n a) m ≡ Some x → ((m ≡ n) × (x ≡ a)) ⊎ ((m ≡ n → ⊥) × (known env m ≡ Some x))
known_learned env n m a x e = at (slice_get (learned env n a) m) refl e
  where
    at : (o : Option (Option Abstract)) → slice_get (learned env n a) m ≡ o → known_in o ≡ Some x → ((m ≡ n) × (x ≡ a)) ⊎ ((m ≡ n → ⊥) × (known env m ≡ Some x))
    at None s e = absurd cc
    at (Some y) s e = learned_of env n m a x y (got_after env n m (Some a) y s) e

out_here : (env : Environment) (n : ℕ) → known (out_of_scope env n) n ≡ None
out_here [] n = refl
out_here (x ∷ env) zero = refl
out_here (x ∷ env) (suc n) = out_here env n

-- what is known after a variable went out of scope was known before
known_out : (env : Environment) (n m : ℕ) (x : Abstract) → known (out_of_scope env n) m ≡ Some x → known env m ≡ Some x
known_out env n m x e = at (nat_eq m n) refl
  where
    at : (b : Bool) → nat_eq m n ≡ b → known env m ≡ Some x
    at true q =
        let p : m ≡ n = eqb-true m n q in
        let gone : known (out_of_scope env n) m ≡ None = ap (known (out_of_scope env n)) p ∙ out_here env n in absurd cc
    at false q = sym (ap known_in (get_other env n m None (eqb-false m n q))) ∙ e

known_hull : (a b : Environment) (n : ℕ) → known (hull_environment a b) n ≡ hull_entry (known a n) (known b n)
known_hull [] b n = refl
known_hull (x ∷ a) [] zero = none x
  where
    none : (x : Option Abstract) → None ≡ hull_entry x None
    none None = refl
    none (Some x) = refl
known_hull (x ∷ a) [] (suc n) = none (known a n)
  where
    none : (x : Option Abstract) → None ≡ hull_entry x None
    none None = refl
    none (Some x) = refl
known_hull (x ∷ a) (y ∷ b) zero = refl
known_hull (x ∷ a) (y ∷ b) (suc n) = known_hull a b n

changed_at : (f : ℕ → PlainVariable → Abstract → Abstract) (i : ℕ) (variables : List PlainVariable) (env : Environment) (n j : ℕ) (v : PlainVariable) → slice_get variables n ≡ Some v → i + n ≡ j →
    known (changed_each f i variables env) n ≡ option_map (f j v) (known env n)
changed_at f i [] env n j v e s = absurd cc
changed_at f i (u ∷ variables) [] n j v e s = refl
changed_at f i (u ∷ variables) (Some a ∷ env) zero j v e s =
    let p : u ≡ v = same_Some _ _ e in
    let q : i ≡ j = omega (arith, s) in
    ap (λ (u : PlainVariable). Some (f i u a)) p ∙ ap (λ k. Some (f k v a)) q
changed_at f i (u ∷ variables) (None ∷ env) zero j v e s = refl
changed_at f i (u ∷ variables) (Some a ∷ env) (suc n) j v e s = changed_at f (suc i) variables env n j v e (omega (arith, s))
changed_at f i (u ∷ variables) (None ∷ env) (suc n) j v e s = changed_at f (suc i) variables env n j v e (omega (arith, s))

-- ## Places

pub learned_places : (env : Environment) (n : ℕ) (o : Option Abstract) → length (slice_set env n o) ≡ length env
learned_places [] n o = refl
learned_places (x ∷ env) zero o = refl
learned_places (x ∷ env) (suc n) o = ap suc (learned_places env n o)

hull_places : (a b : Environment) → length a ≡ length b → length (hull_environment a b) ≡ length a
hull_places [] b e = refl
hull_places (x ∷ a) [] e = absurd (omega (arith, e))
hull_places (x ∷ a) (y ∷ b) e = ap suc (hull_places a b (omega (arith, e)))

changed_places : (f : ℕ → PlainVariable → Abstract → Abstract) (i : ℕ) (variables : List PlainVariable) (env : Environment) → length (changed_each f i variables env) ≡ length env
changed_places f i [] env = refl
changed_places f i (u ∷ variables) [] = refl
changed_places f i (u ∷ variables) (Some a ∷ env) = ap suc (changed_places f (suc i) variables env)
changed_places f i (u ∷ variables) (None ∷ env) = ap suc (changed_places f (suc i) variables env)

module _ (variables : List PlainVariable) where
  -- ## One variable

  pub learned_types : (env : Environment) (n : ℕ) (a : Abstract) → AreOfTypes variables env → ((v : PlainVariable) → slice_get variables n ≡ Some v → Has (integer_of v.type) a) → AreOfTypes variables (learned env n a)
  learned_types env n a h k = record { places = learned_places env n (Some a) ∙ h.places; each = λ m v x there e. at m v x there (known_learned env n m a x e) }
    where
      at : (m : ℕ) (v : PlainVariable) (x : Abstract) → slice_get variables m ≡ Some v → ((m ≡ n) × (x ≡ a)) ⊎ ((m ≡ n → ⊥) × (known env m ≡ Some x)) → Has (integer_of v.type) x
      at m v x there (inl p) = subst (Has (integer_of v.type)) (sym p.1) (k v (ap (slice_get variables) (sym p.0) ∙ there))
      at m v x there (inr p) = h.each m v x there p.1

  pub out_types : (env : Environment) (n : ℕ) → AreOfTypes variables env → AreOfTypes variables (out_of_scope env n)
  out_types env n h = record { places = learned_places env n None ∙ h.places; each = λ m v x there e. h.each m v x there (known_out env n m x e) }

  pub left_types : (xs : PlainStatements) (env : Environment) → AreOfTypes variables env → AreOfTypes variables (left_scope xs env)
  left_types no_statements env h = h
  left_types (more_statements (statement at (declare n initializer)) rest) env h = left_types rest (out_of_scope env n) (out_types env n h)
  left_types (more_statements s rest) env h = left_types rest env h

  -- ## Hulls

  hull_entry_has : (t : IntType) (x y : Option Abstract) (q : Abstract) → ((a : Abstract) → x ≡ Some a → Has t a) → ((b : Abstract) → y ≡ Some b → Has t b) → hull_entry x y ≡ Some q → Has t q
  hull_entry_has t None y q h k e = absurd cc
  hull_entry_has t (Some a) None q h k e = absurd cc
  hull_entry_has t (Some a) (Some b) q h k e = subst (Has t) (same_Some _ _ e) (hull_of_type t a.range b.range (h a refl) (k b refl))

  pub hull_types : (a b : Environment) → AreOfTypes variables a → AreOfTypes variables b → AreOfTypes variables (hull_environment a b)
  hull_types a b h k = record {
    places = hull_places a b (h.places ∙ sym k.places) ∙ h.places;
    each = λ n v q there e. hull_entry_has (integer_of v.type) (known a n) (known b n) q (λ x s. h.each n v x there s) (λ x s. k.each n v x there s) (sym (known_hull a b n) ∙ e);
  }

  pub reached_types : (a b : Option Environment) → MaybeOfTypes variables a → MaybeOfTypes variables b → MaybeOfTypes variables (hull_reached a b)
  reached_types None b h k = k
  reached_types (Some a) None h k = h
  reached_types (Some a) (Some b) h k = hull_types a b h k

  -- ## Each variable

  pub changed_types : (f : ℕ → PlainVariable → Abstract → Abstract) (env : Environment) → ((n : ℕ) (v : PlainVariable) (a : Abstract) → slice_get variables n ≡ Some v → Has (integer_of v.type) a → Has (integer_of v.type) (f n v a))
      → AreOfTypes variables env → AreOfTypes variables (changed_each f 0 variables env)
  changed_types f env k h = record { places = changed_places f 0 variables env ∙ h.places; each = λ n v x there e. at n v x there (known env n) refl (sym (changed_at f 0 variables env n n v there (omega arith)) ∙ e) }
    where
      at : (n : ℕ) (v : PlainVariable) (x : Abstract) → slice_get variables n ≡ Some v → (o : Option Abstract) → known env n ≡ o → option_map (f n v) o ≡ Some x → Has (integer_of v.type) x
      at n v x there None q e = absurd cc
      at n v x there (Some a) q e = subst (Has (integer_of v.type)) (same_Some _ _ e) (k n v a there (h.each n v a there q))

  if_has : (t : IntType) (b : Bool) (x y : Abstract) → Has t x → Has t y → Has t (if b then x else y)
  if_has t true x y h k = h
  if_has t false x y h k = k

  pub forgotten_types : (assigned : ℕ → Bool) (env : Environment) → AreOfTypes variables env → AreOfTypes variables (assigned_forgotten assigned variables env)
  forgotten_types assigned env h = changed_types (λ n v a. if assigned n then whole_type (integer_of v.type) else a) env (λ n v a there k. if_has (integer_of v.type) (assigned n) (whole_type (integer_of v.type)) a (all_of_type (integer_of v.type)) k) h

  pub restored_types : (assigned : ℕ → Bool) (entry env : Environment) → AreOfTypes variables env → AreOfTypes variables (offsets_restored assigned entry variables env)
  restored_types assigned entry env h = changed_types (λ n v a. record { range = a.range; offset = if assigned n then None else offset_in (known entry n) }) env (λ n v a there k. k) h

  -- ## Sides of comparisons

  met_types : (env : Environment) (n : ℕ) (r : Interval) (o : Option Abstract) → known env n ≡ o → AreOfTypes variables env → MaybeOfTypes variables (met_with env n r o)
  met_types env n r None e h = h
  met_types env n r (Some a) e h = at (meet_of a.range r) refl
    where
      at : (q : Option Interval) → meet_of a.range r ≡ q → MaybeOfTypes variables (option_map (λ s. learned env n (record { range = s; offset = a.offset })) q)
      at None m = tt
      at (Some s) m = learned_types env n (record { range = s; offset = a.offset }) h (λ v there. met_of_type (integer_of v.type) a.range r s (h.each n v a there e) m)

  pub side_types : (n : Option ℕ) (r : Interval) (env : Environment) → AreOfTypes variables env → MaybeOfTypes variables (side_met n r env)
  side_types None r env h = h
  side_types (Some n) r env h = met_types env n r (known env n) refl h
