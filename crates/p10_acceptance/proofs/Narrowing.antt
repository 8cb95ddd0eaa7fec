-- When an environment says all that another one says of variables, and more: its ranges lie in the other's, and have values of the types.
use Rattle.std.proofs.Common.{◌≡◌, ℕ, zero, suc, ◌<◌, ◌≤◌, Bool, true, false, List, [], ◌∷◌, length, refl, ◌∙◌, ap, sym, subst, inl, inr, arith, Option, Some, None}
use Rattle.std.specs.Prelude.{slice_get, slice_set, IfSome, IsSomeAnd, ◌⊎◌, nat_eq}
use Rattle.std.proofs.lemmas.Option.{same_Some, none-some}
use Rattle.std.proofs.lemmas.Bool.{eqb-true, eqb-false}
use Rattle.std.proofs.lemmas.Int.{ints, clamps}
use Rattle.p10_int.specs.declared.types.IntType.{IntType}
use Rattle.p10_int.proofs.Conversions.{zero_in}
use Rattle.p10_range.specs.Ranges.{Interval, IsWithin, hull_of}
use Rattle.p10_range.specs.Rows.{values_of}
use Rattle.p10_range.specs.Laws.{IsOfType}
use Rattle.p10_core.specs.Constants.{integer_of}
use Rattle.p10_core.specs.Typed.{PlainVariable}
use Rattle.p10_absx.specs.Abstract.{Abstract, hull_abstract}
use Rattle.p10_absx.specs.Environments.{Environment, known_in, known, learned, out_of_scope, hull_entry, hull_environment, hull_reached}
use Rattle.p10_absx.proofs.Entries.{got_after, get_other}

-- ## Intervals

pub within_itself : (r : Interval) → IsWithin r r
within_itself r = record { from_low = omega (arith, ints); to_high = omega (arith, ints) }

pub within_trans : (a b c : Interval) → IsWithin a b → IsWithin b c → IsWithin a c
within_trans a b c h k = record { from_low = omega (arith, ints, h.from_low, k.from_low); to_high = omega (arith, ints, h.to_high, k.to_high) }

pub hull_left : (q r s : Interval) → IsWithin q r → IsWithin q (hull_of r s)
hull_left q r s w = record { from_low = omega (arith, ints, clamps, w.from_low); to_high = omega (arith, ints, clamps, w.to_high) }

pub hull_right : (q r s : Interval) → IsWithin q s → IsWithin q (hull_of r s)
hull_right q r s w = record { from_low = omega (arith, ints, clamps, w.from_low); to_high = omega (arith, ints, clamps, w.to_high) }

pub hull_within : (a b c : Interval) → IsWithin a c → IsWithin b c → IsWithin (hull_of a b) c
hull_within a b c h k = record { from_low = omega (arith, ints, clamps, h.from_low, k.from_low); to_high = omega (arith, ints, clamps, h.to_high, k.to_high) }

pub hull_both : (a b c d : Interval) → IsWithin a c → IsWithin b d → IsWithin (hull_of a b) (hull_of c d)
hull_both a b c d h k = hull_within a b (hull_of c d) (hull_left a c d h) (hull_right b c d k)

pub hull_typed : (kind : IntType) (a b : Interval) → IsOfType kind a → IsOfType kind b → IsOfType kind (hull_of a b)
hull_typed kind a b h k = (omega (arith, ints, clamps, h.0, k.0), hull_within a b (values_of kind) h.1 k.1)

pub whole_typed : (kind : IntType) → IsOfType kind (values_of kind)
whole_typed kind = let z = zero_in kind in (omega (arith, ints, z.low, z.high), within_itself (values_of kind))

-- ## Values that may be lacking

-- where the first is there, its range has values of a type and lies in that of the second
abbrev pub Fits : IntType → Option Abstract → Option Abstract → Type 0
Fits kind a b = IfSome a (λ x. IsOfType kind x.range × IsSomeAnd b (λ y. IsWithin x.range y.range))

pub fits_hull : (kind : IntType) (a b c d : Option Abstract) → Fits kind a c → Fits kind b d → (x y : Abstract) → a ≡ Some x → b ≡ Some y → IsOfType kind (hull_of x.range y.range)
fits_hull kind (Some a) (Some b) c d h k x y e f = let p : a ≡ x = same_Some _ _ e in let q : b ≡ y = same_Some _ _ f in
    hull_typed kind x.range y.range (subst (λ (z : Abstract). IsOfType kind z.range) p h.0) (subst (λ (z : Abstract). IsOfType kind z.range) q k.0)
fits_hull kind None b c d h k x y e f = absurd (none-some _ e)
fits_hull kind (Some a) None c d h k x y e f = absurd (none-some _ f)

-- ## Environments

-- what is known of a variable lies in what another environment knows of it
abbrev pub LiesIn : Option Abstract → Option Abstract → Type 0
LiesIn a None = Unit {0}
LiesIn a (Some b) = IsSomeAnd a (λ x. IsWithin x.range b.range)

module _ (variables : List PlainVariable) where
  -- what is known of variables has numbers of their types
  pub record Fair (env : Environment) : Type 0 where
    pub long : length variables ≤ length env
    pub typed : (n : ℕ) (a : Abstract) (v : PlainVariable) → known env n ≡ Some a → slice_get variables n ≡ Some v → IsOfType (integer_of v.type) a.range

  -- such an environment, which knows all that another one knows, and no less of it
  pub record Narrower (env wide : Environment) : Type 0 where
    pub fair : Fair env
    pub lies : (n : ℕ) → LiesIn (known env n) (known wide n)

  -- the same for environments that may be lacking: where no state comes, everything is known
  abbrev pub MaybeNarrower : Option Environment → Option Environment → Type 0
  MaybeNarrower None o = Unit {0}
  MaybeNarrower (Some env) None = ⊥
  MaybeNarrower (Some env) (Some wide) = Narrower env wide

  lies_itself : (a : Option Abstract) → LiesIn a a
  lies_itself None = tt
  lies_itself (Some a) = within_itself a.range

  lies_trans : (a b c : Option Abstract) → LiesIn a b → LiesIn b c → LiesIn a c
  lies_trans a b None h k = tt
  lies_trans (Some a) (Some b) (Some c) h k = within_trans a.range b.range c.range h k
  lies_trans a None (Some c) h k = absurd k
  lies_trans None (Some b) (Some c) h k = absurd h

  pub narrower_itself : (env : Environment) → Fair env → Narrower env env
  narrower_itself env f = record { fair = f; lies = λ n. lies_itself (known env n) }

  pub narrower_trans : (a b c : Environment) → Narrower a b → Narrower b c → Narrower a c
  narrower_trans a b c h k = record { fair = h.fair; lies = λ n. lies_trans (known a n) (known b n) (known c n) (h.lies n) (k.lies n) }

  pub maybe_narrower_trans : (a b c : Option Environment) → MaybeNarrower a b → MaybeNarrower b c → MaybeNarrower a c
  maybe_narrower_trans None b c h k = tt
  maybe_narrower_trans (Some a) None c h k = absurd h
  maybe_narrower_trans (Some a) (Some b) None h k = absurd k
  maybe_narrower_trans (Some a) (Some b) (Some c) h k = narrower_trans a b c h k

  -- ## Hulls

  known_both : (a b : Environment) (n : ℕ) → known (hull_environment a b) n ≡ hull_entry (known a n) (known b n)
  known_both [] b n = refl
  known_both (x ∷ a) [] zero = none x
    where
      none : (x : Option Abstract) → None ≡ hull_entry x None
      none None = refl
      none (Some x) = refl
  known_both (x ∷ a) [] (suc n) = none (known a n)
    where
      none : (x : Option Abstract) → None ≡ hull_entry x None
      none None = refl
      none (Some x) = refl
  known_both (x ∷ a) (y ∷ b) zero = refl
  known_both (x ∷ a) (y ∷ b) (suc n) = known_both a b n

  hull_long : (k : ℕ) (a b : Environment) → k ≤ length a → k ≤ length b → k ≤ length (hull_environment a b)
  hull_long k [] b h l = h
  hull_long k (x ∷ a) [] h l = l
  hull_long zero (x ∷ a) (y ∷ b) h l = omega arith
  hull_long (suc k) (x ∷ a) (y ∷ b) h l = let i = hull_long k a b (omega (arith, h)) (omega (arith, l)) in omega (arith, i)

  hull_fair : (a b : Environment) → Fair a → Fair b → Fair (hull_environment a b)
  hull_fair a b f g = record {
    long = hull_long (length variables) a b f.long g.long;
    typed = λ n x v e there. typed n (known a n) (known b n) refl refl x v (sym (known_both a b n) ∙ e) there;
  }
    where
      typed : (n : ℕ) (p q : Option Abstract) → known a n ≡ p → known b n ≡ q → (x : Abstract) (v : PlainVariable) → hull_entry p q ≡ Some x → slice_get variables n ≡ Some v → IsOfType (integer_of v.type) x.range
      typed n None q h k x v e there = absurd (none-some _ e)
      typed n (Some p) None h k x v e there = absurd (none-some _ e)
      typed n (Some p) (Some q) h k x v e there =
          let s : hull_abstract p q ≡ x = same_Some _ _ e in
          subst (λ (z : Abstract). IsOfType (integer_of v.type) z.range) s (hull_typed (integer_of v.type) p.range q.range (f.typed n p v h there) (g.typed n q v k there))

  lies_left : (a b c : Option Abstract) → LiesIn a b → LiesIn a (hull_entry b c)
  lies_left a None c h = tt
  lies_left a (Some b) None h = tt
  lies_left None (Some b) (Some c) h = absurd h
  lies_left (Some a) (Some b) (Some c) h = hull_left a.range b.range c.range h

  lies_right : (a b c : Option Abstract) → LiesIn a c → LiesIn a (hull_entry b c)
  lies_right a None c h = tt
  lies_right a (Some b) None h = tt
  lies_right None (Some b) (Some c) h = absurd h
  lies_right (Some a) (Some b) (Some c) h = hull_right a.range b.range c.range h

  lies_both : (a b c d : Option Abstract) → LiesIn a c → LiesIn b d → LiesIn (hull_entry a b) (hull_entry c d)
  lies_both a b None d h k = tt
  lies_both a b (Some c) None h k = tt
  lies_both None b (Some c) (Some d) h k = absurd h
  lies_both (Some a) None (Some c) (Some d) h k = absurd k
  lies_both (Some a) (Some b) (Some c) (Some d) h k = hull_both a.range b.range c.range d.range h k

  pub narrower_left : (env a b : Environment) → Narrower env a → Narrower env (hull_environment a b)
  narrower_left env a b h = record { fair = h.fair; lies = λ n. subst (LiesIn (known env n)) (sym (known_both a b n)) (lies_left (known env n) (known a n) (known b n) (h.lies n)) }

  pub narrower_right : (env a b : Environment) → Narrower env b → Narrower env (hull_environment a b)
  narrower_right env a b h = record { fair = h.fair; lies = λ n. subst (LiesIn (known env n)) (sym (known_both a b n)) (lies_right (known env n) (known a n) (known b n) (h.lies n)) }

  pub narrower_both : (a b c d : Environment) → Narrower a c → Narrower b d → Narrower (hull_environment a b) (hull_environment c d)
  narrower_both a b c d h k = record {
    fair = hull_fair a b h.fair k.fair;
    lies = λ n. subst (λ (x : Option Abstract). LiesIn x (known (hull_environment c d) n)) (sym (known_both a b n))
        (subst (LiesIn (hull_entry (known a n) (known b n))) (sym (known_both c d n)) (lies_both (known a n) (known b n) (known c n) (known d n) (h.lies n) (k.lies n)));
  }

  pub hull_narrower : (a b c d : Option Environment) → MaybeNarrower a c → MaybeNarrower b d → MaybeNarrower (hull_reached a b) (hull_reached c d)
  hull_narrower None None c d h k = tt
  hull_narrower None (Some b) c None h k = absurd k
  hull_narrower None (Some b) None (Some d) h k = k
  hull_narrower None (Some b) (Some c) (Some d) h k = narrower_right b c d k
  hull_narrower (Some a) b None d h k = absurd h
  hull_narrower (Some a) None (Some c) None h k = h
  hull_narrower (Some a) None (Some c) (Some d) h k = narrower_left a c d h
  hull_narrower (Some a) (Some b) (Some c) None h k = absurd k
  hull_narrower (Some a) (Some b) (Some c) (Some d) h k = narrower_both a b c d h k

  -- ## One variable

  known_cases : (env : Environment) (n m : ℕ) (a x : Abstract) → known (learned env n a) m ≡ Some x → ((m ≡ n) × (x ≡ a)) ⊎ ((m ≡ n → ⊥) × (known env m ≡ Some x))
  known_cases env n m a x e = at (slice_get (learned env n a) m) refl e
    where
      of : (y : Option Abstract) → ((m ≡ n) × (y ≡ Some a)) ⊎ ((m ≡ n → ⊥) × (slice_get env m ≡ Some y)) → y ≡ Some x → ((m ≡ n) × (x ≡ a)) ⊎ ((m ≡ n → ⊥) × (known env m ≡ Some x))
      of y (inl p) e = inl (p.0, same_Some _ _ (sym e ∙ p.1))
      of y (inr p) e = inr (p.0, ap known_in p.1 ∙ e)

      at : (o : Option (Option Abstract)) → slice_get (learned env n a) m ≡ o → known_in o ≡ Some x → ((m ≡ n) × (x ≡ a)) ⊎ ((m ≡ n → ⊥) × (known env m ≡ Some x))
      at None s e = absurd cc
      at (Some y) s e = of y (got_after env n m (Some a) y s) e

  set_long : (xs : Environment) (n : ℕ) (x : Option Abstract) → length (slice_set xs n x) ≡ length xs
  set_long [] n x = refl
  set_long (y ∷ xs) zero x = refl
  set_long (y ∷ xs) (suc n) x = ap suc (set_long xs n x)

  learned_at : (env : Environment) (n : ℕ) (a : Abstract) → n < length env → known (learned env n a) n ≡ Some a
  learned_at [] n a h = absurd (omega (arith, h))
  learned_at (x ∷ env) zero a h = refl
  learned_at (x ∷ env) (suc n) a h = learned_at env n a (omega (arith, h))

  in_range : (n : ℕ) (v : PlainVariable) (xs : List PlainVariable) → slice_get xs n ≡ Some v → n < length xs
  in_range n v [] e = absurd (none-some _ e)
  in_range zero v (x ∷ xs) e = omega arith
  in_range (suc n) v (x ∷ xs) e = let h = in_range n v xs e in omega (arith, h)

  pub learned_fair : (env : Environment) (n : ℕ) (a : Abstract) → Fair env → ((v : PlainVariable) → slice_get variables n ≡ Some v → IsOfType (integer_of v.type) a.range) → Fair (learned env n a)
  learned_fair env n a f t = record {
    long = let e = set_long env n (Some a) in let l = f.long in omega (arith, e, l);
    typed = λ m x v e there. elim (known_cases env n m a x e) [
      | inl p ↦ subst (λ (y : Abstract). IsOfType (integer_of v.type) y.range) (sym p.1) (t v (ap (slice_get variables) (sym p.0) ∙ there))
      | inr p ↦ f.typed m x v p.1 there
    ];
  }

  -- something is learned that lies in what the other environment knows already
  pub learned_narrower : (env wide : Environment) (n : ℕ) (a : Abstract) → Narrower env wide → n < length env → ((v : PlainVariable) → slice_get variables n ≡ Some v → IsOfType (integer_of v.type) a.range) → LiesIn (Some a) (known wide n) → Narrower (learned env n a) wide
  learned_narrower env wide n a h l t k = record { fair = learned_fair env n a h.fair t; lies = λ m. by_number m (nat_eq m n) refl }
    where
      by_number : (m : ℕ) (b : Bool) → nat_eq m n ≡ b → LiesIn (known (learned env n a) m) (known wide m)
      by_number m true e =
          let p : m ≡ n = eqb-true m n e in
          subst (λ (i : ℕ). LiesIn (known (learned env n a) i) (known wide i)) (sym p) (subst (λ (x : Option Abstract). LiesIn x (known wide n)) (sym (learned_at env n a l)) k)
      by_number m false e = subst (λ (x : Option Abstract). LiesIn x (known wide m)) (sym (ap known_in (get_other env n m (Some a) (eqb-false m n e)))) (h.lies m)

  learned_wider : (wide : Environment) (n m : ℕ) (b : Abstract) (x : Option Abstract) → (m ≡ n → LiesIn x (Some b)) → LiesIn x (known wide m) → LiesIn x (known (learned wide n b) m)
  learned_wider wide n m b x h k = at (known (learned wide n b) m) refl
    where
      at : (o : Option Abstract) → known (learned wide n b) m ≡ o → LiesIn x o
      at None e = tt
      at (Some y) e = elim (known_cases wide n m b y e) [
        | inl p ↦ subst (λ (z : Abstract). LiesIn x (Some z)) (sym p.1) (h p.0)
        | inr p ↦ subst (LiesIn x) p.1 k
      ]

  -- something is learned of the same variable in both
  pub learned_both : (env wide : Environment) (n : ℕ) (a b : Abstract) → Narrower env wide → n < length env → ((v : PlainVariable) → slice_get variables n ≡ Some v → IsOfType (integer_of v.type) a.range) → IsWithin a.range b.range → Narrower (learned env n a) (learned wide n b)
  learned_both env wide n a b h l t w = record { fair = learned_fair env n a h.fair t; lies = λ m. by_number m (nat_eq m n) refl }
    where
      by_number : (m : ℕ) (c : Bool) → nat_eq m n ≡ c → LiesIn (known (learned env n a) m) (known (learned wide n b) m)
      by_number m true e =
          let p : m ≡ n = eqb-true m n e in
          let here : LiesIn (known (learned env n a) m) (Some b) = subst (λ (i : ℕ). LiesIn (known (learned env n a) i) (Some b)) (sym p) (subst (λ (x : Option Abstract). LiesIn x (Some b)) (sym (learned_at env n a l)) w) in
          at p here (known (learned wide n b) m) refl
        where
          at : m ≡ n → LiesIn (known (learned env n a) m) (Some b) → (o : Option Abstract) → known (learned wide n b) m ≡ o → LiesIn (known (learned env n a) m) o
          at p here None f = tt
          at p here (Some y) f = elim (known_cases wide n m b y f) [
            | inl q ↦ subst (λ (z : Abstract). LiesIn (known (learned env n a) m) (Some z)) (sym q.1) here
            | inr q ↦ absurd (q.0 p)
          ]
      by_number m false e =
          let o : m ≡ n → ⊥ = eqb-false m n e in
          subst (λ (x : Option Abstract). LiesIn x (known (learned wide n b) m)) (sym (ap known_in (get_other env n m (Some a) o)))
          (subst (LiesIn (known env m)) (sym (ap known_in (get_other wide n m (Some b) o))) (h.lies m))

  -- ## Variables that go out of scope

  out_gone : (env : Environment) (n : ℕ) → known (out_of_scope env n) n ≡ None
  out_gone [] n = refl
  out_gone (x ∷ env) zero = refl
  out_gone (x ∷ env) (suc n) = out_gone env n

  pub out_fair : (env : Environment) (n : ℕ) → Fair env → Fair (out_of_scope env n)
  out_fair env n f = record {
    long = let e = set_long env n None in let l = f.long in omega (arith, e, l);
    typed = λ m x v e there. by_number m x v e there (nat_eq m n) refl;
  }
    where
      by_number : (m : ℕ) (x : Abstract) (v : PlainVariable) → known (out_of_scope env n) m ≡ Some x → slice_get variables m ≡ Some v → (b : Bool) → nat_eq m n ≡ b → IsOfType (integer_of v.type) x.range
      by_number m x v e there true q = let p : m ≡ n = eqb-true m n q in absurd (none-some x (sym (ap (λ (i : ℕ). known (out_of_scope env n) i) p ∙ out_gone env n) ∙ e))
      by_number m x v e there false q = f.typed m x v (sym (ap known_in (get_other env n m None (eqb-false m n q))) ∙ e) there

  pub out_narrower : (env wide : Environment) (n : ℕ) → Narrower env wide → Narrower (out_of_scope env n) (out_of_scope wide n)
  out_narrower env wide n h = record { fair = out_fair env n h.fair; lies = λ m. by_number m (nat_eq m n) refl }
    where
      by_number : (m : ℕ) (b : Bool) → nat_eq m n ≡ b → LiesIn (known (out_of_scope env n) m) (known (out_of_scope wide n) m)
      by_number m true q = let p : m ≡ n = eqb-true m n q in
          subst (λ (i : ℕ). LiesIn (known (out_of_scope env n) i) (known (out_of_scope wide n) i)) (sym p) (subst (LiesIn (known (out_of_scope env n) n)) (sym (out_gone wide n)) tt)
      by_number m false q =
          let o : m ≡ n → ⊥ = eqb-false m n q in
          subst (λ (x : Option Abstract). LiesIn x (known (out_of_scope wide n) m)) (sym (ap known_in (get_other env n m None o)))
          (subst (LiesIn (known env m)) (sym (ap known_in (get_other wide n m None o))) (h.lies m))
