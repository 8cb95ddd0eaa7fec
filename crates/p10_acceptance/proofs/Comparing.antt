-- What is known after a comparison of narrower sides is narrower than after one of wider sides, and than before it.
use Rattle.std.proofs.Common.{◌≡◌, ◌≢◌, ℕ, zero, suc, Bool, true, false, List, [], ◌∷◌, Option, Some, None, length, refl, sym, subst, arith, ℤ, pos, ◌+ℤ◌, ◌-ℤ◌, ◌<◌}
use Rattle.std.specs.Prelude.{if◌then◌else◌, is_some, int_le, IfSome, IsSomeAnd}
use Rattle.std.specs.Option.{option_map, option_and_then}
use Rattle.std.specs.Int.{int_min, int_max}
use Rattle.std.specs.Ordering.{int_eq}
use Rattle.std.proofs.lemmas.Option.{same_Some, none-some}
use Rattle.std.proofs.lemmas.Int.{ints, clamps}
use Rattle.p10_int.specs.declared.types.IntType.{IntType}
use Rattle.p10_int.specs.declared.operators.BinOp.{BinOp}
use Rattle.p10_int.specs.declared.operators.BinOp.TheVariants.{Add, Sub, Mul, Div, Rem, Shl, Shr, And, Or, Xor, Lt, Gt, Le, Ge, Eq, Ne}
use Rattle.p10_range.specs.Ranges.{Interval, from_to, IsInhabited, IsWithin, inhabited_of, meet_of}
use Rattle.p10_range.proofs.Holding.{met}
use Rattle.p10_range.proofs.Signs.{le_true, of_le}
use Rattle.p10_core.specs.Typed.{PlainVariable}
use Rattle.p10_absx.specs.Abstract.{Abstract}
use Rattle.p10_absx.specs.Environments.{Environment, known, learned}
use Rattle.p10_absx.specs.Comparing.{turned, least_dropped, greatest_dropped, allowed, Side, met_with, side_met, compared_values, compared}
use Rattle.p10_acceptance.proofs.Narrowing.{within_itself, within_trans, Fits, LiesIn, Fair, Narrower, MaybeNarrower, narrower_itself, narrower_trans, maybe_narrower_trans, learned_narrower, learned_both}

-- ## Ranges

-- where the first is there it has a number, and the second is there and has all of it
abbrev pub InRow : Option Interval → Option Interval → Type 0
InRow o p = IfSome o (λ r. IsInhabited r × IsSomeAnd p (λ s. IsWithin r s))

inhabited_row : (r s : Interval) → IsWithin r s → InRow (inhabited_of r) (inhabited_of s)
inhabited_row r s w = by_tests (int_le r.low r.high) (int_le s.low s.high) refl refl
  where
    by_tests : (b c : Bool) → int_le r.low r.high ≡ b → int_le s.low s.high ≡ c → InRow (if b then Some r else None) (if c then Some s else None)
    by_tests false c e f = tt
    by_tests true true e f = (of_le r.low r.high e, w)
    by_tests true false e f =
        let l = of_le r.low r.high e in
        let t : int_le s.low s.high ≡ true = le_true s.low s.high (omega (arith, ints, l, w.from_low, w.to_high)) in
        absurd cc

meet_row : (a b c d : Interval) → IsWithin a c → IsWithin b d → InRow (meet_of a b) (meet_of c d)
meet_row a b c d w v = inhabited_row (met a b) (met c d) (record { from_low = omega (arith, ints, clamps, w.from_low, v.from_low); to_high = omega (arith, ints, clamps, w.to_high, v.to_high) })

-- a part of the first interval alone
part_row : (r a : Interval) → IsWithin r a → IfSome (inhabited_of r) (λ r. IsInhabited r × IsWithin r a)
part_row r a w = by_test (int_le r.low r.high) refl
  where
    by_test : (b : Bool) → int_le r.low r.high ≡ b → IfSome (if b then Some r else None) (λ r. IsInhabited r × IsWithin r a)
    by_test false e = tt
    by_test true e = (of_le r.low r.high e, w)

pub meet_part : (a b : Interval) → IfSome (meet_of a b) (λ r. IsInhabited r × IsWithin r a)
meet_part a b = part_row (met a b) a (record { from_low = omega (arith, ints, clamps); to_high = omega (arith, ints, clamps) })

-- ## Comparisons

equal_of : (x y : ℤ) → int_eq x y ≡ true → x ≡ y
equal_of x y e = grind (arith, ints)

other_of : (x y : ℤ) → int_eq x y ≡ false → x ≢ y
other_of x y e = grind (arith, ints)

least_part : (z : ℤ) (a : Interval) → IsWithin (least_dropped z a) a
least_part z a = by_test (int_eq a.low z)
  where
    by_test : (b : Bool) → IsWithin (if b then from_to (a.low +ℤ pos 1) a.high else a) a
    by_test true = record { from_low = omega (arith, ints); to_high = omega (arith, ints) }
    by_test false = within_itself a

greatest_part : (z : ℤ) (a : Interval) → IsWithin (greatest_dropped z a) a
greatest_part z a = by_test (int_eq a.high z)
  where
    by_test : (b : Bool) → IsWithin (if b then from_to a.low (a.high -ℤ pos 1) else a) a
    by_test true = record { from_low = omega (arith, ints); to_high = omega (arith, ints) }
    by_test false = within_itself a

least_within : (z : ℤ) (a c : Interval) → IsWithin a c → IsWithin (least_dropped z a) (least_dropped z c)
least_within z a c w = by_tests (int_eq a.low z) (int_eq c.low z) refl refl
  where
    by_tests : (b d : Bool) → int_eq a.low z ≡ b → int_eq c.low z ≡ d → IsWithin (if b then from_to (a.low +ℤ pos 1) a.high else a) (if d then from_to (c.low +ℤ pos 1) c.high else c)
    by_tests true true e f = record { from_low = omega (arith, ints, w.from_low); to_high = w.to_high }
    by_tests false true e f =
        let s = equal_of c.low z f in
        let o = other_of a.low z e in
        record { from_low = omega (arith, ints, w.from_low, s, o); to_high = w.to_high }
    by_tests true false e f = record { from_low = omega (arith, ints, w.from_low); to_high = w.to_high }
    by_tests false false e f = w

greatest_within : (z : ℤ) (a c : Interval) → IsWithin a c → IsWithin (greatest_dropped z a) (greatest_dropped z c)
greatest_within z a c w = by_tests (int_eq a.high z) (int_eq c.high z) refl refl
  where
    by_tests : (b d : Bool) → int_eq a.high z ≡ b → int_eq c.high z ≡ d → IsWithin (if b then from_to a.low (a.high -ℤ pos 1) else a) (if d then from_to c.low (c.high -ℤ pos 1) else c)
    by_tests true true e f = record { from_low = w.from_low; to_high = omega (arith, ints, w.to_high) }
    by_tests false true e f =
        let s = equal_of c.high z f in
        let o = other_of a.high z e in
        record { from_low = w.from_low; to_high = omega (arith, ints, w.to_high, s, o) }
    by_tests true false e f = record { from_low = w.from_low; to_high = omega (arith, ints, w.to_high) }
    by_tests false false e f = w

differing_row : (a b c d : Interval) → IsInhabited a → IsInhabited b → IsWithin a c → IsWithin b d → InRow (allowed Ne a b) (allowed Ne c d)
differing_row a b c d i j w v = by_tests (int_eq b.low b.high) (int_eq d.low d.high) refl refl
  where
    dropped : ℤ → Interval → Interval
    dropped z r = greatest_dropped z (least_dropped z r)

    of_part : (o : Option Interval) → IfSome o (λ r. IsInhabited r × IsWithin r a) → InRow o (Some c)
    of_part None h = tt
    of_part (Some r) h = (h.0, within_trans r a c h.1 w)

    by_tests : (p q : Bool) → int_eq b.low b.high ≡ p → int_eq d.low d.high ≡ q →
        InRow (if p then inhabited_of (greatest_dropped b.low (least_dropped b.low a)) else Some a) (if q then inhabited_of (greatest_dropped d.low (least_dropped d.low c)) else Some c)
    by_tests true true e f =
        let s = equal_of d.low d.high f in
        let same : b.low ≡ d.low = omega (arith, ints, s, j, v.from_low, v.to_high) in
        subst (λ (z : ℤ). InRow (inhabited_of (greatest_dropped b.low (least_dropped b.low a))) (inhabited_of (greatest_dropped z (least_dropped z c)))) same
        (inhabited_row _ _ (greatest_within b.low (least_dropped b.low a) (least_dropped b.low c) (least_within b.low a c w)))
    by_tests true false e f = of_part (inhabited_of (greatest_dropped b.low (least_dropped b.low a))) (part_row _ a (within_trans _ (least_dropped b.low a) a (greatest_part b.low (least_dropped b.low a)) (least_part b.low a)))
    by_tests false true e f =
        let s = equal_of d.low d.high f in
        let o = other_of b.low b.high e in
        absurd (o (omega (arith, ints, s, j, v.from_low, v.to_high)))
    by_tests false false e f = (i, w)

pub allowed_row : (op : BinOp) (a b c d : Interval) → IsInhabited a → IsInhabited b → IsWithin a c → IsWithin b d → InRow (allowed op a b) (allowed op c d)
allowed_row Lt a b c d i j w v = inhabited_row (from_to a.low (int_min a.high (b.high -ℤ pos 1))) (from_to c.low (int_min c.high (d.high -ℤ pos 1))) (record { from_low = w.from_low; to_high = omega (arith, ints, clamps, w.to_high, v.to_high) })
allowed_row Le a b c d i j w v = inhabited_row (from_to a.low (int_min a.high b.high)) (from_to c.low (int_min c.high d.high)) (record { from_low = w.from_low; to_high = omega (arith, ints, clamps, w.to_high, v.to_high) })
allowed_row Gt a b c d i j w v = inhabited_row (from_to (int_max a.low (b.low +ℤ pos 1)) a.high) (from_to (int_max c.low (d.low +ℤ pos 1)) c.high) (record { from_low = omega (arith, ints, clamps, w.from_low, v.from_low); to_high = w.to_high })
allowed_row Ge a b c d i j w v = inhabited_row (from_to (int_max a.low b.low) a.high) (from_to (int_max c.low d.low) c.high) (record { from_low = omega (arith, ints, clamps, w.from_low, v.from_low); to_high = w.to_high })
allowed_row Eq a b c d i j w v = meet_row a b c d w v
allowed_row Ne a b c d i j w v = differing_row a b c d i j w v
allowed_row Add a b c d i j w v = (i, w)
allowed_row Sub a b c d i j w v = (i, w)
allowed_row Mul a b c d i j w v = (i, w)
allowed_row Div a b c d i j w v = (i, w)
allowed_row Rem a b c d i j w v = (i, w)
allowed_row Shl a b c d i j w v = (i, w)
allowed_row Shr a b c d i j w v = (i, w)
allowed_row And a b c d i j w v = (i, w)
allowed_row Or a b c d i j w v = (i, w)
allowed_row Xor a b c d i j w v = (i, w)

-- ## Sides

-- a side of a comparison in narrower environments: its value fits, and it is the variable that it is in the wider one
pub record SideFits (kind : IntType) (side wider : Side) : Type 0 where
  pub value : Fits kind side.value wider.value
  pub variable : is_some side.value ≡ true → IfSome wider.variable (λ n. side.variable ≡ Some n)

module _ (variables : List PlainVariable) where
  known_inside : (env : Environment) (n : ℕ) (a : Abstract) → known env n ≡ Some a → n < length env
  known_inside [] n a e = absurd (none-some _ e)
  known_inside (x ∷ env) zero a e = omega arith
  known_inside (x ∷ env) (suc n) a e = let h = known_inside env n a e in omega (arith, h)

  -- something is known of a variable that lies in an interval too: so the environment is narrower than before
  met_part : (env : Environment) (n : ℕ) (r : Interval) → Fair variables env → (o : Option Abstract) → known env n ≡ o → MaybeNarrower variables (met_with env n r o) (Some env)
  met_part env n r f None e = narrower_itself variables env f
  met_part env n r f (Some a) e = at (meet_of a.range r) (meet_part a.range r)
    where
      at : (q : Option Interval) → IfSome q (λ s. IsInhabited s × IsWithin s a.range) → MaybeNarrower variables (option_map (λ s. learned env n (record { range = s; offset = a.offset })) q) (Some env)
      at None h = tt
      at (Some s) h = learned_narrower variables env env n (record { range = s; offset = a.offset }) (narrower_itself variables env f) (known_inside env n a e)
          (λ v there. (h.0, within_trans s a.range _ h.1 (f.typed n a v e there).1)) (subst (LiesIn (Some (record { range = s; offset = a.offset }))) (sym e) h.1)

  met_narrower : (env wide : Environment) (n : ℕ) (r s : Interval) → Narrower variables env wide → IsWithin r s → (o p : Option Abstract) → known env n ≡ o → known wide n ≡ p → MaybeNarrower variables (met_with env n r o) (met_with wide n s p)
  met_narrower env wide n r s h w o None e f = maybe_wide (met_with env n r o) (met_part env n r h.fair o e)
    where
      maybe_wide : (q : Option Environment) → MaybeNarrower variables q (Some env) → MaybeNarrower variables q (Some wide)
      maybe_wide None k = tt
      maybe_wide (Some q) k = narrower_trans variables q env wide k h
  met_narrower env wide n r s h w None (Some b) e f = absurd (subst (λ (x : Option Abstract). LiesIn x (Some b)) e (subst (LiesIn (known env n)) f (h.lies n)))
  met_narrower env wide n r s h w (Some a) (Some b) e f = at (meet_of a.range r) (meet_of b.range s) (meet_row a.range r b.range s lies w) (meet_part a.range r)
    where
      lies : IsWithin a.range b.range
      lies = subst (λ (x : Option Abstract). LiesIn x (Some b)) e (subst (LiesIn (known env n)) f (h.lies n))

      at : (p q : Option Interval) → InRow p q → IfSome p (λ i. IsInhabited i × IsWithin i a.range) →
          MaybeNarrower variables (option_map (λ s. learned env n (record { range = s; offset = a.offset })) p) (option_map (λ s. learned wide n (record { range = s; offset = b.offset })) q)
      at None q k m = tt
      at (Some i) None k m = absurd k.1
      at (Some i) (Some j) k m = learned_both variables env wide n (record { range = i; offset = a.offset }) (record { range = j; offset = b.offset }) h (known_inside env n a e)
          (λ v there. (m.0, within_trans i a.range _ m.1 (h.fair.typed n a v e there).1)) k.1

  side_part : (env : Environment) (n : Option ℕ) (r : Interval) → Fair variables env → MaybeNarrower variables (side_met n r env) (Some env)
  side_part env None r f = narrower_itself variables env f
  side_part env (Some n) r f = met_part env n r f (known env n) refl

  side_narrower : (env wide : Environment) (n m : Option ℕ) (r s : Interval) → Narrower variables env wide → IsWithin r s → IfSome m (λ k. n ≡ Some k) → MaybeNarrower variables (side_met n r env) (side_met m s wide)
  side_narrower env wide n None r s h w v = at (side_met n r env) (side_part env n r h.fair)
    where
      at : (q : Option Environment) → MaybeNarrower variables q (Some env) → MaybeNarrower variables q (Some wide)
      at None k = tt
      at (Some q) k = narrower_trans variables q env wide k h
  side_narrower env wide None (Some m) r s h w v = absurd (none-some _ v)
  side_narrower env wide (Some n) (Some m) r s h w v =
      let p : n ≡ m = same_Some _ _ v in
      subst (λ (k : ℕ). MaybeNarrower variables (side_met (Some n) r env) (side_met (Some k) s wide)) p (met_narrower env wide n r s h w (known env n) (known wide n) refl refl)

  -- ## Comparisons

  values_narrower : (op : BinOp) (env wide : Environment) (i j k l : Option ℕ) (a b c d : Abstract) → Narrower variables env wide → IsInhabited a.range → IsInhabited b.range → IsWithin a.range c.range → IsWithin b.range d.range
      → IfSome k (λ m. i ≡ Some m) → IfSome l (λ m. j ≡ Some m) → MaybeNarrower variables (compared_values op i a j b env) (compared_values op k c l d wide)
  values_narrower op env wide i j k l a b c d h p q w v f g =
      first (allowed op a.range b.range) (allowed op c.range d.range) (allowed_row op a.range b.range c.range d.range p q w v)
    where
      third : (r s : Interval) → IsWithin r s → (e o : Option Environment) → MaybeNarrower variables e o → MaybeNarrower variables (option_and_then (side_met j r) e) (option_and_then (side_met l s) o)
      third r s u None o m = tt
      third r s u (Some e) None m = absurd m
      third r s u (Some e) (Some o) m = side_narrower e o j l r s m u g

      second : (r s : Interval) → IsWithin r s → (x y : Option Interval) → InRow x y →
          MaybeNarrower variables (option_and_then (λ s. option_and_then (side_met j s) (side_met i r env)) x) (option_and_then (λ t. option_and_then (side_met l t) (side_met k s wide)) y)
      second r s u None y m = tt
      second r s u (Some x) None m = absurd m.1
      second r s u (Some x) (Some y) m = third x y m.1 (side_met i r env) (side_met k s wide) (side_narrower env wide i k r s h u f)

      first : (x y : Option Interval) → InRow x y →
          MaybeNarrower variables (option_and_then (λ r. option_and_then (λ s. option_and_then (side_met j s) (side_met i r env)) (allowed (turned op) b.range a.range)) x)
          (option_and_then (λ r. option_and_then (λ s. option_and_then (side_met l s) (side_met k r wide)) (allowed (turned op) d.range c.range)) y)
      first None y m = tt
      first (Some x) None m = absurd m.1
      first (Some x) (Some y) m = second x y m.1 (allowed (turned op) b.range a.range) (allowed (turned op) d.range c.range) (allowed_row (turned op) b.range a.range d.range c.range q p v w)

  -- what is known where a comparison holds
  pub compared_narrower : (op : BinOp) (env wide : Environment) (first second : IntType) (left right wleft wright : Side) → Narrower variables env wide → SideFits first left wleft → SideFits second right wright →
      MaybeNarrower variables (compared op left right env) (compared op wleft wright wide)
  compared_narrower op env wide first second left right wleft wright h f g = at left.value right.value wleft.value wright.value f.value g.value f.variable g.variable
    where
      at : (a b c d : Option Abstract) → Fits first a c → Fits second b d → (is_some a ≡ true → IfSome wleft.variable (λ n. left.variable ≡ Some n)) → (is_some b ≡ true → IfSome wright.variable (λ n. right.variable ≡ Some n)) → MaybeNarrower variables
          (compared op (record { variable = left.variable; value = a }) (record { variable = right.variable; value = b }) env)
          (compared op (record { variable = wleft.variable; value = c }) (record { variable = wright.variable; value = d }) wide)
      at None b c d p q v w = tt
      at (Some a) None c d p q v w = tt
      at (Some a) (Some b) None d p q v w = absurd p.1
      at (Some a) (Some b) (Some c) None p q v w = absurd q.1
      at (Some a) (Some b) (Some c) (Some d) p q v w = values_narrower op env wide left.variable right.variable wleft.variable wright.variable a b c d h p.0.0 q.0.0 p.1 q.1 (v refl) (w refl)

  -- ... is narrower than before it
  pub compared_part : (op : BinOp) (env : Environment) (left right : Side) → Fair variables env → MaybeNarrower variables (compared op left right env) (Some env)
  compared_part op env left right f = at left.value right.value
    where
      third : (r : Interval) (e : Option Environment) → MaybeNarrower variables e (Some env) → MaybeNarrower variables (option_and_then (side_met right.variable r) e) (Some env)
      third r None h = tt
      third r (Some e) h = maybe_narrower_trans variables (side_met right.variable r e) (Some e) (Some env) (side_part e right.variable r h.fair) h

      second : (r : Interval) (o : Option Interval) → MaybeNarrower variables (option_and_then (λ s. option_and_then (side_met right.variable s) (side_met left.variable r env)) o) (Some env)
      second r None = tt
      second r (Some s) = third s (side_met left.variable r env) (side_part env left.variable r f)

      first : (a b : Abstract) (o : Option Interval) → MaybeNarrower variables (option_and_then (λ r. option_and_then (λ s. option_and_then (side_met right.variable s) (side_met left.variable r env)) (allowed (turned op) b.range a.range)) o) (Some env)
      first a b None = tt
      first a b (Some r) = second r (allowed (turned op) b.range a.range)

      at : (a b : Option Abstract) → MaybeNarrower variables (compared op (record { variable = left.variable; value = a }) (record { variable = right.variable; value = b }) env) (Some env)
      at None b = tt
      at (Some a) None = tt
      at (Some a) (Some b) = first a b (allowed op a.range b.range)
