-- What is known of a frame where a comparison holds describes it.
use Rattle.std.proofs.Common.{◌≡◌, ◌≢◌, ℕ, Bool, true, false, List, Option, Some, None, refl, ap, sym, ◌∙◌, subst, inl, inr, arith, ℤ, pos, ◌+ℤ◌, ◌-ℤ◌, ◌≤ℤ◌, ◌<ℤ◌}
use Rattle.std.specs.Prelude.{slice_get, if◌then◌else◌, ◌⊎◌, IfSome}
use Rattle.std.specs.Option.{option_map, option_and_then}
use Rattle.std.specs.Ordering.{int_eq}
use Rattle.std.proofs.lemmas.Option.{same_Some}
use Rattle.std.proofs.lemmas.Int.{ints, clamps}
use Rattle.p10_int.specs.declared.operators.BinOp.{BinOp}
use Rattle.p10_int.specs.declared.operators.BinOp.TheVariants.{Add, Sub, Mul, Div, Rem, Shl, Shr, And, Or, Xor, Lt, Gt, Le, Ge, Eq, Ne}
use Rattle.p10_range.specs.Ranges.{Interval, IsMember, from_to, inhabited_of, meet_of}
use Rattle.p10_range.specs.Rows.{values_of}
use Rattle.p10_range.specs.Laws.{HasNumber}
use Rattle.p10_range.proofs.Holding.{inhabited_is, met, met_has, meet_is, has_some}
use Rattle.p10_core.specs.Constants.{integer_of}
use Rattle.p10_core.specs.Typed.{PlainVariable}
use Rattle.p10_meaning.specs.Values.{Held}
use Rattle.p10_absx.specs.Abstract.{Abstract}
use Rattle.p10_absx.specs.Environments.{Environment, known_in, known, learned}
use Rattle.p10_absx.specs.Comparing.{turned, least_dropped, greatest_dropped, allowed, Side, met_with, side_met, compared_values, compared}
use Rattle.p10_absx.specs.Describing.{set_to, HoldsNumber, DescribesOne, DescribesVariable, Describes, MaybeDescribes, MaybeHolds}
use Rattle.p10_absx.proofs.Entries.{got_after}

-- ## Comparisons of numbers

pub equal_of : (x y : ℤ) → int_eq x y ≡ true → x ≡ y
equal_of x y e = grind (arith, ints)

pub other_of : (x y : ℤ) → int_eq x y ≡ false → x ≢ y
other_of x y e = grind (arith, ints)

-- a comparison holds of two numbers; of other operators nothing is said
abbrev pub Compares : BinOp → ℤ → ℤ → Type 0
Compares Lt x y = x <ℤ y
Compares Gt x y = y <ℤ x
Compares Le x y = x ≤ℤ y
Compares Ge x y = y ≤ℤ x
Compares Eq x y = x ≡ y
Compares Ne x y = x ≢ y
Compares op x y = Unit {0}

turned_compares : (op : BinOp) (x y : ℤ) → Compares op x y → Compares (turned op) y x
turned_compares Lt x y h = h
turned_compares Gt x y h = h
turned_compares Le x y h = h
turned_compares Ge x y h = h
turned_compares Eq x y h = sym h
turned_compares Ne x y h = λ e. h (sym e)
turned_compares Add x y h = tt
turned_compares Sub x y h = tt
turned_compares Mul x y h = tt
turned_compares Div x y h = tt
turned_compares Rem x y h = tt
turned_compares Shl x y h = tt
turned_compares Shr x y h = tt
turned_compares And x y h = tt
turned_compares Or x y h = tt
turned_compares Xor x y h = tt

-- ## Ranges

has_inhabited : (r : Interval) (z : ℤ) → IsMember r z → HasNumber (inhabited_of r) z
has_inhabited r z m = has_some (inhabited_of r) r z (inhabited_is r z m) m

has_meet : (r s : Interval) (z : ℤ) → IsMember r z → IsMember s z → HasNumber (meet_of r s) z
has_meet r s z m n = has_some (meet_of r s) (met r s) z (meet_is r s z m n) (met_has r s z m n)

in_least_dropped : (z : ℤ) (r : Interval) (x : ℤ) → x ≢ z → IsMember r x → IsMember (least_dropped z r) x
in_least_dropped z r x o m = at (int_eq r.low z) refl
  where
    at : (b : Bool) → int_eq r.low z ≡ b → IsMember (if b then from_to (r.low +ℤ pos 1) r.high else r) x
    at true e = let s : r.low ≡ z = equal_of r.low z e in record { above = omega (arith, ints, m.above, o, s); below = m.below }
    at false e = m

in_greatest_dropped : (z : ℤ) (r : Interval) (x : ℤ) → x ≢ z → IsMember r x → IsMember (greatest_dropped z r) x
in_greatest_dropped z r x o m = at (int_eq r.high z) refl
  where
    at : (b : Bool) → int_eq r.high z ≡ b → IsMember (if b then from_to r.low (r.high -ℤ pos 1) else r) x
    at true e = let s : r.high ≡ z = equal_of r.high z e in record { above = m.above; below = omega (arith, ints, m.below, o, s) }
    at false e = m

allows_other : (a b : Interval) (x y : ℤ) → x ≢ y → IsMember a x → IsMember b y → HasNumber (allowed Ne a b) x
allows_other a b x y o p q = at (int_eq b.low b.high) refl
  where
    at : (c : Bool) → int_eq b.low b.high ≡ c → HasNumber (if c then inhabited_of (greatest_dropped b.low (least_dropped b.low a)) else Some a) x
    at true e =
        let s : b.low ≡ b.high = equal_of b.low b.high e in
        let t : y ≡ b.low = omega (arith, ints, s, q.above, q.below) in
        let n : x ≢ b.low = λ f. o (f ∙ sym t) in
        has_inhabited _ x (in_greatest_dropped b.low (least_dropped b.low a) x n (in_least_dropped b.low a x n p))
    at false e = p

-- a number that stands in a comparison with one of an interval is allowed
pub allows : (op : BinOp) (a b : Interval) (x y : ℤ) → Compares op x y → IsMember a x → IsMember b y → HasNumber (allowed op a b) x
allows Lt a b x y h p q = let l : x <ℤ y = h in has_inhabited _ x (record { above = p.above; below = omega (arith, ints, clamps, l, p.below, q.below) })
allows Le a b x y h p q = let l : x ≤ℤ y = h in has_inhabited _ x (record { above = p.above; below = omega (arith, ints, clamps, l, p.below, q.below) })
allows Gt a b x y h p q = let l : y <ℤ x = h in has_inhabited _ x (record { above = omega (arith, ints, clamps, l, p.above, q.above); below = p.below })
allows Ge a b x y h p q = let l : y ≤ℤ x = h in has_inhabited _ x (record { above = omega (arith, ints, clamps, l, p.above, q.above); below = p.below })
allows Eq a b x y h p q = has_meet a b x p (subst (IsMember b) (sym h) q)
allows Ne a b x y h p q = allows_other a b x y h p q
allows Add a b x y h p q = p
allows Sub a b x y h p q = p
allows Mul a b x y h p q = p
allows Div a b x y h p q = p
allows Rem a b x y h p q = p
allows Shl a b x y h p q = p
allows Shr a b x y h p q = p
allows And a b x y h p q = p
allows Or a b x y h p q = p
allows Xor a b x y h p q = p

-- ## What is learned

-- what is known after something was learned of a variable is that, or what was known
known_cases : (env : Environment) (n m : ℕ) (a x : Abstract) → known (learned env n a) m ≡ Some x → ((m ≡ n) × (x ≡ a)) ⊎ (known env m ≡ Some x)
known_cases env n m a x e = at (slice_get (learned env n a) m) refl e
  where
    at : (o : Option (Option Abstract)) → slice_get (learned env n a) m ≡ o → known_in o ≡ Some x → ((m ≡ n) × (x ≡ a)) ⊎ (known env m ≡ Some x)
    at None s e = absurd cc
    at (Some y) s e = cases (got_after env n m (Some a) y s) e
      where
        cases : ((m ≡ n) × (y ≡ Some a)) ⊎ ((m ≡ n → ⊥) × (slice_get env m ≡ Some y)) → y ≡ Some x → ((m ≡ n) × (x ≡ a)) ⊎ (known env m ≡ Some x)
        cases (inl p) e = inl (p.0, same_Some _ _ (sym e ∙ p.1))
        cases (inr p) e = inr (ap known_in p.1 ∙ e)

-- something is learned of a variable that describes it
pub learned_describes : (variables : List PlainVariable) (env : Environment) (head held : List Held) (n : ℕ) (a : Abstract) → Describes variables env head held → DescribesVariable variables head held n a →
    Describes variables (learned env n a) head held
learned_describes variables env head held n a d v = record {
  each = λ m x e. elim (known_cases env n m a x e) [
    | inl p ↦ subst (λ (k : ℕ). DescribesVariable variables head held k x) (sym p.0) (subst (λ y. DescribesVariable variables head held n y) (sym p.1) v)
    | inr p ↦ d.each m x p
  ];
}

-- ## Sides

-- a side of a comparison is right of a number: a variable that it is holds the number, and its value does
pub record SideHolds (head held : List Held) (side : Side) (z : ℤ) : Type 0 where
  pub variable : IfSome side.variable (λ n. set_to held n ≡ Some z)
  pub value : MaybeHolds head side.value z

-- what is known of a variable that holds a number
pub holds_known : (head : List Held) (all : Interval) (n : ℕ) (a : Abstract) (o : Option ℤ) (z : ℤ) → o ≡ Some z → DescribesOne head all n a o → HoldsNumber head a z
holds_known head all n a None z e d = absurd cc
holds_known head all n a (Some y) z e d = subst (HoldsNumber head a) (same_Some _ _ e) d

meets : (variables : List PlainVariable) (env : Environment) (head held : List Held) (n : ℕ) (r : Interval) (z : ℤ) → Describes variables env head held → set_to held n ≡ Some z → IsMember r z →
    (o : Option Abstract) → known env n ≡ o → MaybeDescribes variables (met_with env n r o) head held
meets variables env head held n r z d s m None e = d
meets variables env head held n r z d s m (Some a) e = at (meet_of a.range r) (has_meet a.range r z now.member m)
  where
    there : DescribesVariable variables head held n a
    there = d.each n a e

    now : HoldsNumber head a z
    now = holds_known head _ n a (set_to held n) z s there.describes

    narrowed : (i : Interval) → IsMember i z → DescribesOne head (values_of (integer_of there.variable.type)) n (record { range = i; offset = a.offset }) (set_to held n)
    narrowed i k = subst (DescribesOne head _ n (record { range = i; offset = a.offset })) (sym s) (record { member = k; offset = now.offset })

    at : (o : Option Interval) → HasNumber o z → MaybeDescribes variables (option_map (λ s. learned env n (record { range = s; offset = a.offset })) o) head held
    at None k = absurd k
    at (Some i) k = learned_describes variables env head held n (record { range = i; offset = a.offset }) d
        (record { variable = there.variable; there = there.there; frame = there.frame; no_object = there.no_object; describes = narrowed i k })

side_meets : (variables : List PlainVariable) (env : Environment) (head held : List Held) (side : Option ℕ) (r : Interval) (z : ℤ) → Describes variables env head held → IfSome side (λ n. set_to held n ≡ Some z) → IsMember r z →
    MaybeDescribes variables (side_met side r env) head held
side_meets variables env head held None r z d s m = d
side_meets variables env head held (Some n) r z d s m = meets variables env head held n r z d s m (known env n) refl

values_describe : (variables : List PlainVariable) (env : Environment) (head held : List Held) (op : BinOp) (left right : Option ℕ) (a b : Abstract) (x y : ℤ) → Describes variables env head held →
    IfSome left (λ n. set_to held n ≡ Some x) → IfSome right (λ n. set_to held n ≡ Some y) → HoldsNumber head a x → HoldsNumber head b y → Compares op x y →
    MaybeDescribes variables (compared_values op left a right b env) head held
values_describe variables env head held op left right a b x y d l r p q h =
    first (allowed op a.range b.range) (allows op a.range b.range x y h p.member q.member)
  where
    third : (s : Interval) → IsMember s y → (e : Option Environment) → MaybeDescribes variables e head held → MaybeDescribes variables (option_and_then (side_met right s) e) head held
    third s n None k = absurd k
    third s n (Some e) k = side_meets variables e head held right s y k r n

    second : (i : Interval) → IsMember i x → (o : Option Interval) → HasNumber o y → MaybeDescribes variables (option_and_then (λ s. option_and_then (side_met right s) (side_met left i env)) o) head held
    second i m None k = absurd k
    second i m (Some s) k = third s k (side_met left i env) (side_meets variables env head held left i x d l m)

    first : (o : Option Interval) → HasNumber o x →
        MaybeDescribes variables (option_and_then (λ r. option_and_then (λ s. option_and_then (side_met right s) (side_met left r env)) (allowed (turned op) b.range a.range)) o) head held
    first None k = absurd k
    first (Some i) k = second i k (allowed (turned op) b.range a.range) (allows (turned op) b.range a.range y x (turned_compares op x y h) q.member p.member)

-- what is known where a comparison of two sides holds describes the frame
pub compared_describes : (variables : List PlainVariable) (env : Environment) (head held : List Held) (op : BinOp) (left right : Side) (x y : ℤ) → Describes variables env head held →
    SideHolds head held left x → SideHolds head held right y → Compares op x y → MaybeDescribes variables (compared op left right env) head held
compared_describes variables env head held op left right x y d l r h = at left.value right.value l.value r.value
  where
    at : (a b : Option Abstract) → MaybeHolds head a x → MaybeHolds head b y →
        MaybeDescribes variables (compared op (record { variable = left.variable; value = a }) (record { variable = right.variable; value = b }) env) head held
    at None b p q = absurd p
    at (Some a) None p q = absurd q
    at (Some a) (Some b) p q = values_describe variables env head held op left.variable right.variable a b x y d l.variable r.variable p q h
