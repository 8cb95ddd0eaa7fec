-- What operators and conversions give is held by what they give on abstract values, offsets included.
use Rattle.std.proofs.Common.{◌≡◌, List, ℕ, ◌/◌, ◌^◌, ◌<◌, ◌≤◌, Bool as Flag, true, false, Option, Some, None, Result, Ok, Err, refl, sym, ◌∙◌, subst, arith, ℤ, pos, negsuc, ◌+ℤ◌, ◌-ℤ◌, ◌≤ℤ◌, ◌<ℤ◌}
use Rattle.std.specs.Prelude.{◌&&◌, ◌||◌, if◌then◌else◌, int_le, int_div, IfOk, IfSome}
use Rattle.std.specs.Int.{int_div_euclid}
use Rattle.std.specs.Ordering.{int_eq}
use Rattle.std.specs.Option.{option_map, option_and_then}
use Rattle.std.proofs.lemmas.Int.{ints}
use Rattle.std.proofs.Math.Nat.{div-lt_self, div-le_self}
use Rattle.std.proofs.Math.Pow.{pow_mono}
use Rattle.p10_int.specs.declared.types.IntType.{IntType}
use Rattle.p10_int.specs.declared.operators.Stop.{Stop}
use Rattle.p10_int.specs.declared.operators.Stop.TheVariants.{U1, U2, U3}
use Rattle.p10_int.specs.declared.operators.BinOp.{BinOp}
use Rattle.p10_int.specs.declared.operators.BinOp.TheVariants.{Add, Sub, Mul, Div, Rem, Shl, Shr, And, Or, Xor, Lt, Gt, Le, Ge, Eq, Ne}
use Rattle.p10_int.specs.declared.operators.UnOp.{UnOp}
use Rattle.p10_int.specs.declared.operators.UnOp.TheVariants.{Plus, Neg, Not, Com}
use Rattle.p10_int.specs.Types.{InRange, is_signed_of, holds}
use Rattle.p10_int.specs.Conversion.{converted, reduced}
use Rattle.p10_int.specs.Operators.{fitted, quotient, is_shift_count, shifted_right, operate, operate_unary}
use Rattle.p10_int.proofs.Conversions.{converted_in, converted_keeps, reduced_keeps, zero_in}
use Rattle.p10_int.proofs.Reduced.{fitted_signed, fitted_unsigned}
use Rattle.p10_range.specs.Ranges.{Interval, IsMember, IsWithin, is_within}
use Rattle.p10_range.specs.Operands.{IsRightOperand}
use Rattle.p10_range.specs.Rows.{values_of, sums, differences, negatives, row_of, unary_row_of, conversion_row_of}
use Rattle.p10_range.specs.Laws.{HasNumber}
use Rattle.p10_range.proofs.Signs.{of_le}
use Rattle.p10_range.proofs.Small.{member_in}
use Rattle.p10_range.proofs.Holding.{value_member, sums_have, differences_have}
use Rattle.p10_range.proofs.Held.{held, held_unary, held_conversion}
use Rattle.p10_meaning.specs.Values.{Held}
use Rattle.p10_absx.specs.Abstract.{Offset, Abstract, only_range, whole_type, is_near, near, moved_by}
use Rattle.p10_absx.specs.Operators.{all_types, converted_range, converted_abstract, unary_offset, unary_abstract, is_exact, sum_offset, shrunk, shrunk_offset, binary_offset, is_right_operand, binary_abstract}
use Rattle.p10_absx.specs.Comparing.{Side}
use Rattle.p10_absx.specs.Assessing.{converted_side}
use Rattle.p10_absx.specs.Describing.{set_to, Differs, HoldsNumber, MaybeHolds}
use Rattle.p10_evaluation.proofs.Narrowing.{SideHolds}

-- ## Tests

pub both_true : (a b : Flag) → a && b ≡ true → (a ≡ true) × (b ≡ true)
both_true true b e = (refl, e)
both_true false b e = absurd cc

pub within_of : (r s : Interval) → is_within r s ≡ true → IsWithin r s
within_of r s e =
    let b : (int_le s.low r.low ≡ true) × (int_le r.high s.high ≡ true) = both_true (int_le s.low r.low) (int_le r.high s.high) e in
    record { from_low = of_le s.low r.low b.0; to_high = of_le r.high s.high b.1 }

pub in_within : (r s : Interval) (z : ℤ) → IsWithin r s → IsMember r z → IsMember s z
in_within r s z w m = record { above = omega (arith, ints, w.from_low, m.above); below = omega (arith, ints, w.to_high, m.below) }

right_operand_of : (op : BinOp) (kind : IntType) (b : Interval) → is_right_operand op kind b ≡ true → IsRightOperand op kind b
right_operand_of Shl kind b e = tt
right_operand_of Shr kind b e = tt
right_operand_of Add kind b e = within_of b (values_of kind) e
right_operand_of Sub kind b e = within_of b (values_of kind) e
right_operand_of Mul kind b e = within_of b (values_of kind) e
right_operand_of Div kind b e = within_of b (values_of kind) e
right_operand_of Rem kind b e = within_of b (values_of kind) e
right_operand_of And kind b e = within_of b (values_of kind) e
right_operand_of Or kind b e = within_of b (values_of kind) e
right_operand_of Xor kind b e = within_of b (values_of kind) e
right_operand_of Lt kind b e = within_of b (values_of kind) e
right_operand_of Gt kind b e = within_of b (values_of kind) e
right_operand_of Le kind b e = within_of b (values_of kind) e
right_operand_of Ge kind b e = within_of b (values_of kind) e
right_operand_of Eq kind b e = within_of b (values_of kind) e
right_operand_of Ne kind b e = within_of b (values_of kind) e

-- ## Offsets

-- something holds of what may be lacking
some_if : (b : Flag) (P : Offset → Type 0) (o : Option Offset) → IfSome o P → IfSome (if b then o else None) P
some_if true P o h = h
some_if false P o h = tt

near_holds : (head : List Held) (o : Offset) (z : ℤ) → Differs head o z → IfSome (near o) (λ o. Differs head o z)
near_holds head o z d = some_if (is_near o.by) (λ o. Differs head o z) (Some o) d

-- a number that differs from another one by a number of a range
moved_holds : (head : List Held) (r : Interval) (o : Offset) (x z : ℤ) → Differs head o x → IsMember r (z -ℤ x) → IfSome (moved_by r o) (λ o. Differs head o z)
moved_holds head r o x z d m = some_if (is_near o.by && is_near r) (λ o. Differs head o z) (near (record { about = o.about; by = sums o.by r }))
    (near_holds head (record { about = o.about; by = sums o.by r }) z (record { then = d.then; was = d.was; difference = moved (sums_have o.by r (x -ℤ d.then) (z -ℤ x) d.difference m) }))
  where
    moved : IsMember (sums o.by r) ((x -ℤ d.then) +ℤ (z -ℤ x)) → IsMember (sums o.by r) (z -ℤ d.then)
    moved k = let e : (x -ℤ d.then) +ℤ (z -ℤ x) ≡ z -ℤ d.then = omega (arith, ints) in subst (IsMember (sums o.by r)) e k

maybe_moved : (head : List Held) (r : Interval) (o : Option Offset) (x z : ℤ) → IfSome o (λ o. Differs head o x) → IsMember r (z -ℤ x) → IfSome (option_and_then (moved_by r) o) (λ o. Differs head o z)
maybe_moved head r None x z d m = tt
maybe_moved head r (Some o) x z d m = moved_holds head r o x z d m

-- an exact result that a type is known to have
fitted_exact : (t : IntType) (stop : Stop) (z r : ℤ) → (is_signed_of t ≡ false → InRange t z) → fitted t stop z ≡ Ok r → r ≡ z
fitted_exact t stop z r u e = by_sign (is_signed_of t) refl
  where
    held_so : (h : Flag) → (if h then Ok z else Err stop) ≡ Ok r → r ≡ z
    held_so true f = cc
    held_so false f = absurd cc

    by_sign : (s : Flag) → is_signed_of t ≡ s → r ≡ z
    by_sign true s = held_so (holds t z) (sym (fitted_signed t stop z s) ∙ e)
    by_sign false s = let f = sym (fitted_unsigned t stop z s) ∙ e in let k : reduced t z ≡ r = cc in sym k ∙ reduced_keeps t z (u s)

-- a result at a type is exact where it is signed or has the whole interval
exact_result : (t : IntType) (stop : Stop) (i : Interval) (z r : ℤ) → is_exact t i ≡ true → IsMember i z → fitted t stop z ≡ Ok r → r ≡ z
exact_result t stop i z r x m e = fitted_exact t stop z r (λ s. in_type (is_signed_of t) (is_within i (values_of t)) refl x s) e
  where
    in_type : (s w : Flag) → is_within i (values_of t) ≡ w → s || w ≡ true → s ≡ false → InRange t z
    in_type true w f x s = absurd cc
    in_type false true f x s = member_in t i z (within_of i (values_of t) f) m
    in_type false false f x s = absurd cc

sum_moved : (head : List Held) (a b : Abstract) (x y z : ℤ) → HoldsNumber head a x → HoldsNumber head b y → z ≡ x +ℤ y → IfSome (sum_offset a b) (λ o. Differs head o z)
sum_moved head a b x y z p q e = at a.offset b.offset p.offset q.offset
  where
    by_right : IsMember b.range (z -ℤ x)
    by_right = let f : y ≡ z -ℤ x = omega (arith, ints, e) in subst (IsMember b.range) f q.member

    by_left : IsMember a.range (z -ℤ y)
    by_left = let f : x ≡ z -ℤ y = omega (arith, ints, e) in subst (IsMember a.range) f p.member

    at : (o u : Option Offset) → IfSome o (λ o. Differs head o x) → IfSome u (λ o. Differs head o y) →
        IfSome (sum_offset (record { range = a.range; offset = o }) (record { range = b.range; offset = u })) (λ o. Differs head o z)
    at (Some o) u d f = moved_holds head b.range o x z d by_right
    at None (Some u) d f = moved_holds head a.range u y z f by_left
    at None None d f = tt

difference_moved : (head : List Held) (a b : Abstract) (x y z : ℤ) → HoldsNumber head a x → HoldsNumber head b y → z ≡ x -ℤ y → IfSome (option_and_then (moved_by (negatives b.range)) a.offset) (λ o. Differs head o z)
difference_moved head a b x y z p q e = maybe_moved head (negatives b.range) a.offset x z p.offset
    (record { above = omega (arith, ints, e, q.member.below); below = omega (arith, ints, e, q.member.above) })

-- ## Smaller numbers

-- what becomes of a number that an operator makes smaller
record IsShrunk (x z : ℤ) : Type 0 where
  natural : pos 0 ≤ℤ z
  less : z <ℤ x

shrunk_holds : (head : List Held) (a : Abstract) (b : Interval) (least x y z : ℤ) → HoldsNumber head a x → IsMember b y → (pos 1 ≤ℤ x → least ≤ℤ y → IsShrunk x z) →
    IfSome (shrunk_offset a b least) (λ o. Differs head o z)
shrunk_holds head a b least x y z p q h = at (int_le (pos 1) a.range.low && int_le least b.low) refl
  where
    at : (c : Flag) → int_le (pos 1) a.range.low && int_le least b.low ≡ c → IfSome (if c then option_and_then (moved_by (shrunk a.range)) a.offset else None) (λ o. Differs head o z)
    at false e = tt
    at true e =
        let t : (int_le (pos 1) a.range.low ≡ true) × (int_le least b.low ≡ true) = both_true (int_le (pos 1) a.range.low) (int_le least b.low) e in
        let one : pos 1 ≤ℤ a.range.low = of_le (pos 1) a.range.low t.0 in
        let two : least ≤ℤ b.low = of_le least b.low t.1 in
        let s : IsShrunk x z = h (omega (arith, ints, one, p.member.above)) (omega (arith, ints, two, q.above)) in
        maybe_moved head (shrunk a.range) a.offset x z p.offset (record { above = omega (arith, ints, s.natural, p.member.below); below = omega (arith, ints, s.less) })

natural_quotient : (t : IntType) (n k : ℕ) → InRange t (pos n) → InRange t (pos (n / k))
natural_quotient t n k i = let d = div-le_self n k in let z = zero_in t in record { low = omega (arith, ints, z.low); high = omega (arith, ints, d, i.high) }

halves_less : (n k : ℕ) → 1 ≤ n → 2 ≤ k → n / k < n
halves_less n k h l = div-lt_self {n = n} {k = k} (omega (arith, h)) (omega (arith, l))

quotient_shrinks : (t : IntType) (x y z : ℤ) → InRange t x → pos 1 ≤ℤ x → pos 2 ≤ℤ y → quotient t x y ≡ Ok z → IsShrunk x z
unfolding quotient
quotient_shrinks t (negsuc n) y z i h l e = absurd (omega (arith, ints, h))
quotient_shrinks t (pos n) (negsuc k) z i h l e = absurd (omega (arith, ints, l))
quotient_shrinks t (pos n) (pos k) z i h l e = by_zero (int_eq (pos k) (pos 0)) e
  where
    by_zero : (b : Flag) → (if b then Err U2 else fitted t U1 (int_div (pos n) (pos k))) ≡ Ok z → IsShrunk (pos n) z
    by_zero true e = absurd cc
    by_zero false e =
        let s : z ≡ pos (n / k) = fitted_exact t U1 (pos (n / k)) z (λ u. natural_quotient t n k i) e in
        let d : n / k < n = halves_less n k (omega (arith, ints, h)) (omega (arith, ints, l)) in
        record { natural = omega (arith, ints, s); less = omega (arith, ints, s, d) }

two_or_more : (n : ℕ) → 1 ≤ n → 2 ≤ 2 ^ n
two_or_more n h = pow_mono {i = 1} {j = n} h

shift_shrinks : (t : IntType) (x y z : ℤ) → pos 1 ≤ℤ x → pos 1 ≤ℤ y → shifted_right t x y ≡ Ok z → IsShrunk x z
unfolding shifted_right
shift_shrinks t (negsuc n) y z h l e = absurd (omega (arith, ints, h))
shift_shrinks t (pos n) (negsuc k) z h l e = absurd (omega (arith, ints, l))
shift_shrinks t (pos n) (pos k) z h l e = by_count (is_shift_count t (pos k)) e
  where
    by_count : (b : Flag) → (if b then Ok (int_div_euclid (pos n) (pos (2 ^ k))) else Err U3) ≡ Ok z → IsShrunk (pos n) z
    by_count false e = absurd cc
    by_count true e =
        let s : pos (n / (2 ^ k)) ≡ z = cc in
        let d : n / (2 ^ k) < n = halves_less n (2 ^ k) (omega (arith, ints, h)) (two_or_more k (omega (arith, ints, l))) in
        record { natural = omega (arith, ints, s); less = omega (arith, ints, s, d) }

-- ## Binary operators

exact_offset : (b : Flag) (P : Offset → Type 0) (o : Option Offset) → (b ≡ true → IfSome o P) → IfSome (if b then o else None) P
exact_offset true P o h = h refl
exact_offset false P o h = tt

offset_holds : (head : List Held) (op : BinOp) (t : IntType) (a b : Abstract) (x y z : ℤ) → HoldsNumber head a x → HoldsNumber head b y → InRange t x → operate op t x y ≡ Ok z → IfSome (binary_offset op t a b) (λ o. Differs head o z)
offset_holds head Add t a b x y z p q i e = exact_offset (is_exact t (sums a.range b.range)) (λ o. Differs head o z) (sum_offset a b)
    (λ f. sum_moved head a b x y z p q (exact_result t U1 (sums a.range b.range) (x +ℤ y) z f (sums_have a.range b.range x y p.member q.member) e))
offset_holds head Sub t a b x y z p q i e = exact_offset (is_exact t (differences a.range b.range)) (λ o. Differs head o z) (option_and_then (moved_by (negatives b.range)) a.offset)
    (λ f. difference_moved head a b x y z p q (exact_result t U1 (differences a.range b.range) (x -ℤ y) z f (differences_have a.range b.range x y p.member q.member) e))
offset_holds head Div t a b x y z p q i e = shrunk_holds head a b.range (pos 2) x y z p q.member (λ h l. quotient_shrinks t x y z i h l e)
offset_holds head Shr t a b x y z p q i e = shrunk_holds head a b.range (pos 1) x y z p q.member (λ h l. shift_shrinks t x y z h l e)
offset_holds head Mul t a b x y z p q i e = tt
offset_holds head Rem t a b x y z p q i e = tt
offset_holds head Shl t a b x y z p q i e = tt
offset_holds head And t a b x y z p q i e = tt
offset_holds head Or t a b x y z p q i e = tt
offset_holds head Xor t a b x y z p q i e = tt
offset_holds head Lt t a b x y z p q i e = tt
offset_holds head Gt t a b x y z p q i e = tt
offset_holds head Le t a b x y z p q i e = tt
offset_holds head Ge t a b x y z p q i e = tt
offset_holds head Eq t a b x y z p q i e = tt
offset_holds head Ne t a b x y z p q i e = tt

-- a number of a range, with what is known of its offset
with_offset : (head : List Held) (row : Option Interval) (o : Option Offset) (z : ℤ) → HasNumber row z → IfSome o (λ o. Differs head o z) → MaybeHolds head (option_map (λ r. record { range = r; offset = o }) row) z
with_offset head None o z m d = absurd m
with_offset head (Some r) o z m d = record { member = m; offset = d }

pub whole_holds : (head : List Held) (t : IntType) (z : ℤ) → InRange t z → HoldsNumber head (whole_type t) z
whole_holds head t z i = record { member = value_member t z i; offset = tt }

-- a fact of a result, where there is one
pub of_ok : (P : ℤ → Type 0) (r : Result ℤ Stop) (z : ℤ) → r ≡ Ok z → IfOk {E = Stop} r P → P z
of_ok P r z e h = subst (λ (o : Result ℤ Stop). IfOk {E = Stop} o P) e h

pub binary_holds : (head : List Held) (op : BinOp) (t : IntType) (a b : Abstract) (x y z : ℤ) → HoldsNumber head a x → HoldsNumber head b y → InRange t z → operate op t x y ≡ Ok z → MaybeHolds head (binary_abstract op t a b) z
binary_holds head op t a b x y z p q i e = at (is_within a.range (values_of t) && is_right_operand op t b.range) refl
  where
    at : (c : Flag) → is_within a.range (values_of t) && is_right_operand op t b.range ≡ c →
        MaybeHolds head (if c then option_map (λ r. record { range = r; offset = binary_offset op t a b }) (row_of op t a.range b.range) else Some (whole_type t)) z
    at false f = whole_holds head t z i
    at true f =
        let g : (is_within a.range (values_of t) ≡ true) × (is_right_operand op t b.range ≡ true) = both_true (is_within a.range (values_of t)) (is_right_operand op t b.range) f in
        let w : IsWithin a.range (values_of t) = within_of a.range (values_of t) g.0 in
        with_offset head (row_of op t a.range b.range) (binary_offset op t a b) z
        (of_ok (HasNumber (row_of op t a.range b.range)) (operate op t x y) z e (held op t a.range b.range x y w (right_operand_of op t b.range g.1) p.member q.member))
        (offset_holds head op t a b x y z p q (member_in t a.range x w p.member) e)

-- ## Unary operators

unary_offset_holds : (head : List Held) (op : UnOp) (t : IntType) (o : Option Offset) (x z : ℤ) → IfSome o (λ o. Differs head o x) → operate_unary op t x ≡ Ok z → IfSome (unary_offset op o) (λ o. Differs head o z)
unary_offset_holds head Plus t o x z d e = let s : x ≡ z = cc in subst (λ (z : ℤ). IfSome o (λ o. Differs head o z)) s d
unary_offset_holds head Neg t o x z d e = tt
unary_offset_holds head Not t o x z d e = tt
unary_offset_holds head Com t o x z d e = tt

pub unary_holds : (head : List Held) (op : UnOp) (t : IntType) (a : Abstract) (x z : ℤ) → HoldsNumber head a x → InRange t z → operate_unary op t x ≡ Ok z → MaybeHolds head (unary_abstract op t a) z
unary_holds head op t a x z p i e = at (is_within a.range (values_of t)) refl
  where
    at : (c : Flag) → is_within a.range (values_of t) ≡ c → MaybeHolds head (if c then option_map (λ r. record { range = r; offset = unary_offset op a.offset }) (unary_row_of op t a.range) else Some (whole_type t)) z
    at false f = whole_holds head t z i
    at true f = with_offset head (unary_row_of op t a.range) (unary_offset op a.offset) z
        (of_ok (HasNumber (unary_row_of op t a.range)) (operate_unary op t x) z e (held_unary op t a.range x (within_of a.range (values_of t) f) p.member))
        (unary_offset_holds head op t a.offset x z p.offset e)

-- ## Conversions

range_converted : (t : IntType) (r : Interval) (x : ℤ) → IsMember r x → IsMember (converted_range t r) (converted t x)
range_converted t r x m = at (is_within r all_types)
  where
    at : (c : Flag) → IsMember (if c then conversion_row_of t r else values_of t) (converted t x)
    at true = held_conversion t r x m
    at false = value_member t (converted t x) (converted_in t x)

pub converted_holds : (head : List Held) (t : IntType) (a : Abstract) (x : ℤ) → HoldsNumber head a x → HoldsNumber head (converted_abstract t a) (converted t x)
converted_holds head t a x p = at (is_within a.range (values_of t)) refl
  where
    at : (c : Flag) → is_within a.range (values_of t) ≡ c → HoldsNumber head (if c then a else only_range (converted_range t a.range)) (converted t x)
    at true e = subst (HoldsNumber head a) (sym (converted_keeps t x (member_in t a.range x (within_of a.range (values_of t) e) p.member))) p
    at false e = record { member = range_converted t a.range x p.member; offset = tt }

-- a side that is converted
pub side_converted : (head held : List Held) (t : IntType) (side : Side) (x : ℤ) → SideHolds head held side x → SideHolds head held (converted_side t side) (converted t x)
side_converted head held t side x p = at side.value p.value
  where
    same_variable : (a : Abstract) → HoldsNumber head a x → (c : Flag) → is_within a.range (values_of t) ≡ c → IfSome (if c then side.variable else None) (λ n. set_to held n ≡ Some (converted t x))
    same_variable a h false e = tt
    same_variable a h true e = subst (λ (z : ℤ). IfSome side.variable (λ n. set_to held n ≡ Some z)) (sym (converted_keeps t x (member_in t a.range x (within_of a.range (values_of t) e) h.member))) p.variable

    at : (o : Option Abstract) → MaybeHolds head o x → SideHolds head held (converted_side t (record { variable = side.variable; value = o })) (converted t x)
    at None h = absurd h
    at (Some a) h = record { variable = same_variable a h (is_within a.range (values_of t)) refl; value = converted_holds head t a x h }
