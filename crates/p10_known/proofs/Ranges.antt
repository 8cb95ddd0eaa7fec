-- What operators give on ranges of types are ranges of types.
use Rattle.std.proofs.Common.{◌≡◌, Bool, true, false, Option, Some, None, refl, sym, subst, arith, ℤ, pos}
use Rattle.std.specs.Prelude.{◌&&◌, if◌then◌else◌, IfSome}
use Rattle.std.specs.Option.{option_map, option_and_then}
use Rattle.std.proofs.lemmas.Int.{ints, clamps}
use Rattle.p10_int.specs.declared.types.IntType.{IntType}
use Rattle.p10_int.specs.declared.operators.BinOp.{BinOp}
use Rattle.p10_int.specs.declared.operators.BinOp.TheVariants.{Add, Sub, Mul, Div, Rem, Shl, Shr, And, Or, Xor, Lt, Gt, Le, Ge, Eq, Ne}
use Rattle.p10_int.specs.declared.operators.UnOp.{UnOp}
use Rattle.p10_int.specs.Types.{InRange}
use Rattle.p10_int.proofs.Conversions.{zero_in, one_in}
use Rattle.p10_range.specs.Ranges.{Interval, from_to, IsInhabited, IsWithin, is_within, hull_of, meet_of}
use Rattle.p10_range.specs.Rows.{values_of, row_of, unary_row_of, conversion_row_of}
use Rattle.p10_range.specs.Operands.{IsRightOperand}
use Rattle.p10_range.specs.Laws.{IsOfType}
use Rattle.p10_range.proofs.Ends.{hull_least}
use Rattle.p10_range.proofs.Growing.{within_itself, inhabited_gives}
use Rattle.p10_range.proofs.Holding.{met}
use Rattle.p10_range.proofs.Typed.{typed, typed_unary, typed_conversion}
use Rattle.p10_absx.specs.Abstract.{Offset, Abstract, only_range, whole_type}
use Rattle.p10_absx.specs.Operators.{all_types, converted_range, converted_abstract, unary_offset, unary_abstract, is_right_operand, binary_offset, binary_abstract}
use Rattle.p10_absx.proofs.Nearness.{both_true, within_in}

-- ## Types

pub all_of_type : (t : IntType) → IsOfType t (values_of t)
all_of_type t = let z = zero_in t in (omega (arith, ints, z.low, z.high), within_itself (values_of t))

-- a number of a type
pub number_of_type : (t : IntType) (z : ℤ) → InRange t z → IsOfType t (from_to z z)
number_of_type t z h = (omega (arith, ints), record { from_low = h.low; to_high = h.high })

pub truth_of_type : (t : IntType) (first second : Bool) → IsOfType t (if first then (if second then from_to (pos 0) (pos 1) else from_to (pos 1) (pos 1)) else from_to (pos 0) (pos 0))
truth_of_type t true true = (omega (arith, ints), record { from_low = (zero_in t).low; to_high = (one_in t).high })
truth_of_type t true false = number_of_type t (pos 1) (one_in t)
truth_of_type t false second = number_of_type t (pos 0) (zero_in t)

-- ## Hulls and meetings

pub hull_of_type : (t : IntType) (r s : Interval) → IsOfType t r → IsOfType t s → IsOfType t (hull_of r s)
hull_of_type t r s h k = (omega (arith, ints, clamps, h.0, k.0), hull_least r s (values_of t) h.1 k.1)

pub met_of_type : (t : IntType) (r s q : Interval) → IsOfType t r → meet_of r s ≡ Some q → IsOfType t q
met_of_type t r s q h e =
    let g = inhabited_gives (met r s) q e in
    (g.1, subst (λ (i : Interval). IsWithin i (values_of t)) (sym g.0) (record { from_low = omega (arith, ints, clamps, h.1.from_low); to_high = omega (arith, ints, clamps, h.1.to_high) }))

-- ## Abstract values

-- an abstract value whose range is of a type
abbrev pub Has : IntType → Abstract → Type 0
Has t a = IsOfType t a.range

-- the same where there may be none
abbrev pub MaybeHas : IntType → Option Abstract → Type 0
MaybeHas t o = IfSome o (Has t)

-- an abstract value with a number
abbrev pub IsSome : Abstract → Type 0
IsSome a = IsInhabited a.range

pub converted_of_type : (t : IntType) (a : Abstract) → IsSome a → Has t (converted_abstract t a)
converted_of_type t a h = at (is_within a.range (values_of t)) refl
  where
    ranged : (c : Bool) → IsOfType t (if c then conversion_row_of t a.range else values_of t)
    ranged true = typed_conversion t a.range h
    ranged false = all_of_type t

    at : (c : Bool) → is_within a.range (values_of t) ≡ c → Has t (if c then a else only_range (converted_range t a.range))
    at true e = (h, within_in a.range (values_of t) e)
    at false e = ranged (is_within a.range all_types)

-- something of what an operator gives, with an offset
row_has : (t : IntType) (offset : Option Offset) (row : Option Interval) → IfSome row (IsOfType t) → MaybeHas t (option_map (λ r. record { range = r; offset = offset }) row)
row_has t offset None h = tt
row_has t offset (Some r) h = h

pub unary_of_type : (op : UnOp) (t : IntType) (a : Abstract) → IsSome a → MaybeHas t (unary_abstract op t a)
unary_of_type op t a h = at (is_within a.range (values_of t)) refl
  where
    at : (c : Bool) → is_within a.range (values_of t) ≡ c → MaybeHas t (if c then option_map (λ r. record { range = r; offset = unary_offset op a.offset }) (unary_row_of op t a.range) else Some (whole_type t))
    at true e = row_has t (unary_offset op a.offset) (unary_row_of op t a.range) (typed_unary op t a.range h (within_in a.range (values_of t) e))
    at false e = all_of_type t

right_operand : (op : BinOp) (t : IntType) (b : Interval) → is_right_operand op t b ≡ true → IsRightOperand op t b
right_operand Shl t b e = tt
right_operand Shr t b e = tt
right_operand Add t b e = within_in b (values_of t) e
right_operand Sub t b e = within_in b (values_of t) e
right_operand Mul t b e = within_in b (values_of t) e
right_operand Div t b e = within_in b (values_of t) e
right_operand Rem t b e = within_in b (values_of t) e
right_operand And t b e = within_in b (values_of t) e
right_operand Or t b e = within_in b (values_of t) e
right_operand Xor t b e = within_in b (values_of t) e
right_operand Lt t b e = within_in b (values_of t) e
right_operand Gt t b e = within_in b (values_of t) e
right_operand Le t b e = within_in b (values_of t) e
right_operand Ge t b e = within_in b (values_of t) e
right_operand Eq t b e = within_in b (values_of t) e
right_operand Ne t b e = within_in b (values_of t) e

pub binary_of_type : (op : BinOp) (t : IntType) (a b : Abstract) → IsSome a → IsSome b → MaybeHas t (binary_abstract op t a b)
binary_of_type op t a b h k = at (is_within a.range (values_of t) && is_right_operand op t b.range) refl
  where
    at : (c : Bool) → is_within a.range (values_of t) && is_right_operand op t b.range ≡ c
        → MaybeHas t (if c then option_map (λ r. record { range = r; offset = binary_offset op t a b }) (row_of op t a.range b.range) else Some (whole_type t))
    at true e =
        let both = both_true (is_within a.range (values_of t)) (is_right_operand op t b.range) e in
        row_has t (binary_offset op t a b) (row_of op t a.range b.range) (typed op t a.range b.range h k (within_in a.range (values_of t) both.0) (right_operand op t b.range both.1))
    at false e = all_of_type t

-- what holds of a value that may be lacking, by what holds of it
pub then_has : (t : IntType) (o : Option Abstract) (f : Abstract → Option Abstract) → IfSome o IsSome → ((a : Abstract) → IsSome a → MaybeHas t (f a)) → MaybeHas t (option_and_then f o)
then_has t None f h k = tt
then_has t (Some a) f h k = k a h

pub some_has : (t : IntType) (o : Option Abstract) → MaybeHas t o → IfSome o IsSome
some_has t None h = tt
some_has t (Some a) h = h.0

pub both_have : (op : BinOp) (t : IntType) (a b : Option Abstract) → IfSome a IsSome → IfSome b IsSome → MaybeHas t (option_and_then (λ a. option_and_then (λ b. binary_abstract op t a b) b) a)
both_have op t a b h k = then_has t a _ h (λ a i. then_has t b _ k (λ b j. binary_of_type op t a b i j))
