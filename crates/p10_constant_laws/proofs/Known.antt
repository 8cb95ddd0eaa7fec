-- Of an expression of constants its one value is known.
use Rattle.std.proofs.Common.{◌≡◌, true, false, Bool, ap, ◌∙◌, ℤ, pos, neg_ℤ, ◌+ℤ◌, ◌-ℤ◌, ◌*ℤ◌, refl, Option, Some, None, Ok}
use Rattle.std.specs.Prelude.{◌&&◌, if◌then◌else◌, int_le}
use Rattle.std.specs.Option.{option_map}
use Rattle.p10_int.specs.declared.types.IntType.{IntType}
use Rattle.p10_int.specs.declared.operators.BinOp.{BinOp}
use Rattle.p10_int.specs.declared.operators.BinOp.TheVariants.{Add, Sub, Mul, Div, Shl, Shr}
use Rattle.p10_int.specs.declared.operators.UnOp.TheVariants.{Plus, Neg, Com}
use Rattle.p10_int.specs.Types.{InRange, least_of, greatest_of}
use Rattle.p10_int.specs.Operators.{operate_unary}
use Rattle.p10_range.specs.Ranges.{Interval, is_within}
use Rattle.p10_range.specs.Rows.{values_of, sums, differences, remainders, row_of, unary_row_of}
use Rattle.p10_range.proofs.Signs.{le_true}
use Rattle.p10_range_laws.specs.Constants.{single}
use Rattle.p10_range_laws.proofs.Constants.{constants_give_constants}
use Rattle.p10_range_laws.proofs.OtherConstants.{other_constants_give_constants}
use Rattle.p10_core.specs.Types.{PlainType, integer}
use Rattle.p10_core.specs.Typed.{PlainValue, value, constant, convert, unary, binary, type_of}
use Rattle.p10_core.specs.Rows.{is_integer}
use Rattle.p10_cert.specs.Claims.{Claims}
use Rattle.p10_absx.specs.Abstract.{Offset, Abstract, only_range, whole_type}
use Rattle.p10_absx.specs.Environments.{Environment}
use Rattle.p10_absx.specs.Operators.{converted_range, is_exact, is_right_operand, binary_offset}
use Rattle.p10_absx.specs.Comparing.{is_comparison}
use Rattle.p10_absx.specs.Assessing.{Assessed, a_scalar, value_found, as_side, found_of, converted_found, unary_assessed, arithmetic_found, comparison_found, are_integers, binary_found, assess}
use Rattle.p10_constant_laws.specs.Constants.{HasConstant, of_constant, of_conversion, of_sign, of_negation, of_sum, of_difference, of_product, of_shift, of_quotient, of_left_shift, of_complement, ConstantsAreKnown, RemaindersAreRanges}

-- what is found of an integer that is one number
abbrev found : ℤ → Assessed
found z = a_scalar true (record { variable = None; value = Some (only_range (single z)) })

-- what is found of an integer of a type
abbrev given : IntType → Option Abstract → Assessed
given i a = found_of (integer false i) a

both : (c d : Bool) → c ≡ true → d ≡ true → c && d ≡ true
both true true c d = refl
both true false c d = absurd cc
both false d c e = absurd cc

within : (i : IntType) (z : ℤ) → InRange i z → is_within (single z) (values_of i) ≡ true
within i z v = both (int_le (least_of i) z) (int_le z (greatest_of i)) (le_true _ _ v.low) (le_true _ _ v.high)

-- ## Unary operators and conversions

sign_found : (env : Environment) (i : IntType) (z : ℤ) → InRange i z → unary_assessed Plus (integer false i) env (found z) ≡ found z
sign_found env i z v =
    ap (λ (b : Bool). found_of (integer false i) (if b then option_map (λ (r : Interval). record { range = r; offset = None }) (Some (single z)) else Some (whole_type i))) (within i z v)

negation_found : (env : Environment) (i : IntType) (z : ℤ) → InRange i z → InRange i (neg_ℤ z) → unary_assessed Neg (integer false i) env (found z) ≡ found (neg_ℤ z)
negation_found env i z v u =
    ap (λ (b : Bool). found_of (integer false i) (if b then option_map (λ (r : Interval). record { range = r; offset = None }) (unary_row_of Neg i (single z)) else Some (whole_type i))) (within i z v)
    ∙ ap (λ (row : Option Interval). found_of (integer false i) (option_map (λ (r : Interval). record { range = r; offset = None }) row)) (constants_give_constants.negations i z u)

complement_found : (env : Environment) (i : IntType) (x z : ℤ) → InRange i x → operate_unary Com i x ≡ Ok z → unary_assessed Com (integer false i) env (found x) ≡ found z
complement_found env i x z v e =
    ap (λ (b : Bool). found_of (integer false i) (if b then option_map (λ (r : Interval). record { range = r; offset = None }) (unary_row_of Com i (single x)) else Some (whole_type i))) (within i x v)
    ∙ ap (λ (row : Option Interval). found_of (integer false i) (option_map (λ (r : Interval). record { range = r; offset = None }) row)) (other_constants_give_constants.complements i x z v e)

conversion_found : (i : IntType) (z : ℤ) → InRange i z → converted_found (integer false i) (as_side (found z)) ≡ found z
conversion_found i z v =
    ap (λ (b : Bool). a_scalar true (record { variable = if b then None else None; value = Some (if b then only_range (single z) else only_range (converted_range i (single z))) })) (within i z v)

-- ## Binary operators

if_none : {A : Type 0} (b : Bool) (o : Option A) → o ≡ None → (if b then o else None) ≡ None
if_none true o e = e
if_none false o e = refl

-- the row of an operator as an abstract value
abbrev of_row : BinOp → IntType → ℤ → ℤ → Option Interval → Option Abstract
of_row op i x y row = option_map (λ (r : Interval). record { range = r; offset = binary_offset op i (only_range (single x)) (only_range (single y)) }) row

-- an operator that isn't a comparison, on operands of one number each, whose row has one number
binary_one : (op : BinOp) (env : Environment) (i : IntType) (x y z : ℤ) → is_comparison op ≡ false → InRange i x → is_right_operand op i (single y) ≡ true → binary_offset op i (only_range (single x)) (only_range (single y)) ≡ None →
    row_of op i (single x) (single y) ≡ Some (single z) → binary_found op (integer false i) true (found x) (found y) env ≡ found z
binary_one op env i x y z c v r o e =
    ap (λ (b : Bool). if b then comparison_found op true (as_side (found x)) (as_side (found y)) env else arithmetic_found op (integer false i) (value_found (found x)) (value_found (found y))) c
    ∙ (ap (λ (b : Bool). given i (if b then of_row op i x y (row_of op i (single x) (single y)) else Some (whole_type i))) (both (is_within (single x) (values_of i)) (is_right_operand op i (single y)) (within i x v) r)
    ∙ (ap (λ (row : Option Interval). given i (of_row op i x y row)) e
    ∙ ap (λ (o : Option Offset). given i (Some (record { range = single z; offset = o }))) o))

no_sum : (i : IntType) (r s : Interval) → binary_offset Add i (only_range r) (only_range s) ≡ None
no_sum i r s = if_none (is_exact i (sums r s)) None refl

no_difference : (i : IntType) (r s : Interval) → binary_offset Sub i (only_range r) (only_range s) ≡ None
no_difference i r s = if_none (is_exact i (differences r s)) None refl

no_shift : (i : IntType) (r s : Interval) → binary_offset Shr i (only_range r) (only_range s) ≡ None
no_shift i r s = if_none (int_le (pos 1) r.low && int_le (pos 1) s.low) None refl

no_quotient : (i : IntType) (r s : Interval) → binary_offset Div i (only_range r) (only_range s) ≡ None
no_quotient i r s = if_none (int_le (pos 1) r.low && int_le (pos 2) s.low) None refl

-- ## Expressions

integer_type : (v : PlainValue) (z : ℤ) → HasConstant v z → is_integer (type_of v) ≡ true
integer_type v z (of_constant at i x) = refl
integer_type v z (of_conversion at i u x h r) = refl
integer_type v z (of_sign at i u x h r) = refl
integer_type v z (of_negation at i u x h r s) = refl
integer_type v z (of_sum at i a b x y h k r s t) = refl
integer_type v z (of_difference at i a b x y h k r s t) = refl
integer_type v z (of_product at i a b x y h k r s t) = refl
integer_type v z (of_shift at i a b x n y h k r e) = refl
integer_type v z (of_quotient at i a b x y q h k r s p e) = refl
integer_type v z (of_left_shift at i a b x n y h k r s e) = refl
integer_type v z (of_complement at i u x y h r e) = refl

joined : (op : BinOp) (c : Option Claims) (env : Environment) (t : PlainType) (a b : PlainValue) (x y : ℤ) → HasConstant a x → HasConstant b y → assess c a env ≡ found x → assess c b env ≡ found y →
    binary_found op t (are_integers a b) (assess c a env) (assess c b env) env ≡ binary_found op t true (found x) (found y) env
joined op c env t a b x y h k e f =
    ap (λ (q : Bool). binary_found op t q (assess c a env) (assess c b env) env) (both (is_integer (type_of a)) (is_integer (type_of b)) (integer_type a x h) (integer_type b y k))
    ∙ (ap (λ (g : Assessed). binary_found op t true g (assess c b env) env) e ∙ ap (λ (g : Assessed). binary_found op t true (found x) g env) f)

known : (c : Option Claims) (env : Environment) (v : PlainValue) (z : ℤ) → HasConstant v z → assess c v env ≡ found z
known c env v z (of_constant at i x) = refl
known c env v z (of_conversion at i u x h r) = ap (λ (a : Assessed). converted_found (integer false i) (as_side a)) (known c env u x h) ∙ conversion_found i x r
known c env v z (of_sign at i u x h r) = ap (λ (a : Assessed). unary_assessed Plus (integer false i) env a) (known c env u x h) ∙ sign_found env i x r
known c env v z (of_negation at i u x h r s) = ap (λ (a : Assessed). unary_assessed Neg (integer false i) env a) (known c env u x h) ∙ negation_found env i x r s
known c env v z (of_sum at i a b x y h k r s t) =
    joined Add c env (integer false i) a b x y h k (known c env a x h) (known c env b y k)
    ∙ binary_one Add env i x y (x +ℤ y) refl r (within i y s) (no_sum i (single x) (single y)) (constants_give_constants.sums i x y t)
known c env v z (of_difference at i a b x y h k r s t) =
    joined Sub c env (integer false i) a b x y h k (known c env a x h) (known c env b y k)
    ∙ binary_one Sub env i x y (x -ℤ y) refl r (within i y s) (no_difference i (single x) (single y)) (constants_give_constants.differences i x y t)
known c env v z (of_product at i a b x y h k r s t) =
    joined Mul c env (integer false i) a b x y h k (known c env a x h) (known c env b y k)
    ∙ binary_one Mul env i x y (x *ℤ y) refl r (within i y s) refl (constants_give_constants.products i x y t)
known c env v z (of_shift at i a b x n y h k r e) =
    joined Shr c env (integer false i) a b x n h k (known c env a x h) (known c env b n k)
    ∙ binary_one Shr env i x n y refl r refl (no_shift i (single x) (single n)) (constants_give_constants.shifts i x n y e)
known c env v z (of_quotient at i a b x y q h k r s p e) =
    joined Div c env (integer false i) a b x y h k (known c env a x h) (known c env b y k)
    ∙ binary_one Div env i x y q refl r (within i y s) (no_quotient i (single x) (single y)) (other_constants_give_constants.quotients i x y q r s p e)
known c env v z (of_left_shift at i a b x n y h k r s e) =
    joined Shl c env (integer false i) a b x n h k (known c env a x h) (known c env b n k)
    ∙ binary_one Shl env i x n y refl r refl refl (other_constants_give_constants.left_shifts i x n y s e)
known c env v z (of_complement at i u x y h r e) = ap (λ (a : Assessed). unary_assessed Com (integer false i) env a) (known c env u x h) ∙ complement_found env i x y r e

pub constants_are_known : ConstantsAreKnown
constants_are_known c env v z h = ap value_found (known c env v z h)

pub remainders_are_ranges : RemaindersAreRanges
unfolding remainders
remainders_are_ranges c env at = refl
