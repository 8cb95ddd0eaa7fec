-- A value that is whole has a type without a mark (C99 6.3.2.1p2).
use Rattle.std.proofs.Common.{◌≡◌, sym, refl, subst, Bool, true, false, ◌&&◌, Option, Some, None, List}
use Rattle.p10_int.specs.declared.operators.BinOp.{BinOp}
use Rattle.p10_int.specs.declared.operators.BinOp.TheVariants.{Add, Sub, Mul, Div, Rem, Shl, Shr, And, Or, Xor, Lt, Gt, Le, Ge, Eq, Ne}
use Rattle.p10_int.specs.declared.operators.UnOp.{UnOp}
use Rattle.p10_int.specs.declared.operators.UnOp.TheVariants.{Plus, Neg, Not, Com}
use Rattle.p10_core.specs.declared.typed.Library.{Library}
use Rattle.p10_core.specs.declared.typed.Library.TheVariants.{CAssert, Getchar, Putchar, Malloc, Calloc, Free}
use Rattle.p10_core.specs.Types.{PlainType, void, integer, pointer, unqualified, PlainStructure}
use Rattle.p10_core.specs.Typed.{PlainValue, value, constant, read, sense, address, decay, convert, cast, unary, binary, logic, conditional, call, built_in, PlainValues, no_values, more_values, type_of, place_type}
use Rattle.p10_core.specs.Rows.{Row, UnaryRow, row_where, integers_row, sum_row, difference_row, shift_row, order_row, equality_row, binary_row, conditional_row, promoted_row, negation_row, unary_row, same, is_complete, int_type}
use Rattle.p10_core.specs.Whole.{Surroundings, Converts, integers, pointers, nulls, Casts, to_void, integers as cast_integers, nulls as cast_nulls, allocations, CallsLibrary, IsWholeValue}
use Rattle.p10_elabx.proofs.WholeParts.{mark_off}

-- a type without a mark
abbrev pub IsUnmarked : PlainType → Type 0
IsUnmarked t = t ≡ unqualified t

by : (s t : PlainType) → t ≡ s → IsUnmarked s → IsUnmarked t
by s t e h = subst IsUnmarked (sym e) h

-- ## Rows

abbrev RowOff : Option Row → Type 0
RowOff None = Unit {0}
RowOff (Some e) = IsUnmarked e.result

where_off : (b : Bool) (r s t : PlainType) → IsUnmarked r → RowOff (row_where b r s t)
where_off true r s t h = h
where_off false r s t h = tt

integers_off : (s t : PlainType) → RowOff (integers_row s t)
integers_off (integer c a) (integer d b) = refl
integers_off s t = tt

sum_off : (ss : List PlainStructure) (s t : PlainType) → RowOff (sum_row ss s t)
sum_off ss (integer c a) (integer d b) = refl
sum_off ss (pointer c t) (integer d b) = where_off (is_complete ss t) _ _ _ refl
sum_off ss (integer c a) (pointer d t) = where_off (is_complete ss t) _ _ _ refl
sum_off ss s t = tt

difference_off : (ss : List PlainStructure) (s t : PlainType) → RowOff (difference_row ss s t)
difference_off ss (integer c a) (integer d b) = refl
difference_off ss (pointer c t) (integer d b) = where_off (is_complete ss t) _ _ _ refl
difference_off ss (pointer c s) (pointer d t) = where_off (same s t && is_complete ss t) _ _ _ refl
difference_off ss s t = tt

shift_off : (s t : PlainType) → RowOff (shift_row s t)
shift_off (integer c a) (integer d b) = refl
shift_off s t = tt

order_off : (s t : PlainType) → RowOff (order_row s t)
order_off (integer c a) (integer d b) = refl
order_off (pointer c s) (pointer d t) = where_off (same s t) _ _ _ refl
order_off s t = tt

equality_off : (a b : Bool) (s t : PlainType) → RowOff (equality_row a b s t)
equality_off x y (integer c a) (integer d b) = refl
equality_off x y (pointer c s) (pointer d t) = where_off (same s t) _ _ _ refl
equality_off x y (pointer c s) (integer d b) = where_off y _ _ _ refl
equality_off x y (integer c a) (pointer d t) = where_off x _ _ _ refl
equality_off x y s t = tt

binary_off : (ss : List PlainStructure) (op : BinOp) (a b : Bool) (s t : PlainType) → RowOff (binary_row ss op a b s t)
binary_off ss Add a b s t = sum_off ss s t
binary_off ss Sub a b s t = difference_off ss s t
binary_off ss Mul a b s t = integers_off s t
binary_off ss Div a b s t = integers_off s t
binary_off ss Rem a b s t = integers_off s t
binary_off ss Shl a b s t = shift_off s t
binary_off ss Shr a b s t = shift_off s t
binary_off ss And a b s t = integers_off s t
binary_off ss Or a b s t = integers_off s t
binary_off ss Xor a b s t = integers_off s t
binary_off ss Lt a b s t = order_off s t
binary_off ss Gt a b s t = order_off s t
binary_off ss Le a b s t = order_off s t
binary_off ss Ge a b s t = order_off s t
binary_off ss Eq a b s t = equality_off a b s t
binary_off ss Ne a b s t = equality_off a b s t

conditional_off : (a b : Bool) (s t : PlainType) → RowOff (conditional_row a b s t)
conditional_off x y (integer c a) (integer d b) = refl
conditional_off x y (pointer c s) (pointer d t) = where_off (same s t) _ _ _ refl
conditional_off x y (pointer c s) (integer d b) = where_off y _ _ _ refl
conditional_off x y (integer c a) (pointer d t) = where_off x _ _ _ refl
conditional_off x y s t = tt

abbrev UnaryOff : Option UnaryRow → Type 0
UnaryOff None = Unit {0}
UnaryOff (Some e) = IsUnmarked e.result

promoted_off : (t : PlainType) → UnaryOff (promoted_row t)
promoted_off (integer c a) = refl
promoted_off t = tt

negation_off : (t : PlainType) → UnaryOff (negation_row t)
negation_off (integer c a) = refl
negation_off (pointer c t) = refl
negation_off t = tt

unary_off : (op : UnOp) (t : PlainType) → UnaryOff (unary_row op t)
unary_off Plus t = promoted_off t
unary_off Neg t = promoted_off t
unary_off Com t = promoted_off t
unary_off Not t = negation_off t

-- ## Values

converts_off : (t : PlainType) (v : PlainValue) → Converts t v → IsUnmarked t
converts_off t v (integers i j u e) = refl
converts_off t v (pointers r q u e a) = refl
converts_off t v (nulls j q u e a) = refl

casts_off : (t : PlainType) (v : PlainValue) → Casts t v → IsUnmarked t
casts_off t v (to_void u) = refl
casts_off t v (cast_integers i j u e) = refl
casts_off t v (cast_nulls j q u e a) = refl
casts_off t v (allocations q u e a) = refl

library_off : (c : Surroundings) (t : PlainType) (f : Library) (vs : PlainValues) → CallsLibrary c t f vs → IsUnmarked t
library_off c t Getchar no_values w = by int_type t w refl
library_off c t Putchar (more_values v no_values) w = by int_type t w.0 refl
library_off c t CAssert (more_values v no_values) w = by int_type t w.0 refl
library_off c t Free (more_values v no_values) w = by (void false) t w.0 refl
library_off c t Malloc vs w = by (pointer false w.element) t w.type_is refl
library_off c t Calloc vs w = by (pointer false w.element) t w.type_is refl
library_off c t f vs w = absurd w

pub whole_unmarked : (c : Surroundings) (v : PlainValue) → IsWholeValue c v → IsUnmarked (type_of v)
whole_unmarked c (value at t (constant z)) w = by (integer false w.kind) t w.type_is refl
whole_unmarked c (value at t (read p)) w = by (unqualified (place_type p)) t w.1.type_is (mark_off (place_type p))
whole_unmarked c (value at t (sense n)) w = by (integer false w.kind) t w.type_is refl
whole_unmarked c (value at t (address p)) w = by (pointer false (place_type p)) t w.1.type_is refl
whole_unmarked c (value at t (decay p)) w = by (pointer false w.1.element) t w.1.type_is refl
whole_unmarked c (value at t (convert v)) w = converts_off t v w.1
whole_unmarked c (value at t (cast v)) w = casts_off t v w.1
whole_unmarked c (value at t (unary op v)) w = by w.1.entry.result t w.1.result_is (subst UnaryOff w.1.is (unary_off op w.1.of_type))
whole_unmarked c (value at t (binary op a b)) w = by w.2.entry.result t w.2.result_is (subst RowOff w.2.is (binary_off c.structures op w.2.left_null w.2.right_null w.2.left_type w.2.right_type))
whole_unmarked c (value at t (logic op a b)) w = by int_type t w.2 refl
whole_unmarked c (value at t (conditional v a b)) w = by w.4.entry.result t w.4.result_is (subst RowOff w.4.is (conditional_off w.4.left_null w.4.right_null w.4.left_type w.4.right_type))
whole_unmarked c (value at t (call s n vs)) w = w.1.unmarked
whole_unmarked c (value at t (built_in s f vs)) w = library_off c t f vs w.1
