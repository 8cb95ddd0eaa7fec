-- What operators ask of the types of their operands, the types of their results, and the conversions that aren't written
-- (C99 6.3.1.8, 6.3.2.1, 6.3.2.3, 6.5): a row for each operator.
use Rattle.std.specs.Prelude.{ℕ, Bool, true, false, not, ◌&&◌, ◌||◌, nat_eq, if◌then◌else◌, Option, Some, None, is_some, List}
use Rattle.std.specs.Bool.{beq}
use Rattle.p10_int.specs.declared.types.IntType.{IntType}
use Rattle.p10_int.specs.declared.types.IntType.TheVariants.{Bool as Truth, Char, SChar, UChar, Short, UShort, Int, UInt, Long, ULong, LLong, ULLong}
use Rattle.p10_int.specs.declared.operators.BinOp.{BinOp}
use Rattle.p10_int.specs.declared.operators.BinOp.TheVariants.{Add, Sub, Mul, Div, Rem, Shl, Shr, And, Or, Xor, Lt, Gt, Le, Ge, Eq, Ne}
use Rattle.p10_int.specs.declared.operators.UnOp.{UnOp}
use Rattle.p10_int.specs.declared.operators.UnOp.TheVariants.{Plus, Neg, Not, Com}
use Rattle.p10_int.specs.Types.{promoted, usual_of}
use Rattle.p10_core.specs.Types.{PlainType, void, integer, pointer, array, structure, PlainStructure, body_of}
use Rattle.p10_core.specs.Sizes.{has_constant}

-- a number for each integer type
abbrev pub number_of : IntType → ℕ
number_of Truth = 0
number_of Char = 1
number_of SChar = 2
number_of UChar = 3
number_of Short = 4
number_of UShort = 5
number_of Int = 6
number_of UInt = 7
number_of Long = 8
number_of ULong = 9
number_of LLong = 10
number_of ULLong = 11

-- whether two integer types are one
abbrev pub same_integer : IntType → IntType → Bool
same_integer a b = nat_eq (number_of a) (number_of b)

-- the type's own mark
abbrev pub mark_of : PlainType → Bool
mark_of (void c) = c
mark_of (integer c i) = c
mark_of (pointer c t) = c
mark_of (array c t n) = c
mark_of (structure c n) = c

-- whether two types are the same except for their own marks
abbrev pub same_form : PlainType → PlainType → Bool
same_form (void c) (void d) = true
same_form (integer c i) (integer d j) = same_integer i j
same_form (pointer c s) (pointer d t) = beq (mark_of s) (mark_of t) && same_form s t
same_form (array c s m) (array d t n) = nat_eq m n && (beq (mark_of s) (mark_of t) && same_form s t)
same_form (structure c m) (structure d n) = nat_eq m n
same_form s t = false

-- whether two types are the same, their marks included
abbrev pub same : PlainType → PlainType → Bool
same s t = beq (mark_of s) (mark_of t) && same_form s t

-- whether a type is `void`
abbrev pub is_void : PlainType → Bool
is_void (void c) = true
is_void t = false

-- whether a type is an array
abbrev pub is_array : PlainType → Bool
is_array (array c t n) = true
is_array t = false

-- whether a type is an integer type
abbrev pub is_integer : PlainType → Bool
is_integer (integer c i) = true
is_integer t = false

-- whether a type is a pointer
abbrev pub is_pointer : PlainType → Bool
is_pointer (pointer c t) = true
is_pointer t = false

-- integers and pointers (C99 6.2.5p21)
abbrev pub is_scalar : PlainType → Bool
is_scalar (integer c i) = true
is_scalar (pointer c t) = true
is_scalar t = false

-- whether a type has a size: `void` and a structure without a body have none (C99 6.2.5p1, p19, p22)
abbrev pub is_complete : List PlainStructure → PlainType → Bool
is_complete structures (void c) = false
is_complete structures (integer c i) = true
is_complete structures (pointer c t) = true
is_complete structures (array c t n) = is_complete structures t
is_complete structures (structure c n) = is_some (body_of structures n)

-- whether a place of the type can be assigned (C99 6.3.2.1p1): no array, complete, and no part of it is `const`
abbrev pub is_modifiable : List PlainStructure → PlainType → Bool
is_modifiable structures t = not (is_array t) && (is_complete structures t && not (has_constant structures t))

-- the type `int`
abbrev pub int_type : PlainType
int_type = integer false Int

-- ## Binary operators

-- a row: the type of the result, and the types to which the operands are converted
pub record Row : Type 0 where
  pub result : PlainType
  pub left : PlainType
  pub right : PlainType

-- a row that stands
abbrev pub row : PlainType → PlainType → PlainType → Option Row
row r a b = Some (record { result = r; left = a; right = b })

-- a row that stands where a condition holds
abbrev pub row_where : Bool → PlainType → PlainType → PlainType → Option Row
row_where b r s t = if b then row r s t else None

-- both operands are converted to their common type, which is the result's (C99 6.3.1.8)
abbrev pub usual_row : IntType → IntType → Option Row
usual_row a b = row (integer false (usual_of a b)) (integer false (usual_of a b)) (integer false (usual_of a b))

-- both are converted to their common type, and the result is `int`
abbrev pub compared_row : IntType → IntType → Option Row
compared_row a b = row int_type (integer false (usual_of a b)) (integer false (usual_of a b))

-- the type of a pointer that may be moved: what it points to has a size (C99 6.5.6p2)
abbrev pub moved_row : List PlainStructure → PlainType → PlainType → PlainType → Option Row
moved_row structures t left right = row_where (is_complete structures t) (pointer false t) left right

-- `*`, `/`, `%`, `&`, `^`, `|` (C99 6.5.5, 6.5.10 to 6.5.12): integers
abbrev pub integers_row : PlainType → PlainType → Option Row
integers_row (integer c a) (integer d b) = usual_row a b
integers_row s t = None

-- `+` (C99 6.5.6): integers; a pointer and an integer, in any order
abbrev pub sum_row : List PlainStructure → PlainType → PlainType → Option Row
sum_row structures (integer c a) (integer d b) = usual_row a b
sum_row structures (pointer c t) (integer d b) = moved_row structures t (pointer false t) (integer false (promoted b))
sum_row structures (integer c a) (pointer d t) = moved_row structures t (integer false (promoted a)) (pointer false t)
sum_row structures s t = None

-- `-` (C99 6.5.6): integers; a pointer less an integer; pointers of one type, which give a `long`
abbrev pub difference_row : List PlainStructure → PlainType → PlainType → Option Row
difference_row structures (integer c a) (integer d b) = usual_row a b
difference_row structures (pointer c t) (integer d b) = moved_row structures t (pointer false t) (integer false (promoted b))
difference_row structures (pointer c s) (pointer d t) =
    row_where (same s t && is_complete structures t) (integer false Long) (pointer false s) (pointer false t)
difference_row structures s t = None

-- `<<` and `>>` (C99 6.5.7): integers, each promoted; the result has the left one's type
abbrev pub shift_row : PlainType → PlainType → Option Row
shift_row (integer c a) (integer d b) = row (integer false (promoted a)) (integer false (promoted a)) (integer false (promoted b))
shift_row s t = None

-- `<`, `>`, `<=`, `>=` (C99 6.5.8): integers; pointers of one type
abbrev pub order_row : PlainType → PlainType → Option Row
order_row (integer c a) (integer d b) = compared_row a b
order_row (pointer c s) (pointer d t) = row_where (same s t) int_type (pointer false s) (pointer false t)
order_row s t = None

-- `==` and `!=` (C99 6.5.9): integers; pointers of one type; a pointer and a null constant, which the flags say
abbrev pub equality_row : Bool → Bool → PlainType → PlainType → Option Row
equality_row left_null right_null (integer c a) (integer d b) = compared_row a b
equality_row left_null right_null (pointer c s) (pointer d t) = row_where (same s t) int_type (pointer false s) (pointer false t)
equality_row left_null right_null (pointer c s) (integer d b) = row_where right_null int_type (pointer false s) (pointer false s)
equality_row left_null right_null (integer c a) (pointer d t) = row_where left_null int_type (pointer false t) (pointer false t)
equality_row left_null right_null s t = None

-- the row of a binary operator for operands of two types, of which each may be a null constant: none where it may not be
-- applied to them
abbrev pub binary_row : List PlainStructure → BinOp → Bool → Bool → PlainType → PlainType → Option Row
binary_row structures Add left_null right_null s t = sum_row structures s t
binary_row structures Sub left_null right_null s t = difference_row structures s t
binary_row structures Mul left_null right_null s t = integers_row s t
binary_row structures Div left_null right_null s t = integers_row s t
binary_row structures Rem left_null right_null s t = integers_row s t
binary_row structures Shl left_null right_null s t = shift_row s t
binary_row structures Shr left_null right_null s t = shift_row s t
binary_row structures And left_null right_null s t = integers_row s t
binary_row structures Or left_null right_null s t = integers_row s t
binary_row structures Xor left_null right_null s t = integers_row s t
binary_row structures Lt left_null right_null s t = order_row s t
binary_row structures Gt left_null right_null s t = order_row s t
binary_row structures Le left_null right_null s t = order_row s t
binary_row structures Ge left_null right_null s t = order_row s t
binary_row structures Eq left_null right_null s t = equality_row left_null right_null s t
binary_row structures Ne left_null right_null s t = equality_row left_null right_null s t

-- the second and third operand of `?:` (C99 6.5.15): integers; pointers of one type; a pointer and a null constant
abbrev pub conditional_row : Bool → Bool → PlainType → PlainType → Option Row
conditional_row left_null right_null (integer c a) (integer d b) = usual_row a b
conditional_row left_null right_null (pointer c s) (pointer d t) =
    row_where (same s t) (pointer false s) (pointer false s) (pointer false t)
conditional_row left_null right_null (pointer c s) (integer d b) =
    row_where right_null (pointer false s) (pointer false s) (pointer false s)
conditional_row left_null right_null (integer c a) (pointer d t) =
    row_where left_null (pointer false t) (pointer false t) (pointer false t)
conditional_row left_null right_null s t = None

-- ## Unary operators

-- a row of a unary operator: the type of the result, and the type to which the operand is converted
pub record UnaryRow : Type 0 where
  pub result : PlainType
  pub operand : PlainType

-- a row that stands
abbrev pub unary_entry : PlainType → PlainType → Option UnaryRow
unary_entry r a = Some (record { result = r; operand = a })

-- unary `+`, `-`, `~` (C99 6.5.3.3): an integer, promoted
abbrev pub promoted_row : PlainType → Option UnaryRow
promoted_row (integer c a) = unary_entry (integer false (promoted a)) (integer false (promoted a))
promoted_row t = None

-- `!` (C99 6.5.3.3): a scalar; the result is `int`
abbrev pub negation_row : PlainType → Option UnaryRow
negation_row (integer c a) = unary_entry int_type (integer false a)
negation_row (pointer c t) = unary_entry int_type (pointer false t)
negation_row t = None

-- the row of a unary operator for an operand of a type: none where it may not be applied to it
abbrev pub unary_row : UnOp → PlainType → Option UnaryRow
unary_row Plus t = promoted_row t
unary_row Neg t = promoted_row t
unary_row Com t = promoted_row t
unary_row Not t = negation_row t

-- ## Conversions

-- whether a pointer to one type may become one to another without a cast: `const` may be added to what it points to
-- (C99 6.3.2.3p2)
abbrev pub adds_const : PlainType → PlainType → Bool
adds_const s t = same_form s t && (not (mark_of s) || mark_of t)

-- assignment, argument, `return`, initialiser of a scalar (C99 6.5.16.1): whether a value of one type, which may be a null
-- constant, may become one of another
abbrev pub fits : Bool → PlainType → PlainType → Bool
fits null (integer c a) (integer d b) = true
fits null (integer c a) (pointer d t) = null
fits null (pointer c s) (pointer d t) = adds_const s t
fits null s t = false

-- a cast (C99 6.5.4): integer to integer; anything to `void`; a null constant to a pointer. That of an allocation is apart
abbrev pub may_cast : Bool → PlainType → PlainType → Bool
may_cast null s (void d) = true
may_cast null (integer c a) (integer d b) = true
may_cast null (integer c a) (pointer d t) = null
may_cast null s t = false
