-- Operators, conversions and moves on scalars: integers and pointers (C99 6.3, 6.5).
use Rattle.std.specs.Prelude.{not, Bool, List, map, ℤ, pos, neg_ℤ, Result, Ok, Err}
use Rattle.std.specs.Ordering.{int_eq}
use Rattle.p10_int.specs.declared.types.IntType.{IntType}
use Rattle.p10_int.specs.declared.types.IntType.TheVariants.{Int as int}
use Rattle.p10_int.specs.declared.operators.Stop.{Stop}
use Rattle.p10_int.specs.declared.operators.Stop.TheVariants.{U1, U9}
use Rattle.p10_int.specs.declared.operators.BinOp.{BinOp}
use Rattle.p10_int.specs.declared.operators.BinOp.TheVariants.{Add, Sub, Lt, Gt, Le, Ge, Eq, Ne}
use Rattle.p10_int.specs.declared.operators.UnOp.{UnOp}
use Rattle.p10_int.specs.declared.operators.UnOp.TheVariants.{Not}
use Rattle.p10_int.specs.Conversion.{converted}
use Rattle.p10_int.specs.Operators.{fitted, truth_of, operate, operate_unary}
use Rattle.p10_core.specs.Types.{PlainType, integer, pointer}
use Rattle.p10_meaning.specs.declared.pointers.Ptr.{Ptr}
use Rattle.p10_meaning.specs.declared.pointers.Ptr.TheVariants.{Null}
use Rattle.p10_meaning.specs.declared.pointers.Scalar.{Scalar}
use Rattle.p10_meaning.specs.declared.pointers.Scalar.TheVariants.{Int, Pointer}
use Rattle.p10_meaning.specs.declared.pointers.Cell.{Cell}
use Rattle.p10_meaning.specs.Pointers.{unset, holding, same_pointer, is_null}
use Rattle.p10_meaning.specs.Objects.{Object, on_ok, shift, less, distance}

-- the number that an integer is; typed programs ask it of integers alone
abbrev pub number_of : Scalar → ℤ
number_of (Int z) = z
number_of (Pointer q) = pos 0

-- the pointer that a scalar is; typed programs ask it of pointers, and of the null constant 0 (C99 6.3.2.3p3)
abbrev pub pointer_of : Scalar → Ptr
pointer_of (Int z) = Null
pointer_of (Pointer q) = q

-- whether a scalar compares unequal to 0 (C99 6.5.13p3, 6.8.4.1p2)
abbrev pub is_true : Scalar → Bool
is_true (Int z) = not (int_eq z (pos 0))
is_true (Pointer q) = not (is_null q)

-- 1 or 0, of type `int`
abbrev pub truth_value : Bool → Scalar
truth_value b = Int (truth_of b)

-- the integer type that a type is; typed programs ask it of integer types alone
abbrev pub integer_type : PlainType → IntType
integer_type (integer c t) = t
integer_type t = int

-- a scalar converted to a type (C99 6.3.1, 6.3.2.3): an integer by its value; to a pointer type only pointers of that type
-- and null constants are converted
abbrev pub converted_to : PlainType → Scalar → Scalar
converted_to (integer c t) x = Int (converted t (number_of x))
converted_to (pointer c t) x = Pointer (pointer_of x)
converted_to t x = x

-- the value that an object of static lifetime, or a scalar that a list leaves out, begins with: 0 or null (C99 6.7.8p10, p21)
abbrev pub zero_of : PlainType → Scalar
zero_of (pointer c t) = Pointer Null
zero_of t = Int (pos 0)

-- ## Operators

-- a pointer and an integer added or subtracted (C99 6.5.6p8); no other operator takes both
abbrev pub moved : BinOp → List Object → Ptr → ℤ → Result Ptr Stop
moved Add objects q n = shift objects q n
moved Sub objects q n = shift objects q (neg_ℤ n)
moved op objects q n = Err U9

-- two pointers subtracted (C99 6.5.6p9), ordered (C99 6.5.8p5) or compared (C99 6.5.9p6); no other operator takes both
abbrev pub related : BinOp → PlainType → List Object → Ptr → Ptr → Result ℤ Stop
related Sub t objects p q = on_ok (distance objects p q) (λ n. fitted (integer_type t) U1 n)
related Lt t objects p q = on_ok (less objects p q) (λ b. Ok (truth_of b))
related Gt t objects p q = on_ok (less objects q p) (λ b. Ok (truth_of b))
related Le t objects p q = on_ok (less objects q p) (λ b. Ok (truth_of (not b)))
related Ge t objects p q = on_ok (less objects p q) (λ b. Ok (truth_of (not b)))
related Eq t objects p q = Ok (truth_of (same_pointer p q))
related Ne t objects p q = Ok (truth_of (not (same_pointer p q)))
related op t objects p q = Err U9

-- a binary operator at the type of its result, on operands that are converted for it (C99 6.5.5 to 6.5.12)
abbrev pub operated : BinOp → PlainType → List Object → Scalar → Scalar → Result Scalar Stop
operated op t objects (Int a) (Int b) = on_ok (operate op (integer_type t) a b) (λ z. Ok (Int z))
operated op t objects (Pointer q) (Int n) = on_ok (moved op objects q n) (λ r. Ok (Pointer r))
operated op t objects (Int n) (Pointer q) = on_ok (moved op objects q n) (λ r. Ok (Pointer r))
operated op t objects (Pointer p) (Pointer q) = on_ok (related op t objects p q) (λ z. Ok (Int z))

-- a unary operator at the type of its result (C99 6.5.3.3); of a pointer only `!` is taken
abbrev pub operated_unary : UnOp → PlainType → Scalar → Result Scalar Stop
operated_unary op t (Int a) = on_ok (operate_unary op (integer_type t) a) (λ z. Ok (Int z))
operated_unary Not t (Pointer q) = Ok (truth_value (is_null q))
operated_unary op t (Pointer q) = Err U9

-- ## Cells of new objects

-- unset cells for scalars of these types
abbrev pub unset_cells : List PlainType → List Cell
unset_cells types = map (λ t. unset) types

-- cells with 0 or null for scalars of these types
abbrev pub zero_cells : List PlainType → List Cell
zero_cells types = map (λ t. holding (zero_of t)) types
