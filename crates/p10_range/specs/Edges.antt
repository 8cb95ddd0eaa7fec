-- The rows at the ends of types and counts, written out: one line a row.
use Rattle.std.specs.Prelude.{◌≡◌, ℕ, ◌&&◌, Bool as Flag, true, false, ℤ, pos, neg_ℤ, List, [], ◌∷◌, Option, Some, None}
use Rattle.std.specs.List.{list_all}
use Rattle.std.specs.Ordering.{int_eq}
use Rattle.p10_int.specs.declared.types.IntType.{IntType}
use Rattle.p10_int.specs.declared.types.IntType.TheVariants.{Bool, Char, SChar, UChar, Short, UShort, Int, UInt, Long, ULong, LLong, ULLong}
use Rattle.p10_int.specs.declared.operators.BinOp.{BinOp}
use Rattle.p10_int.specs.declared.operators.BinOp.TheVariants.{Add, Sub, Mul, Div, Rem, Shl, Shr, And, Or, Xor, Lt, Gt, Le, Ge, Eq, Ne}
use Rattle.p10_int.specs.declared.operators.UnOp.{UnOp}
use Rattle.p10_int.specs.declared.operators.UnOp.TheVariants.{Plus, Neg, Not, Com}
use Rattle.p10_range.specs.Ranges.{Interval, from_to}
use Rattle.p10_range.specs.Rows.{row_of, unary_row_of, conversion_row_of}

abbrev pub minus : ℕ → ℤ
minus n = neg_ℤ (pos n)

abbrev pub same_interval : Interval → Interval → Flag
same_interval i j = int_eq i.low j.low && int_eq i.high j.high

abbrev pub same_row : Option Interval → Option Interval → Flag
same_row None None = true
same_row (Some i) (Some j) = same_interval i j
same_row (Some i) None = false
same_row None (Some j) = false

-- an operator, its type, its operands, the row
abbrev pub binary_edges : List (BinOp × IntType × Interval × Interval × Option Interval)
binary_edges =
    (Add, Bool, from_to (pos 0) (pos 1), from_to (pos 1) (pos 1), Some (from_to (pos 0) (pos 1))) ∷
    (Add, Char, from_to (minus 128) (pos 127), from_to (pos 1) (pos 1), Some (from_to (minus 127) (pos 127))) ∷
    (Add, SChar, from_to (minus 128) (pos 127), from_to (pos 1) (pos 1), Some (from_to (minus 127) (pos 127))) ∷
    (Add, UChar, from_to (pos 0) (pos 255), from_to (pos 1) (pos 1), Some (from_to (pos 0) (pos 255))) ∷
    (Add, Short, from_to (minus 32768) (pos 32767), from_to (pos 1) (pos 1), Some (from_to (minus 32767) (pos 32767))) ∷
    (Add, UShort, from_to (pos 0) (pos 65535), from_to (pos 1) (pos 1), Some (from_to (pos 0) (pos 65535))) ∷
    (Add, Int, from_to (minus 2147483648) (pos 2147483647), from_to (pos 1) (pos 1), Some (from_to (minus 2147483647) (pos 2147483647))) ∷
    (Add, UInt, from_to (pos 0) (pos 4294967295), from_to (pos 1) (pos 1), Some (from_to (pos 0) (pos 4294967295))) ∷
    (Add, Long, from_to (minus 9223372036854775808) (pos 9223372036854775807), from_to (pos 1) (pos 1), Some (from_to (minus 9223372036854775807) (pos 9223372036854775807))) ∷
    (Add, ULong, from_to (pos 0) (pos 18446744073709551615), from_to (pos 1) (pos 1), Some (from_to (pos 0) (pos 18446744073709551615))) ∷
    (Add, LLong, from_to (minus 9223372036854775808) (pos 9223372036854775807), from_to (pos 1) (pos 1), Some (from_to (minus 9223372036854775807) (pos 9223372036854775807))) ∷
    (Add, ULLong, from_to (pos 0) (pos 18446744073709551615), from_to (pos 1) (pos 1), Some (from_to (pos 0) (pos 18446744073709551615))) ∷
    (Add, Int, from_to (pos 5) (pos 6), from_to (pos 7) (pos 9), Some (from_to (pos 12) (pos 15))) ∷
    (Add, Int, from_to (pos 2147483647) (pos 2147483647), from_to (pos 1) (pos 1), None) ∷
    (Add, Int, from_to (pos 2147483646) (pos 2147483647), from_to (pos 1) (pos 2), Some (from_to (pos 2147483647) (pos 2147483647))) ∷
    (Add, UInt, from_to (pos 4294967286) (pos 4294967291), from_to (pos 0) (pos 4), Some (from_to (pos 4294967286) (pos 4294967295))) ∷
    (Sub, Int, from_to (pos 5) (pos 6), from_to (pos 7) (pos 9), Some (from_to (minus 4) (minus 1))) ∷
    (Sub, Int, from_to (minus 2147483648) (minus 2147483648), from_to (pos 1) (pos 1), None) ∷
    (Sub, UInt, from_to (pos 0) (pos 0), from_to (pos 1) (pos 1), Some (from_to (pos 0) (pos 4294967295))) ∷
    (Sub, UInt, from_to (pos 5) (pos 9), from_to (pos 1) (pos 5), Some (from_to (pos 0) (pos 8))) ∷
    (Sub, Bool, from_to (pos 0) (pos 1), from_to (pos 0) (pos 1), Some (from_to (pos 0) (pos 1))) ∷
    (Mul, Int, from_to (minus 3) (pos 2), from_to (minus 5) (pos 7), Some (from_to (minus 21) (pos 15))) ∷
    (Mul, Int, from_to (minus 2147483648) (minus 2147483648), from_to (minus 1) (minus 1), None) ∷
    (Mul, Int, from_to (minus 2147483648) (pos 2147483647), from_to (minus 1) (pos 1), Some (from_to (minus 2147483648) (pos 2147483647))) ∷
    (Mul, LLong, from_to (minus 9223372036854775808) (minus 1), from_to (pos 2) (pos 3), Some (from_to (minus 9223372036854775808) (minus 2))) ∷
    (Mul, ULLong, from_to (pos 4294967296) (pos 4294967296), from_to (pos 4294967296) (pos 4294967296), Some (from_to (pos 0) (pos 18446744073709551615))) ∷
    (Mul, ULLong, from_to (pos 0) (pos 4294967295), from_to (pos 4294967296) (pos 4294967296), Some (from_to (pos 0) (pos 18446744069414584320))) ∷
    (Mul, Bool, from_to (pos 0) (pos 1), from_to (pos 1) (pos 1), Some (from_to (pos 0) (pos 1))) ∷
    (Div, Int, from_to (pos 1) (pos 9), from_to (pos 0) (pos 0), None) ∷
    (Div, Int, from_to (pos 7) (pos 7), from_to (pos 0) (pos 2), Some (from_to (pos 3) (pos 7))) ∷
    (Div, Int, from_to (minus 7) (pos 8), from_to (pos 2) (pos 3), Some (from_to (minus 3) (pos 4))) ∷
    (Div, Int, from_to (minus 7) (minus 7), from_to (pos 2) (pos 2), Some (from_to (minus 3) (minus 3))) ∷
    (Div, Int, from_to (minus 7) (pos 3), from_to (minus 1) (pos 2), Some (from_to (minus 7) (pos 7))) ∷
    (Div, Int, from_to (pos 3) (pos 9), from_to (minus 2) (pos 0), Some (from_to (minus 9) (pos 9))) ∷
    (Div, Int, from_to (minus 2147483648) (minus 2147483648), from_to (minus 1) (minus 1), Some (from_to (minus 2147483648) (pos 2147483647))) ∷
    (Div, UInt, from_to (pos 0) (pos 4294967295), from_to (pos 0) (pos 9), Some (from_to (pos 0) (pos 4294967295))) ∷
    (Div, Bool, from_to (pos 0) (pos 1), from_to (pos 0) (pos 1), Some (from_to (pos 0) (pos 1))) ∷
    (Rem, Int, from_to (pos 1) (pos 9), from_to (pos 0) (pos 0), None) ∷
    (Rem, Int, from_to (pos 5) (pos 9), from_to (pos 3) (pos 3), Some (from_to (pos 0) (pos 2))) ∷
    (Rem, Int, from_to (minus 9) (pos 1), from_to (minus 3) (pos 2), Some (from_to (minus 2) (pos 1))) ∷
    (Rem, Int, from_to (minus 9) (minus 1), from_to (pos 0) (pos 7), Some (from_to (minus 6) (pos 0))) ∷
    (Rem, Int, from_to (minus 2147483648) (minus 2147483648), from_to (minus 1) (minus 1), Some (from_to (pos 0) (pos 0))) ∷
    (Rem, UInt, from_to (pos 2) (pos 4), from_to (pos 0) (pos 9), Some (from_to (pos 0) (pos 4))) ∷
    (Shl, Int, from_to (pos 1) (pos 1), from_to (pos 32) (pos 40), None) ∷
    (Shl, Int, from_to (pos 1) (pos 1), from_to (minus 9) (minus 1), None) ∷
    (Shl, Int, from_to (pos 1) (pos 1), from_to (pos 31) (pos 31), None) ∷
    (Shl, Int, from_to (minus 5) (pos 3), from_to (minus 1) (pos 2), Some (from_to (pos 0) (pos 12))) ∷
    (Shl, Int, from_to (minus 5) (minus 1), from_to (pos 0) (pos 0), None) ∷
    (Shl, UInt, from_to (pos 1) (pos 1), from_to (pos 31) (pos 32), Some (from_to (pos 2147483648) (pos 2147483648))) ∷
    (Shl, UInt, from_to (pos 3) (pos 3), from_to (pos 31) (pos 31), Some (from_to (pos 0) (pos 4294967295))) ∷
    (Shl, Long, from_to (pos 1) (pos 1), from_to (pos 62) (pos 63), Some (from_to (pos 4611686018427387904) (pos 9223372036854775807))) ∷
    (Shl, ULong, from_to (pos 1) (pos 1), from_to (pos 63) (pos 99), Some (from_to (pos 9223372036854775808) (pos 9223372036854775808))) ∷
    (Shl, Bool, from_to (pos 1) (pos 1), from_to (pos 1) (pos 1), Some (from_to (pos 0) (pos 1))) ∷
    (Shr, Int, from_to (minus 5) (pos 9), from_to (pos 1) (pos 2), Some (from_to (minus 3) (pos 4))) ∷
    (Shr, Int, from_to (minus 5) (pos 9), from_to (pos 31) (pos 99), Some (from_to (minus 1) (pos 0))) ∷
    (Shr, Int, from_to (minus 5) (pos 9), from_to (pos 32) (pos 99), None) ∷
    (Shr, Int, from_to (minus 5) (pos 9), from_to (minus 3) (minus 1), None) ∷
    (Shr, ULLong, from_to (pos 0) (pos 18446744073709551615), from_to (pos 63) (pos 64), Some (from_to (pos 0) (pos 1))) ∷
    (And, Int, from_to (pos 1) (pos 6), from_to (pos 4) (pos 9), Some (from_to (pos 0) (pos 6))) ∷
    (And, Int, from_to (minus 1) (pos 5), from_to (pos 2) (pos 3), Some (from_to (pos 0) (pos 3))) ∷
    (And, Int, from_to (pos 2) (pos 3), from_to (minus 1) (pos 5), Some (from_to (pos 0) (pos 3))) ∷
    (And, Int, from_to (minus 2) (minus 1), from_to (minus 2) (minus 1), Some (from_to (minus 2147483648) (pos 2147483647))) ∷
    (Or, Int, from_to (pos 1) (pos 6), from_to (pos 0) (pos 8), Some (from_to (pos 0) (pos 15))) ∷
    (Or, Int, from_to (pos 0) (pos 2147483647), from_to (pos 0) (pos 0), Some (from_to (pos 0) (pos 2147483647))) ∷
    (Or, Int, from_to (minus 1) (pos 0), from_to (pos 0) (pos 0), Some (from_to (minus 2147483648) (pos 2147483647))) ∷
    (Or, ULLong, from_to (pos 0) (pos 18446744073709551615), from_to (pos 1) (pos 1), Some (from_to (pos 0) (pos 18446744073709551615))) ∷
    (Xor, Int, from_to (pos 0) (pos 0), from_to (pos 0) (pos 0), Some (from_to (pos 0) (pos 0))) ∷
    (Xor, Int, from_to (pos 3) (pos 3), from_to (pos 2) (pos 4), Some (from_to (pos 0) (pos 7))) ∷
    (Lt, Int, from_to (pos 0) (pos 3), from_to (pos 4) (pos 5), Some (from_to (pos 1) (pos 1))) ∷
    (Lt, Int, from_to (pos 4) (pos 5), from_to (pos 0) (pos 4), Some (from_to (pos 0) (pos 0))) ∷
    (Lt, Int, from_to (pos 0) (pos 3), from_to (pos 3) (pos 3), Some (from_to (pos 0) (pos 1))) ∷
    (Gt, Int, from_to (pos 4) (pos 5), from_to (pos 0) (pos 3), Some (from_to (pos 1) (pos 1))) ∷
    (Gt, Int, from_to (pos 0) (pos 3), from_to (pos 3) (pos 5), Some (from_to (pos 0) (pos 0))) ∷
    (Gt, Int, from_to (pos 0) (pos 4), from_to (pos 3) (pos 5), Some (from_to (pos 0) (pos 1))) ∷
    (Le, Int, from_to (pos 0) (pos 3), from_to (pos 3) (pos 5), Some (from_to (pos 1) (pos 1))) ∷
    (Le, Int, from_to (pos 4) (pos 5), from_to (pos 0) (pos 3), Some (from_to (pos 0) (pos 0))) ∷
    (Le, Int, from_to (pos 4) (pos 5), from_to (pos 0) (pos 4), Some (from_to (pos 0) (pos 1))) ∷
    (Ge, Int, from_to (pos 3) (pos 5), from_to (pos 0) (pos 3), Some (from_to (pos 1) (pos 1))) ∷
    (Ge, Int, from_to (pos 0) (pos 3), from_to (pos 4) (pos 5), Some (from_to (pos 0) (pos 0))) ∷
    (Ge, Int, from_to (pos 0) (pos 4), from_to (pos 4) (pos 5), Some (from_to (pos 0) (pos 1))) ∷
    (Eq, Int, from_to (pos 3) (pos 3), from_to (pos 3) (pos 3), Some (from_to (pos 1) (pos 1))) ∷
    (Eq, Int, from_to (pos 0) (pos 3), from_to (pos 4) (pos 5), Some (from_to (pos 0) (pos 0))) ∷
    (Eq, Int, from_to (pos 0) (pos 3), from_to (pos 3) (pos 5), Some (from_to (pos 0) (pos 1))) ∷
    (Ne, Int, from_to (pos 3) (pos 3), from_to (pos 3) (pos 3), Some (from_to (pos 0) (pos 0))) ∷
    (Ne, Int, from_to (pos 0) (pos 3), from_to (pos 4) (pos 5), Some (from_to (pos 1) (pos 1))) ∷
    (Ne, Int, from_to (pos 0) (pos 3), from_to (pos 3) (pos 5), Some (from_to (pos 0) (pos 1))) ∷
    (Lt, Bool, from_to (pos 0) (pos 0), from_to (pos 1) (pos 1), Some (from_to (pos 1) (pos 1))) ∷
    []

-- the same for unary operators
abbrev pub unary_edges : List (UnOp × IntType × Interval × Option Interval)
unary_edges =
    (Plus, Int, from_to (minus 3) (pos 9), Some (from_to (minus 3) (pos 9))) ∷
    (Neg, Int, from_to (minus 2147483648) (minus 2147483648), None) ∷
    (Neg, Int, from_to (minus 2147483648) (pos 5), Some (from_to (minus 5) (pos 2147483647))) ∷
    (Neg, UInt, from_to (pos 0) (pos 0), Some (from_to (pos 0) (pos 0))) ∷
    (Neg, UInt, from_to (pos 1) (pos 1), Some (from_to (pos 0) (pos 4294967295))) ∷
    (Neg, Bool, from_to (pos 0) (pos 1), Some (from_to (pos 0) (pos 1))) ∷
    (Com, Int, from_to (minus 2147483648) (pos 5), Some (from_to (minus 6) (pos 2147483647))) ∷
    (Com, UChar, from_to (pos 0) (pos 5), Some (from_to (pos 250) (pos 255))) ∷
    (Com, Bool, from_to (pos 0) (pos 0), Some (from_to (pos 1) (pos 1))) ∷
    (Not, Int, from_to (pos 0) (pos 0), Some (from_to (pos 1) (pos 1))) ∷
    (Not, Int, from_to (pos 1) (pos 9), Some (from_to (pos 0) (pos 0))) ∷
    (Not, Int, from_to (minus 1) (pos 0), Some (from_to (pos 0) (pos 1))) ∷
    (Not, UInt, from_to (pos 0) (pos 9), Some (from_to (pos 0) (pos 1))) ∷
    (Neg, Char, from_to (minus 128) (pos 127), Some (from_to (minus 127) (pos 127))) ∷
    (Neg, SChar, from_to (minus 128) (pos 127), Some (from_to (minus 127) (pos 127))) ∷
    (Neg, UChar, from_to (pos 0) (pos 255), Some (from_to (pos 0) (pos 255))) ∷
    (Neg, Short, from_to (minus 32768) (pos 32767), Some (from_to (minus 32767) (pos 32767))) ∷
    (Neg, UShort, from_to (pos 0) (pos 65535), Some (from_to (pos 0) (pos 65535))) ∷
    (Neg, Int, from_to (minus 2147483648) (pos 2147483647), Some (from_to (minus 2147483647) (pos 2147483647))) ∷
    (Neg, UInt, from_to (pos 0) (pos 4294967295), Some (from_to (pos 0) (pos 4294967295))) ∷
    (Neg, Long, from_to (minus 9223372036854775808) (pos 9223372036854775807), Some (from_to (minus 9223372036854775807) (pos 9223372036854775807))) ∷
    (Neg, ULong, from_to (pos 0) (pos 18446744073709551615), Some (from_to (pos 0) (pos 18446744073709551615))) ∷
    (Neg, LLong, from_to (minus 9223372036854775808) (pos 9223372036854775807), Some (from_to (minus 9223372036854775807) (pos 9223372036854775807))) ∷
    (Neg, ULLong, from_to (pos 0) (pos 18446744073709551615), Some (from_to (pos 0) (pos 18446744073709551615))) ∷
    []

-- a type, an interval, and the interval converted
abbrev pub conversion_edges : List (IntType × Interval × Interval)
conversion_edges =
    (Bool, from_to (pos 0) (pos 0), from_to (pos 0) (pos 0)) ∷
    (Bool, from_to (pos 3) (pos 9), from_to (pos 1) (pos 1)) ∷
    (Bool, from_to (minus 9) (minus 3), from_to (pos 1) (pos 1)) ∷
    (Bool, from_to (minus 1) (pos 1), from_to (pos 0) (pos 1)) ∷
    (UChar, from_to (pos 0) (pos 255), from_to (pos 0) (pos 255)) ∷
    (UChar, from_to (minus 1) (pos 5), from_to (pos 0) (pos 255)) ∷
    (UChar, from_to (pos 0) (pos 256), from_to (pos 0) (pos 255)) ∷
    (SChar, from_to (minus 129) (pos 0), from_to (minus 128) (pos 127)) ∷
    (Int, from_to (minus 2147483648) (pos 2147483647), from_to (minus 2147483648) (pos 2147483647)) ∷
    (UInt, from_to (minus 1) (minus 1), from_to (pos 0) (pos 4294967295)) ∷
    (ULLong, from_to (pos 0) (pos 18446744073709551615), from_to (pos 0) (pos 18446744073709551615)) ∷
    (LLong, from_to (pos 0) (pos 9223372036854775808), from_to (minus 9223372036854775808) (pos 9223372036854775807)) ∷
    []

-- the rows are these
abbrev pub BinaryRowsAtEdges : Type 0
BinaryRowsAtEdges = list_all (λ (e : BinOp × IntType × Interval × Interval × Option Interval). same_row (row_of e.0 e.1 e.2 e.3) e.4) binary_edges ≡ true

abbrev pub UnaryRowsAtEdges : Type 0
UnaryRowsAtEdges = list_all (λ (e : UnOp × IntType × Interval × Option Interval). same_row (unary_row_of e.0 e.1 e.2) e.3) unary_edges ≡ true

abbrev pub ConversionsAtEdges : Type 0
ConversionsAtEdges = list_all (λ (e : IntType × Interval × Interval). same_interval (conversion_row_of e.0 e.1) e.2) conversion_edges ≡ true
