-- Conversions that aren't written and may change a value (C99 6.3.1.3; row 3 of rule 10).
use Rattle.std.specs.Prelude.{◌≡◌, Bool, true, false, not}
use Rattle.p10_base.specs.declared.at.At.{At}
use Rattle.p10_base.specs.declared.span.Span.{Span}
use Rattle.p10_int.specs.declared.operators.BinOp.{BinOp}
use Rattle.p10_int.specs.Types.{holds_all}
use Rattle.p10_core.specs.declared.statements.UpdateKind.TheVariants.{Compound}
use Rattle.p10_core.specs.Types.{PlainType, integer}
use Rattle.p10_core.specs.Constants.{is_constant, inconstant_part}
use Rattle.p10_core.specs.Typed.{PlainValue, value, convert, at_of, type_of, PlainPlace, place_at, place_type, statement, update}
use Rattle.p10_core.specs.Nodes.{PlainNode, a_statement, a_value}

-- whether a conversion from one type to another may change a value: both are integer types, and the second doesn't hold all
-- values of the first
abbrev pub narrows : PlainType → PlainType → Bool
narrows (integer c a) (integer d b) = not (holds_all b a)
narrows s t = false

-- A node has an unwritten conversion at a place that may change a value. `P = P op e` has three (C99 6.5.16.2): of P to the
-- operator's type, of e to the type of the other operand, and of the result, whose type is the operator's, to that of P.
-- Of `++` and `--` none counts.
pub data NarrowsAt : PlainNode → Span → Type 0 where
  -- a value that is no integer constant expression, at its tree
  converted_value : (at : At) (t : PlainType) (v : PlainValue) → narrows (type_of v) t ≡ true → is_constant (inconstant_part v) ≡ false
      → NarrowsAt (a_value (value at t (convert v))) (at_of v).span
  -- the value of P in `P op= e`, at P
  updated_place : (at : At) (op : BinOp) (t : PlainType) (p : PlainPlace) (v : PlainValue) → narrows (place_type p) t ≡ true
      → NarrowsAt (a_statement (statement at (update Compound op t p v))) (place_at p).span
  -- the result of `P op= e`, at the statement
  updated_result : (at : At) (op : BinOp) (t : PlainType) (p : PlainPlace) (v : PlainValue) → narrows t (place_type p) ≡ true
      → NarrowsAt (a_statement (statement at (update Compound op t p v))) at.span
