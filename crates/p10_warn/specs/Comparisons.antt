-- Comparisons of signed with unsigned operands (C99 6.3.1.8, 6.5.8, 6.5.9; row 4 of rule 10).
use Rattle.std.specs.Prelude.{◌≡◌, ℤ, pos, int_le, Bool, true, false, not, ◌&&◌, Result, Ok, Err}
use Rattle.std.specs.Bool.{beq}
use Rattle.p10_base.specs.declared.at.At.{At}
use Rattle.p10_base.specs.declared.span.Span.{Span}
use Rattle.p10_int.specs.declared.operators.BinOp.{BinOp}
use Rattle.p10_int.specs.declared.operators.BinOp.TheVariants.{Lt, Gt, Le, Ge, Eq, Ne}
use Rattle.p10_int.specs.Types.{is_signed_of, promoted}
use Rattle.p10_core.specs.Types.{PlainType, integer}
use Rattle.p10_core.specs.Constants.{is_constant, inconstant_part, fold}
use Rattle.p10_core.specs.Typed.{PlainValue, value, convert, binary, type_of}
use Rattle.p10_core.specs.Nodes.{PlainNode, a_value}

-- whether an operator compares
abbrev pub compares : BinOp → Bool
compares Lt = true
compares Gt = true
compares Le = true
compares Ge = true
compares Eq = true
compares Ne = true
compares op = false

-- an operand as it is written: before the conversion that isn't
abbrev pub as_written : PlainValue → PlainValue
as_written (value at t (convert v)) = v
as_written v = v

-- whether two types are integer types of which, once they are promoted, exactly one is signed
abbrev pub differ_in_sign : PlainType → PlainType → Bool
differ_in_sign (integer c a) (integer d b) = not (beq (is_signed_of (promoted a)) (is_signed_of (promoted b)))
differ_in_sign s t = false

-- whether a constant gives a number of at least 0
abbrev pub gives_natural : Result ℤ At → Bool
gives_natural (Ok z) = int_le (pos 0) z
gives_natural (Err at) = false

-- whether a value is an integer constant expression of at least 0, in its own type
abbrev pub is_natural_constant : PlainValue → Bool
is_natural_constant v = is_constant (inconstant_part v) && gives_natural (fold v)

-- A node compares a signed operand with an unsigned one, neither of which is a constant of at least 0, and stands at a place.
pub data MixesSignsAt : PlainNode → Span → Type 0 where
  mixed : (at : At) (t : PlainType) (op : BinOp) (a b : PlainValue) → compares op ≡ true
      → differ_in_sign (type_of (as_written a)) (type_of (as_written b)) ≡ true
      → is_natural_constant (as_written a) ≡ false → is_natural_constant (as_written b) ≡ false
      → MixesSignsAt (a_value (value at t (binary op a b))) at.span
