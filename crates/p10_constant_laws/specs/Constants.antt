-- Expressions of constants that neither stop nor wrap, and that their one value is known.
use Rattle.std.specs.Prelude.{◌≡◌, ◌^◌, ℤ, pos, neg_ℤ, ◌+ℤ◌, ◌-ℤ◌, ◌*ℤ◌, ◌<ℤ◌, unsigned_abs, false, Option, Some, Ok}
use Rattle.p10_base.specs.declared.at.At.{At}
use Rattle.p10_int.specs.declared.types.IntType.{IntType}
use Rattle.p10_int.specs.declared.types.IntType.TheVariants.{Int}
use Rattle.p10_int.specs.declared.operators.BinOp.TheVariants.{Add, Sub, Mul, Div, Rem, Shl, Shr}
use Rattle.p10_int.specs.declared.operators.UnOp.TheVariants.{Plus, Neg, Com}
use Rattle.p10_int.specs.Types.{InRange}
use Rattle.p10_int.specs.Operators.{operate, operate_unary}
use Rattle.p10_range.specs.Ranges.{from_to}
use Rattle.p10_core.specs.Types.{integer}
use Rattle.p10_core.specs.Typed.{PlainValue, value, constant, convert, unary, binary}
use Rattle.p10_cert.specs.Claims.{Claims}
use Rattle.p10_absx.specs.Abstract.{only_range}
use Rattle.p10_absx.specs.Environments.{Environment}
use Rattle.p10_absx.specs.Assessing.{abstract_value}

-- an expression of constants whose value is z: at each operator its type has the operands and the exact result (C99 6.6p6)
pub data HasConstant : PlainValue → ℤ → Type 0 where
  of_constant : (at : At) (i : IntType) (z : ℤ) → HasConstant (value at (integer false i) (constant z)) z
  of_conversion : (at : At) (i : IntType) (v : PlainValue) (z : ℤ) → HasConstant v z → InRange i z → HasConstant (value at (integer false i) (convert v)) z
  of_sign : (at : At) (i : IntType) (v : PlainValue) (z : ℤ) → HasConstant v z → InRange i z → HasConstant (value at (integer false i) (unary Plus v)) z
  of_negation : (at : At) (i : IntType) (v : PlainValue) (z : ℤ) → HasConstant v z → InRange i z → InRange i (neg_ℤ z) → HasConstant (value at (integer false i) (unary Neg v)) (neg_ℤ z)
  of_sum : (at : At) (i : IntType) (a b : PlainValue) (x y : ℤ) → HasConstant a x → HasConstant b y → InRange i x → InRange i y → InRange i (x +ℤ y) →
      HasConstant (value at (integer false i) (binary Add a b)) (x +ℤ y)
  of_difference : (at : At) (i : IntType) (a b : PlainValue) (x y : ℤ) → HasConstant a x → HasConstant b y → InRange i x → InRange i y → InRange i (x -ℤ y) →
      HasConstant (value at (integer false i) (binary Sub a b)) (x -ℤ y)
  of_product : (at : At) (i : IntType) (a b : PlainValue) (x y : ℤ) → HasConstant a x → HasConstant b y → InRange i x → InRange i y → InRange i (x *ℤ y) →
      HasConstant (value at (integer false i) (binary Mul a b)) (x *ℤ y)
  of_shift : (at : At) (i : IntType) (a b : PlainValue) (x n z : ℤ) → HasConstant a x → HasConstant b n → InRange i x → operate Shr i x n ≡ Ok z →
      HasConstant (value at (integer false i) (binary Shr a b)) z
  of_quotient : (at : At) (i : IntType) (a b : PlainValue) (x y z : ℤ) → HasConstant a x → HasConstant b y → InRange i x → InRange i y → pos 0 <ℤ y → operate Div i x y ≡ Ok z →
      HasConstant (value at (integer false i) (binary Div a b)) z
  of_left_shift : (at : At) (i : IntType) (a b : PlainValue) (x n z : ℤ) → HasConstant a x → HasConstant b n → InRange i x → InRange i (x *ℤ pos (2 ^ unsigned_abs n)) → operate Shl i x n ≡ Ok z →
      HasConstant (value at (integer false i) (binary Shl a b)) z
  of_complement : (at : At) (i : IntType) (v : PlainValue) (x z : ℤ) → HasConstant v x → InRange i x → operate_unary Com i x ≡ Ok z → HasConstant (value at (integer false i) (unary Com v)) z

-- of such an expression the one value is known, whatever else is known and claimed
abbrev pub ConstantsAreKnown : Type 0
ConstantsAreKnown = (c : Option Claims) (env : Environment) (v : PlainValue) (z : ℤ) → HasConstant v z → abstract_value c env v ≡ Some (only_range (from_to z z))

-- of other operators it needn't be: what is known of 5 % 3 is that it lies between 0 and 2
abbrev pub RemaindersAreRanges : Type 0
RemaindersAreRanges =
    (c : Option Claims) (env : Environment) (at : At) →
    abstract_value c env (value at (integer false Int) (binary Rem (value at (integer false Int) (constant (pos 5))) (value at (integer false Int) (constant (pos 3))))) ≡ Some (only_range (from_to (pos 0) (pos 2)))
