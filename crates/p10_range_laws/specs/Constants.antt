-- What operators give on one number each: one number, where nothing wraps. So the range of an expression of such operators on constants has one number.
use Rattle.std.specs.Prelude.{◌≡◌, true, ℤ, neg_ℤ, ◌+ℤ◌, ◌-ℤ◌, ◌*ℤ◌, Some, Ok}
use Rattle.p10_int.specs.declared.types.IntType.{IntType}
use Rattle.p10_int.specs.declared.operators.BinOp.{BinOp}
use Rattle.p10_int.specs.declared.operators.BinOp.TheVariants.{Add, Sub, Mul, Shr}
use Rattle.p10_int.specs.declared.operators.UnOp.TheVariants.{Plus, Neg}
use Rattle.p10_int.specs.Types.{InRange}
use Rattle.p10_int.specs.Laws.{is_comparison}
use Rattle.p10_int.specs.Operators.{operate}
use Rattle.p10_range.specs.Ranges.{Interval, from_to}
use Rattle.p10_range.specs.Rows.{row_of, unary_row_of}

-- one number
abbrev pub single : ℤ → Interval
single z = from_to z z

-- the rows of `+`, `-`, `*`, `>>`, the comparisons, and unary `+` and `-` on one number each
pub record ConstantsGiveConstants : Type 0 where
  pub sums : (t : IntType) (x y : ℤ) → InRange t (x +ℤ y) → row_of Add t (single x) (single y) ≡ Some (single (x +ℤ y))
  pub differences : (t : IntType) (x y : ℤ) → InRange t (x -ℤ y) → row_of Sub t (single x) (single y) ≡ Some (single (x -ℤ y))
  pub products : (t : IntType) (x y : ℤ) → InRange t (x *ℤ y) → row_of Mul t (single x) (single y) ≡ Some (single (x *ℤ y))
  pub negations : (t : IntType) (x : ℤ) → InRange t (neg_ℤ x) → unary_row_of Neg t (single x) ≡ Some (single (neg_ℤ x))
  pub signs : (t : IntType) (x : ℤ) → unary_row_of Plus t (single x) ≡ Some (single x)
  pub shifts : (t : IntType) (x n z : ℤ) → operate Shr t x n ≡ Ok z → row_of Shr t (single x) (single n) ≡ Some (single z)
  pub comparisons : (op : BinOp) (t : IntType) (x y z : ℤ) → is_comparison op ≡ true → operate op t x y ≡ Ok z → row_of op t (single x) (single y) ≡ Some (single z)
