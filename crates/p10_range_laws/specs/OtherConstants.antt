-- What further operators give on one number each: `/` by a positive number, `<<` where nothing wraps, `~` and `!` give one number. The others
-- need not: their rows go by signs, magnitudes and digits alone, and one of an unsigned result that wraps is the whole type.
use Rattle.std.specs.Prelude.{◌≡◌, ◌^◌, ℤ, pos, negsuc, neg_ℤ, ◌*ℤ◌, ◌<ℤ◌, unsigned_abs, Some, Ok}
use Rattle.p10_int.specs.declared.types.IntType.{IntType}
use Rattle.p10_int.specs.declared.types.IntType.TheVariants.{Int, UInt}
use Rattle.p10_int.specs.declared.operators.BinOp.TheVariants.{Sub, Div, Rem, Shl, And, Or, Xor}
use Rattle.p10_int.specs.declared.operators.UnOp.TheVariants.{Not, Com}
use Rattle.p10_int.specs.Types.{InRange}
use Rattle.p10_int.specs.Operators.{operate, operate_unary}
use Rattle.p10_range.specs.Ranges.{from_to}
use Rattle.p10_range.specs.Rows.{values_of, row_of, unary_row_of}
use Rattle.p10_range_laws.specs.Constants.{single}

-- the rows of `/` by a positive number, of `<<`, and of unary `~` and `!` on one number each
pub record OtherConstantsGiveConstants : Type 0 where
  pub quotients : (t : IntType) (x y z : ℤ) → InRange t x → InRange t y → pos 0 <ℤ y → operate Div t x y ≡ Ok z → row_of Div t (single x) (single y) ≡ Some (single z)
  pub left_shifts : (t : IntType) (x n z : ℤ) → InRange t (x *ℤ pos (2 ^ unsigned_abs n)) → operate Shl t x n ≡ Ok z → row_of Shl t (single x) (single n) ≡ Some (single z)
  pub complements : (t : IntType) (x z : ℤ) → InRange t x → operate_unary Com t x ≡ Ok z → unary_row_of Com t (single x) ≡ Some (single z)
  pub tests : (t : IntType) (x z : ℤ) → operate_unary Not t x ≡ Ok z → unary_row_of Not t (single x) ≡ Some (single z)

-- one number each whose row has more than the result
pub record ConstantsGiveRanges : Type 0 where
  -- 5 % 3 is 2; the row goes by the sign of the dividend and both magnitudes
  pub remainder_row : row_of Rem Int (single (pos 5)) (single (pos 3)) ≡ Some (from_to (pos 0) (pos 2))
  pub remainder : operate Rem Int (pos 5) (pos 3) ≡ Ok (pos 2)
  -- 6 / -2 is -3; the row goes by the magnitude of the dividend
  pub quotient_row : row_of Div Int (single (pos 6)) (single (negsuc 1)) ≡ Some (from_to (neg_ℤ (pos 6)) (pos 6))
  pub quotient : operate Div Int (pos 6) (negsuc 1) ≡ Ok (negsuc 2)
  -- 4 & 3 is 0; the row goes up to the smaller number
  pub conjunction_row : row_of And Int (single (pos 4)) (single (pos 3)) ≡ Some (from_to (pos 0) (pos 3))
  pub conjunction : operate And Int (pos 4) (pos 3) ≡ Ok (pos 0)
  -- 4 | 1 is 5, and 4 ^ 4 is 0; the row has all numbers of three digits
  pub disjunction_row : row_of Or Int (single (pos 4)) (single (pos 1)) ≡ Some (from_to (pos 0) (pos 7))
  pub disjunction : operate Or Int (pos 4) (pos 1) ≡ Ok (pos 5)
  pub exclusion_row : row_of Xor Int (single (pos 4)) (single (pos 4)) ≡ Some (from_to (pos 0) (pos 7))
  pub exclusion : operate Xor Int (pos 4) (pos 4) ≡ Ok (pos 0)
  -- 0u - 1u is 4294967295, and 2147483648u << 1 is 0; the rows are the type
  pub wrapped_row : row_of Sub UInt (single (pos 0)) (single (pos 1)) ≡ Some (values_of UInt)
  pub wrapped : operate Sub UInt (pos 0) (pos 1) ≡ Ok (pos 4294967295)
  pub shifted_row : row_of Shl UInt (single (pos 2147483648)) (single (pos 1)) ≡ Some (values_of UInt)
  pub shifted : operate Shl UInt (pos 2147483648) (pos 1) ≡ Ok (pos 0)
