-- What the conditions on clean operators say of all numbers of their operands.
use Rattle.std.specs.Prelude.{◌≡◌, ◌↔◌, true, false, ℤ, neg_ℤ, ◌+ℤ◌, ◌-ℤ◌, ◌*ℤ◌, Ok}
use Rattle.p10_int.specs.declared.types.IntType.{IntType}
use Rattle.p10_int.specs.declared.operators.BinOp.{BinOp}
use Rattle.p10_int.specs.declared.operators.BinOp.TheVariants.{Add, Sub, Mul, Shl, Shr}
use Rattle.p10_int.specs.declared.operators.UnOp.TheVariants.{Neg}
use Rattle.p10_int.specs.Types.{InRange, is_signed_of}
use Rattle.p10_int.specs.Operators.{operate}
use Rattle.p10_range.specs.Ranges.{Interval, IsInhabited, IsMember, IsWithin}
use Rattle.p10_range.specs.Rows.{values_of}
use Rattle.p10_clean.specs.Operations.{overflows, negation_overflows, misshifts}

-- the operands of an operator at a type: ranges of values of it, each with a number
pub record AreOperands (t : IntType) (a b : Interval) : Type 0 where
  pub left : IsInhabited a
  pub right : IsInhabited b
  pub left_within : IsWithin a (values_of t)
  pub right_within : IsWithin b (values_of t)

-- the type has what f gives on each two numbers (C99 6.5p5)
abbrev pub HasExact : (ℤ → ℤ → ℤ) → IntType → Interval → Interval → Type 0
HasExact f t a b = (x y : ℤ) → IsMember a x → IsMember b y → InRange t (f x y)

-- condition C1 of sums, differences, products and negations of signed types
pub record CleanArithmeticIsExact : Type 0 where
  pub sums : (t : IntType) (a b : Interval) → is_signed_of t ≡ true → AreOperands t a b → (overflows Add t a b ≡ false) ↔ HasExact (λ x y. x +ℤ y) t a b
  pub differences : (t : IntType) (a b : Interval) → is_signed_of t ≡ true → AreOperands t a b → (overflows Sub t a b ≡ false) ↔ HasExact (λ x y. x -ℤ y) t a b
  pub products : (t : IntType) (a b : Interval) → is_signed_of t ≡ true → AreOperands t a b → (overflows Mul t a b ≡ false) ↔ HasExact (λ x y. x *ℤ y) t a b
  pub negations : (t : IntType) (a : Interval) → is_signed_of t ≡ true → IsInhabited a → IsWithin a (values_of t) → (negation_overflows Neg t a ≡ false) ↔ ((x : ℤ) → IsMember a x → InRange t (neg_ℤ x))

-- an operator has a result on each two numbers
abbrev pub AlwaysGoes : BinOp → IntType → Interval → Interval → Type 0
AlwaysGoes op t a b = (x y : ℤ) → IsMember a x → IsMember b y → (z : ℤ) × (operate op t x y ≡ Ok z)

-- condition C3 of shifts, of any count
pub record CleanShiftsGo : Type 0 where
  pub left : (t : IntType) (a b : Interval) → IsInhabited a → IsInhabited b → IsWithin a (values_of t) → (misshifts Shl t a b ≡ false) ↔ AlwaysGoes Shl t a b
  pub right : (t : IntType) (a b : Interval) → IsInhabited a → IsInhabited b → IsWithin a (values_of t) → (misshifts Shr t a b ≡ false) ↔ AlwaysGoes Shr t a b
