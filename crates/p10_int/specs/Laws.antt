-- What holds of the definitions for all types, operators and values.
use Rattle.std.specs.Prelude.{◌≡◌, ℕ, ◌<◌, ◌⊎◌, ◌↔◌, Bool as Flag, true, false, ℤ, pos, neg_ℤ, ◌+ℤ◌, ◌-ℤ◌, ◌*ℤ◌, ◌≤ℤ◌, unsigned_abs, bit_and, bit_or, bit_xor, Ok}
use Rattle.std.specs.Int.{bit_at}
use Rattle.p10_int.specs.declared.types.IntType.{IntType}
use Rattle.p10_int.specs.declared.operators.BinOp.{BinOp}
use Rattle.p10_int.specs.declared.types.IntType.TheVariants.{Int}
use Rattle.p10_int.specs.declared.operators.BinOp.TheVariants.{Div, Rem, Lt, Gt, Le, Ge, Eq, Ne}
use Rattle.p10_int.specs.declared.operators.UnOp.{UnOp}
use Rattle.p10_int.specs.declared.operators.UnOp.TheVariants.{Not}
use Rattle.p10_int.specs.Types.{InRange, is_signed_of, greatest_of, width_of, modulus_of, promoted, usual_of}
use Rattle.p10_int.specs.Conversion.{reduced, converted, pattern_of}
use Rattle.p10_int.specs.Operators.{IsRightOperand, bitwise, complement, operate, operate_unary}

-- promotion changes nothing the second time
abbrev pub PromotionIsIdempotent : Type 0
PromotionIsIdempotent = (t : IntType) → promoted (promoted t) ≡ promoted t

-- the usual conversions of two types don't depend on their order
abbrev pub UsualIsCommutative : Type 0
UsualIsCommutative = (a b : IntType) → usual_of a b ≡ usual_of b a

-- a reduced value is in the range, and differs from the number by a multiple of 2 ^ w
pub record IsReduction (t : IntType) (z r : ℤ) : Type 0 where
  pub within : InRange t r
  pub turns : ℤ
  pub congruent : z ≡ r +ℤ turns *ℤ pos (modulus_of t)

-- reducing a number to a type gives such a value (C99 6.3.1.3)
abbrev pub ReducesToRange : Type 0
ReducesToRange = (t : IntType) (z : ℤ) → IsReduction t z (reduced t z)

-- conversion gives values of the type (C99 6.3.1.2, 6.3.1.3)
abbrev pub ConvertsToRange : Type 0
ConvertsToRange = (t : IntType) (z : ℤ) → InRange t (converted t z)

-- conversion keeps each value that the type has (C99 6.3.1.2, 6.3.1.3p1)
abbrev pub ConversionKeepsValues : Type 0
ConversionKeepsValues = (t : IntType) (z : ℤ) → InRange t z → converted t z ≡ z

-- what a binary operator gives is a value of the type
abbrev pub ResultsAreInRange : Type 0
ResultsAreInRange =
    (op : BinOp) (t : IntType) (a b r : ℤ) → InRange t a → IsRightOperand op t b → operate op t a b ≡ Ok r → InRange t r

-- what a unary operator gives is a value of the type
abbrev pub UnaryResultsAreInRange : Type 0
UnaryResultsAreInRange = (op : UnOp) (t : IntType) (a r : ℤ) → InRange t a → operate_unary op t a ≡ Ok r → InRange t r

-- a quotient and its remainder give the dividend back (C99 6.5.5)
abbrev pub QuotientAndRemainder : Type 0
QuotientAndRemainder =
    (t : IntType) (a b q r : ℤ) → InRange t a → InRange t b → operate Div t a b ≡ Ok q → operate Rem t a b ≡ Ok r → q *ℤ b +ℤ r ≡ a

-- a remainder of a by b is smaller than b in size, and where it isn't 0 it has the sign of a (C99 6.5.5)
pub record IsRemainder (a b r : ℤ) : Type 0 where
  pub smaller : unsigned_abs r < unsigned_abs b
  pub not_negative : pos 0 ≤ℤ a → pos 0 ≤ℤ r
  pub not_positive : a ≤ℤ pos 0 → r ≤ℤ pos 0

-- what `%` gives at a type is such a remainder
abbrev pub RemaindersAreSmall : Type 0
RemaindersAreSmall = (t : IntType) (a b r : ℤ) → operate Rem t a b ≡ Ok r → IsRemainder a b r

-- the operators of C99 6.5.8 and 6.5.9
abbrev pub is_comparison : BinOp → Flag
is_comparison Lt = true
is_comparison Gt = true
is_comparison Le = true
is_comparison Ge = true
is_comparison Eq = true
is_comparison Ne = true
is_comparison op = false

-- a truth value is 1 or 0, of type `int` (C99 6.5.8, 6.5.9, 6.5.3.3)
pub record IsTruthValue (r : ℤ) : Type 0 where
  pub either : (r ≡ pos 1) ⊎ (r ≡ pos 0)
  pub of_int : InRange Int r

-- comparisons give truth values at every type of their operands (C99 6.5.8p6, 6.5.9p3)
abbrev pub ComparisonsGiveTruthValues : Type 0
ComparisonsGiveTruthValues = (op : BinOp) (t : IntType) (a b r : ℤ) → is_comparison op ≡ true → operate op t a b ≡ Ok r → IsTruthValue r

-- `!` gives truth values at every type of its operand (C99 6.5.3.3p5)
abbrev pub NegationGivesTruthValues : Type 0
NegationGivesTruthValues = (t : IntType) (a r : ℤ) → operate_unary Not t a ≡ Ok r → IsTruthValue r

-- bit i of a value's pattern is 1
abbrev pub IsSet : IntType → ℤ → ℕ → Type 0
IsSet t z i = bit_at (pattern_of t z) i ≡ 1

-- the bits of the results of `&`, `|`, `^` and `~` (C99 6.5.10, 6.5.12, 6.5.11, 6.5.3.3): set where both are, where one or
-- both are, where exactly one is, where the bit isn't
pub record BitwiseByBits (t : IntType) (a b : ℤ) (i : ℕ) : Type 0 where
  pub and_bits : IsSet t (bitwise bit_and t a b) i ↔ (IsSet t a i × IsSet t b i)
  pub or_bits : IsSet t (bitwise bit_or t a b) i ↔ (IsSet t a i ⊎ IsSet t b i)
  pub xor_bits : IsSet t (bitwise bit_xor t a b) i ↔ ((IsSet t a i × ¬ IsSet t b i) ⊎ (¬ IsSet t a i × IsSet t b i))
  pub complement_bits : IsSet t (complement t a) i ↔ (¬ IsSet t a i)

-- the results have these bits, for each bit of each type
abbrev pub OperatesOnBits : Type 0
OperatesOnBits = (t : IntType) (a b : ℤ) (i : ℕ) → i < width_of t → BitwiseByBits t a b i

-- the complement as a difference: -a - 1 in a signed type, and the greatest value less a in an unsigned one (C99 6.5.3.3)
abbrev pub ComplementIsDifference : Type 0
ComplementIsDifference =
    (t : IntType) (a : ℤ) → InRange t a → (is_signed_of t ≡ true → complement t a ≡ neg_ℤ a -ℤ pos 1) × (is_signed_of t ≡ false → complement t a ≡ greatest_of t -ℤ a)
