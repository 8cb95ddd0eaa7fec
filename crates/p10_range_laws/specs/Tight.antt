-- Rows are tight: what stands at their ends, or anywhere in them, is a result on numbers of the operands.
use Rattle.std.specs.Prelude.{◌≡◌, ◌⊎◌, true, ℤ, pos, neg_ℤ, ◌+ℤ◌, ◌-ℤ◌, ◌*ℤ◌, ◌≤ℤ◌, ◌<ℤ◌, Ok, IfSome}
use Rattle.p10_int.specs.declared.types.IntType.{IntType}
use Rattle.p10_int.specs.declared.operators.BinOp.{BinOp}
use Rattle.p10_int.specs.declared.operators.BinOp.TheVariants.{Add, Sub, Mul, Div, Shr}
use Rattle.p10_int.specs.declared.operators.UnOp.{UnOp}
use Rattle.p10_int.specs.declared.operators.UnOp.TheVariants.{Neg, Not}
use Rattle.p10_int.specs.Types.{InRange, is_signed_of, least_of, greatest_of}
use Rattle.p10_int.specs.Laws.{is_comparison}
use Rattle.p10_int.specs.Operators.{operate, operate_unary}
use Rattle.p10_range.specs.Ranges.{Interval, IsInhabited, IsMember, IsWithin}
use Rattle.p10_range.specs.Rows.{values_of, row_of, unary_row_of}

-- ---- results

-- an operator attains z on some numbers of two intervals
pub record Attains (op : BinOp) (t : IntType) (a b : Interval) (z : ℤ) : Type 0 where
  pub x : ℤ
  pub y : ℤ
  pub left : IsMember a x
  pub right : IsMember b y
  pub result : operate op t x y ≡ Ok z

-- a unary operator attains z on some number of an interval
pub record AttainsUnary (op : UnOp) (t : IntType) (a : Interval) (z : ℤ) : Type 0 where
  pub x : ℤ
  pub operand : IsMember a x
  pub result : operate_unary op t x ≡ Ok z

-- the row has no number that isn't a result
abbrev pub HasOnlyResults : BinOp → IntType → Interval → Interval → Type 0
HasOnlyResults op t a b = IfSome (row_of op t a b) (λ r. (z : ℤ) → IsMember r z → Attains op t a b z)

-- both ends of the row are results: no smaller interval has all of them
abbrev pub EndsInResults : BinOp → IntType → Interval → Interval → Type 0
EndsInResults op t a b = IfSome (row_of op t a b) (λ r. Attains op t a b r.low × Attains op t a b r.high)

-- ---- sums, differences and negations (C99 6.5.6, 6.5.3.3)

-- nothing wraps: the type is signed (what it lacks stops), or it has what f gives exactly on each two numbers
abbrev pub NothingWraps : (ℤ → ℤ → ℤ) → IntType → Interval → Interval → Type 0
NothingWraps f t a b = (is_signed_of t ≡ true) ⊎ ((x y : ℤ) → IsMember a x → IsMember b y → InRange t (f x y))

abbrev pub SumsAreTight : Type 0
SumsAreTight = (t : IntType) (a b : Interval) → IsInhabited a → IsInhabited b → NothingWraps (λ x y. x +ℤ y) t a b → HasOnlyResults Add t a b

abbrev pub DifferencesAreTight : Type 0
DifferencesAreTight = (t : IntType) (a b : Interval) → IsInhabited a → IsInhabited b → NothingWraps (λ x y. x -ℤ y) t a b → HasOnlyResults Sub t a b

abbrev pub NegationsAreTight : Type 0
NegationsAreTight =
    (t : IntType) (a : Interval) → IsInhabited a → (is_signed_of t ≡ true) ⊎ ((x : ℤ) → IsMember a x → InRange t (neg_ℤ x)) →
    IfSome (unary_row_of Neg t a) (λ r. (z : ℤ) → IsMember r z → AttainsUnary Neg t a z)

-- ---- products (C99 6.5.5)

-- some numbers of two intervals have a product that meets a condition
pub record HasProduct (a b : Interval) (Meets : ℤ → Type 0) : Type 0 where
  pub x : ℤ
  pub y : ℤ
  pub left : IsMember a x
  pub right : IsMember b y
  pub product : Meets (x *ℤ y)

-- an end of the row is a result, or it is that end of the type and a product lies past it
pub record ProductEnds (t : IntType) (a b r : Interval) : Type 0 where
  pub low : Attains Mul t a b r.low ⊎ ((r.low ≡ least_of t) × HasProduct a b (λ z. z <ℤ least_of t))
  pub high : Attains Mul t a b r.high ⊎ ((r.high ≡ greatest_of t) × HasProduct a b (λ z. greatest_of t <ℤ z))

abbrev pub ProductsAreTight : Type 0
ProductsAreTight =
    (t : IntType) (a b : Interval) → IsInhabited a → IsInhabited b → NothingWraps (λ x y. x *ℤ y) t a b → IfSome (row_of Mul t a b) (ProductEnds t a b)

-- ---- quotients and shifts (C99 6.5.5, 6.5.7)

abbrev pub QuotientsAreTight : Type 0
QuotientsAreTight = (t : IntType) (a b : Interval) → IsInhabited a → IsInhabited b → IsWithin a (values_of t) → pos 0 ≤ℤ b.low → EndsInResults Div t a b

abbrev pub RightShiftsAreTight : Type 0
RightShiftsAreTight = (t : IntType) (a b : Interval) → IsInhabited a → EndsInResults Shr t a b

-- ---- tests (C99 6.5.8, 6.5.9, 6.5.3.3)

abbrev pub TestsAreTight : Type 0
TestsAreTight = (op : BinOp) (t : IntType) (a b : Interval) → is_comparison op ≡ true → IsInhabited a → IsInhabited b → EndsInResults op t a b

abbrev pub NegatedTestsAreTight : Type 0
NegatedTestsAreTight = (t : IntType) (a : Interval) → IsInhabited a → IfSome (unary_row_of Not t a) (λ r. AttainsUnary Not t a r.low × AttainsUnary Not t a r.high)
