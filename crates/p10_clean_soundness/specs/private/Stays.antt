-- Pieces that don't end in an operation that C99 leaves undefined.
use Rattle.std.specs.Prelude.{Option, Some, None}
use Rattle.p10_meaning.specs.declared.pointers.Scalar.{Scalar}
use Rattle.p10_meaning.specs.States.{State, End, AssertionFailed, Undefined, StepsSpent, Progress, gives, ends}

-- an end that is no undefined operation: an `assert` that fails, or that no steps are left
abbrev pub IsDefinedEnd : End → Type 0
IsDefinedEnd (AssertionFailed span) = Unit {0}
IsDefinedEnd (Undefined stop span) = ⊥
IsDefinedEnd StepsSpent = Unit {0}

-- a piece doesn't end in an undefined operation, and something holds of what it gives and of the state after it
abbrev pub Stays : {A : Type 0} → (A → State → Type 0) → Progress A → Type 0
Stays P (gives a w) = P a w
Stays P (ends end w) = IsDefinedEnd end

-- there is a value
abbrev pub HasValue : Option Scalar → Type 0
HasValue None = ⊥
HasValue (Some x) = Unit {0}
