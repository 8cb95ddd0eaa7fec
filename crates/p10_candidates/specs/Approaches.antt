-- What a loop's guard offers where it compares two variables: that they approach each other.
use Rattle.std.specs.Prelude.{ℕ, ◌&&◌, if◌then◌else◌, Bool, true, false, List, [], ◌∷◌, flat_map, Option, Some, None}
use Rattle.p10_int.specs.declared.operators.BinOp.{BinOp}
use Rattle.p10_int.specs.declared.operators.BinOp.TheVariants.{Lt, Gt, Le, Ge}
use Rattle.p10_core.specs.Typed.{PlainValue, value, binary}
use Rattle.p10_absx.specs.Environments.{Environment}
use Rattle.p10_absx.specs.Assessing.{assess, as_side}
use Rattle.p10_candidates.specs.Candidates.{LoopEntry, any_trial, guard_conjuncts}

-- two variables, of which the first is less than the second, or at most that
pub record Approach : Type 0 where
  pub below : ℕ
  pub above : ℕ
  pub may_equal : Bool

-- what a comparison of two variables offers (C99 6.5.8)
abbrev pub approach_of : BinOp → ℕ → ℕ → Option Approach
approach_of Lt x y = Some (record { below = x; above = y; may_equal = false })
approach_of Le x y = Some (record { below = x; above = y; may_equal = true })
approach_of Gt x y = Some (record { below = y; above = x; may_equal = false })
approach_of Ge x y = Some (record { below = y; above = x; may_equal = true })
approach_of op x y = None

-- the same where its operands may be variables
abbrev pub approach_between : BinOp → Option ℕ → Option ℕ → Option Approach
approach_between op (Some x) (Some y) = approach_of op x y
approach_between op x y = None

-- the variable that a value is, under conversions that keep its range
abbrev pub variable_in : Environment → PlainValue → Option ℕ
variable_in env v = (as_side (assess None v env)).variable

-- one where the loop assigns both variables
abbrev pub if_assigned : LoopEntry → Option Approach → List Approach
if_assigned l None = []
if_assigned l (Some a) = if l.assigned a.below && l.assigned a.above then a ∷ [] else []

-- what a conjunct offers, by what is known at the head
abbrev pub conjunct_approaches : LoopEntry → Environment → PlainValue → List Approach
conjunct_approaches l head (value at t (binary op a b)) = if_assigned l (approach_between op (variable_in head a) (variable_in head b))
conjunct_approaches l head v = []

-- what a guard offers, in text order. At the head a variable that the loop assigns has any value of its type, and the others have what they
-- have at entry
abbrev pub approaches : LoopEntry → List Approach
approaches l = flat_map (conjunct_approaches l (any_trial l)) (guard_conjuncts l.guard)
