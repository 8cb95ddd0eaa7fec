-- A label that stands twice in a `switch` is told at its place (C99 6.8.4.2p3).
use Rattle.std.specs.Prelude.{◌≡◌, ◌⊎◌, ℕ, ℤ, List, [], ◌∷◌, Option, Some, Ok}
use Rattle.p10_base.specs.declared.at.At.{At}
use Rattle.p10_base.specs.declared.codes.SubsetCode.TheVariants as subset
use Rattle.p10_syn.specs.Trees.{Expression}
use Rattle.p10_core.specs.declared.statements.Label.{Label as CaseLabel}
use Rattle.p10_core.specs.Typed.{PlainValue}
use Rattle.p10_elabx.specs.declared.problem.Problem.{Problem}
use Rattle.p10_elabx.specs.First.{Among, every, on}
use Rattle.p10_elabd.specs.Expressions.{value_found}
use Rattle.p10_elabs.specs.Statements.{Labelled, case_value, case_done, default_done}

-- a label that stands twice
abbrev pub repeated_at : At → Problem
repeated_at at = record { code = subset.BadJump; at = at }

-- one of some labels has a value
abbrev pub IsLabelled : ℤ → List CaseLabel → Type 0
IsLabelled z [] = ⊥
IsLabelled z (l ∷ rest) = (l.value ≡ z) ⊎ IsLabelled z rest

-- where labels before have `default`, a second one is told; where they have the value of a `case`, in the type of the `switch`, that `case`
-- is, unless one of those before is refused, so that its value isn't known
pub record RepeatedLabelsAreTold : Type 0 where
  pub of_default : (at : At) (n m : ℕ) (k : Labelled) → k.otherwise ≡ Some m → Among (repeated_at at) (default_done every at n k).after.standing.problems
  pub of_value : (at : At) (n : ℕ) (on' : Option PlainValue) (k : Labelled) (e : Expression At) (z : ℤ) (cases : List CaseLabel) → k.cases ≡ Some cases →
      on (value_found every k.after.standing e) (case_value on') ≡ Ok z → IsLabelled z cases → Among (repeated_at at) (case_done every at n on' k e).after.standing.problems
