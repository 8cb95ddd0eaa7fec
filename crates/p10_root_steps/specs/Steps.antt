-- The steps in which roots change what stands.
use Rattle.std.specs.Prelude.{ℕ, Bool, List}
use Rattle.p10_elabx.specs.First.{Keep}
use Rattle.p10_elabx.specs.Scopes.{Binding}
use Rattle.p10_elabd.specs.Standing.{PlainStanding}
use Rattle.p10_declaration_steps.specs.Steps.{Steps}
use Rattle.p10_statement_steps.specs.Steps.{LocalSteps, BodySteps}

-- parts take steps, a typedef is passed, a body is done, and other names and tags stand in other blocks
pub data RootSteps (h : Keep) : PlainStanding → PlainStanding → Type 0 where
  root_part : {s t : PlainStanding} → Steps h s t → RootSteps h s t
  root_followed : {s t u : PlainStanding} → RootSteps h s t → RootSteps h t u → RootSteps h s u
  root_local : {s t : PlainStanding} → LocalSteps h s t → RootSteps h s t
  root_body : {s t : PlainStanding} → BodySteps h s t → RootSteps h s t
  names_changed : (names tags : List Binding) (floors : List (ℕ × ℕ)) (evaluated : Bool) (s : PlainStanding)
      → RootSteps h s (record s { scope = record s.scope { names = names; tags = tags; floors = floors; evaluated = evaluated } })
