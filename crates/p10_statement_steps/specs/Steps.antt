-- The steps in which declarations in blocks and statements change what stands.
use Rattle.std.specs.Prelude.{[], ◌∷◌, ◌++◌}
use Rattle.p10_base.specs.Words.{Text}
use Rattle.p10_base.specs.declared.at.At.{At}
use Rattle.p10_syn.specs.Trees.{Declaration}
use Rattle.p10_core.specs.Types.{PlainType}
use Rattle.p10_elabx.specs.First.{Keep}
use Rattle.p10_elabx.specs.Scopes.{named_type, entered, left}
use Rattle.p10_elabd.specs.Standing.{PlainStanding}
use Rattle.p10_elabd.specs.declared.site.Site.{Site}
use Rattle.p10_elabs.specs.Locals.{Frame, Local}
use Rattle.p10_elabs.specs.LocalDeclarations.{declared_locally}
use Rattle.p10_declaration_steps.specs.Steps.{Steps}

-- in a declaration: its parts take steps, and a name more stands for a type
pub data LocalSteps (h : Keep) : PlainStanding → PlainStanding → Type 0 where
  local_part : {s t : PlainStanding} → Steps h s t → LocalSteps h s t
  local_followed : {s t u : PlainStanding} → LocalSteps h s t → LocalSteps h t u → LocalSteps h s u
  type_name_more : (name : Text) (t : PlainType) (s : PlainStanding) → LocalSteps h s (record s { scope = record s.scope { names = s.scope.names ++ record { name = name; what = named_type t } ∷ [] } })

-- in a body: parts take steps, declarations are passed, and what is done in a block is done once it is closed
pub data BodySteps (h : Keep) : PlainStanding → PlainStanding → Type 0 where
  body_part : {s t : PlainStanding} → Steps h s t → BodySteps h s t
  body_followed : {s t u : PlainStanding} → BodySteps h s t → BodySteps h t u → BodySteps h s u
  declared_in_body : (f : Frame) (site : Site) (l : Local) (d : Declaration At) → BodySteps h l.standing (declared_locally h f site l d).after.standing
  body_block_closed : (s t : PlainStanding) → BodySteps h (record s { scope = entered s.scope }) t → BodySteps h s (record t { scope = left t.scope })
