-- What holds of each step in blocks and bodies holds of all of them.
use Rattle.std.specs.Prelude.{[], ◌∷◌, ◌++◌}
use Rattle.p10_base.specs.Words.{Text}
use Rattle.p10_base.specs.declared.at.At.{At}
use Rattle.p10_syn.specs.Trees.{Declaration}
use Rattle.p10_core.specs.Types.{PlainType}
use Rattle.p10_elabx.specs.First.{Keep}
use Rattle.p10_elabx.specs.Scopes.{named_type}
use Rattle.p10_elabd.specs.Standing.{PlainStanding}
use Rattle.p10_elabd.specs.declared.site.Site.{Site}
use Rattle.p10_elabs.specs.Locals.{Frame, Local}
use Rattle.p10_elabs.specs.LocalDeclarations.{declared_locally}
use Rattle.p10_declaration_steps.proofs.Each.{AreSteps, each}
use Rattle.p10_statement_steps.specs.Steps.{LocalSteps, local_part, local_followed, type_name_more, BodySteps, body_part, body_followed, declared_in_body, body_block_closed}
use Rattle.p10_statement_steps.proofs.Declaring.{over_locally}

-- a relation of which each step of declarations is one, and a name of a type too
pub record AreLocalSteps (h : Keep) (G : PlainStanding → PlainStanding → Type 0) : Type 0 where
  pub parts : AreSteps h G
  pub type_name_more : (name : Text) (t : PlainType) (s : PlainStanding) → G s (record s { scope = record s.scope { names = s.scope.names ++ record { name = name; what = named_type t } ∷ [] } })

pub each_local : {h : Keep} {G : PlainStanding → PlainStanding → Type 0} {s t : PlainStanding} → AreLocalSteps h G → LocalSteps h s t → G s t
each_local S (local_part x) = each S.parts x
each_local S (local_followed {s = s} {t = t} {u = u} x y) = S.parts.followed s t u (each_local S x) (each_local S y)
each_local S (type_name_more name t s) = S.type_name_more name t s

-- a relation of which each step of declarations is one, and each declaration in a block
pub record AreBodySteps (h : Keep) (G : PlainStanding → PlainStanding → Type 0) : Type 0 where
  pub parts : AreSteps h G
  pub declared_in_body : (f : Frame) (site : Site) (l : Local) (d : Declaration At) → G l.standing (declared_locally h f site l d).after.standing

pub each_in_body : {h : Keep} {G : PlainStanding → PlainStanding → Type 0} {s t : PlainStanding} → AreBodySteps h G → BodySteps h s t → G s t
each_in_body S (body_part x) = each S.parts x
each_in_body S (body_followed {s = s} {t = t} {u = u} x y) = S.parts.followed s t u (each_in_body S x) (each_in_body S y)
each_in_body S (declared_in_body f site l d) = S.declared_in_body f site l d
each_in_body S (body_block_closed s t x) = S.parts.block_closed s t (each_in_body S x)

-- of a relation of which a name of a type is one, declarations in blocks are
pub local_in_body : {h : Keep} {G : PlainStanding → PlainStanding → Type 0} → AreLocalSteps h G → AreBodySteps h G
local_in_body {h = h} S = record { parts = S.parts; declared_in_body = λ f site l d. each_local S (over_locally h f site l d) }
