-- What declarators in blocks become, as the code keeps it.
use Rattle.std.specs.Prelude.{Bool, List, [], ◌∷◌, Option, Some, None, option_map}
use Rattle.p10_base.specs.declared.at.At.{At}
use Rattle.p10_syn.specs.Trees.{InitDeclarator}
use Rattle.p10_core.specs.declared.statements.Stmt.{Stmt}
use Rattle.p10_core.specs.Types.{PlainType}
use Rattle.p10_core.specs.Views.{plain_statement}
use Rattle.p10_elabx.specs.First.{Keep}
use Rattle.p10_elabd.specs.declared.site.Storage.{Storage}
use Rattle.p10_elabd.specs.Shapes.{name_in}
use Rattle.p10_elabs.specs.declared.local.Local.{Local as CodeLocal}
use Rattle.p10_elabs.specs.Locals.{Frame}
use Rattle.p10_elabs.specs.LocalDeclarations.{Declaring, no_items, local_named}
use Rattle.p10_elabs.specs.LocalViews.{plain_local}
use Rattle.p10_elabs.specs.Statements.{Block', with_items}

-- one item, which may be refused, and what the body has then
abbrev pub one_item : Option Stmt → CodeLocal → Declaring
one_item made l = record { items = option_map plain_statement made ∷ []; after = plain_local l }

-- at most one item, and what the body has then
abbrev pub items_as : Option (Option Stmt) → CodeLocal → Declaring
items_as None l = no_items (plain_local l)
items_as (Some made) l = one_item made l

-- declarators one after the other, whose items are put down at once
abbrev pub declarators_added : Keep → Frame → At → Storage → Bool → Option PlainType → Block' → List (InitDeclarator At) → Block'
declarators_added h f at s sensor t b [] = b
declarators_added h f at s sensor t b (d ∷ rest) =
    declarators_added h f at s sensor t (with_items b (local_named h f at s sensor t b.after d (name_in d.declarator))) rest
