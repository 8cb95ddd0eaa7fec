-- The parts of statements that the code keeps while it walks over them.
use Rattle.std.specs.Prelude.{Option, option_map, List, Vec}
use Rattle.std.specs.declared.alloc.Global.{Global as Memory}
use Rattle.p10_core.specs.declared.statements.Stmt.{Stmt}
use Rattle.p10_core.specs.declared.typed.Value.{Value}
use Rattle.p10_core.specs.Views.{plain_value, plain_statement}
use Rattle.p10_elabs.specs.declared.labels.Labelled.{Labelled}
use Rattle.p10_elabs.specs.declared.switches.Switched.{Switched as CodeSwitched}
use Rattle.p10_elabs.specs.Locals.{Local}
use Rattle.p10_elabs.specs.LocalViews.{plain_items, plain_labelled}
use Rattle.p10_elabs.specs.ItemViews.{plain_block}
use Rattle.p10_elabs.specs.Statements.{Switched}
use Rattle.p10_elabs.specs.private.Steps.{ForClauses, SwitchBody}

-- the clauses of a `for`, and what the body has then
abbrev pub clauses_as : Option (Vec Stmt Memory) × Option (Option Value) × Option (Vec Stmt Memory) → Local → ForClauses
clauses_as c l = record { first = plain_items c.0; test = option_map (option_map plain_value) c.1; third = plain_items c.2; after = l }

-- the items of the block of a `switch` with their labels, and what the body has then
abbrev pub plain_switched : CodeSwitched → Local → Switched
plain_switched w l = record { items = plain_block w.items l; labels = plain_labelled w.labels l }

-- the body of a `switch` with its labels, and what the function's body has then
abbrev pub body_as : Labelled → Option Stmt → Local → SwitchBody
body_as k made l = record { labels = plain_labelled k l; made = option_map plain_statement made; after = l }
