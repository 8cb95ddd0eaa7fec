-- Items of a block, as the code keeps them.
use Rattle.std.specs.Prelude.{Option}
use Rattle.p10_core.specs.Typed.{PlainStatement}
use Rattle.p10_elabs.specs.declared.items.Items.{Items}
use Rattle.p10_elabs.specs.Locals.{Local, Done}
use Rattle.p10_elabs.specs.LocalViews.{plain_items}
use Rattle.p10_elabs.specs.Statements.{Block'}

-- the items of a block so far, and what the body has then
abbrev pub plain_block : Items → Local → Block'
plain_block b l = record { made = plain_items b.made; kinds = b.kinds.items; after = l }

-- a statement that may be refused, and what the body has then
abbrev pub with_made : Option PlainStatement → Local → Done PlainStatement
with_made made l = record { made = made; after = l }
