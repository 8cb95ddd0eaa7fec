-- Items of initialisers that are constant.
use Rattle.std.specs.Prelude.{List, All, map}
use Rattle.p10_core.specs.declared.statements.Item.{Item}
use Rattle.p10_core.specs.Typed.{PlainItem}
use Rattle.p10_core.specs.Views.{plain_item}
use Rattle.p10_core.specs.WholePrograms.{IsStaticWritten}

-- each of some items is constant
abbrev pub AreStatic : List Item → Type 0
AreStatic items = All (λ (i : PlainItem). IsStaticWritten i.written) (map plain_item items)
