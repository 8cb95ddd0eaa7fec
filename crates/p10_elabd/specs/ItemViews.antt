-- Items of initialisers of the code.
use Rattle.std.specs.Prelude.{ℕ, ◌-◌, nat_lt, if◌then◌else◌, List, [], map, drop, slice_get, Option, Some, None, option_map, Result, Ok, Err, Vec}
use Rattle.std.specs.declared.alloc.Global.{Global}
use Rattle.p10_base.specs.Words.{Text as Bytes}
use Rattle.p10_base.specs.declared.at.At.{At}
use Rattle.p10_core.specs.declared.statements.Initializer.{Initializer}
use Rattle.p10_core.specs.Types.{PlainType, plain_type}
use Rattle.p10_core.specs.declared.statements.Item.{Item}
use Rattle.p10_core.specs.Typed.{PlainItem, PlainInitializer}
use Rattle.p10_core.specs.Views.{plain_item, plain_initializer}
use Rattle.p10_core.specs.Rows.{is_scalar}
use Rattle.p10_elabx.specs.declared.problem.Problem.{Problem}
use Rattle.p10_syn.specs.Trees.{Initializers}
use Rattle.p10_elabx.specs.First.{only_first, Ruled}
use Rattle.p10_elabd.specs.declared.lifetime.Lifetime.{Lifetime}
use Rattle.p10_elabd.specs.Standing.{PlainStanding, Passed, passed}
use Rattle.p10_elabd.specs.declared.strings.Text.{Text}
use Rattle.p10_elabd.specs.declared.slots.Slots.{Slots}
use Rattle.p10_elabd.specs.declared.slots.Slots.TheVariants as slots_are
use Rattle.p10_elabd.specs.Initializers.{Slots as PlainSlots, elements, members, no_slots, slots_of, list_passed, items_passed, as_single, as_listed}

-- items, if none of them is refused
abbrev pub plain_items : Option (Vec Item Global) → Option (List PlainItem)
plain_items items = option_map (λ (v : Vec Item Global). map plain_item v.items) items

-- what a row of the code says of an item
abbrev pub ruled_item : Result Item (Option Problem) → Ruled PlainItem
ruled_item (Ok i) = Ok (plain_item i)
ruled_item (Err r) = Err r

-- a string with its place
abbrev pub plain_text : Text → At × Bytes
plain_text t = (t.at, t.bytes.items)

-- what there is to initialise
abbrev pub plain_slots : Slots → PlainSlots
plain_slots (slots_are.Elements t n) = elements (plain_type t) n
plain_slots (slots_are.Members ts) = members (map plain_type ts.items)
plain_slots slots_are.Nothing = no_slots

-- the type of what stands at a place, if there is something
abbrev pub slot_at : ℕ → PlainSlots → Option PlainType
slot_at i (elements t n) = if nat_lt i n then Some t else None
slot_at i (members ts) = slice_get ts i
slot_at i no_slots = None

-- what is left after the first `i`
abbrev pub slots_after : ℕ → PlainSlots → PlainSlots
slots_after i (elements t n) = elements t (n - i)
slots_after i (members ts) = members (drop i ts)
slots_after i no_slots = no_slots

-- what a row of the code says of an initialiser
abbrev pub ruled_initializer : Result Initializer (Option Problem) → Ruled PlainInitializer
ruled_initializer (Ok i) = Ok (plain_initializer i)
ruled_initializer (Err r) = Err r

-- what is written in braces after the items before, where the first problem is kept
abbrev pub list_written : Lifetime → PlainType → ℕ → Passed (List PlainItem) → At → Initializers At → Passed (List PlainItem)
list_written life t scalar p at all =
    list_passed only_first life t scalar p at all (items_passed only_first life (slots_of p.after.scope.structures t) scalar p all)

-- an initialiser in braces, where the first problem is kept
abbrev pub braced : Lifetime → PlainType → PlainStanding → At → Initializers At → Passed PlainInitializer
braced life t s at all =
    let p : Passed (List PlainItem) = list_written life t 0 (passed [] s) at all in
    if is_scalar t then as_single p else as_listed at p
