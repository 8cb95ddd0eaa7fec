-- `free` closes the object of the slot that was found.
use Rattle.std.proofs.Common.{◌≡◌, ℕ, List, map, true, sym, ◌∙◌, ap, subst, Some, Ok, slice_get, option_map}
use Rattle.std.proofs.lemmas.Option.{slice_get-map}
use Rattle.p10_meaning.specs.declared.pointers.Cell.{Cell}
use Rattle.p10_meaning.specs.declared.pointers.Ptr.{Ptr}
use Rattle.p10_meaning.specs.declared.pointers.Ptr.TheVariants.{Null, To}
use Rattle.p10_meaning.specs.Objects.{closed, release}
use Rattle.p10_store.specs.declared.slots.Slot.{Slot}
use Rattle.p10_store.specs.Stores.{Handle, Held, IsLiveIn, Closes, Frees}
use Rattle.p10_store.specs.Ranges.{objects_of, handle_of}
use Rattle.p10_store.specs.Places.{FreesAt}
use Rattle.p10_store.proofs.ClosedSlots.{some_here}

pub handle_at : (ss : List Slot) (i : ℕ) (s : Slot) → slice_get ss i ≡ Some s → s.live ≡ true → slice_get (map handle_of ss) i ≡ Some (Some (record { number = s.number; stride = s.stride; count = s.count }))
handle_at ss i s e live = slice_get-map handle_of ss i ∙ (ap (option_map handle_of) e ∙ ap (λ h. Some h) (some_here s live))

pub is_live_in : (cells : List Cell) (ss : List Slot) (pointer : Ptr) (i : ℕ) → FreesAt cells ss pointer (Ok (Some i)) → IsLiveIn (map handle_of ss) i
is_live_in cells ss Null i h = absurd h
is_live_in cells ss (To o window n) i h = record { handle = record { number = h.slot.number; stride = h.slot.stride; count = h.slot.count }; there = handle_at ss i h.slot h.there h.live }

pub releases : (cells : List Cell) (ss : List Slot) (pointer : Ptr) (i : ℕ) (old new : Held) → objects_of cells ss ≡ old.objects → map handle_of ss ≡ old.slots → FreesAt cells ss pointer (Ok (Some i)) →
    ((h : Handle) → slice_get old.slots i ≡ Some (Some h) → Closes h.number old new) → ((Ok new.objects) ≡ release old.objects pointer) × Frees pointer old new
releases cells ss Null i old new os hs h closes = absurd h
releases cells ss (To o window n) i old new os hs h closes =
    let k : Closes o old new = subst (λ n. Closes n old new) h.number (closes (record { number = h.slot.number; stride = h.slot.stride; count = h.slot.count }) (ap (λ slots. slice_get slots i) (sym hs) ∙ handle_at ss i h.slot h.there h.live)) in
    let r : release old.objects (To o window n) ≡ Ok (closed o old.objects) = subst (λ objects. release objects (To o window n) ≡ Ok (closed o objects)) os h.freed in
    (ap (λ objects. Ok objects) k.objects ∙ sym r, k)
