-- What ends an object by its number.
use Rattle.std.proofs.Common.{◌≡◌, ℕ, List, map, Bool, true, false, cond, eqb, refl, sym, ◌∙◌, ap, subst, [], ◌∷◌, Some, None, Option, is_some, slice_get, Option}
use Rattle.std.proofs.lemmas.Option.{none-some}
use Rattle.p10_meaning.specs.declared.pointers.Cell.{Cell}
use Rattle.p10_meaning.specs.Objects.{Object, find, closed}
use Rattle.p10_store.specs.declared.slots.Slot.{Slot}
use Rattle.p10_store.specs.Stores.{Handle, Held, IsLiveIn, Closes, Ends}
use Rattle.p10_store.specs.Ranges.{objects_of, handle_of, AreGrowing}
use Rattle.p10_store.specs.Places.{slot_at, HasLiveSlot}
use Rattle.p10_store.proofs.ClosedSlots.{some_here}
use Rattle.p10_store.proofs.FoundObjects.{live_same, none_found}
use Rattle.p10_store.proofs.NumberedSlots.{slot_is}
use Rattle.p10_store.proofs.Releasing.{handle_at}

none_case : (b : Bool) (n : ℕ) (o : Object) (os : List Object) → cond b (Some o) (find n os) ≡ None → (find n os ≡ None → closed n os ≡ os) → cond b os (o ∷ closed n os) ≡ o ∷ os
none_case true n o os e go = absurd (none-some _ (sym e))
none_case false n o os e go = ap (λ xs. o ∷ xs) (go e)

-- no object with a number, so none is closed
none_closed : (n : ℕ) (os : List Object) → find n os ≡ None → closed n os ≡ os
none_closed n [] e = refl
none_closed n (o ∷ os) e = none_case (eqb o.number n) n o os e (none_closed n os)

ends_live : (n : ℕ) (o : Option Object) (old new : Held) → is_some o ≡ true → Closes n old new → Ends n o old new
ends_live n None old new e k = absurd cc
ends_live n (Some x) old new e k = k

live_found : (n i : ℕ) (cells : List Cell) (ss : List Slot) → AreGrowing 0 ss → HasLiveSlot ss n i → is_some (find n (objects_of cells ss)) ≡ true
live_found n i cells ss g h =
    live_same n cells ss ∙ (ap is_some (slot_is n 0 i ss h.slot g h.there h.number) ∙ ap (λ b. is_some (cond b (Some h.slot) None)) h.live)

pub is_live_here : (ss : List Slot) (n i : ℕ) → HasLiveSlot ss n i → IsLiveIn (map handle_of ss) i
is_live_here ss n i h = record { handle = record { number = h.slot.number; stride = h.slot.stride; count = h.slot.count }; there = handle_at ss i h.slot h.there h.live }

-- the object of a slot that was closed
pub ends_here : (cells : List Cell) (ss : List Slot) (n i : ℕ) (old new : Held) → AreGrowing 0 ss → objects_of cells ss ≡ old.objects → map handle_of ss ≡ old.slots → HasLiveSlot ss n i →
    ((h : Handle) → slice_get old.slots i ≡ Some (Some h) → Closes h.number old new) → (new.objects ≡ closed n old.objects) × Ends n (find n old.objects) old new
ends_here cells ss n i old new g os hs h closes =
    let k : Closes n old new = subst (λ n. Closes n old new) h.number (closes (record { number = h.slot.number; stride = h.slot.stride; count = h.slot.count }) (ap (λ slots. slice_get slots i) (sym hs) ∙ handle_at ss i h.slot h.there h.live)) in
    (k.objects, ends_live n (find n old.objects) old new (ap (λ o. is_some (find n o)) (sym os) ∙ live_found n i cells ss g h) k)

ends_none : (n : ℕ) (o : Option Object) (old : Held) → o ≡ None → Ends n o old old
ends_none n None old e = refl
ends_none n (Some x) old e = absurd (none-some _ (sym e))

-- there is no such object
pub ends_nowhere : (cells : List Cell) (ss : List Slot) (n : ℕ) (old : Held) → objects_of cells ss ≡ old.objects → slot_at n ss ≡ None → (old.objects ≡ closed n old.objects) × Ends n (find n old.objects) old old
ends_nowhere cells ss n old os e =
    let f : find n old.objects ≡ None = ap (find n) (sym os) ∙ none_found n cells ss e in
    (sym (none_closed n old.objects f), ends_none n (find n old.objects) old f)
