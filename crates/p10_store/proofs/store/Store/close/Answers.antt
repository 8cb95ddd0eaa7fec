-- Only the slot's mark changes, and dead slots at the end are let go.
use Rattle.std.proofs.Common.{arith, ◌≡◌, ◌<◌, length, Some, slice_get, map, subst, sym}
use Rattle.std.proofs.lemmas.Option.{slice_get_read}
use Rattle.p10_store.specs.Stores.{Held, Closes, IsYoungest, BringsBack}
use Rattle.p10_store.specs.Ranges.{handle_of}
use Rattle.p10_store.proofs.ClosedSlots.{IsClosed, tiled_closed, close_keeps, close_is, close_brings, within_handles, held_in}
use Rattle.p10_store.proofs.VecSizes.{sizes_of, are_sized}
use Rattle.p10_store.proofs.store.Store.close.Goals as goal

pub trim-requires : goal.trim-requires
trim-requires c =
    let w : c.args.slot < length c.self.inside.slots.items = within_handles c.self.inside.slots.items c.args.slot _ (subst (λ (v : Held). slice_get v.slots c.args.slot ≡ Some (Some c.requires.handle)) (sym c.self.view_is) c.requires.there) in
    let e : slice_get c.self.inside.slots.items c.args.slot ≡ Some c.index_mut.result.now = slice_get_read _ _ _ _ c.self.inside.slots.ok.0 (omega (arith, w, c.self.inside.slots.ok.0)) c.index_mut.ensures.value in
    tiled_closed 0 (length c.self.inside.cells.items) c.args.slot c.self.inside.slots.items c.index_mut.result.now c.self.invariant.tiled e

pub invariant_of-self : goal.invariant_of-self
invariant_of-self c =
    let w : c.args.slot < length c.self.inside.slots.items = within_handles c.self.inside.slots.items c.args.slot _ (subst (λ (v : Held). slice_get v.slots c.args.slot ≡ Some (Some c.requires.handle)) (sym c.self.view_is) c.requires.there) in
    let e : slice_get c.self.inside.slots.items c.args.slot ≡ Some c.index_mut.result.now = slice_get_read _ _ _ _ c.self.inside.slots.ok.0 (omega (arith, w, c.self.inside.slots.ok.0)) c.index_mut.ensures.value in
    let k : IsClosed c.self.inside.cells.items c.trim.new.cells.items c.self.inside.slots.items c.trim.new.slots.items c.args.slot c.index_mut.result.now (sizes_of c.self.inside.cells c.self.inside.slots) (sizes_of c.trim.new.cells c.trim.new.slots) =
    record { slots_are = c.trim.ensures.slots; cells_are = c.trim.ensures.cells; slot_capacity = c.trim.ensures.room.0; cell_capacity = c.trim.ensures.room.1 } in
    close_keeps _ _ _ _ _ _ _ _ _ c.self.invariant e k

pub returns-clause-closes : goal.returns-clause-closes
returns-clause-closes c = λ h there.
    let here : slice_get (map handle_of c.self.inside.slots.items) c.args.slot ≡ Some (Some h) = subst (λ (v : Held). slice_get v.slots c.args.slot ≡ Some (Some h)) (sym c.self.view_is) there in
    let w : c.args.slot < length c.self.inside.slots.items = within_handles c.self.inside.slots.items c.args.slot _ here in
    let e : slice_get c.self.inside.slots.items c.args.slot ≡ Some c.index_mut.result.now = slice_get_read _ _ _ _ c.self.inside.slots.ok.0 (omega (arith, w, c.self.inside.slots.ok.0)) c.index_mut.ensures.value in
    let k : IsClosed c.self.inside.cells.items c.trim.new.cells.items c.self.inside.slots.items c.trim.new.slots.items c.args.slot c.index_mut.result.now (sizes_of c.self.inside.cells c.self.inside.slots) (sizes_of c.trim.new.cells c.trim.new.slots) =
    record { slots_are = c.trim.ensures.slots; cells_are = c.trim.ensures.cells; slot_capacity = c.trim.ensures.room.0; cell_capacity = c.trim.ensures.room.1 } in
    subst (λ (v : Held). Closes h.number v (held_in c.trim.new.cells.items c.trim.new.slots.items c.self.inside.opened (sizes_of c.trim.new.cells c.trim.new.slots))) c.self.view_is
    (close_is _ _ _ _ c.self.inside.opened _ _ _ _ _ c.self.invariant e here k (are_sized c.self.inside.cells c.self.inside.slots) (are_sized c.trim.new.cells c.trim.new.slots))

pub returns-clause-youngest : goal.returns-clause-youngest
returns-clause-youngest c = λ h there young.
    let here : slice_get (map handle_of c.self.inside.slots.items) c.args.slot ≡ Some (Some h) = subst (λ (v : Held). slice_get v.slots c.args.slot ≡ Some (Some h)) (sym c.self.view_is) there in
    let w : c.args.slot < length c.self.inside.slots.items = within_handles c.self.inside.slots.items c.args.slot _ here in
    let e : slice_get c.self.inside.slots.items c.args.slot ≡ Some c.index_mut.result.now = slice_get_read _ _ _ _ c.self.inside.slots.ok.0 (omega (arith, w, c.self.inside.slots.ok.0)) c.index_mut.ensures.value in
    let k : IsClosed c.self.inside.cells.items c.trim.new.cells.items c.self.inside.slots.items c.trim.new.slots.items c.args.slot c.index_mut.result.now (sizes_of c.self.inside.cells c.self.inside.slots) (sizes_of c.trim.new.cells c.trim.new.slots) =
    record { slots_are = c.trim.ensures.slots; cells_are = c.trim.ensures.cells; slot_capacity = c.trim.ensures.room.0; cell_capacity = c.trim.ensures.room.1 } in
    let y : IsYoungest (map handle_of c.self.inside.slots.items) c.args.slot = subst (λ (v : Held). IsYoungest v.slots c.args.slot) (sym c.self.view_is) young in
    subst (λ (v : Held). BringsBack h v (held_in c.trim.new.cells.items c.trim.new.slots.items c.self.inside.opened (sizes_of c.trim.new.cells c.trim.new.slots))) c.self.view_is
    (close_brings _ _ _ _ c.self.inside.opened _ _ _ _ _ c.self.invariant e here k (are_sized c.self.inside.cells c.self.inside.slots) (are_sized c.trim.new.cells c.trim.new.slots) y)
