-- What was opened stands after all else.
use Rattle.std.proofs.Common.{rules, arith, ◌≡◌, ◌<◌, ◌+◌, ◌*◌, ◌^◌, ◌++◌, length, [], ◌∷◌, true, refl, sym, subst}
use Rattle.p10_store.specs.declared.slots.Slot.{Slot}
use Rattle.p10_store.specs.Origins.{first_cells, Fills}
use Rattle.p10_store.specs.Stores.{Held, Opens}
use Rattle.p10_store.proofs.ClosedSlots.{held_in}
use Rattle.p10_store.proofs.OpenedSlots.{IsOpened, open_keeps, open_is, fits_word}
use Rattle.p10_store.proofs.VecSizes.{sizes_of, are_sized}
use Rattle.p10_store.proofs.store.Store.open.Goals as goal

pub returns-in_default-clause-room : goal.returns-in_default-clause-room
returns-in_default-clause-room c = λ objects cells.
    let few : c.args.self.now.spare_cells < 2 ^ 63 = subst (λ (v : Held). v.spare_cells < 2 ^ 63) c.self.view_is (omega (arith, c.self.inside.cells.small)) in
    absurd (c.in_default.ensures (fits_word _ _ cells few))

pub invariant_of-self-in-Ok : goal.invariant_of-self-in-Ok
invariant_of-self-in-Ok c =
    let size : c.in-Some.len ≡ c.args.count * c.args.shape.now.scalars = search rules in
    let made : Slot = record { number = c.self.inside.opened; start = c.len.result; len = c.in-Some.len; stride = c.args.shape.now.scalars; count = c.args.count; live = true; provenance = c.provenance_of.result } in
    let slots_are : c.push.new.self.items ≡ c.self.inside.slots.items ++ made ∷ [] = search rules in
    let cells_are : c.put_cells.new.cells.items ≡ c.self.inside.cells.items ++ first_cells c.args.origin c.in-Some.len = search rules in
    let start : c.len.result ≡ length c.self.inside.cells.items = search rules in
    let o : IsOpened c.self.inside.cells.items c.put_cells.new.cells.items c.self.inside.slots.items c.push.new.self.items c.self.inside.opened made c.args.origin (sizes_of c.self.inside.cells c.self.inside.slots) (sizes_of c.put_cells.new.cells c.push.new.self) =
    record { slots_are = slots_are; cells_are = cells_are; number = refl; start = start; live = refl; size = size; provenance = c.provenance_of.ensures; fills = subst (λ n. Fills c.args.origin n) (sym size) c.requires.literal; slot_capacity = c.push.ensures.capacity; cell_capacity = c.put_cells.ensures.capacity } in
    open_keeps _ _ _ _ _ _ _ _ _ c.self.invariant o

pub returns-in-Ok-clause-ok : goal.returns-in-Ok-clause-ok
returns-in-Ok-clause-ok c =
    let size : c.in-Some.len ≡ c.args.count * c.args.shape.now.scalars = search rules in
    let made : Slot = record { number = c.self.inside.opened; start = c.len.result; len = c.in-Some.len; stride = c.args.shape.now.scalars; count = c.args.count; live = true; provenance = c.provenance_of.result } in
    let slots_are : c.push.new.self.items ≡ c.self.inside.slots.items ++ made ∷ [] = search rules in
    let cells_are : c.put_cells.new.cells.items ≡ c.self.inside.cells.items ++ first_cells c.args.origin c.in-Some.len = search rules in
    let start : c.len.result ≡ length c.self.inside.cells.items = search rules in
    let o : IsOpened c.self.inside.cells.items c.put_cells.new.cells.items c.self.inside.slots.items c.push.new.self.items c.self.inside.opened made c.args.origin (sizes_of c.self.inside.cells c.self.inside.slots) (sizes_of c.put_cells.new.cells c.push.new.self) =
    record { slots_are = slots_are; cells_are = cells_are; number = refl; start = start; live = refl; size = size; provenance = c.provenance_of.ensures; fills = subst (λ n. Fills c.args.origin n) (sym size) c.requires.literal; slot_capacity = c.push.ensures.capacity; cell_capacity = c.put_cells.ensures.capacity } in
    subst (λ (v : Held). Opens v (held_in c.put_cells.new.cells.items c.push.new.self.items (c.self.inside.opened + 1) (sizes_of c.put_cells.new.cells c.push.new.self)) c.args.shape.now.scalars c.args.count c.args.origin) c.self.view_is
    (open_is _ _ _ _ _ made _ _ _ c.self.invariant o (are_sized c.self.inside.cells c.self.inside.slots) (are_sized c.put_cells.new.cells c.push.new.self))
