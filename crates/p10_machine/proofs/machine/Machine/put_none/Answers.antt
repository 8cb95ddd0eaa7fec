-- No value is in the slot, and the next operation follows.
use Rattle.std.proofs.Common.{◌+◌, ◌∙◌, ap, None, refl}
use Rattle.std.specs.Prelude.{slice_set}
use Rattle.p10_code.specs.Machine.{on, put, cell_of}
use Rattle.p10_machine.specs.declared.machine.Spot.{Spot}
use Rattle.p10_machine.specs.declared.slots.Slot.TheVariants.{Unset}
use Rattle.p10_machine.specs.Views.{config_of}
use Rattle.p10_machine.proofs.Doing.{next_done}
use Rattle.p10_machine.proofs.Framing.{scalar_put}
use Rattle.p10_machine.proofs.machine.Machine.put_none.Goals as goal

pub returns : goal.returns
returns c =
    let there : Spot = record { pc = c.args.s.pc + 1; left = c.args.s.left } in
    next_done c.next.result c.args.s c.set.new.self (λ io. on (put c.args.k (cell_of None) (config_of c.args.s c.args.self.now io))) c.next.ensures
    (λ io. ap on (scalar_put c.args.self.now c.set.new.self c.place-place.result Unset (cell_of None) there io (λ at. refl) (c.set.ensures there io)) ∙ ap (λ place. on (record (config_of there c.args.self.now io) { slots = slice_set (config_of there c.args.self.now io).slots place (cell_of None) })) c.place-place.ensures)
