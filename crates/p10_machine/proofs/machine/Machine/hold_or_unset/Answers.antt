-- A scalar is put in the slot, or none.
use Rattle.std.proofs.Common.{sym, ap}
use Rattle.p10_meaning.specs.Pointers.{holding}
use Rattle.p10_meaning.specs.Values.{holds}
use Rattle.p10_code.specs.Machine.{cell_of}
use Rattle.p10_machine.specs.declared.slots.Slot.TheVariants.{Unset}
use Rattle.p10_machine.specs.Views.{config_of}
use Rattle.p10_machine.proofs.Framing.{scalar_put, put_as}
use Rattle.p10_machine.proofs.machine.Machine.hold_or_unset.Goals as goal

pub returns-in-Some : goal.returns-in-Some
returns-in-Some c =
    put_as c.hold.result (λ s io. config_of s c.args.self.now io) (λ s io. config_of s c.hold.new.self io) c.args.place (holds (holding c.in-Some.x)) (cell_of c.args.x) (ap (λ x. cell_of x) (sym c.in-Some.is)) c.hold.ensures

pub returns-in-None : goal.returns-in-None
returns-in-None c = λ s io. scalar_put c.args.self.now c.set.new.self c.args.place Unset (cell_of c.args.x) s io (λ at. ap (λ x. cell_of x) (sym c.in-None.is)) (c.set.ensures s io)
