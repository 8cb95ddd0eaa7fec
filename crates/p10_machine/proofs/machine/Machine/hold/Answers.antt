-- The scalar is in its slot.
use Rattle.p10_meaning.specs.Pointers.{holding}
use Rattle.p10_meaning.specs.Values.{holds}
use Rattle.p10_machine.proofs.Framing.{scalar_put}
use Rattle.p10_machine.proofs.machine.Machine.hold.Goals as goal

pub returns-in-Some : goal.returns-in-Some
returns-in-Some c = λ s io. scalar_put c.args.self.now c.set.new.self c.args.place c.in-Some.slot (holds (holding c.args.x)) s io c.in-Some.ensures (c.set.ensures s io)
