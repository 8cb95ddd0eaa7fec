-- The slot stands after all others.
use Rattle.std.proofs.Common.{◌∙◌, ap}
use Rattle.p10_machine.specs.Slots.{held_in}
use Rattle.p10_machine.specs.Views.{config_of}
use Rattle.p10_machine.proofs.Holding.{held_added}
use Rattle.p10_machine.proofs.machine.Machine.add.Goals as goal

pub returns-in-Ok : goal.returns-in-Ok
returns-in-Ok c = λ s io.
    ap (λ hs. record (config_of s c.args.self.now io) { slots = hs }) (ap (λ slots. held_in c.args.self.now.targets.items slots) c.in-Ok.ensures.items ∙ held_added c.args.self.now.targets.items c.args.self.now.slots.items c.args.slot)
