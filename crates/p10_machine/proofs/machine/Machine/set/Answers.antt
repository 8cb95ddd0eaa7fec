-- The slot is there and set, or it isn't there.
use Rattle.std.proofs.Common.{sym, ap, arith}
use Rattle.p10_machine.specs.Slots.{held_in}
use Rattle.p10_machine.specs.Views.{config_of}
use Rattle.p10_machine.proofs.Holding.{set_nowhere}
use Rattle.p10_machine.proofs.machine.Machine.set.Goals as goal

pub returns-then-place-len : goal.returns-then-place-len
returns-then-place-len c = λ s io.
    ap (λ slots. record (config_of s c.args.self.now io) { slots = held_in c.args.self.now.targets.items slots }) (sym (set_nowhere c.args.self.now.slots.items c.args.place c.args.slot (omega (arith, c.if-place-len.true, c.len.ensures, c.args.self.now.slots.ok.0))))
