-- The scalar stands after all slots.
use Rattle.std.proofs.Common.{length}
use Rattle.std.specs.Prelude.{get_or}
use Rattle.p10_meaning.specs.Pointers.{holding}
use Rattle.p10_meaning.specs.Values.{holds}
use Rattle.p10_machine.specs.Slots.{no_target, held_of}
use Rattle.p10_machine.specs.Views.{config_of}
use Rattle.p10_machine.proofs.Framing.{added_as}
use Rattle.p10_machine.proofs.machine.Machine.add_scalar.Goals as goal

pub returns-in-Some : goal.returns-in-Some
returns-in-Some c =
    added_as c.add.result (λ s io. config_of s c.args.self.now io) (λ s io. config_of s c.add.new.self io) (held_of (get_or c.args.self.now.targets.items (length c.args.self.now.slots.items) no_target) c.in-Some.slot) (holds (holding c.args.x)) (c.in-Some.ensures (get_or c.args.self.now.targets.items (length c.args.self.now.slots.items) no_target)) c.add.ensures
