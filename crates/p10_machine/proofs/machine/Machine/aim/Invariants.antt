-- The targets so far are the same.
use Rattle.std.proofs.Common.{◌≡◌, ◌+◌, ◌-◌, ℕ, length, get_or}
use Rattle.p10_machine.specs.Slots.{no_target}
use Rattle.p10_machine.proofs.machine.Machine.aim.Given as goal

abbrev pub invariant-room : goal.invariant-room
invariant-room l =
    ((i : ℕ) → get_or l.self.targets.items i no_target ≡ get_or l.initial.self.targets.items i no_target) × (l.self ≡ record l.initial.self { targets = l.self.targets })

abbrev pub decreases-room : goal.decreases-room
decreases-room l = l.place + 1 - length l.self.targets.items
