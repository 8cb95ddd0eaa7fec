-- The end of those that are left comes to the end of all.
use Rattle.std.proofs.Common.{◌≡◌, ◌-◌}
use Rattle.std.specs.Prelude.{reverse}
use Rattle.p10_machine.specs.declared.machine.Spot.{Spot}
use Rattle.p10_machine.specs.Blocks.{without_youngest}
use Rattle.p10_machine.specs.Views.{Around, config_of}
use Rattle.p10_machine.proofs.machine.Machine.end_youngest.Given as goal

abbrev pub invariant-loop-i : goal.invariant-loop-i
invariant-loop-i l =
    (s : Spot) (io : Around) → without_youngest (l.count - l.i) (reverse l.self.blocks.items) (reverse l.self.opened.items) (config_of s l.self io) ≡ without_youngest l.count (reverse l.initial.self.blocks.items) (reverse l.initial.self.opened.items) (config_of s l.initial.self io)
