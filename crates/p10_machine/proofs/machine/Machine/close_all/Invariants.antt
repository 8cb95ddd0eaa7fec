-- The end of the blocks that are left comes to the end of all.
use Rattle.std.proofs.Common.{◌≡◌, ◌-◌}
use Rattle.p10_code.specs.Machine.{close_blocks}
use Rattle.p10_machine.specs.declared.machine.Spot.{Spot}
use Rattle.p10_machine.specs.Views.{Around, config_of}
use Rattle.p10_machine.proofs.machine.Machine.close_all.Given as goal

abbrev pub invariant-loop-i : goal.invariant-loop-i
invariant-loop-i l =
    (s : Spot) (io : Around) → close_blocks (l.count - l.i) (config_of s l.self io) ≡ close_blocks l.count (config_of s l.initial.self io)
