-- The variables that are left are held after those that are, and the slots before them stay as they are.
use Rattle.std.proofs.Common.{◌≡◌, map, take}
use Rattle.p10_core.specs.Views.{plain_variable}
use Rattle.p10_machine.specs.declared.machine.Spot.{Spot}
use Rattle.p10_machine.specs.Frames.{scalars_from}
use Rattle.p10_machine.specs.Views.{Around, config_of}
use Rattle.p10_machine.proofs.Entered.{Holds}
use Rattle.p10_machine.proofs.calling.hold_variables.Given as goal

abbrev pub invariant-loop-i : goal.invariant-loop-i
invariant-loop-i l = record {
  first : (s : Spot) (io : Around) → take l.end (config_of s l.m io).slots ≡ (config_of s l.initial.m io).slots;
  held : (s : Spot) (io : Around) → Holds (map plain_variable l.variables) (scalars_from l.arguments.0 l.arguments.1 (config_of s l.initial.m io)) l.i (config_of s l.initial.m io) (config_of s l.m io);
}
