-- The objects from a number on are the block's.
use Rattle.std.proofs.Common.{◌≡◌, ◌-◌, ◌+◌, ◌≤◌}
use Rattle.p10_core.specs.WholePrograms.{numbers_from}
use Rattle.p10_machine.specs.declared.machine.Spot.{Spot}
use Rattle.p10_machine.specs.Frames.{with_all}
use Rattle.p10_machine.specs.Views.{Around, config_of}
use Rattle.p10_machine.proofs.calling.note_all.Given as goal

abbrev pub invariant-objects : goal.invariant-objects
invariant-objects l = record {
  most : l.object ≤ l.past;
  least : l.first ≤ l.object + (l.first - l.past);
  noted : (s : Spot) (io : Around) → config_of s l.m io ≡ record (config_of s l.initial.m io) { blocks = with_all (numbers_from l.object (l.past - l.object)) (config_of s l.initial.m io).blocks };
}

abbrev pub decreases-objects : goal.decreases-objects
decreases-objects l = l.object
