-- So many free slots were added.
use Rattle.std.proofs.Common.{◌≡◌, ◌++◌, replicate}
use Rattle.p10_meaning.specs.Values.{absent}
use Rattle.p10_machine.specs.declared.machine.Spot.{Spot}
use Rattle.p10_machine.specs.Views.{Around, config_of}
use Rattle.p10_machine.proofs.machine.Machine.add_absent.Given as goal

abbrev pub invariant-loop-i : goal.invariant-loop-i
invariant-loop-i l =
    (s : Spot) (io : Around) → config_of s l.self io ≡ record (config_of s l.initial.self io) { slots = (config_of s l.initial.self io).slots ++ replicate l.i absent }
