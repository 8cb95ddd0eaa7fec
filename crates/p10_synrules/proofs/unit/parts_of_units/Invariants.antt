use Rattle.std.proofs.Common.{◌≡◌, map, take}
use Rattle.p10_syn.specs.BuiltStatements.{external_of}
use Rattle.p10_synrules.specs.Parts.{unit_parts}
use Rattle.p10_synrules.specs.private.Views.{plain_parts}
use Rattle.p10_synrules.proofs.unit.parts_of_units.Given as goal

-- the parts of the units so far were put down
abbrev pub invariant-loop-unit : goal.invariant-loop-unit
invariant-loop-unit l = plain_parts l.parts ≡ unit_parts (map external_of (take l.unit-index l.units))
