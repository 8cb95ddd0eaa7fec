use Rattle.std.proofs.Common.{◌≡◌, ◌++◌, map, take}
use Rattle.std.specs.List.{flat_map}
use Rattle.p10_syn.specs.BuiltStatements.{external_of}
use Rattle.p10_synrules.specs.Functions.{definitions_in}
use Rattle.p10_synrules.specs.private.Listing.{function_violations}
use Rattle.p10_synrules.proofs.function.put_functions.Given as goal

-- the violations by the units so far were put down
abbrev pub invariant-loop-unit : goal.invariant-loop-unit
invariant-loop-unit l = l.violations.items ≡ l.initial.violations.items ++ flat_map (function_violations l.sources) (definitions_in (map external_of (take l.unit-index l.units)))
