use Rattle.std.proofs.Common.{◌≡◌, map, take}
use Rattle.p10_syn.specs.Built.{identifier_of}
use Rattle.p10_syn.specs.BuiltStatements.{external_of}
use Rattle.p10_synrules.specs.Functions.{function_names}
use Rattle.p10_synrules.proofs.function.names_of_functions.Given as goal

-- the names of the functions among the units so far
abbrev pub invariant-loop-unit : goal.invariant-loop-unit
invariant-loop-unit l = map identifier_of l.names.items ≡ function_names (map external_of (take l.unit-index l.units))
