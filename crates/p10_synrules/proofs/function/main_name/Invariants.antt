use Rattle.std.proofs.Common.{◌≡◌, map, drop}
use Rattle.std.specs.List.{find}
use Rattle.p10_syn.specs.Built.{identifier_of}
use Rattle.p10_synrules.specs.Functions.{is_main}
use Rattle.p10_synrules.proofs.function.main_name.Given as goal

-- the first one is that among those that are left
abbrev pub invariant-loop-name : goal.invariant-loop-name
invariant-loop-name l = find is_main (map identifier_of l.names) ≡ find is_main (map identifier_of (drop l.name-index l.names))
