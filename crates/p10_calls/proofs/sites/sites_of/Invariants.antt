-- The calls of the functions that were passed are put down, those of the others are to come.
use Rattle.std.proofs.Common.{◌≡◌, ◌++◌, drop, map}
use Rattle.p10_core.specs.Views.{plain_function}
use Rattle.p10_calls.specs.CallSites.{sites_from}
use Rattle.p10_calls.proofs.sites.sites_of.Given as goal

abbrev pub invariant-loop-number : goal.invariant-loop-number
invariant-loop-number l = l.sites.items ++ sites_from l.number (map plain_function (drop l.number l.functions)) ≡ sites_from 0 (map plain_function l.functions)
