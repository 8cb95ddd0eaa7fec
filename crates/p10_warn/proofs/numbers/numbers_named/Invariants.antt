use Rattle.std.proofs.Common.{◌≡◌, ◌++◌, length}
use Rattle.std.specs.List.{filter_map}
use Rattle.p10_core.specs.Walks.{left_in}
use Rattle.p10_warn.specs.private.Numbers.{number_named}
use Rattle.p10_warn.proofs.numbers.numbers_named.Given as goal

-- the numbers of the nodes so far, and of those that are left, are those of all
abbrev pub invariant-loop-found : goal.invariant-loop-found
invariant-loop-found l = l.found.items ++ filter_map (number_named l.kind) (left_in l.nodes) ≡ filter_map (number_named l.kind) (left_in l.initial.nodes)

abbrev pub decreases-loop-found : goal.decreases-loop-found
decreases-loop-found l = length (left_in l.nodes)
