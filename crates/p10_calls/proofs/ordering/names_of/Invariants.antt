-- The names in the calls so far.
use Rattle.std.proofs.Common.{◌≡◌, map, take}
use Rattle.p10_calls.proofs.ordering.names_of.Given as goal

abbrev pub invariant-loop-site : goal.invariant-loop-site
invariant-loop-site l = l.names.items ≡ map (λ s. s.call.name) (take l.site-index l.calls)
