-- The calls so far whose functions have one number.
use Rattle.std.proofs.Common.{◌≡◌, take}
use Rattle.std.specs.List.{filter}
use Rattle.p10_calls.specs.private.Numbering.{has_one_number}
use Rattle.p10_calls.proofs.recursion.within_components.Given as goal

abbrev pub invariant-loop-site : goal.invariant-loop-site
invariant-loop-site l = l.calls.items ≡ filter (has_one_number l.numbers) (take l.site-index l.sites)
