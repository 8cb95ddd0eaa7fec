use Rattle.std.proofs.Common.{◌≡◌, ◌++◌, map, not, length}
use Rattle.std.specs.List.{filter}
use Rattle.p10_cert.specs.Claims.{func_of}
use Rattle.p10_check.specs.Shapes.{goes_down}
use Rattle.p10_check.specs.Conditions.{failing_at_each}
use Rattle.p10_check.specs.Fails.{failures_of}
use Rattle.p10_check.proofs.ranks.push_rising.Given as goal

abbrev pub invariant-loop-sites : goal.invariant-loop-sites
invariant-loop-sites l =
    failures_of l.failing.items ++ failing_at_each 2 (map (λ s. s.call.name) (filter (λ s. not (goes_down (map func_of l.functions) s)) l.sites))
    ≡ failures_of l.fn.failing.items ++ failing_at_each 2 (map (λ s. s.call.name) (filter (λ s. not (goes_down (map func_of l.functions) s)) l.initial.sites))

abbrev pub decreases-loop-sites : goal.decreases-loop-sites
decreases-loop-sites l = length l.sites
