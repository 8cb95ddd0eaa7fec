-- The violations so far.
use Rattle.std.proofs.Common.{◌≡◌, ◌++◌, map, take}
use Rattle.p10_finder.specs.private.Judging.{unbounded_at}
use Rattle.p10_finder.proofs.violations.push_unbounded.Given as goal

abbrev pub invariant-loop-span : goal.invariant-loop-span
invariant-loop-span l = l.violations.items ≡ l.initial.violations.items ++ map unbounded_at (take l.span-index l.spans)
