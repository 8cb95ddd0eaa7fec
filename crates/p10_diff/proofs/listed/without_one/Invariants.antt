use Rattle.std.proofs.Common.{◌≡◌, ◌++◌, drop}
use Rattle.p10_diff.specs.Domain.{only}
use Rattle.p10_diff.specs.Listed.{without_marked}
use Rattle.p10_diff.proofs.listed.without_one.Given as goal

-- with what is left it is what the whole leaves
abbrev pub invariant-loop-x : goal.invariant-loop-x
invariant-loop-x l = l.left.items ++ without_marked (only l.n) (drop l.x-index l.bounds) ≡ without_marked (only l.n) l.bounds
