use Rattle.std.proofs.Common.{◌≡◌, ◌++◌, map, length}
use Rattle.p10_cert.specs.Vars.{var_of}
use Rattle.p10_cert.proofs.var_ranges.VarRanges.list.Given as goal

-- the ranges so far, and those that are left
abbrev pub invariant-loop-line : goal.invariant-loop-line
invariant-loop-line l = map var_of l.list.items ++ l.left ≡ l.initial.left

abbrev pub decreases-loop-line : goal.decreases-loop-line
decreases-loop-line l = length l.left
