use Rattle.std.proofs.Common.{◌≡◌, ◌++◌, drop}
use Rattle.p10_diff.proofs.listed.copied.Given as goal

-- with what is left it is the whole
abbrev pub invariant-loop-x : goal.invariant-loop-x
invariant-loop-x l = l.all.items ++ drop l.x-index l.bounds ≡ l.bounds
