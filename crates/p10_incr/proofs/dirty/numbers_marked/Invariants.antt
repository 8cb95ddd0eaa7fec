use Rattle.std.proofs.Common.{◌≡◌, ◌++◌, drop}
use Rattle.p10_incr.specs.private.Marks.{numbers_marked}
use Rattle.p10_incr.proofs.dirty.numbers_marked.Given as goal

abbrev pub invariant-loop-number : goal.invariant-loop-number
invariant-loop-number l = l.numbers.items ++ numbers_marked l.number (drop l.number l.marks) ≡ numbers_marked 0 l.marks
