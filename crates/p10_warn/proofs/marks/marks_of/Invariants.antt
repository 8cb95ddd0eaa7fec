use Rattle.std.proofs.Common.{◌≡◌, ◌||◌, ℕ, drop}
use Rattle.p10_core.specs.WholePrograms.{is_among}
use Rattle.p10_warn.specs.private.Marked.{is_marked}
use Rattle.p10_warn.proofs.marks.marks_of.Given as goal

abbrev pub invariant-loop-number : goal.invariant-loop-number
invariant-loop-number l = (n : ℕ) → (is_marked l.marks.items n || is_among n (drop l.number-index l.list)) ≡ is_among n l.list
