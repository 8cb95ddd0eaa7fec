use Rattle.std.proofs.Common.{◌≡◌, map}
use Rattle.p10_core.specs.WholePrograms.{numbers_from}
use Rattle.p10_incr.specs.Edits.{is_touched}
use Rattle.p10_incr.specs.private.Entries.{known_edit}
use Rattle.p10_incr.proofs.dirty.all_touched.Given as goal

abbrev pub invariant-loop-number : goal.invariant-loop-number
invariant-loop-number l = l.marks.items ≡ map (is_touched (known_edit l.edit)) (numbers_from 0 l.number)
