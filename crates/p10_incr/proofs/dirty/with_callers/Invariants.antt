use Rattle.std.proofs.Common.{◌≡◌, length}
use Rattle.p10_incr.specs.Edits.{is_touched}
use Rattle.p10_incr.specs.private.Entries.{known_edit}
use Rattle.p10_incr.specs.private.Marks.{marked_or, with_callers}
use Rattle.p10_incr.proofs.dirty.with_callers.Given as goal

abbrev pub invariant-loop-sites : goal.invariant-loop-sites
invariant-loop-sites l =
    with_callers (λ n. marked_or l.touched n (is_touched (known_edit l.edit) n)) l.sites l.marks.items
    ≡ with_callers (λ n. marked_or l.touched n (is_touched (known_edit l.edit) n)) l.initial.sites l.touched

abbrev pub decreases-loop-sites : goal.decreases-loop-sites
decreases-loop-sites l = length l.sites
