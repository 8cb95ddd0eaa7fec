use Rattle.std.proofs.Common.{◌≡◌, drop}
use Rattle.p10_core.specs.Views.{plain_statements}
use Rattle.p10_walk.specs.private.Marking.{marks_all}
use Rattle.p10_walk.proofs.marks.+marking.Given as goal

-- what is left to be marked gives what the whole gives
abbrev pub invariant-mark_all-loop-s : goal.invariant-mark_all-loop-s
invariant-mark_all-loop-s l = marks_all (plain_statements (drop l.s-index l.items)) l.marks.items ≡ marks_all (plain_statements l.items) l.initial.marks.items
