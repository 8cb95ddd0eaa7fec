use Rattle.std.proofs.Common.{◌≡◌, drop}
use Rattle.p10_pass.specs.private.Walking.{marks_cases}
use Rattle.p10_pass.proofs.marks.mark_cases.Given as goal

-- what is left to be marked gives what the whole gives
abbrev pub invariant-loop-label : goal.invariant-loop-label
invariant-loop-label l = marks_cases (drop l.label-index l.cases) l.marks.items ≡ marks_cases l.cases l.initial.marks.items
