use Rattle.std.proofs.Common.{◌≡◌, ◌++◌, length}
use Rattle.p10_clean.specs.Settings.{common_marks}
use Rattle.p10_clean.proofs.settings.common_marks.Given as goal

-- what is put and what is left are what the whole gives
abbrev pub invariant-loop-first : goal.invariant-loop-first
invariant-loop-first l = l.common.items ++ common_marks l.first l.second ≡ common_marks l.a l.b

abbrev pub decreases-loop-first : goal.decreases-loop-first
decreases-loop-first l = length l.first
