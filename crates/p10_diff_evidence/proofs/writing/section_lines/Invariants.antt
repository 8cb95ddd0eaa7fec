use Rattle.std.proofs.Common.{◌≡◌, ◌++◌, length, map}
use Rattle.p10_diff.specs.Ranked.{rank_by}
use Rattle.p10_diff_evidence.specs.Sections.{section_lines}
use Rattle.p10_diff_evidence.proofs.writing.section_lines.Given as goal

-- with the lines of the ranks that are left there are those of all
abbrev pub invariant-loop-rest : goal.invariant-loop-rest
invariant-loop-rest l = l.lines ++ section_lines (map rank_by l.rest) ≡ section_lines (map rank_by l.ranks)

abbrev pub decreases-loop-rest : goal.decreases-loop-rest
decreases-loop-rest l = length l.rest
