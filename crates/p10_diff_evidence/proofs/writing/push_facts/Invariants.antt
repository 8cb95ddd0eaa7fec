use Rattle.std.proofs.Common.{◌≡◌, ◌++◌, length, map}
use Rattle.p10_diff.specs.Ranked.{fact_by}
use Rattle.p10_diff_evidence.specs.Sections.{fact_line}
use Rattle.p10_diff_evidence.proofs.writing.push_facts.Given as goal

-- with the lines of the facts that are left there are those of all
abbrev pub invariant-loop-rest : goal.invariant-loop-rest
invariant-loop-rest l = l.lines ++ map fact_line (map fact_by l.rest) ≡ l.fn.lines ++ map fact_line (map fact_by l.facts)

abbrev pub decreases-loop-rest : goal.decreases-loop-rest
decreases-loop-rest l = length l.rest
