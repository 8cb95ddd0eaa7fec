use Rattle.std.proofs.Common.{◌≡◌, ◌+◌, [], length, take, drop, map, Some}
use Rattle.p10_diff.specs.Ranked.{rank_by}
use Rattle.p10_diff_evidence.specs.private.Reading.{with_texts}
use Rattle.p10_diff_evidence.proofs.evidence.DiffEvidence.new.Given as goal

-- the lines before those that are left were read
abbrev pub invariant-loop-rest : goal.invariant-loop-rest
invariant-loop-rest l = record {
  counted : l.number + length l.rest ≡ length l.lines;
  left : drop l.number l.lines ≡ l.rest;
  read : with_texts (take l.number l.lines) [] ≡ Some (map rank_by l.ranks.items);
}

abbrev pub decreases-loop-rest : goal.decreases-loop-rest
decreases-loop-rest l = length l.rest
