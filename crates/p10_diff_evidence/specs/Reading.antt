-- What reading a section gives.
use Rattle.std.specs.Prelude.{ℕ, List, map, Result, Ok, Err}
use Rattle.p10_diff.specs.Evidence.{Rank}
use Rattle.p10_diff.specs.Ranked.{rank_by}
use Rattle.p10_diff_evidence.specs.declared.evidence.DiffEvidence.{DiffEvidence}
use Rattle.p10_diff_evidence.specs.declared.fault.DiffFault.{DiffFault}
use Rattle.p10_diff_evidence.specs.declared.fault.DiffFault.TheVariants.{Line, Memory}
use Rattle.p10_diff_evidence.specs.Sections.{IsSection, IsFirstOther}

-- the ranks of evidence
abbrev pub ranks_in : DiffEvidence → List Rank
ranks_in e = map rank_by e.ranks.items

-- a section is read: its ranks, or its first line of another form
abbrev pub ReadsSection : List (List ℕ) → Result DiffEvidence DiffFault → Type 0
ReadsSection lines (Ok e) = IsSection lines (ranks_in e)
ReadsSection lines (Err (Line n)) = IsFirstOther lines n
ReadsSection lines (Err Memory) = Unit {0}
