-- The verdict after an edit is that on the whole certificate, with the evidence that each certificate's own sections give.
use Rattle.std.specs.Prelude.{ℕ, List, Option}
use Rattle.p10_core.specs.Typed.{PlainProgram}
use Rattle.p10_core.specs.WholePrograms.{IsWholeProgram}
use Rattle.p10_check.specs.declared.verdict.TextVerdict.{TextVerdict}
use Rattle.p10_check.specs.Texts.{IsStatementVerdict}
use Rattle.p10_diff.specs.Evidence.{Rank}
use Rattle.p10_diff_evidence.specs.Standing.{diff_lines, AreRanks, standing_by}
use Rattle.p10_incr.specs.Edits.{Edit}
use Rattle.p10_incr.specs.Rechecking.{IsRecheckVerdict}
use Rattle.p10_rechecks.specs.Laws.{WasAccepted, ViewsStay}

-- the verdict after an edit is that on the whole certificate: before the edit the evidence was that of the old certificate's section, after
-- it it is that of the new one's
abbrev pub SectionsRecheckAsWhole : Type 0
SectionsRecheckAsWhole =
    (q p : PlainProgram) (digests : List (List ℕ)) (outside : List ℕ) (e : Edit) (before after : Option (List Rank)) (verdict : TextVerdict)
    → AreRanks (diff_lines e.old) before → AreRanks (diff_lines e.new) after
    → WasAccepted (standing_by q before) q digests outside e.old → IsWholeProgram p → ViewsStay q digests outside p e
    → IsRecheckVerdict (standing_by p after) p e verdict → IsStatementVerdict (standing_by p after) p e.digests e.new verdict
