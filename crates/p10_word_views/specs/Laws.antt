-- The verdict after an edit of files is that on the whole certificate, where functions of equal words have equal views.
use Rattle.std.specs.Prelude.{◌≡◌}
use Rattle.p10_core.specs.Typed.{PlainProgram}
use Rattle.p10_core.specs.WholePrograms.{IsWholeProgram}
use Rattle.p10_front.specs.Readings.{PlainReading}
use Rattle.p10_front.specs.Digests.{reading_digests}
use Rattle.p10_turns.specs.Evidence.{stands_by_ranges}
use Rattle.p10_check.specs.declared.verdict.TextVerdict.{TextVerdict}
use Rattle.p10_check.specs.Texts.{IsStatementVerdict}
use Rattle.p10_incr.specs.Edits.{Edit}
use Rattle.p10_incr.specs.Rechecking.{IsRecheckVerdict}
use Rattle.p10_rechecks.specs.Laws.{WasAccepted, ViewsStay}
use Rattle.p10_word_views.specs.Words.{HaveEqualViews, DigestsTell}

-- an edit after which files are read as this
pub record EditsTo (s : PlainReading) (e : Edit) : Type 0 where
  pub digests : e.digests ≡ (reading_digests s).funcs
  pub outside : e.outside ≡ (reading_digests s).outside

-- views stay where digests do
abbrev pub ReadingsKeepViews : Type 0
ReadingsKeepViews =
    (r s : PlainReading) (q p : PlainProgram) → HaveEqualViews r s q p → DigestsTell r s → (e : Edit) → EditsTo s e → ViewsStay q (reading_digests r).funcs (reading_digests r).outside p e

-- with the evidence of ranges the verdict after an edit is that on the whole certificate
abbrev pub FilesRecheckAsWhole : Type 0
FilesRecheckAsWhole =
    (r s : PlainReading) (q p : PlainProgram) → HaveEqualViews r s q p → DigestsTell r s → (e : Edit) → EditsTo s e → (verdict : TextVerdict)
    → WasAccepted (stands_by_ranges q) q (reading_digests r).funcs (reading_digests r).outside e.old → IsWholeProgram p
    → IsRecheckVerdict (stands_by_ranges p) p e verdict → IsStatementVerdict (stands_by_ranges p) p e.digests e.new verdict
