-- In the same words outside of bodies and in a function two programs have one view of it; and what comes of that for an edit of files.
use Rattle.std.specs.Prelude.{List, Option}
use Rattle.p10_base.specs.Gathered.{Gathered}
use Rattle.p10_core.specs.Typed.{PlainProgram}
use Rattle.p10_core.specs.WholePrograms.{IsWholeProgram}
use Rattle.p10_front.specs.Readings.{PlainReading, AreReadAs}
use Rattle.p10_front.specs.Digests.{reading_digests}
use Rattle.p10_turns.specs.Evidence.{stands_by_ranges}
use Rattle.p10_check.specs.declared.verdict.TextVerdict.{TextVerdict}
use Rattle.p10_check.specs.Texts.{IsStatementVerdict}
use Rattle.p10_diff.specs.Evidence.{Rank}
use Rattle.p10_diff_evidence.specs.Standing.{diff_lines, AreRanks, standing_by}
use Rattle.p10_incr.specs.Edits.{Edit}
use Rattle.p10_incr.specs.Rechecking.{IsRecheckVerdict}
use Rattle.p10_rechecks.specs.Laws.{WasAccepted}
use Rattle.p10_word_views.specs.Words.{HaveEqualViews, DigestsTell}
use Rattle.p10_word_views.specs.Laws.{EditsTo}
use Rattle.p10_equal_words.specs.Comparable.{HasDigestEach}

-- two programs with a digest for each function
abbrev pub EqualWordsHaveEqualViews : Type 0
EqualWordsHaveEqualViews =
    (g h : Gathered) (r s : PlainReading) (p q : PlainProgram) → AreReadAs g r p → AreReadAs h s q → HasDigestEach r p → HasDigestEach s q → HaveEqualViews r s p q

-- so with the evidence of ranges the verdict after an edit of such files is that on the whole certificate, where digests tell their lines
abbrev pub ComparableFilesRecheckAsWhole : Type 0
ComparableFilesRecheckAsWhole =
    (g h : Gathered) (r s : PlainReading) (q p : PlainProgram) → AreReadAs g r q → AreReadAs h s p → IsWholeProgram p → HasDigestEach s p → DigestsTell r s → (e : Edit) → EditsTo s e → (verdict : TextVerdict)
    → WasAccepted (stands_by_ranges q) q (reading_digests r).funcs (reading_digests r).outside e.old
    → IsRecheckVerdict (stands_by_ranges p) p e verdict → IsStatementVerdict (stands_by_ranges p) p e.digests e.new verdict

-- so it is with the evidence that each certificate's own section gives
abbrev pub ComparableFilesRecheckBySections : Type 0
ComparableFilesRecheckBySections =
    (g h : Gathered) (r s : PlainReading) (q p : PlainProgram) → AreReadAs g r q → AreReadAs h s p → IsWholeProgram p → HasDigestEach s p → DigestsTell r s → (e : Edit) → EditsTo s e
    → (before after : Option (List Rank)) (verdict : TextVerdict) → AreRanks (diff_lines e.old) before → AreRanks (diff_lines e.new) after
    → WasAccepted (standing_by q before) q (reading_digests r).funcs (reading_digests r).outside e.old
    → IsRecheckVerdict (standing_by p after) p e verdict → IsStatementVerdict (standing_by p after) p e.digests e.new verdict
