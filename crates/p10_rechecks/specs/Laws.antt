-- The verdict after an edit is that on the whole certificate, where the certificate from before it was accepted.
use Rattle.std.specs.Prelude.{◌≡◌, ℕ, false, List, length, Some, slice_get}
use Rattle.p10_base.specs.declared.report.Bounds.{Bounds}
use Rattle.p10_core.specs.Typed.{PlainFunction, PlainProgram}
use Rattle.p10_core.specs.WholePrograms.{IsWholeProgram}
use Rattle.p10_cert.specs.Statements.{Statement}
use Rattle.p10_turns.specs.Evidence.{stands_by_ranges}
use Rattle.p10_check.specs.declared.verdict.TextVerdict.{TextVerdict}
use Rattle.p10_check.specs.declared.verdict.TextVerdict.TheVariants.{Accepted}
use Rattle.p10_check.specs.Passes.{Standing}
use Rattle.p10_check.specs.Texts.{IsStatementVerdict}
use Rattle.p10_views.specs.Views.{view_of}
use Rattle.p10_incr.specs.Edits.{Edit, touches_all}
use Rattle.p10_incr.specs.Rechecking.{IsRecheckVerdict}

-- a certificate was accepted for a whole program of whose words these are the digests, those of its functions and that of all outside their bodies
pub record WasAccepted (stands : Standing) (q : PlainProgram) (digests : List (List ℕ)) (outside : List ℕ) (s : Statement) : Type 0 where
  pub whole : IsWholeProgram q
  pub each : length digests ≡ length q.functions
  pub outside_is : s.ending.outside ≡ Some outside
  pub total : Bounds
  pub accepted : IsStatementVerdict stands q digests s (Accepted total)

-- a function of the program before an edit keeps its view where its digest and that of all words outside of bodies stay
abbrev pub ViewsStay : PlainProgram → List (List ℕ) → List ℕ → PlainProgram → Edit → Type 0
ViewsStay q digests outside p e =
    (n : ℕ) (f g : PlainFunction) → slice_get q.functions n ≡ Some f → slice_get p.functions n ≡ Some g → outside ≡ e.outside → slice_get digests n ≡ slice_get e.digests n → view_of q n f ≡ view_of p n g

-- evidence says the same of a function that keeps its view, where the edit doesn't touch all
abbrev pub EvidenceStays : Standing → PlainProgram → Standing → PlainProgram → Edit → Type 0
EvidenceStays old q new p e = touches_all e ≡ false → (n : ℕ) (f g : PlainFunction) → slice_get q.functions n ≡ Some f → slice_get p.functions n ≡ Some g → view_of q n f ≡ view_of p n g → old n ≡ new n

-- the verdict after an edit that leaves a whole program is that on the whole certificate
abbrev pub RechecksAsWhole : Type 0
RechecksAsWhole =
    (old new : Standing) (q p : PlainProgram) (digests : List (List ℕ)) (outside : List ℕ) (e : Edit) (verdict : TextVerdict)
    → WasAccepted old q digests outside e.old → IsWholeProgram p → ViewsStay q digests outside p e → EvidenceStays old q new p e
    → IsRecheckVerdict new p e verdict → IsStatementVerdict new p e.digests e.new verdict

-- so it is with the evidence of ranges
abbrev pub RangesRecheckAsWhole : Type 0
RangesRecheckAsWhole =
    (q p : PlainProgram) (digests : List (List ℕ)) (outside : List ℕ) (e : Edit) (verdict : TextVerdict)
    → WasAccepted (stands_by_ranges q) q digests outside e.old → IsWholeProgram p → ViewsStay q digests outside p e
    → IsRecheckVerdict (stands_by_ranges p) p e verdict → IsStatementVerdict (stands_by_ranges p) p e.digests e.new verdict
