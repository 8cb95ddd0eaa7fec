-- What the text of a certificate from before an edit comes to.
use Rattle.std.specs.Prelude.{◌≡◌, ℕ, ◌≤◌, ◌<◌, true, List, length}
use Rattle.p10_base.specs.declared.report.TheConstants.Limit.{MOST_CERTIFICATE_BYTES}
use Rattle.p10_core.specs.Typed.{PlainProgram}
use Rattle.p10_cert.specs.Statements.{Statement, IsStatement, statement_text, is_there}
use Rattle.p10_cert.specs.WrongLines.{IsFirstWrongSealed}
use Rattle.p10_check.specs.declared.verdict.TextVerdict.{TextVerdict}
use Rattle.p10_check.specs.Passes.{Standing}
use Rattle.p10_incr.specs.Edits.{Edit}
use Rattle.p10_incr.specs.Rechecking.{IsRecheckVerdict, passed_for}
use Rattle.p10_rejudge.specs.declared.rejudging.Passed.{Passed}
use Rattle.p10_rejudge.specs.declared.rejudging.Rejudgement.{Rejudgement}
use Rattle.p10_rejudge.specs.declared.rejudging.Rejudgement.TheVariants.{TooLong, BadOld, Judged}

-- bytes within the limit are the text of this certificate of version 2
pub record IsSealedText (bytes : List ℕ) (s : Statement) : Type 0 where
  pub short : length bytes ≤ MOST_CERTIFICATE_BYTES
  pub good : IsStatement s
  pub sealed : is_there s.ending.outside ≡ true
  pub exact : bytes ≡ statement_text s

-- bytes within the limit are the text of no certificate of version 2, from this line on
pub record IsNoSealedText (bytes : List ℕ) (line : ℕ) : Type 0 where
  pub short : length bytes ≤ MOST_CERTIFICATE_BYTES
  pub wrong : IsFirstWrongSealed bytes line

-- this is the verdict after an edit, and so many functions of all are passed for it
pub record IsRejudged (stands : Standing) (p : PlainProgram) (e : Edit) (verdict : TextVerdict) (passed : Passed) : Type 0 where
  pub verdict_is : IsRecheckVerdict stands p e verdict
  pub passed_are : passed.passed ≡ length (passed_for p e)
  pub functions_are : passed.functions ≡ length p.functions

-- what an edit comes to
abbrev pub TellsRejudged : Standing → PlainProgram → Edit → Rejudgement → Type 0
TellsRejudged stands p e (Judged verdict passed) = IsRejudged stands p e verdict passed
TellsRejudged stands p e r = ⊥

-- why bytes are the text of no certificate of version 2
abbrev pub TellsUnread : List ℕ → Rejudgement → Type 0
TellsUnread old TooLong = MOST_CERTIFICATE_BYTES < length old
TellsUnread old (BadOld line) = IsNoSealedText old line
TellsUnread old (Judged verdict passed) = ⊥

-- what the text of a certificate from before an edit comes to, for the program after it with these digests and what is stated after it
abbrev pub Rejudges : Standing → PlainProgram → List (List ℕ) → List ℕ → Statement → List ℕ → Rejudgement → Type 0
Rejudges stands p digests outside new old (Judged verdict passed) =
    (s : Statement) × IsSealedText old s × IsRejudged stands p (record { digests = digests; outside = outside; old = s; new = new }) verdict passed
Rejudges stands p digests outside new old r = TellsUnread old r
