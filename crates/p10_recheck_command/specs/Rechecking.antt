-- What the certificates from after and from before an edit come to, for the program after it.
use Rattle.std.specs.Prelude.{◌≡◌, ℕ, ◌≤◌, ◌<◌, List, length}
use Rattle.p10_base.specs.declared.report.TheConstants.Limit.{MOST_CERTIFICATE_BYTES}
use Rattle.p10_core.specs.Typed.{PlainProgram}
use Rattle.p10_cert.specs.Statements.{Statement}
use Rattle.p10_cert.specs.WrongLines.{IsFirstWrongSealed}
use Rattle.p10_check.specs.declared.verdict.TextVerdict.{TextVerdict}
use Rattle.p10_diff_evidence.specs.Placing.{IsOtherRank, IsRanked}
use Rattle.p10_diff_evidence.specs.Standing.{standing_by}
use Rattle.p10_front.specs.Digests.{PlainDigests}
use Rattle.p10_incr.specs.Edits.{Edit}
use Rattle.p10_judge.specs.declared.judgement.Judgement.{Judgement}
use Rattle.p10_judge.specs.Judging.{judgement_on}
use Rattle.p10_rejudge.specs.declared.rejudging.Passed.{Passed}
use Rattle.p10_rejudge.specs.Rejudging.{IsNoSealedText, IsRejudged, IsSealedText}
use Rattle.p10_recheck_command.specs.declared.rechecking.Rechecking.{Rechecking}
use Rattle.p10_recheck_command.specs.declared.rechecking.Rechecking.TheVariants.{TooLong, BadCertificate, OldTooLong, BadOld, Judged}

-- ## The new certificate

-- bytes within the limit are the text of this certificate of version 2, whose ranks, if it has any, have their form
pub record IsNewCertificate (bytes : List ℕ) (s : Statement) : Type 0 where
  pub text : IsSealedText bytes s
  pub ranked : IsRanked s

-- a line of a text, counted from 1, is the first that no certificate of version 2 has; or else the first of another form in the section of
-- ranks of the certificate whose text it is
pub data IsBadSealed (text : List ℕ) (line : ℕ) : Type 0 where
  no_line : IsFirstWrongSealed text line → IsBadSealed text line
  no_rank : (s : Statement) → IsSealedText text s → IsOtherRank s line → IsBadSealed text line

-- bytes within the limit are the text of no new certificate, from this line on
pub record IsNoNewCertificate (bytes : List ℕ) (line : ℕ) : Type 0 where
  pub short : length bytes ≤ MOST_CERTIFICATE_BYTES
  pub wrong : IsBadSealed bytes line

-- ## Both

-- what was edited, by both certificates
abbrev pub edit_between : PlainDigests → Statement → Statement → Edit
edit_between digests old new = record { digests = digests.funcs; outside = digests.outside; old = old; new = new }

-- bytes are the texts of both certificates; the new one, with the evidence that its sections give, comes to this judgement after the edit, and so
-- many functions of all are passed for it
pub record IsRechecked (p : PlainProgram) (digests : PlainDigests) (new old : List ℕ) (judgement : Judgement) (passed : Passed) : Type 0 where
  pub after : Statement
  pub is_new : IsNewCertificate new after
  pub before : Statement
  pub is_old : IsSealedText old before
  pub verdict : TextVerdict
  pub is : IsRejudged (standing_by p is_new.ranked.ranks) p (edit_between digests before after) verdict passed
  pub told : judgement ≡ judgement_on verdict

-- what the bytes of both come to, for a program with these digests
abbrev pub Rechecks : PlainProgram → PlainDigests → List ℕ → List ℕ → Rechecking → Type 0
Rechecks p digests new old TooLong = MOST_CERTIFICATE_BYTES < length new
Rechecks p digests new old (BadCertificate line) = IsNoNewCertificate new line
Rechecks p digests new old OldTooLong = (s : Statement) × IsNewCertificate new s × (MOST_CERTIFICATE_BYTES < length old)
Rechecks p digests new old (BadOld line) = (s : Statement) × IsNewCertificate new s × IsNoSealedText old line
Rechecks p digests new old (Judged judgement passed) = IsRechecked p digests new old judgement passed
