-- What is said of texts, one after the other.
use Rattle.std.specs.Prelude.{ℕ, ◌<◌, List, length}
use Rattle.p10_base.specs.declared.report.TheConstants.Limit.{MOST_CERTIFICATE_BYTES}
use Rattle.p10_judge.specs.Judging.{judgement_on}
use Rattle.p10_rejudge.specs.declared.rejudging.Rejudgement.{Rejudgement}
use Rattle.p10_rejudge.specs.declared.rejudging.Rejudgement.TheVariants as said
use Rattle.p10_recheck_command.specs.declared.rechecking.Rechecking.{Rechecking}
use Rattle.p10_recheck_command.specs.declared.rechecking.Rechecking.TheVariants.{TooLong, BadCertificate, OldTooLong, BadOld, Judged}
use Rattle.p10_recheck_command.specs.Rechecking.{IsNoNewCertificate}

-- what is said of the old text, where the new certificate is read
abbrev pub rechecking_by : Rejudgement → Rechecking
rechecking_by said.TooLong = OldTooLong
rechecking_by (said.BadOld line) = BadOld line
rechecking_by (said.Judged verdict passed) = Judged (judgement_on verdict) passed

-- why the new text is no certificate's of version 2
abbrev pub IsUnread : List ℕ → Rechecking → Type 0
IsUnread new TooLong = MOST_CERTIFICATE_BYTES < length new
IsUnread new (BadCertificate line) = IsNoNewCertificate new line
IsUnread new to = ⊥
