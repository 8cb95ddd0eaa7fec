-- What is said for a judgement.
use Rattle.std.specs.Prelude.{ℕ, List}
use Rattle.p10_base.specs.declared.report.TheConstants.Limit.{CERTIFICATE_BYTES}
use Rattle.p10_base.specs.Gathered.{Gathered}
use Rattle.p10_cert.specs.Sealed.{bytes_of}
use Rattle.p10_report.specs.Lines.{accepted_line, failing_line, limit_line, stale_line}
use Rattle.p10_report.specs.Messages.{bad_certificate_line}
use Rattle.p10_judge.specs.declared.judgement.Judgement.{Judgement}
use Rattle.p10_judge.specs.declared.judgement.Judgement.TheVariants.{TooLong, BadCertificate, Stale, Failing, Accepted}

-- the status of the program
abbrev pub judgement_status : Judgement → ℕ
judgement_status TooLong = 8
judgement_status (BadCertificate line) = 4
judgement_status (Stale at kept found) = 1
judgement_status (Failing k at) = 1
judgement_status (Accepted bounds) = 0

-- the line: the place of a condition lies in these sources
abbrev pub judgement_line : Gathered → Judgement → List ℕ
judgement_line sources TooLong = limit_line CERTIFICATE_BYTES
judgement_line sources (BadCertificate line) = bad_certificate_line line
judgement_line sources (Stale at kept found) = stale_line sources at (bytes_of kept) (bytes_of found)
judgement_line sources (Failing k at) = failing_line sources k at
judgement_line sources (Accepted bounds) = accepted_line bounds
