-- What holds of the answers.
use Rattle.std.specs.Prelude.{Bool, ℕ, ◌≡◌, ◌≢◌, false, List, Some}
use Rattle.p10_base.specs.Words.{Text}
use Rattle.p10_world.specs.Files.{Named}
use Rattle.p10_command.specs.Saying.{Saying}
use Rattle.p10_command.specs.Seen.{SeenInput}
use Rattle.p10_verify_command.specs.Names.{Names}
use Rattle.p10_agreement.specs.Laws.{HaveCertificate}
use Rattle.p10_top.specs.Commands.{IsDeriveLine, IsVerifyLine}
use Rattle.p10_top.specs.Told.{MaySay}

-- Where files and input are told, only one thing may be said to a command line, unless a read fails or memory runs out.
-- So each answer comes exactly where it is right.
abbrev pub SaysOneThing : Type 0
SaysOneThing =
    (words : List Text) (files : List Named) (before after : ℕ) (input : SeenInput) (bytes : List ℕ) (some other : Saying) → input.left ≡ Some bytes
    → MaySay words (record { held = Some files; faults_before = before; faults_after = after }) input some
    → MaySay words (record { held = Some files; faults_before = before; faults_after = after }) input other
    → some.status ≢ 5 → some.status ≢ 7 → other.status ≢ 5 → other.status ≢ 7
    → some ≡ other

-- Where a text may be said on the output with status 0 to a command line `derive`, and later files hold it under the name of a certificate, and
-- for the sources all that the earlier ones hold, only with status 0 may be answered to a command line `verify` with that certificate and
-- the same directories and sources, without `--clean`, unless a read fails or memory runs out.
abbrev pub VerifyAcceptsWhatDeriveWrites : Type 0
VerifyAcceptsWhatDeriveWrites =
    (derive verify : List Text) (version : ℕ) (diff : Bool) (names : Names) → IsDeriveLine derive names.directories version diff names.sources → IsVerifyLine verify names → names.clean ≡ false
    → (files later : List Named) (before after before_later after_later : ℕ) (input input_later : SeenInput) (written said : Saying)
    → MaySay derive (record { held = Some files; faults_before = before; faults_after = after }) input written → written.status ≡ 0
    → HaveCertificate names written.out files later
    → MaySay verify (record { held = Some later; faults_before = before_later; faults_after = after_later }) input_later said → said.status ≢ 5 → said.status ≢ 7
    → said.status ≡ 0
