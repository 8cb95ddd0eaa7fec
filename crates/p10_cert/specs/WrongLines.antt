-- The first line of a text that no certificate has.
use Rattle.std.specs.Prelude.{◌≡◌, ◌≢◌, ℕ, zero, suc, ◌-◌, ◌==◌, if◌then◌else◌, true, List, [], ◌∷◌}
use Rattle.p10_cert.specs.Claims.{Claims}
use Rattle.p10_cert.specs.Certificate.{IsCertificate, certificate_text}
use Rattle.p10_cert.specs.Statements.{Statement, IsStatement, statement_text, is_there}

-- the first lines of a text, each with its LF, and at the end of the text what stands after its last LF
unfoldable pub first_lines : List ℕ → ℕ → List ℕ
first_lines [] count = []
first_lines (byte ∷ text) zero = []
first_lines (byte ∷ text) (suc count) = if byte == 10 then byte ∷ first_lines text count else byte ∷ first_lines text (suc count)

-- A line of a text, counted from 1, is the first that no certificate has: the text of some certificate begins with
-- the lines before it, and that of none with these and the line itself. A last line without LF is the line of no
-- certificate, and where the text ends early, the line after its last is this line. Here a certificate is one of
-- version 1.
pub record IsFirstWrongLine (text : List ℕ) (line : ℕ) : Type 0 where
  pub before : (c : Claims) × IsCertificate c × (first_lines text (line - 1) ≡ first_lines (certificate_text c) (line - 1))
  pub wrong : (c : Claims) → IsCertificate c → first_lines text line ≢ first_lines (certificate_text c) line

-- the same of certificates of version 2
pub record IsFirstWrongSealed (text : List ℕ) (line : ℕ) : Type 0 where
  pub before : (s : Statement) × IsStatement s × (is_there s.ending.outside ≡ true) × (first_lines text (line - 1) ≡ first_lines (statement_text s) (line - 1))
  pub wrong : (s : Statement) → IsStatement s → is_there s.ending.outside ≡ true → first_lines text line ≢ first_lines (statement_text s) line

-- the same of certificates of both versions
pub record IsFirstWrong (text : List ℕ) (line : ℕ) : Type 0 where
  pub before : (s : Statement) × IsStatement s × (first_lines text (line - 1) ≡ first_lines (statement_text s) (line - 1))
  pub wrong : (s : Statement) → IsStatement s → first_lines text line ≢ first_lines (statement_text s) line
