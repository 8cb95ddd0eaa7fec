-- The digest that the second line of a function tells.
use Rattle.std.specs.Prelude.{ℕ, List, Option, Some, None}
use Rattle.p10_cert.specs.Lines.{Line, DigestLine}
use Rattle.p10_cert.specs.private.Reading.{◌>>=◌, line_at}

abbrev pub line_digest : Line → Option (List ℕ)
line_digest (DigestLine digest) = Some digest
line_digest _ = None

unfoldable pub second_digest : List ℕ → Option (List ℕ)
second_digest text = line_at text >>= λ (first, rest). line_at rest >>= λ (line, after). line_digest line
