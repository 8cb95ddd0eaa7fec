-- Where the section of ranks stands among the sections of a text, and how many lines stand there.
use Rattle.std.specs.Prelude.{◌≡◌, ℕ, zero, suc, ◌+◌, ◌==◌, bytes_eq, codes, if◌then◌else◌, List, [], ◌∷◌, drop, length, Option, Some, None, option_map}
use Rattle.p10_cert.specs.Records.{Progress, statement_from}
use Rattle.p10_cert.specs.Statements.{Ending, Section, IsStatement, statement_text}
use Rattle.p10_judge.specs.Ranks.{HasSections}

-- the place of the first section with the name, if it is there
abbrev pub place_of_diff : List Section → Option ℕ
place_of_diff [] = None
place_of_diff (s ∷ sections) = if bytes_eq s.name (codes "diff") then Some 0 else option_map (λ n. n + 1) (place_of_diff sections)

-- how many bytes of a text are LF
abbrev pub line_count : List ℕ → ℕ
line_count [] = 0
line_count (byte ∷ bytes) = if byte == 10 then 1 + line_count bytes else line_count bytes

-- how many lines sections have
abbrev pub lines_of_sections : List Section → ℕ
lines_of_sections [] = 0
lines_of_sections (s ∷ sections) = (1 + length s.lines) + lines_of_sections sections

-- the same of those from a place on
abbrev pub lines_from : List Section → ℕ → ℕ
lines_from sections place = lines_of_sections (drop place sections)

-- all functions of a text were given, and it is a certificate's
pub record IsOver (p : Progress) (bytes : List ℕ) : Type 0 where
  pub ending : Ending
  pub over : p.ending ≡ Some ending
  pub good : IsStatement (statement_from p.given ending)
  pub exact : bytes ≡ statement_text (statement_from p.given ending)

-- bytes are the text of a certificate with these sections, whose section of ranks stands at this place
pub record HasSectionAt (bytes : List ℕ) (sections : List Section) (place : ℕ) : Type 0 where
  pub text : HasSections bytes sections
  pub found : place_of_diff sections ≡ Some place
