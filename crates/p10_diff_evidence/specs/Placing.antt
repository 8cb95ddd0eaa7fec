-- Where the lines of a certificate's section of ranks stand in its text, the first of another form, and certificates without one.
use Rattle.std.specs.Prelude.{◌≡◌, ℕ, ◌+◌, List, [], ◌∷◌, ◌++◌, bytes_eq, codes, if◌then◌else◌, length, Option, Some, None}
use Rattle.std.specs.List.{flat_map}
use Rattle.p10_cert.specs.Lines.{Line, TotalLine, SectionLine}
use Rattle.p10_cert.specs.WrongLines.{IsFirstWrong}
use Rattle.p10_cert.specs.Statements.{Section, Statement, IsStatement, statement_text, is_there, first_line, entry_lines, outside_lines, section_head, section_lines}
use Rattle.p10_diff_evidence.specs.Sections.{IsFirstOther, section_lines as ranks_lines}
use Rattle.p10_diff.specs.Evidence.{Rank}
use Rattle.p10_diff_evidence.specs.Standing.{diff_lines, AreRanks}

-- the lines of sections up to the first line of the one with a name
abbrev pub lines_to : List ℕ → List Section → List Line
lines_to name [] = []
lines_to name (s ∷ sections) = if bytes_eq s.name name then SectionLine (section_head s) ∷ [] else section_lines s ++ lines_to name sections

-- the lines of a certificate before those of its section of ranks, which is there
abbrev pub lines_before : Statement → List Line
lines_before s =
    first_line (is_there s.ending.outside) ∷ (flat_map entry_lines s.entries ++ (outside_lines s.ending.outside ++ (TotalLine s.ending.total ∷ lines_to (codes "diff") s.ending.sections)))

-- a line of a certificate's text, counted from 1, is the first of its section of ranks that has another form
pub record IsOtherRank (s : Statement) (line : ℕ) : Type 0 where
  pub lines : List (List ℕ)
  pub there : diff_lines s ≡ Some lines
  pub number : ℕ
  pub other : IsFirstOther lines number
  pub is : line ≡ length (lines_before s) + number

-- a line of a text, counted from 1, is the first that no certificate has; or else the first of another form in the section of ranks of
-- the certificate whose text it is
pub data IsBad (text : List ℕ) (line : ℕ) : Type 0 where
  no_line : IsFirstWrong text line → IsBad text line
  no_rank : (s : Statement) → IsStatement s → text ≡ statement_text s → IsOtherRank s line → IsBad text line

-- a certificate has no section of ranks, or one with lines of their form
pub record IsRanked (s : Statement) : Type 0 where
  pub ranks : Option (List Rank)
  pub are : AreRanks (diff_lines s) ranks

-- the section of ranks, if there are any
abbrev pub rank_sections : List Rank → List Section
rank_sections [] = []
rank_sections (r ∷ ranks) = record { name = codes "diff"; lines = ranks_lines (r ∷ ranks) } ∷ []

-- ranks, if there are any
abbrev pub if_any : List Rank → Option (List Rank)
if_any [] = None
if_any (r ∷ ranks) = Some (r ∷ ranks)
