-- The ranks that a certificate says in its section `diff`.
use Rattle.std.specs.Prelude.{◌≡◌, ℕ, List, Option, Some, None}
use Rattle.p10_cert.specs.Statements.{Section, Statement, IsStatement, statement_text}
use Rattle.p10_diff.specs.Evidence.{Rank}
use Rattle.p10_diff_evidence.specs.Placing.{IsBad}
use Rattle.p10_diff_evidence.specs.Reading.{ranks_in}
use Rattle.p10_diff_evidence.specs.Standing.{diff_lines, AreRanks}
use Rattle.p10_judge.specs.declared.ranks.Ranks.{Ranks}
use Rattle.p10_judge.specs.declared.ranks.Ranks.TheVariants.{Bad, Absent, Listed}

-- bytes are the text of a certificate with these sections
pub record HasSections (bytes : List ℕ) (sections : List Section) : Type 0 where
  pub statement : Statement
  pub good : IsStatement statement
  pub exact : bytes ≡ statement_text statement
  pub are : sections ≡ statement.ending.sections

-- bytes that are a certificate's text say these ranks
abbrev pub SayRanks : List ℕ → Option (List Rank) → Type 0
SayRanks bytes ranks = (s : Statement) → IsStatement s → bytes ≡ statement_text s → AreRanks (diff_lines s) ranks

-- what is found of ranks in bytes
abbrev pub AreFound : List ℕ → Ranks → Type 0
AreFound bytes (Bad line) = IsBad bytes line
AreFound bytes Absent = SayRanks bytes None
AreFound bytes (Listed e) = SayRanks bytes (Some (ranks_in e))
