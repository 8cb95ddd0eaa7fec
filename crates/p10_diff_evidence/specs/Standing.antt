-- What stands for the loops of a program by what a certificate says: ranges, or also the ranks of its section.
use Rattle.std.specs.Prelude.{ℕ, Bool, List, codes, Option, Some, None}
use Rattle.p10_core.specs.Typed.{PlainProgram}
use Rattle.p10_cert.specs.Claims.{Loop}
use Rattle.p10_cert.specs.Statements.{lines_named, Statement}
use Rattle.p10_absx.specs.Environments.{Environment}
use Rattle.p10_turns.specs.Evidence.{stands_by_ranges}
use Rattle.p10_diff.specs.Evidence.{Rank, stands_by_differences}
use Rattle.p10_diff_evidence.specs.Sections.{IsSection}

-- the lines of a certificate's section of ranks and facts, if it has one
abbrev pub diff_lines : Statement → Option (List (List ℕ))
diff_lines s = lines_named (codes "diff") s.ending.sections

-- the ranks that these lines say, where they are there
abbrev pub AreRanks : Option (List (List ℕ)) → Option (List Rank) → Type 0
AreRanks None None = Unit {0}
AreRanks (Some lines) (Some ranks) = IsSection lines ranks
AreRanks lines ranks = ⊥

-- what stands for loops: the evidence of ranges, and that of differences where there is a section
abbrev pub standing_by : PlainProgram → Option (List Rank) → ℕ → ℕ → Environment → Loop → Bool
standing_by p None = stands_by_ranges p
standing_by p (Some ranks) = stands_by_differences ranks p
