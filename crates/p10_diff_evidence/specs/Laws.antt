-- What holds of sections of ranks and facts.
use Rattle.std.specs.Prelude.{◌≡◌, ℕ, ◌<◌, ◌^◌, List, [], ◌∷◌, length, pos, neg_ℤ, codes, Option}
use Rattle.std.specs.List.{AllByRecursion}
use Rattle.p10_core.specs.Typed.{PlainProgram}
use Rattle.p10_core.specs.WholePrograms.{IsWholeProgram}
use Rattle.p10_cert.specs.Statements.{lines_named, AreSections, Statement, IsStatement, statement_text}
use Rattle.p10_turns.specs.Laws.{IsLawful}
use Rattle.p10_diff.specs.Evidence.{Rank}
use Rattle.p10_diff_evidence.specs.Sections.{section_lines, IsRank, AreRising, IsSection, IsFirstOther}
use Rattle.p10_diff_evidence.specs.Standing.{AreRanks, standing_by}
use Rattle.p10_diff_evidence.specs.Placing.{IsBad, IsRanked, rank_sections, if_any}

-- lines are those of one list of ranks at most
abbrev pub SectionTellsRanks : Type 0
SectionTellsRanks = (lines : List (List ℕ)) (some others : List Rank) → IsSection lines some → IsSection lines others → some ≡ others

-- lines have one first line of another form at most, and those of ranks have none
abbrev pub OneFirstOther : Type 0
OneFirstOther = (lines : List (List ℕ)) (m n : ℕ) → IsFirstOther lines m → IsFirstOther lines n → m ≡ n

abbrev pub SectionHasNoOther : Type 0
SectionHasNoOther = (lines : List (List ℕ)) (ranks : List Rank) (n : ℕ) → IsSection lines ranks → IsFirstOther lines n → ⊥

-- a certificate says one list of ranks at most
abbrev pub OneListOfRanks : Type 0
OneListOfRanks = (lines : Option (List (List ℕ))) (some others : Option (List Rank)) → AreRanks lines some → AreRanks lines others → some ≡ others

-- a text has one first bad line at most, and that of a certificate whose section has its form has none
abbrev pub OneBadLine : Type 0
OneBadLine = (text : List ℕ) (m n : ℕ) → IsBad text m → IsBad text n → m ≡ n

abbrev pub RankedHasNoBadLine : Type 0
RankedHasNoBadLine = (s : Statement) (line : ℕ) → IsStatement s → IsRanked s → IsBad (statement_text s) line → ⊥

-- ranks of which a certificate may have a section have one that says them
abbrev pub RankSectionsSay : Type 0
RankSectionsSay =
    (ranks : List Rank) → AllByRecursion IsRank ranks → AreRising ranks → length (section_lines ranks) < 2 ^ 32
    → AreSections (rank_sections ranks) × AreRanks (lines_named (codes "diff") (rank_sections ranks)) (if_any ranks)

-- whatever ranks a certificate has, the loops for which they or ranges stand keep their claims on turns
abbrev pub StandingIsLawful : Type 0
StandingIsLawful = (p : PlainProgram) → IsWholeProgram p → (ranks : Option (List Rank)) → IsLawful p (standing_by p ranks)

-- the lines of two ranks, of which the first has a fact, written out
abbrev pub SmallSection : Type 0
SmallSection =
    section_lines (
    record { function = 0; loop = 0; below = 0; above = 1; more = pos 0; facts = record { greater = 1; lesser = 0; by = pos 100 } ∷ [] }
    ∷ record { function = 0; loop = 2; below = 3; above = 4; more = neg_ℤ (pos 1); facts = [] } ∷ [])
    ≡ codes "rank 0 0 0 1 0" ∷ codes "fact 1 0 100" ∷ codes "rank 0 2 3 4 -1" ∷ []
