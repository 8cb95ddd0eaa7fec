-- Which ranks a derived certificate has.
use Rattle.std.specs.Prelude.{◌<◌, ◌^◌, List, length}
use Rattle.std.specs.List.{AllByRecursion}
use Rattle.p10_core.specs.Typed.{PlainProgram}
use Rattle.p10_core.specs.WholePrograms.{IsWholeProgram}
use Rattle.p10_cert.specs.Claims.{Claims}
use Rattle.p10_diff.specs.Evidence.{Rank}
use Rattle.p10_diff_evidence.specs.Sections.{section_lines, IsRank, AreRising}
use Rattle.p10_approach.specs.Offers.{Offers, AreOffers}
use Rattle.p10_finder.specs.Answers.{IsCertified}
use Rattle.p10_finder.specs.Ranking.{ranks_of}
use Rattle.p10_derived_texts.specs.Naming.{AreNamed}

-- a certificate may have a section that says these ranks
pub record MayBeSaid (ranks : List Rank) : Type 0 where
  pub numbers : AllByRecursion IsRank ranks
  pub rising : AreRising ranks
  pub few : length (section_lines ranks) < 2 ^ 32

-- the ranks of the loops of a derived certificate are such, whatever is offered for loops
abbrev pub DerivedRanksHaveSections : Type 0
DerivedRanksHaveSections = (o : Offers) → AreOffers o → (p : PlainProgram) → IsWholeProgram p → AreNamed p → (c : Claims) → IsCertified o p c → MayBeSaid (ranks_of o p c)
