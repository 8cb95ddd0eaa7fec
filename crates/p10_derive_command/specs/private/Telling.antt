-- What comes of derivation, and what parts of the code say of it.
use Rattle.std.specs.Prelude.{◌≡◌, ◌≢◌, ℕ, Bool, List, map, length, Option, Result, Ok, Err}
use Rattle.p10_base.specs.Gathered.{Gathered}
use Rattle.p10_base.specs.Words.{Text}
use Rattle.p10_core.specs.Typed.{PlainProgram}
use Rattle.p10_cert.specs.Claims.{Claims, claims_of}
use Rattle.p10_diff.specs.Evidence.{Rank}
use Rattle.p10_diff.specs.Ranked.{rank_by}
use Rattle.p10_approach.specs.Offers.{offers_if}
use Rattle.p10_finder.specs.declared.found.Found.{Found}
use Rattle.p10_finder.specs.declared.found.Found.TheVariants as found_is
use Rattle.p10_finder.specs.declared.found.RankedFound.{RankedFound}
use Rattle.p10_finder.specs.declared.found.FinderFault.{FinderFault}
use Rattle.p10_finder.specs.declared.found.FinderFault.TheVariants as finder
use Rattle.p10_finder.specs.Answers.{Violating, Certified, IsDerived}
use Rattle.p10_finder.specs.Finding.{derived_of, IsFault}
use Rattle.p10_front.specs.Digests.{reading_digests}
use Rattle.p10_front.specs.Readings.{PlainReading}
use Rattle.p10_command.specs.declared.trouble.Trouble.TheVariants.{Memory}
use Rattle.p10_command.specs.Saying.{Saying, limit_saying, trouble_saying}
use Rattle.p10_seal.specs.Saying.{sealed_saying}
use Rattle.p10_seal.specs.Sealing.{within_limit}
use Rattle.p10_derive_command.specs.declared.derivation.Derivation.{Derivation}
use Rattle.p10_derive_command.specs.declared.derivation.Derivation.TheVariants.{Certificate, Sealed, Violations}
use Rattle.p10_derive_command.specs.Ranks.{ranks_if, ranked_text}
use Rattle.p10_derive_command.specs.Answers.{derived_saying}

-- what is said where nothing is derived
abbrev pub fault_saying : FinderFault → Saying
fault_saying (finder.Over limit) = limit_saying limit
fault_saying finder.Memory = trouble_saying Memory

-- what is said of what is derived
abbrev pub derivation_saying : Gathered → Derivation → Saying
derivation_saying g (Certificate claims) = derived_saying g (Certified (claims_of claims))
derivation_saying g (Sealed text) = sealed_saying text
derivation_saying g (Violations found) = derived_saying g (Violating found.items)

-- what is said of what has come of derivation
abbrev pub end_saying : Gathered → Result Derivation FinderFault → Saying
end_saying g (Ok derivation) = derivation_saying g derivation
end_saying g (Err fault) = fault_saying fault

-- these are the ranks of what is found
abbrev pub HasRanksIf : Bool → PlainProgram → Found → List Rank → Type 0
HasRanksIf diff p (found_is.Certificate c) ranks = ranks ≡ ranks_if diff p (claims_of c)
HasRanksIf diff p (found_is.Violations violations) ranks = Unit {0}

-- what comes of deriving a program
abbrev pub Finds : PlainProgram → Bool → Result RankedFound FinderFault → Type 0
Finds p diff (Ok ranked) = IsDerived (offers_if diff) p (derived_of ranked.found) × HasRanksIf diff p ranked.found (map rank_by ranked.ranks.items)
Finds p diff (Err fault) = IsFault (offers_if diff) p fault

-- the text of version 2 of claims with the digests of the words that were read, one for each function, and with ranks, unless it is too long
pub record IsSealed (r : PlainReading) (p : PlainProgram) (claims : Claims) (ranks : List Rank) (found : Option Text) : Type 0 where
  pub each : length (reading_digests r).funcs ≡ length p.functions
  pub is : found ≡ within_limit (ranked_text claims (reading_digests r) ranks)

-- the same of the claims that are derived of the program
pub record IsDerivedText (r : PlainReading) (p : PlainProgram) (diff : Bool) (found : Option Text) : Type 0 where
  pub claims : Claims
  pub derived : IsDerived (offers_if diff) p (Certified claims)
  pub sealed : IsSealed r p claims (ranks_if diff p claims) found

-- what comes of deriving the program of a reading, whose certificate is asked for in a version, with ranks or without
abbrev pub Comes : PlainReading → PlainProgram → ℕ → Bool → Result Derivation FinderFault → Type 0
Comes r p version diff (Ok (Certificate claims)) = (version ≢ 2) × IsDerived (offers_if diff) p (Certified (claims_of claims))
Comes r p version diff (Ok (Sealed text)) = (version ≡ 2) × IsDerivedText r p diff text
Comes r p version diff (Ok (Violations found)) = IsDerived (offers_if diff) p (Violating found.items)
Comes r p version diff (Err fault) = IsFault (offers_if diff) p fault
