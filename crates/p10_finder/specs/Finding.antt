-- What the code's loops are, and what it finds.
use Rattle.std.specs.Prelude.{◌≡◌, List, map}
use Rattle.std.specs.Option.{option_map}
use Rattle.p10_core.specs.Typed.{PlainProgram}
use Rattle.p10_cert.specs.Claims.{loop_of, claims_of}
use Rattle.p10_finder.specs.declared.search.LoopsFound.{LoopsFound as CodeLoops}
use Rattle.p10_finder.specs.declared.found.Found.{Found}
use Rattle.p10_finder.specs.declared.found.Found.TheVariants.{Certificate, Violations}
use Rattle.p10_finder.specs.declared.found.FinderFault.{FinderFault}
use Rattle.p10_finder.specs.declared.found.FinderFault.TheVariants as fault
use Rattle.p10_diff.specs.Evidence.{Rank}
use Rattle.p10_finder.specs.Loops.{LoopsFound}
use Rattle.p10_finder.specs.Ranking.{ranks_of}
use Rattle.p10_finder.specs.Answers.{Derived, Violating, Over, Certified, IsDerived}
use Rattle.p10_candidates.specs.Offering.{approach_by}
use Rattle.p10_approach.specs.Offers.{Offers}

-- the loops that the code found
abbrev pub loops_by : CodeLoops → LoopsFound
loops_by f = record { claims = map loop_of f.claims.items; unbounded = f.unbounded.items; approaches = map (option_map approach_by) f.approaches.items }

-- what is found of a program, as an answer of derivation
abbrev pub derived_of : Found → Derived
derived_of (Certificate c) = Certified (claims_of c)
derived_of (Violations found) = Violating found.items

-- these are the ranks that stand for the loops of the certificate that is found
abbrev pub HasRanks : Offers → PlainProgram → Found → List Rank → Type 0
HasRanks o p (Certificate c) ranks = ranks ≡ ranks_of o p (claims_of c)
HasRanks o p (Violations found) ranks = Unit {0}

-- why nothing is found: this limit is exceeded, or memory is out
abbrev pub IsFault : Offers → PlainProgram → FinderFault → Type 0
IsFault o p (fault.Over limit) = IsDerived o p (Over limit)
IsFault o p fault.Memory = Unit {0}
