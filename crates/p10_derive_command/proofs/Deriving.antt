-- What comes of deriving the program of a reading, and that it is right to say it.
use Rattle.std.proofs.Common.{◌≡◌, ℕ, Bool, map, refl, sym, ap, subst, Option, Some, None, IsSomeAnd, Result, Ok, Err, Vec, Global}
use Rattle.p10_base.specs.declared.report.Violation.{Violation}
use Rattle.p10_base.specs.Gathered.{Gathered}
use Rattle.p10_core.specs.declared.program.Program.{Program}
use Rattle.p10_core.specs.Typed.{PlainProgram}
use Rattle.p10_core.specs.Views.{plain_program}
use Rattle.p10_core.specs.WholePrograms.{IsWholeProgram}
use Rattle.p10_cert.specs.declared.claims.Cert.{Cert}
use Rattle.p10_cert.specs.Claims.{claims_of}
use Rattle.p10_expand.specs.Gathering.{Gathers}
use Rattle.p10_front.specs.declared.reading.Reading.{Reading}
use Rattle.p10_front.specs.Answers.{reading_of}
use Rattle.p10_front.specs.Digests.{reading_digests}
use Rattle.p10_front.specs.Readings.{PlainReading, AreReadAs}
use Rattle.p10_diff.specs.declared.ranks.Rank.{Rank}
use Rattle.p10_diff.specs.Ranked.{rank_by}
use Rattle.p10_approach.specs.Offers.{offers_if}
use Rattle.p10_finder.specs.declared.found.Found.{Found}
use Rattle.p10_finder.specs.declared.found.RankedFound.{RankedFound}
use Rattle.p10_finder.specs.declared.found.Found.TheVariants as found_is
use Rattle.p10_finder.specs.declared.found.FinderFault.{FinderFault}
use Rattle.p10_finder.specs.declared.found.FinderFault.TheVariants as finder
use Rattle.p10_finder.specs.Answers.{Violating, Over, Certified, IsDerived}
use Rattle.p10_finder.specs.Finding.{derived_of}
use Rattle.p10_command.specs.declared.trouble.Trouble.TheVariants.{Memory}
use Rattle.p10_command.specs.Programs.{HasProgram}
use Rattle.p10_command.specs.Reading.{AreProgram}
use Rattle.p10_command.specs.Seen.{Seen}
use Rattle.p10_seal.specs.Saying.{sealed_saying}
use Rattle.p10_derive_command.specs.declared.command.DeriveCommand.{DeriveCommand}
use Rattle.p10_derive_command.specs.declared.derivation.Derivation.{Derivation}
use Rattle.p10_derive_command.specs.declared.derivation.Derivation.TheVariants.{Certificate, Sealed, Violations}
use Rattle.p10_derive_command.specs.Answers.{SaysRight, derived, sealed, troubled, setting_of}
use Rattle.p10_derive_command.specs.private.Telling.{Comes, Finds, HasRanksIf, end_saying}
use Rattle.p10_derive_command.specs.Ranks.{ranks_if}

-- ## What is found

-- what is found of the program of a reading
pub found_of : (o : Option Program) (program : Program) (diff : Bool) (end : Result RankedFound FinderFault) → o ≡ Some program → Finds (plain_program program) diff end → IsSomeAnd o (λ p. Finds (plain_program p) diff end)
found_of o program diff end is found = subst (λ (o : Option Program). IsSomeAnd o (λ p. Finds (plain_program p) diff end)) (sym is) found

-- where memory isn't out and no limit is exceeded
pub found_as : (o : Option Program) (diff : Bool) (end : Result RankedFound FinderFault) (ranked : RankedFound) → IsSomeAnd o (λ p. Finds (plain_program p) diff end) → end ≡ Ok ranked → IsSomeAnd o (λ p. Finds (plain_program p) diff (Ok ranked))
found_as o diff end ranked finds is = subst (λ (r : Result RankedFound FinderFault). IsSomeAnd o (λ p. Finds (plain_program p) diff r)) is finds

pub fault_by : (o : Option Program) (diff : Bool) (end : Result RankedFound FinderFault) → IsSomeAnd o (λ p. Finds (plain_program p) diff end) → (r : PlainReading) (version : ℕ) (fault : FinderFault) → end ≡ Err fault → IsSomeAnd o (λ p. Comes r (plain_program p) version diff (Err fault))
fault_by o diff end finds r version fault is = subst (λ (e : Result RankedFound FinderFault). IsSomeAnd o (λ p. Finds (plain_program p) diff e)) is finds

module _ (o : Option Program) (diff : Bool) (found : Found) (ranks : Vec Rank Global) (finds : IsSomeAnd o (λ p. Finds (plain_program p) diff (Ok (record { found = found; ranks = ranks })))) where
  pub certified_by : (claims : Cert) → found ≡ found_is.Certificate claims → IsSomeAnd o (λ p. IsDerived (offers_if diff) (plain_program p) (Certified (claims_of claims)))
  certified_by claims same = all o finds
    where
      all : (o : Option Program) → IsSomeAnd o (λ p. Finds (plain_program p) diff (Ok (record { found = found; ranks = ranks }))) → IsSomeAnd o (λ p. IsDerived (offers_if diff) (plain_program p) (Certified (claims_of claims)))
      all None h = h
      all (Some p) h = subst (λ (f : Found). IsDerived (offers_if diff) (plain_program p) (derived_of f)) same h.0

  pub ranked_by : (claims : Cert) → found ≡ found_is.Certificate claims → IsSomeAnd o (λ p. map rank_by ranks.items ≡ ranks_if diff (plain_program p) (claims_of claims))
  ranked_by claims same = all o finds
    where
      all : (o : Option Program) → IsSomeAnd o (λ p. Finds (plain_program p) diff (Ok (record { found = found; ranks = ranks }))) → IsSomeAnd o (λ p. map rank_by ranks.items ≡ ranks_if diff (plain_program p) (claims_of claims))
      all None h = h
      all (Some p) h = subst (λ (f : Found). HasRanksIf diff (plain_program p) f (map rank_by ranks.items)) same h.1

  pub violating_by : (r : PlainReading) (version : ℕ) (violations : Vec Violation Global) → found ≡ found_is.Violations violations → IsSomeAnd o (λ p. Comes r (plain_program p) version diff (Ok (Violations violations)))
  violating_by r version violations same = all o finds
    where
      all : (o : Option Program) → IsSomeAnd o (λ p. Finds (plain_program p) diff (Ok (record { found = found; ranks = ranks }))) → IsSomeAnd o (λ p. Comes r (plain_program p) version diff (Ok (Violations violations)))
      all None h = h
      all (Some p) h = subst (λ (f : Found). IsDerived (offers_if diff) (plain_program p) (derived_of f)) same h.0

-- ## It is right to say it

end_is_right : (derive : DeriveCommand) (seen : Seen) (g : Gathered) (p : PlainProgram) (has : HasProgram (setting_of seen derive) g p) (end : Result Derivation FinderFault) → Comes has.reading p derive.version derive.diff end → SaysRight derive seen (end_saying g end)
end_is_right derive seen g p has (Ok (Certificate claims)) is = derived g p (Certified (claims_of claims)) has is.1 is.0 refl
end_is_right derive seen g p has (Ok (Sealed text)) is =
    sealed g p (reading_digests has.reading) is.1.claims (record { has = has; are = refl; each = is.1.sealed.each }) is.1.derived is.0 (ap sealed_saying is.1.sealed.is)
end_is_right derive seen g p has (Ok (Violations found)) is = derived g p (Violating found.items) has is tt refl
end_is_right derive seen g p has (Err (finder.Over limit)) is = derived g p (Over limit) has is tt refl
end_is_right derive seen g p has (Err finder.Memory) is = troubled Memory tt refl

right_by : (derive : DeriveCommand) (seen : Seen) (g : Gathered) (r : PlainReading) (o : Option Program) (end : Result Derivation FinderFault) → Gathers (setting_of seen derive) g
    → IsSomeAnd o (λ p. AreReadAs g r (plain_program p) × IsWholeProgram (plain_program p)) → IsSomeAnd o (λ p. Comes r (plain_program p) derive.version derive.diff end) → SaysRight derive seen (end_saying g end)
right_by derive seen g r None end gathers are comes = absurd are
right_by derive seen g r (Some p) end gathers are comes = end_is_right derive seen g (plain_program p) (record { gathers = gathers; reading = r; read = are.0; whole = are.1 }) end comes

pub reading_is_right : (derive : DeriveCommand) (seen : Seen) (g : Gathered) (reading : Reading) (version : ℕ) (diff : Bool) (end : Result Derivation FinderFault) → derive.version ≡ version → derive.diff ≡ diff → Gathers (setting_of seen derive) g → AreProgram g reading
    → IsSomeAnd reading.program (λ p. Comes (reading_of reading) (plain_program p) version diff end) → SaysRight derive seen (end_saying g end)
reading_is_right derive seen g reading version diff end asked ranked gathers are comes =
    right_by derive seen g (reading_of reading) reading.program end gathers are
    (subst (λ (v : ℕ). IsSomeAnd reading.program (λ p. Comes (reading_of reading) (plain_program p) v derive.diff end)) (sym asked)
    (subst (λ (d : Bool). IsSomeAnd reading.program (λ p. Comes (reading_of reading) (plain_program p) version d end)) (sym ranked) comes))
