use Rattle.std.proofs.Common.{◌≡◌, drop, map}
use Rattle.p10_candidates.specs.Offering.{candidate_by, entry_by}
use Rattle.p10_candidates.specs.Trials.{first_standing}
use Rattle.p10_candidates.specs.Offering.{rounds_by}
use Rattle.p10_candidates.proofs.standing.first_standing.Given as goal

-- none of the candidates so far stands
abbrev pub invariant-loop-candidate : goal.invariant-loop-candidate
invariant-loop-candidate l =
    first_standing (rounds_by l.rounds) (entry_by l.l) l.depth (map candidate_by (drop l.candidate-index l.candidates)) ≡ first_standing (rounds_by l.rounds) (entry_by l.l) l.depth (map candidate_by l.candidates)
