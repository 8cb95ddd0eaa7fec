use Rattle.std.proofs.Common.{◌≡◌, drop, map}
use Rattle.p10_core.specs.Views.{plain_function, plain_statement}
use Rattle.p10_turns.specs.LoopParts.{parts_of}
use Rattle.p10_candidates.specs.Offering.{entry_by, approach_by}
use Rattle.p10_approach.specs.Approaches.{first_standing}
use Rattle.p10_approach.specs.Approaching.{site_by}
use Rattle.p10_approach.proofs.standing.first_standing.Given as goal

-- none of the approaches so far stands
abbrev pub invariant-loop-a : goal.invariant-loop-a
invariant-loop-a l =
    first_standing (plain_function l.function) (parts_of (plain_statement l.s)) (site_by l.site) (entry_by l.l) (map approach_by (drop l.a-index l.offered)) ≡
    first_standing (plain_function l.function) (parts_of (plain_statement l.s)) (site_by l.site) (entry_by l.l) (map approach_by l.offered)
