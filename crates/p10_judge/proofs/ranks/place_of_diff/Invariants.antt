use Rattle.std.proofs.Common.{◌≡◌, ◌+◌, length, map, option_map}
use Rattle.p10_cert.specs.Sealed.{section_of}
use Rattle.p10_judge.specs.private.Ranks.{place_of_diff}
use Rattle.p10_judge.proofs.ranks.place_of_diff.Given as goal

-- the place is among those that are left
abbrev pub invariant-loop-rest : goal.invariant-loop-rest
invariant-loop-rest l = record {
  counted : l.place + length l.rest ≡ length l.sections;
  among : place_of_diff (map section_of l.sections) ≡ option_map (λ n. l.place + n) (place_of_diff (map section_of l.rest));
}

abbrev pub decreases-loop-rest : goal.decreases-loop-rest
decreases-loop-rest l = length l.rest
