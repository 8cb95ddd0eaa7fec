use Rattle.std.proofs.Common.{◌≡◌, ◌<◌, ◌+◌, ◌^◌, length, map}
use Rattle.p10_cert.specs.Sealed.{section_of}
use Rattle.p10_judge.specs.private.Ranks.{lines_from, lines_of_sections}
use Rattle.p10_judge.proofs.ranks.lines_from.Given as goal

abbrev pub invariant-loop-rest : goal.invariant-loop-rest
invariant-loop-rest l = record {
  so_far : l.count + lines_of_sections (map section_of l.rest) ≡ lines_from (map section_of l.sections) l.place;
  few : l.count + lines_of_sections (map section_of l.rest) < 2 ^ 64;
}

abbrev pub decreases-loop-rest : goal.decreases-loop-rest
decreases-loop-rest l = length l.rest
