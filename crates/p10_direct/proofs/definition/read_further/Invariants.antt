use Rattle.std.proofs.Common.{◌≡◌, ◌-◌, ◌≤◌, [], length, map, drop}
use Rattle.p10_base.specs.Words.{plain_word}
use Rattle.p10_direct.specs.private.Reading.{behind_parameters}
use Rattle.p10_direct.proofs.definition.read_further.Given as goal

-- what is left goes on with the parameters so far
abbrev pub invariant-loop-place : goal.invariant-loop-place
invariant-loop-place l = record {
  within : l.place ≤ length l.words;
  so_far : behind_parameters [] (map plain_word l.words) ≡ behind_parameters (map plain_word l.parameters) (map plain_word (drop l.place l.words));
}

abbrev pub decreases-loop-place : goal.decreases-loop-place
decreases-loop-place l = length l.words - l.place
