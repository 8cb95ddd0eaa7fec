use Rattle.std.proofs.Common.{◌≡◌, length, map}
use Rattle.std.specs.List.{list_all}
use Rattle.p10_words.specs.private.Scanning.{is_name}
use Rattle.p10_words.proofs.values.all_name_files.Given as goal

abbrev pub decreases-loop-rest : goal.decreases-loop-rest
decreases-loop-rest l = length l.rest

abbrev pub invariant-loop-rest : goal.invariant-loop-rest
invariant-loop-rest l = list_all is_name (map (λ w. w.now) l.words) ≡ list_all is_name (map (λ w. w.now) l.rest)
