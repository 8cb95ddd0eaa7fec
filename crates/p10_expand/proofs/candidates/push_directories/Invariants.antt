use Rattle.std.proofs.Common.{◌≡◌, ◌++◌, map, take}
use Rattle.std.specs.Prelude.{string_bytes}
use Rattle.p10_expand.specs.Candidates.{in_directories}
use Rattle.p10_expand.proofs.candidates.push_directories.Given as goal

abbrev pub invariant-loop-dir : goal.invariant-loop-dir
invariant-loop-dir l = l.places.items ≡ l.fn.places.items ++ in_directories (map string_bytes (take l.dir-index l.dirs)) l.name
