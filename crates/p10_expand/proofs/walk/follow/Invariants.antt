use Rattle.std.proofs.Common.{◌≡◌, ◌≤◌, ◌+◌, List, ℕ, ◌++◌, drop, map, string_bytes}
use Rattle.p10_expand.specs.Gathering.{known_at, lines_of}
use Rattle.p10_expand.specs.private.Standing.{Stands, Grows, Comes, ComesTo, lines_from}
use Rattle.p10_expand.specs.Setting.{setting}
use Rattle.p10_expand.proofs.walk.follow.Given as goal

abbrev pub invariant-loop-at : goal.invariant-loop-at
invariant-loop-at g l = record {
  stands : Stands (g.F.Files.held l.fn.files) l.state;
  grows : Grows l.fn.state l.state;
  comes : (roots : List (List ℕ)) → ComesTo (setting (g.F.Files.held l.fn.files) roots (map string_bytes l.dirs)) l.fn.state l.file →
      Comes (setting (g.F.Files.held l.fn.files) roots (map string_bytes l.dirs)) l.state
      (drop l.at (lines_of l.file (known_at l.fn.state.known.items l.file)) ++ lines_from (l.file + 1) (drop (l.file + 1) l.state.known.items));
  held : g.F.Files.held l.files ≡ g.F.Files.held l.fn.files;
  count : g.F.Files.faults l.fn.files ≤ g.F.Files.faults l.files;
}
