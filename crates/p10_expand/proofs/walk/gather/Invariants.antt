use Rattle.std.proofs.Common.{◌≡◌, ◌≤◌, ◌-◌, ◌++◌, drop, map, string_bytes}
use Rattle.p10_base.specs.Gathered.{root_count}
use Rattle.p10_expand.specs.Gathering.{Root}
use Rattle.p10_expand.specs.private.Standing.{Stands, Comes, ComesTo, lines_from}
use Rattle.p10_expand.specs.Setting.{setting}
use Rattle.p10_expand.proofs.walk.gather.Given as goal

abbrev pub invariant-loop-root : goal.invariant-loop-root
invariant-loop-root g l = record {
  place : l.place ≡ l.root-index;
  stands : Stands (g.F.Files.held l.fn.files) l.state;
  many : root_count l.state.sources ≡ l.root-index;
  comes : Comes (setting (g.F.Files.held l.fn.files) (map string_bytes l.roots) (map string_bytes l.dirs)) l.state
      (map Root (drop l.root-index (map string_bytes l.roots)) ++ lines_from 0 l.state.known.items);
  held : g.F.Files.held l.files ≡ g.F.Files.held l.fn.files;
  count : g.F.Files.faults l.fn.files ≤ g.F.Files.faults l.files;
}

abbrev pub invariant-loop-file : goal.invariant-loop-file
invariant-loop-file g l = record {
  stands : Stands (g.F.Files.held l.fn.files) l.state;
  comes : ComesTo (setting (g.F.Files.held l.fn.files) (map string_bytes l.roots) (map string_bytes l.dirs)) l.state l.file;
  held : g.F.Files.held l.files ≡ g.F.Files.held l.fn.files;
  count : g.F.Files.faults l.fn.files ≤ g.F.Files.faults l.files;
}

abbrev pub decreases-loop-file : goal.decreases-loop-file
decreases-loop-file g l = 4294967296 - l.file
