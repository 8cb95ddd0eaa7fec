use Rattle.std.proofs.Common.{◌≡◌, ◌≤◌, take}
use Rattle.std.specs.Prelude.{All}
use Rattle.p10_expand.specs.Finding.{IsAbsent}
use Rattle.p10_expand.specs.private.Standing.{Stands, Keeps}
use Rattle.p10_expand.proofs.walk.first_present.Given as goal

abbrev pub invariant-loop-place : goal.invariant-loop-place
invariant-loop-place g l = record {
  stands : Stands (g.F.Files.held l.fn.files) l.state;
  keeps : Keeps l.fn.state l.state;
  none : All (IsAbsent (g.F.Files.held l.fn.files)) (take l.place-index l.places);
  held : g.F.Files.held l.files ≡ g.F.Files.held l.fn.files;
  count : g.F.Files.faults l.fn.files ≤ g.F.Files.faults l.files;
}
