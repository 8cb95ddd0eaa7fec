use Rattle.std.proofs.Common.{◌≡◌, ℤ, [], drop, take}
use Rattle.std.specs.List.{list_any}
use Rattle.std.specs.Ordering.{int_eq}
use Rattle.p10_core.specs.WholePrograms.{AreCases}
use Rattle.p10_whole.specs.private.Labels.{values_on, has_value}
use Rattle.p10_whole.proofs.switches.are_cases.Given as goal

abbrev pub invariant-loop-i : goal.invariant-loop-i
invariant-loop-i l = record {
  before : AreCases l.kind l.from l.count (values_on (take l.i l.cases) []) (drop l.i l.cases) → AreCases l.kind 0 l.count [] l.cases;
  noted : (z : ℤ) → list_any (int_eq z) l.seen ≡ has_value z (take l.i l.cases);
}
