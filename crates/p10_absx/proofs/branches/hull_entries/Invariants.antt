use Rattle.std.proofs.Common.{◌≡◌, ◌++◌, ℕ, drop, Some}
use Rattle.std.specs.Prelude.{slice_get}
use Rattle.p10_absx.specs.declared.notes.Entry.{Entry}
use Rattle.p10_absx.specs.Environments.{hull_environment}
use Rattle.p10_absx.specs.Trails.{known_in_entries}
use Rattle.p10_absx.proofs.branches.hull_entries.Given as goal

abbrev pub invariant-loop-n : goal.invariant-loop-n
invariant-loop-n l = record {
  so_far : known_in_entries l.entries.items ++ hull_environment (known_in_entries (drop l.n l.some)) (known_in_entries (drop l.n l.others)) ≡ hull_environment (known_in_entries l.some) (known_in_entries l.others);
  fresh : (n : ℕ) (e : Entry) → slice_get l.entries.items n ≡ Some e → e.noted ≡ 0;
}
