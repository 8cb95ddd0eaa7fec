use Rattle.std.proofs.Common.{◌≡◌, ◌++◌, ℕ, drop, map, Some}
use Rattle.std.specs.Prelude.{slice_get}
use Rattle.p10_core.specs.Views.{plain_variable}
use Rattle.p10_cert.specs.Claims.{value_of}
use Rattle.p10_absx.specs.declared.notes.Entry.{Entry}
use Rattle.p10_absx.specs.Entering.{entries_from}
use Rattle.p10_absx.specs.Trails.{known_in_entries}
use Rattle.p10_absx.proofs.entry.entries_of.Given as goal

abbrev pub invariant-loop-n : goal.invariant-loop-n
invariant-loop-n l = record {
  so_far : known_in_entries l.entries.items ++ entries_from l.n l.parameters (map value_of l.claims) (map plain_variable (drop l.n l.variables)) ≡ entries_from 0 l.parameters (map value_of l.claims) (map plain_variable l.variables);
  fresh : (n : ℕ) (e : Entry) → slice_get l.entries.items n ≡ Some e → e.noted ≡ 0;
}
