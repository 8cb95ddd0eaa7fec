use Rattle.std.proofs.Common.{◌≡◌, ℕ, take, Some}
use Rattle.std.specs.Prelude.{slice_get}
use Rattle.p10_absx.specs.declared.notes.Entry.{Entry}
use Rattle.p10_absx.specs.Trails.{known_in_entries}
use Rattle.p10_absx.proofs.env.Env.copy.Given as goal

abbrev pub invariant-loop-entry : goal.invariant-loop-entry
invariant-loop-entry l = record {
  same : known_in_entries l.entries.items ≡ known_in_entries (take l.entry-index l.entry-items);
  fresh : (n : ℕ) (e : Entry) → slice_get l.entries.items n ≡ Some e → e.noted ≡ 0;
}
