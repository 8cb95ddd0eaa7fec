use Rattle.std.proofs.Common.{◌≡◌}
use Rattle.p10_diff.specs.Knowing.{pair_by, differences_of}
use Rattle.p10_diff.specs.Listed.{bounds_listed}
use Rattle.p10_diff.specs.private.Assigning.{with_all}
use Rattle.p10_diff.proofs.assigning.put_all.Given as goal

-- the bounds of the names of the variables so far are put, and what is known stays
abbrev pub invariant-loop-n : goal.invariant-loop-n
invariant-loop-n l = record {
  same : l.e ≡ l.initial.e;
  put : bounds_listed l.bounds.items ≡ with_all (pair_by l.p) l.a (differences_of l.initial.e) l.n (bounds_listed l.initial.bounds.items);
}
