use Rattle.std.proofs.Common.{◌≡◌, ◌++◌, reverse, take, drop, vec_len}
use Rattle.p10_bindings.specs.Bound.{bound_in}
use Rattle.p10_bindings.specs.Taken.{names_of}
use Rattle.p10_bindings.proofs.bindings.Bindings.take_back.Given as goal

abbrev pub invariant-loop-self : goal.invariant-loop-self
invariant-loop-self g l = record {
  left : take l.count (bound_in l.initial.self) ≡ take l.count (bound_in l.self);
  taken : drop l.count (bound_in l.initial.self) ≡ drop l.count (bound_in l.self) ++ reverse (names_of l.taken.items);
}

abbrev pub decreases-loop-self : goal.decreases-loop-self
decreases-loop-self g l = vec_len l.self.entries
