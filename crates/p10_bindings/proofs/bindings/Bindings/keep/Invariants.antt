use Rattle.std.proofs.Common.{◌≡◌, take, vec_len}
use Rattle.p10_bindings.specs.Bound.{bound_in}
use Rattle.p10_bindings.proofs.bindings.Bindings.keep.Given as goal

abbrev pub invariant-loop-self : goal.invariant-loop-self
invariant-loop-self g l = take l.count (bound_in l.initial.self) ≡ take l.count (bound_in l.self)

abbrev pub decreases-loop-self : goal.decreases-loop-self
decreases-loop-self g l = vec_len l.self.entries
