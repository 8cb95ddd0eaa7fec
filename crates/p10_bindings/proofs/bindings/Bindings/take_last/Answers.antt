use Rattle.std.proofs.Common.{refl}
use Rattle.p10_bindings.proofs.Keeping.{linked_fewer}
use Rattle.p10_bindings.proofs.bindings.Bindings.take_last.Goals as goal

pub invariant_of-self : goal.invariant_of-self
invariant_of-self g c =
    record { linked = linked_fewer _ _ _ _ c.in-Some.entry _ _ c.args.self.now.linked c.in-Some.ensures.items refl refl }
