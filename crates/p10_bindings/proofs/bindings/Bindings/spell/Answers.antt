use Rattle.std.proofs.Common.{◌∙◌, sym}
use Rattle.p10_bindings.proofs.Keeping.{linked_new}
use Rattle.p10_bindings.proofs.bindings.Bindings.spell.Goals as goal

pub invariant_of-self-in-Ok-1 : goal.invariant_of-self-in-Ok-1
invariant_of-self-in-Ok-1 g c =
    record { linked = linked_new _ _ _ _ _ c.args.name.now c.in-Ok.place c.args.self.now.linked (sym c.in-None.is ∙ c.place.ensures) c.in-Ok.ensures.ok c.in_ok-push-in-None.ensures.items c.in-Ok.ensures.place }
