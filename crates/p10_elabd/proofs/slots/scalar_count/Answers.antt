use Rattle.std.proofs.Common.{sym, ◌∙◌}
use Rattle.p10_core.proofs.MemberLayouts.{object_by_test}
use Rattle.p10_elabd.proofs.slots.scalar_count.Goals as goal

pub scalars-requires : goal.scalars-requires
scalars-requires c = record { object = object_by_test _ _ (sym c.is_object-holds.ensures ∙ c.if-holds.true) }
