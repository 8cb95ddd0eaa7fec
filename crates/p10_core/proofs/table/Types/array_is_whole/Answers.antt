use Rattle.std.proofs.Common.{◌&&◌, sym, ◌∙◌}
use Rattle.p10_core.proofs.MemberLayouts.{object_by_test, array_by_room}
use Rattle.p10_core.proofs.table.Types.array_is_whole.Goals as goal

pub has_room-requires : goal.has_room-requires
has_room-requires c = record { object = object_by_test _ _ (sym (λ i. c.is_complete.ensures i && c.requires.whole i) ∙ c.if-holds.true) }

pub returns-then-holds : goal.returns-then-holds
returns-then-holds c = array_by_room _ _ c.args.length _ (sym (λ i. c.is_complete.ensures i && c.requires.whole i) ∙ c.if-holds.true) c.has_room.ensures
