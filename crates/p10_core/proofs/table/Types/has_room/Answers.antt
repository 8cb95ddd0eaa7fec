use Rattle.p10_core.proofs.MemberLayouts.{room_is}
use Rattle.p10_core.proofs.table.Types.has_room.Goals as goal

pub returns-then-length-ge1 : goal.returns-then-length-ge1
returns-then-length-ge1 c = room_is c.args.length c.size.result _ c.if-length-ge1.true c.size.ensures
