-- The structures round a body are as they were after it.
use Rattle.p10_block_structures.specs.Laws.{BodiesLeaveStructures}
use Rattle.p10_elabs.specs.Statements.{no_items_yet}
use Rattle.p10_statement_steps.proofs.Each.{each_in_body, local_in_body}
use Rattle.p10_statement_steps.proofs.Doing.{over_items}
use Rattle.p10_block_structures.proofs.Keeping.{leaving}

pub bodies_leave_structures : BodiesLeaveStructures
bodies_leave_structures h f in_main r l all old start begun n low =
    ((each_in_body (local_in_body (leaving h)) (over_items h f in_main r (no_items_yet l) all)).structures old start l.standing.scope.structures begun).kept n low
