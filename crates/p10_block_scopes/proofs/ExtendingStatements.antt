-- The names round a body stand again after it.
use Rattle.p10_block_scopes.specs.Laws.{BodiesLeaveScopes}
use Rattle.p10_elabs.specs.Statements.{Block', no_items_yet, items_done}
use Rattle.p10_statement_steps.proofs.Each.{each_in_body, local_in_body}
use Rattle.p10_statement_steps.proofs.Doing.{over_items}
use Rattle.p10_block_scopes.proofs.Extending.{left_again, extends_on, extending}

pub bodies_leave_scopes : BodiesLeaveScopes
bodies_leave_scopes h f in_main r s l all begun =
    let b : Block' = items_done h f in_main r (no_items_yet l) all in
    left_again s b.after.standing.scope (extends_on begun (each_in_body (local_in_body (extending h)) (over_items h f in_main r (no_items_yet l) all)))
