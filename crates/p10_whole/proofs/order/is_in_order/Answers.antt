use Rattle.std.proofs.Common.{◌≡◌, true, ap, length, refl, rules}
use Rattle.p10_whole.proofs.Ordering.{order_is}
use Rattle.p10_whole.proofs.order.is_in_order.Goals as goal

pub returns : goal.returns
returns c =
    let passed : c.pass_statements.result ≡ true = search rules in
    order_is c.args.function.now c.args.init_done c.args.task_loop _ _ c.as_slice.result.now (length c.as_slice-2.result.now) c.as_slice.ensures (ap length c.as_slice-2.ensures) c.from.ensures refl refl refl (c.pass_statements.ensures.shows passed)
