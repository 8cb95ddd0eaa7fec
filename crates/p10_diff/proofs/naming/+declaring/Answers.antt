use Rattle.p10_diff.proofs.Holding.{block_gives, loop_gives}
use Rattle.p10_diff.proofs.naming.+declaring.Goals as goal

pub gives_value-returns-in-Block : goal.gives_value-returns-in-Block
gives_value-returns-in-Block t c = block_gives c.args.n c.args.s.now.form c.in-Block.items c.as_slice.result.now c.any_gives_value.result c.in-Block.is c.as_slice.ensures c.any_gives_value.ensures

pub gives_value-returns-in-Loop : goal.gives_value-returns-in-Loop
gives_value-returns-in-Loop t c =
    loop_gives c.args.n c.args.s.now.form c.in-Loop.field-0 c.in-Loop.first c.in-Loop.field-2 c.in-Loop.field-3 c.in-Loop.body c.as_slice-in-Loop.result.now c.deref-in-Loop.result.now
    c.any_gives_value-in-Loop.result c.gives_value-in-Loop.result c.either.result
    c.in-Loop.is c.as_slice-in-Loop.ensures c.deref-in-Loop.ensures c.any_gives_value-in-Loop.ensures c.gives_value-in-Loop.ensures c.either.ensures
