use Rattle.p10_flowrules.proofs.Exiting.{by_block}
use Rattle.p10_flowrules.proofs.exits.+exits.Goals as goal

pub push_exits-returns-in-Block : goal.push_exits-returns-in-Block
push_exits-returns-in-Block t c =
    by_block c.push_all.result c.args.exits.now.items c.push_all.new.exits.items c.args.breaks c.args.statement.now.at c.args.statement.now.form c.in-Block.items c.as_slice.result.now c.in-Block.is c.as_slice.ensures c.push_all.ensures
