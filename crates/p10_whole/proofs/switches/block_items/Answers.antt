use Rattle.p10_whole.proofs.Openings.{items_of_block}
use Rattle.p10_whole.proofs.switches.block_items.Goals as goal

pub returns-in-Block : goal.returns-in-Block
returns-in-Block c = items_of_block c.args.body.now.at c.args.body.now.form c.in-Block.items c.as_slice.result.now c.in-Block.is c.as_slice.ensures
