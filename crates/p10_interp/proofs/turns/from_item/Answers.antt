-- A tail of a list has all of its statements from there on.
use Rattle.p10_interp.proofs.Turned.{tail_is}
use Rattle.p10_interp.proofs.turns.from_item.Goals as goal

pub returns : goal.returns
returns c = tail_is c.args.from c.args.items.now
