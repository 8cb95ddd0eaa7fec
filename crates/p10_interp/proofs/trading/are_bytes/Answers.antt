use Rattle.p10_interp.proofs.Traded.{small_bytes}
use Rattle.p10_interp.proofs.trading.are_bytes.Goals as goal

pub returns : goal.returns
returns c = small_bytes c.args.bytes.now c.type_inv.bytes
