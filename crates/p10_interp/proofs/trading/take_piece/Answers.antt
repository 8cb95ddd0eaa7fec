-- What was put before the bytes that are pending is the front of the buffer.
use Rattle.std.proofs.Common.{take, refl, arith, rules}
use Rattle.p10_interp.proofs.Traded.{takes_piece}
use Rattle.p10_interp.proofs.trading.take_piece.Goals as goal

pub returns-in_ok-put_before-in-Ok-clause-ok : goal.returns-in_ok-put_before-in-Ok-clause-ok
returns-in_ok-put_before-in-Ok-clause-ok g c =
    takes_piece (g.I.Source.left c.args.input.now) (g.I.Source.left c.piece.new.self) c.args.pending.now c.put_before.new.pending c.piece.new.buf (take c.in-Ok.count c.piece.new.buf) c.in-Ok.count refl
    (omega (arith, c.in-Ok.ensures.bound, c.piece.auto.buf)) (search rules) c.in-Ok.ensures.given c.in-Ok.ensures.end c.are_bytes.ensures c.in_ok-put_before-in-Ok.ensures.ok
