use Rattle.std.proofs.Common.{arith, length-take}
use Rattle.p10_world.proofs.Pieces.{piece_given, rest_of}
use Rattle.p10_world.proofs.given.Given.piece.Goals as goal

pub returns-clause-given : goal.returns-clause-given
returns-clause-given c =
    let next = rw (rest_of, c.deref.ensures.value) at c.copy_from_slice.ensures.after in
    piece_given _ _ _ c.args.self.now.given c.min-count.result next (omega (arith, length-take c.min-count.result c.args.buf.now))
