-- An act that takes a byte at the end of the input gives -1.
use Rattle.p10_interp.proofs.Traded.{comes_end}
use Rattle.p10_interp.proofs.engine.Engine.read_none.Goals as goal

pub returns-then-is_empty-clause-comes : goal.returns-then-is_empty-clause-comes
returns-then-is_empty-clause-comes c = λ p n left taken few.
    comes_end p n c.args.flow c.args.self.now.stacks c.give_end_in.new.stacks c.args.self.now.outside c.args.self.now.ended left taken c.give_end_in.result c.is_empty.result c.requires.ended c.is_empty.ensures c.if-is_empty.true few c.give_end_in.ensures.ok c.give_end_in.ensures.err
