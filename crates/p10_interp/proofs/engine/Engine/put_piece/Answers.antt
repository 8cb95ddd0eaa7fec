-- What waits is put, or a prefix of it.
use Rattle.std.proofs.Common.{refl}
use Rattle.p10_interp.specs.private.Resuming.{proceed}
use Rattle.p10_interp.proofs.Served.{proceed_goes_on}
use Rattle.p10_interp.proofs.Traded.{comes_put}
use Rattle.p10_interp.proofs.engine.Engine.put_piece.Goals as goal

pub returns-then-is_full-clause-comes : goal.returns-then-is_full-clause-comes
returns-then-is_full-clause-comes g c = λ p n r left few.
    comes_put (proceed p n r) c.args.self.now.outside (record c.args.self.now.outside { waiting = c.put_waiting.new.waiting }) c.args.self.now.ended left (g.O.Sink.taken c.args.out.now) (g.O.Sink.taken c.put_waiting.new.out) _ n c.put_waiting.result
    (proceed_goes_on p n r) few (λ input output. refl) refl c.put_waiting.ensures.ok c.put_waiting.ensures.err c.put_waiting.ensures.front
