-- The source gives a piece, has ended, or fails.
use Rattle.std.proofs.Common.{refl}
use Rattle.p10_interp.specs.private.Resuming.{proceed}
use Rattle.p10_interp.proofs.Served.{proceed_goes_on}
use Rattle.p10_interp.proofs.Traded.{none_before, serves_piece, loses_piece}
use Rattle.p10_interp.proofs.engine.Engine.ask_once.Goals as goal

pub returns-in-Ok-clause-comes : goal.returns-in-Ok-clause-comes
returns-in-Ok-clause-comes g c = λ p n r taken few.
    serves_piece (proceed p n r) c.args.self.now.outside (record c.args.self.now.outside { pending = c.take_piece.new.pending }) (g.I.Source.left c.args.input.now) (g.I.Source.left c.take_piece.new.input) taken c.args.self.now.ended c.in-Ok.ended c.requires.ended
    (λ input output. refl) c.requires.pending refl c.in-Ok.ensures.ok

pub returns-in-Err-clause-comes : goal.returns-in-Err-clause-comes
returns-in-Err-clause-comes g c = λ p n r taken few.
    loses_piece (proceed p n r) c.args.self.now.outside (record c.args.self.now.outside { pending = c.take_piece.new.pending }) (g.I.Source.left c.args.input.now) (g.I.Source.left c.take_piece.new.input) taken c.args.self.now.ended n c.in-Err.broken (λ done. proceed p n r) c.requires.ended
    (proceed_goes_on p n r) few c.in-Err.ensures.err c.in-Err.ensures.read

pub returns-in-Ok-clause-noted : goal.returns-in-Ok-clause-noted
returns-in-Ok-clause-noted g c = λ e. c.in-Ok.ensures.ok.noted (none_before c.in-Ok.ensures.ok.given c.args.self.now.outside.pending c.take_piece.new.pending c.in-Ok.ensures.ok.pending_is e)
