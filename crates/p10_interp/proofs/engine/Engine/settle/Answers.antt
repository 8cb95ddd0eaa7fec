-- What waits is put, and the answer is given.
use Rattle.p10_interp.proofs.Answered.{fits_last, settled_err, settled_fits, settled_ok}
use Rattle.p10_interp.specs.private.Serving.{moment_of}
use Rattle.std.proofs.Common.{sym, ◌∙◌}
use Rattle.p10_interp.proofs.engine.Engine.settle.Goals as goal

pub returns-in-Ok-clause-settles : goal.returns-in-Ok-clause-settles
returns-in-Ok-clause-settles g c = λ from old left frame comes.
    c.put_last.ensures.settles from old left frame (settled_ok from old (moment_of c.args.self.now left (g.O.Sink.taken c.args.out.now)) frame c.args.came c.in-Ok.ended (sym c.settled.ensures ∙ c.in-Ok.is) comes)

pub returns-in-Err-clause-settles : goal.returns-in-Err-clause-settles
returns-in-Err-clause-settles g c = λ from old left frame comes.
    settled_err from old (moment_of c.args.self.now left (g.O.Sink.taken c.args.out.now)) frame c.args.came c.in-Err.fault (sym c.settled.ensures ∙ c.in-Err.is) comes

pub returns-in-Ok-clause-answer : goal.returns-in-Ok-clause-answer
returns-in-Ok-clause-answer g c = λ loop fits.
    fits_last loop c.in-Ok.ended c.put_last.result (settled_fits loop c.args.came c.in-Ok.ended (sym c.settled.ensures ∙ c.in-Ok.is) fits) c.put_last.ensures.answer
