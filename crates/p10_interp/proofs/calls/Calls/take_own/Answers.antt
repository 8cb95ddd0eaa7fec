-- The object is the last mark of its call.
use Rattle.p10_interp.proofs.LeftCalls.{takes_some}
use Rattle.p10_interp.proofs.calls.Calls.take_own.Goals as goal

pub returns-in-Some-clause-taken : goal.returns-in-Some-clause-taken
returns-in-Some-clause-taken c = takes_some c.args.self.now c.drop_mark.new.self c.in-Some.object c.drop_mark.ensures.bases c.drop_mark.ensures.held c.drop_mark.ensures.marks c.in-Some.ensures
