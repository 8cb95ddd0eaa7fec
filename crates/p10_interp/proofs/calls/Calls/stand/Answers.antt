-- What stands for the variable changes, and its block owns the object.
use Rattle.p10_interp.specs.private.OpenCalls.{calls_in}
use Rattle.p10_interp.proofs.OpenedCalls.{stands_owned}
use Rattle.p10_interp.proofs.calls.Calls.stand.Goals as goal

pub returns-clause-ok : goal.returns-clause-ok
returns-clause-ok c = stands_owned c.own.result (calls_in c.args.self.now) (calls_in c.set_held.new.self) (calls_in c.own.new.self) c.args.variable c.args.object c.set_held.ensures c.own.ensures.ok
