-- What stands for the variable is put after all others.
use Rattle.std.proofs.Common.{refl}
use Rattle.p10_interp.proofs.LeftCalls.{variable_held}
use Rattle.p10_interp.proofs.calls.Calls.hold.Goals as goal

pub returns-then-has_held-clause-ok : goal.returns-then-has_held-clause-ok
returns-then-has_held-clause-ok c = variable_held c.put_held.result c.args.self.now c.put_held.new.self c.args.held c.put_held.ensures.bases c.put_held.ensures.marks c.put_held.ensures.ok (c.if-has_held.ensures refl)
