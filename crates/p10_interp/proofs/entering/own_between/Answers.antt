-- The objects from the first on, and no other.
use Rattle.p10_interp.specs.private.OpenCalls.{calls_in}
use Rattle.p10_interp.proofs.EnteredCalls.{owned_between}
use Rattle.p10_interp.proofs.entering.own_between.Goals as goal

pub returns-clause-ok : goal.returns-clause-ok
returns-clause-ok c = λ f around e.
    owned_between c.loop-object.object c.args.first c.args.end f around (calls_in c.loop-object.calls) c.loop-object.invariant.0 c.loop-object.invariant.1.0 c.loop-object-test.false (c.loop-object.invariant.1.1 f around e)
