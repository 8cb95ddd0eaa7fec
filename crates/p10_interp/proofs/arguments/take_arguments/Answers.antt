-- The value on top is the last of the arguments that are left.
use Rattle.std.proofs.Common.{[]}
use Rattle.p10_interp.specs.private.Operations.{taken_before}
use Rattle.p10_interp.proofs.EnteredCalls.{taken_more}
use Rattle.p10_interp.proofs.arguments.take_arguments.Goals as goal

pub loop-preserved : goal.loop-preserved
loop-preserved c =
    taken_more c.args.count c.loop.counter (taken_before c.args.count [] c.args.operands.now) c.loop.arguments c.put_first.new.self c.loop.operands c.pop_value.new.self c.in-Some.x c.loop-test.true c.loop.invariant c.in-Some.ensures.found c.in-Some.ensures.rest c.in_ok-put_first.ensures.ok
