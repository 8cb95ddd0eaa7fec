-- The objects are closed, and then the call is left with its value.
use Rattle.std.proofs.Common.{refl}
use Rattle.p10_interp.specs.private.OpenCalls.{calls_in}
use Rattle.p10_interp.specs.private.Views.{tasks_in}
use Rattle.p10_interp.specs.private.Machines.{state_of}
use Rattle.p10_interp.proofs.ClosedBlocks.{call_ended}
use Rattle.p10_interp.proofs.leaving.end_call.Goals as goal

pub returns : goal.returns
returns c = λ io f calls e.
    call_ended c.push.result (tasks_in c.args.stacks.now.tasks) c.args.stacks.now.operands c.push.new.self c.args.given f calls (calls_in c.close_own.new.calls) (calls_in c.leave.new.self) c.args.outside.now.store c.close_own.new.store (state_of c.args.outside.now io) refl refl
    (c.close_own.ensures f calls e) c.leave.ensures c.push.ensures.ok c.push.ensures.err
