-- The objects are closed, and then the block is left.
use Rattle.std.proofs.Common.{refl}
use Rattle.p10_interp.specs.private.OpenCalls.{calls_in}
use Rattle.p10_interp.specs.private.Views.{tasks_in}
use Rattle.p10_interp.specs.private.Machines.{state_of}
use Rattle.p10_interp.proofs.ClosedBlocks.{block_left}
use Rattle.p10_interp.proofs.leaving.end_block.Goals as goal

pub returns : goal.returns
returns c = λ io flow f calls e.
    block_left flow (tasks_in c.args.stacks.now.tasks) c.args.stacks.now.operands f calls (calls_in c.close_own.new.calls) (calls_in c.leave_block.new.self) c.args.outside.now.store c.close_own.new.store (state_of c.args.outside.now io) refl refl
    (c.close_own.ensures f calls e) c.leave_block.ensures
