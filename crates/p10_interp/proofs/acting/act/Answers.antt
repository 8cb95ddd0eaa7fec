-- A call is entered from any call, or from none.
use Rattle.p10_core.specs.Views.{plain_program}
use Rattle.p10_interp.specs.private.OpenCalls.{calls_in}
use Rattle.p10_interp.specs.private.Views.{tasks_in}
use Rattle.p10_interp.specs.private.Machines.{state_of}
use Rattle.p10_interp.proofs.Passed.{acted_as}
use Rattle.p10_interp.proofs.acting.act.Goals as goal

pub returns-in-CallFunction : goal.returns-in-CallFunction
returns-in-CallFunction c = λ io.
    acted_as (plain_program c.args.p.now) c.args.work _ (tasks_in c.args.stacks.now.tasks) c.args.stacks.now.operands (calls_in c.args.stacks.now.calls) (state_of c.args.outside.now io) (state_of c.call_function.new.outside io) c.normally.result c.call_function.new.stacks c.in-CallFunction.is
    (c.normally.ensures c.call_function.new.stacks _ _ (c.call_function.ensures io))
