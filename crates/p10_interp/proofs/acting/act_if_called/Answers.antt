-- A call is open.
use Rattle.std.proofs.Common.{sym, ◌∙◌}
use Rattle.p10_core.specs.Views.{plain_program}
use Rattle.p10_interp.specs.private.OpenCalls.{calls_in}
use Rattle.p10_interp.specs.private.Views.{task_of, tasks_in}
use Rattle.p10_interp.specs.private.Machines.{state_of}
use Rattle.p10_interp.specs.private.Acts.{act}
use Rattle.p10_interp.proofs.Passed.{in_call}
use Rattle.p10_interp.proofs.acting.act_if_called.Goals as goal

pub returns-else-is_idle : goal.returns-else-is_idle
returns-else-is_idle c = λ io.
    in_call (λ calls. act (plain_program c.args.p.now) (task_of c.args.work) (tasks_in c.args.stacks.now.tasks) c.args.stacks.now.operands calls (state_of c.args.outside.now io)) (calls_in c.args.stacks.now.calls) c.act_in_call.result c.act_in_call.new.stacks (state_of c.act_in_call.new.outside io)
    (sym c.is_idle.ensures ∙ c.if-is_idle.false) (λ f calls e. c.act_in_call.ensures io f calls e)
