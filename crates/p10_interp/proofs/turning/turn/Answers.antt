-- An act is a turn.
use Rattle.std.proofs.Common.{Ok, Err}
use Rattle.p10_core.specs.Views.{plain_program}
use Rattle.p10_interp.specs.private.Views.{task_of, tasks_in}
use Rattle.p10_interp.specs.private.OpenCalls.{calls_in}
use Rattle.p10_interp.specs.private.Machines.{state_of}
use Rattle.p10_interp.proofs.Advanced.{rig_with}
use Rattle.p10_interp.proofs.TurnedAtOnce.{turned_by_act}
use Rattle.p10_interp.proofs.turning.turn.Goals as goal

pub returns-then-is_normal : goal.returns-then-is_normal
returns-then-is_normal c = λ io.
    c.go_on.ensures io (rig_with c.args.flow (task_of c.args.work) (tasks_in c.args.stacks.now.tasks) c.args.stacks.now.operands (calls_in c.args.stacks.now.calls)) (state_of c.args.outside.now io) (c.is_normal.ensures c.if-is_normal.true)
    (turned_by_act (plain_program c.args.p.now) c.args.flow (task_of c.args.work) (tasks_in c.args.stacks.now.tasks) c.args.stacks.now.operands (calls_in c.args.stacks.now.calls) (state_of c.args.outside.now io) (state_of c.next_act.new.outside io) (Ok c.in-Ok.next) c.next_act.new.stacks (c.in-Ok.ensures io))

pub returns-else-is_normal : goal.returns-else-is_normal
returns-else-is_normal c = λ io.
    turned_by_act (plain_program c.args.p.now) c.args.flow (task_of c.args.work) (tasks_in c.args.stacks.now.tasks) c.args.stacks.now.operands (calls_in c.args.stacks.now.calls) (state_of c.args.outside.now io) (state_of c.next_act.new.outside io) (Ok c.in-Ok.next) c.next_act.new.stacks (c.in-Ok.ensures io)

pub returns-in-Err : goal.returns-in-Err
returns-in-Err c = λ io.
    turned_by_act (plain_program c.args.p.now) c.args.flow (task_of c.args.work) (tasks_in c.args.stacks.now.tasks) c.args.stacks.now.operands (calls_in c.args.stacks.now.calls) (state_of c.args.outside.now io) (state_of c.next_act.new.outside io) (Err c.in-Err.halt) c.next_act.new.stacks (c.in-Err.ensures io)
