-- The piece on top is done by its act, or put back.
use Rattle.std.proofs.Common.{refl, ap}
use Rattle.p10_core.specs.Views.{plain_program}
use Rattle.p10_meaning.specs.Statements.{normal}
use Rattle.p10_interp.specs.private.Views.{task_of}
use Rattle.p10_interp.specs.private.OpenCalls.{calls_in}
use Rattle.p10_interp.specs.private.Machines.{state_of, rig_of}
use Rattle.p10_interp.specs.private.Turning.{rig_at}
use Rattle.p10_interp.proofs.Hastened.{stays, popped_rig, top_acted, top_left}
use Rattle.p10_interp.proofs.hastening.settle_top.Goals as goal

pub returns-then-not-may_settle-clause-ok : goal.returns-then-not-may_settle-clause-ok
returns-then-not-may_settle-clause-ok c = λ io. stays (plain_program c.args.p.now) (rig_of normal c.args.stacks.now) (state_of c.args.outside.now io)

pub returns-then-done-clause-ok : goal.returns-then-done-clause-ok
returns-then-done-clause-ok c = λ io.
    top_acted (plain_program c.args.p.now) (task_of c.in-Some.work) c.args.stacks.now (record c.args.stacks.now { tasks = c.pop.new.self }) c.settle_work.new.stacks (state_of c.args.outside.now io) (state_of c.settle_work.new.outside io) c.in_ok-done.done
    (popped_rig c.args.stacks.now (record c.args.stacks.now { tasks = c.pop.new.self }) (task_of c.in-Some.work) refl refl c.in-Some.ensures) c.if-done.true (c.in_ok-done.ensures.ok io)

pub returns-clause-ok : goal.returns-clause-ok
returns-clause-ok c = λ io.
    top_left (plain_program c.args.p.now) (task_of c.in-Some.work) c.args.stacks.now (record c.args.stacks.now { tasks = c.pop.new.self }) c.settle_work.new.stacks (record c.settle_work.new.stacks { tasks = c.push.new.self }) (state_of c.args.outside.now io) (state_of c.settle_work.new.outside io) c.in_ok-done.done
    (popped_rig c.args.stacks.now (record c.args.stacks.now { tasks = c.pop.new.self }) (task_of c.in-Some.work) refl refl c.in-Some.ensures) c.if-done.false (c.in_ok-done.ensures.ok io)
    (ap (λ tasks. rig_at tasks c.settle_work.new.stacks.operands (calls_in c.settle_work.new.stacks.calls)) c.in_ok-push.ensures.ok)
