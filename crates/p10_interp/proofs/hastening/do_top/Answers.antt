-- The piece on top is done at once, or put back.
use Rattle.std.proofs.Common.{[], refl, subst, ap}
use Rattle.p10_core.specs.Views.{plain_program}
use Rattle.p10_meaning.specs.Statements.{normal}
use Rattle.p10_interp.specs.private.Views.{task_of}
use Rattle.p10_interp.specs.private.OpenCalls.{calls_in}
use Rattle.p10_interp.specs.private.Machines.{Around, state_of, rig_of}
use Rattle.p10_interp.specs.private.Turning.{rig_at, Does}
use Rattle.p10_interp.proofs.Hastened.{stays, popped_rig, top_done, top_back}
use Rattle.p10_interp.proofs.hastening.do_top.Goals as goal

nothing : Around
nothing = record { out = []; rest = [] }

pub returns-then-is_empty-clause-ok : goal.returns-then-is_empty-clause-ok
returns-then-is_empty-clause-ok c = λ io. stays (plain_program c.args.p.now) (rig_of normal c.args.stacks.now) (state_of c.args.outside.now io)

pub returns-then-done-clause-ok : goal.returns-then-done-clause-ok
returns-then-done-clause-ok c = λ io.
    top_done (plain_program c.args.p.now) (task_of c.in-Some.work) c.args.stacks.now (record c.args.stacks.now { tasks = c.pop.new.self }) c.do_at_once.new.stacks (state_of c.args.outside.now io) (state_of c.do_at_once.new.outside io) c.in_ok-done.done
    (popped_rig c.args.stacks.now (record c.args.stacks.now { tasks = c.pop.new.self }) (task_of c.in-Some.work) refl refl c.in-Some.ensures) c.if-done.true (c.in_ok-done.ensures.ok io)

pub returns-then-done-clause-fewer : goal.returns-then-done-clause-fewer
returns-then-done-clause-fewer c = λ t.
    (subst (λ done. Does (plain_program c.args.p.now) (task_of c.in-Some.work) (record c.args.stacks.now { tasks = c.pop.new.self }) (state_of c.args.outside.now nothing) done c.do_at_once.new.stacks (state_of c.do_at_once.new.outside nothing)) c.if-done.true (c.in_ok-done.ensures.ok nothing)).paid

pub returns-clause-ok : goal.returns-clause-ok
returns-clause-ok c = λ io.
    top_back (plain_program c.args.p.now) (task_of c.in-Some.work) c.args.stacks.now (record c.args.stacks.now { tasks = c.pop.new.self }) c.do_at_once.new.stacks (record c.do_at_once.new.stacks { tasks = c.push.new.self }) (state_of c.args.outside.now io) (state_of c.do_at_once.new.outside io) c.in_ok-done.done
    (popped_rig c.args.stacks.now (record c.args.stacks.now { tasks = c.pop.new.self }) (task_of c.in-Some.work) refl refl c.in-Some.ensures) c.if-done.false (c.in_ok-done.ensures.ok io)
    (ap (λ tasks. rig_at tasks c.do_at_once.new.stacks.operands (calls_in c.do_at_once.new.stacks.calls)) c.in_ok-push.ensures.ok)
