-- One act a turn.
use Rattle.std.proofs.Common.{◌≡◌, ◌≤◌, ◌∙◌, [], ap, arith, Err}
use Rattle.std.proofs.lemmas.Result.{err_from_is_err_and}
use Rattle.p10_core.specs.Views.{plain_program}
use Rattle.p10_interp.specs.private.Views.{flow_of, task_of, tasks_in}
use Rattle.p10_interp.specs.private.Weights.{weights}
use Rattle.p10_interp.specs.private.Machines.{Around, state_of, rig_of}
use Rattle.p10_interp.specs.private.Resuming.{proceed}
use Rattle.p10_interp.proofs.Advanced.{IsLess, turned, turn_stopped, turn_lighter, falls_by}
use Rattle.p10_interp.proofs.running.advance.Goals as goal

nothing : Around
nothing = record { out = []; rest = [] }

pub returns-in_err-flow-clause-comes : goal.returns-in_err-flow-clause-comes
returns-in_err-flow-clause-comes c = λ io n l.
    let e = err_from_is_err_and c.from_residual.result c.from_residual.ensures.1 in
    turn_stopped (plain_program c.args.p.now) n c.loop-work.flow _ (task_of c.in-Some.work) (tasks_in c.pop.new.self) c.loop-work.stacks c.turn.new.stacks (state_of c.loop-work.outside io) (state_of c.turn.new.outside io)
    (proceed (plain_program c.args.p.now) n (rig_of (flow_of c.args.flow) c.args.stacks.now) (state_of c.args.outside.now io)) c.from_residual.result c.in-Some.ensures (omega (arith, l, c.loop-work.invariant.0)) (c.loop-work.invariant.1.1 io n l) (e.1 ∙ ap (λ y. Err y) e.2) (c.in_err-flow.ensures io)

pub returns-then-outside-left-clause-comes : goal.returns-then-outside-left-clause-comes
returns-then-outside-left-clause-comes c = λ io n l.
    turned (plain_program c.args.p.now) n c.loop-work.flow c.in_ok-flow.flow (task_of c.in-Some.work) (tasks_in c.pop.new.self) c.loop-work.stacks c.turn.new.stacks (state_of c.loop-work.outside io) (state_of c.turn.new.outside io)
    (proceed (plain_program c.args.p.now) n (rig_of (flow_of c.args.flow) c.args.stacks.now) (state_of c.args.outside.now io)) c.in-Some.ensures (omega (arith, l, c.loop-work.invariant.0)) (c.loop-work.invariant.1.1 io n l) (c.in_ok-flow.ensures io)

pub returns-then-outside-left-clause-falls : goal.returns-then-outside-left-clause-falls
returns-then-outside-left-clause-falls c =
    let h : IsLess (weights (tasks_in c.loop-work.stacks.tasks)) (rig_of (flow_of c.in_ok-flow.flow) c.turn.new.stacks) (state_of c.loop-work.outside nothing) (state_of c.turn.new.outside nothing) =
    turn_lighter (plain_program c.args.p.now) c.loop-work.flow c.in_ok-flow.flow (task_of c.in-Some.work) (tasks_in c.pop.new.self) c.loop-work.stacks c.turn.new.stacks (state_of c.loop-work.outside nothing) (state_of c.turn.new.outside nothing) c.in-Some.ensures (c.in_ok-flow.ensures nothing) in
    falls_by (weights (tasks_in c.args.stacks.now.tasks)) (weights (tasks_in c.loop-work.stacks.tasks)) (weights (tasks_in c.turn.new.stacks.tasks)) c.loop-work.outside.left c.args.outside.now.left c.turn.new.outside.left c.loop-work.invariant.0 h.few h.less c.loop-work.invariant.1.0

pub loop-work-smaller : goal.loop-work-smaller
loop-work-smaller c =
    let h : IsLess (weights (tasks_in c.loop-work.stacks.tasks)) (rig_of (flow_of c.in_ok-flow.flow) c.turn.new.stacks) (state_of c.loop-work.outside nothing) (state_of c.turn.new.outside nothing) =
    turn_lighter (plain_program c.args.p.now) c.loop-work.flow c.in_ok-flow.flow (task_of c.in-Some.work) (tasks_in c.pop.new.self) c.loop-work.stacks c.turn.new.stacks (state_of c.loop-work.outside nothing) (state_of c.turn.new.outside nothing) c.in-Some.ensures (c.in_ok-flow.ensures nothing) in
    h.less (omega (arith, c.loop-work.invariant.0, c.if-outside-left.false))

pub loop-work-preserved : goal.loop-work-preserved
loop-work-preserved c =
    let h : IsLess (weights (tasks_in c.loop-work.stacks.tasks)) (rig_of (flow_of c.in_ok-flow.flow) c.turn.new.stacks) (state_of c.loop-work.outside nothing) (state_of c.turn.new.outside nothing) =
    turn_lighter (plain_program c.args.p.now) c.loop-work.flow c.in_ok-flow.flow (task_of c.in-Some.work) (tasks_in c.pop.new.self) c.loop-work.stacks c.turn.new.stacks (state_of c.loop-work.outside nothing) (state_of c.turn.new.outside nothing) c.in-Some.ensures (c.in_ok-flow.ensures nothing) in
    let few : c.turn.new.outside.left ≤ c.loop-work.outside.left = h.few in
    let same : c.loop-work.outside.left ≡ c.args.outside.now.left = c.loop-work.invariant.0 in
    let less = h.less (omega (arith, same, c.if-outside-left.false)) in (
      omega (arith, few, same, c.if-outside-left.false),
      (
        omega (arith, less, c.loop-work.invariant.1.0),
        λ io n l.
            turned (plain_program c.args.p.now) n c.loop-work.flow c.in_ok-flow.flow (task_of c.in-Some.work) (tasks_in c.pop.new.self) c.loop-work.stacks c.turn.new.stacks (state_of c.loop-work.outside io) (state_of c.turn.new.outside io)
            (proceed (plain_program c.args.p.now) n (rig_of (flow_of c.args.flow) c.args.stacks.now) (state_of c.args.outside.now io)) c.in-Some.ensures (omega (arith, l, same)) (c.loop-work.invariant.1.1 io n l) (c.in_ok-flow.ensures io),
      ),
    )
