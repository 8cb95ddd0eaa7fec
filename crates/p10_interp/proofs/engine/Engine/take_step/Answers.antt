-- What is left comes after what was done.
use Rattle.p10_core.specs.Views.{plain_program}
use Rattle.p10_interp.proofs.Served.{comes_on, falls_left, serves_comes, serves_then}
use Rattle.p10_interp.specs.declared.work.Pause.TheVariants.{Held, Over}
use Rattle.p10_interp.specs.private.Arriving.{paused_at}
use Rattle.p10_interp.specs.private.Machines.{rig_of}
use Rattle.p10_interp.specs.private.Resuming.{proceed}
use Rattle.p10_interp.specs.private.Serving.{Serves, moment_of}
use Rattle.p10_interp.specs.private.Views.{flow_of, tasks_in}
use Rattle.p10_interp.specs.private.Weights.{weights}
use Rattle.std.proofs.Common.{Err, arith, subst}
use Rattle.p10_interp.proofs.engine.Engine.take_step.Goals as goal

pub returns-in-Over-clause-comes : goal.returns-in-Over-clause-comes
returns-in-Over-clause-comes g c = λ n few.
    serves_then (proceed (plain_program c.args.p.now) n (rig_of (flow_of c.args.flow) c.args.self.now.stacks)) (proceed (plain_program c.args.p.now) n (rig_of (flow_of c.acts.flow) c.acts.self.stacks)) (paused_at (plain_program c.args.p.now) n c.act_and_serve.new.self.stacks (Over c.in-Over.last)) (moment_of c.args.self.now (g.I.Source.left c.args.input.now) (g.O.Sink.taken c.args.out.now)) (moment_of c.acts.self (g.I.Source.left c.acts.input) (g.O.Sink.taken c.acts.out)) (moment_of c.act_and_serve.new.self (g.I.Source.left c.act_and_serve.new.input) (g.O.Sink.taken c.act_and_serve.new.out)) (c.acts.invariant.3 n few)
    (subst (λ pause. Serves (proceed (plain_program c.args.p.now) n (rig_of (flow_of c.acts.flow) c.acts.self.stacks)) (moment_of c.acts.self (g.I.Source.left c.acts.input) (g.O.Sink.taken c.acts.out)) (paused_at (plain_program c.args.p.now) n c.act_and_serve.new.self.stacks pause) (moment_of c.act_and_serve.new.self (g.I.Source.left c.act_and_serve.new.input) (g.O.Sink.taken c.act_and_serve.new.out))) c.in-Over.is (c.in-Ok.ensures.comes n (omega (arith, few, c.acts.invariant.0))))

pub returns-then-self-left-clause-comes : goal.returns-then-self-left-clause-comes
returns-then-self-left-clause-comes g c = λ n few.
    serves_then (proceed (plain_program c.args.p.now) n (rig_of (flow_of c.args.flow) c.args.self.now.stacks)) (proceed (plain_program c.args.p.now) n (rig_of (flow_of c.acts.flow) c.acts.self.stacks)) (paused_at (plain_program c.args.p.now) n c.act_and_serve.new.self.stacks (Held c.in-Held.next)) (moment_of c.args.self.now (g.I.Source.left c.args.input.now) (g.O.Sink.taken c.args.out.now)) (moment_of c.acts.self (g.I.Source.left c.acts.input) (g.O.Sink.taken c.acts.out)) (moment_of c.act_and_serve.new.self (g.I.Source.left c.act_and_serve.new.input) (g.O.Sink.taken c.act_and_serve.new.out)) (c.acts.invariant.3 n few)
    (subst (λ pause. Serves (proceed (plain_program c.args.p.now) n (rig_of (flow_of c.acts.flow) c.acts.self.stacks)) (moment_of c.acts.self (g.I.Source.left c.acts.input) (g.O.Sink.taken c.acts.out)) (paused_at (plain_program c.args.p.now) n c.act_and_serve.new.self.stacks pause) (moment_of c.act_and_serve.new.self (g.I.Source.left c.act_and_serve.new.input) (g.O.Sink.taken c.act_and_serve.new.out))) c.in-Held.is (c.in-Ok.ensures.comes n (omega (arith, few, c.acts.invariant.0))))

pub acts-preserved : goal.acts-preserved
acts-preserved g c = (
  let f = falls_left c.in-Ok.pause c.acts.self.outside.left (weights (tasks_in c.acts.self.stacks.tasks)) c.act_and_serve.new.self.outside.left (weights (tasks_in c.act_and_serve.new.self.stacks.tasks)) c.in-Ok.ensures.falls in omega (arith, f, c.acts.invariant.0, c.if-self-left.false),
  omega (arith, c.acts.invariant.1, c.in-Ok.ensures.source),
  omega (arith, c.acts.invariant.2, c.in-Ok.ensures.sink),
  λ n few.
      serves_then (proceed (plain_program c.args.p.now) n (rig_of (flow_of c.args.flow) c.args.self.now.stacks)) (proceed (plain_program c.args.p.now) n (rig_of (flow_of c.acts.flow) c.acts.self.stacks)) (paused_at (plain_program c.args.p.now) n c.act_and_serve.new.self.stacks (Held c.in-Held.next)) (moment_of c.args.self.now (g.I.Source.left c.args.input.now) (g.O.Sink.taken c.args.out.now)) (moment_of c.acts.self (g.I.Source.left c.acts.input) (g.O.Sink.taken c.acts.out)) (moment_of c.act_and_serve.new.self (g.I.Source.left c.act_and_serve.new.input) (g.O.Sink.taken c.act_and_serve.new.out)) (c.acts.invariant.3 n few)
      (subst (λ pause. Serves (proceed (plain_program c.args.p.now) n (rig_of (flow_of c.acts.flow) c.acts.self.stacks)) (moment_of c.acts.self (g.I.Source.left c.acts.input) (g.O.Sink.taken c.acts.out)) (paused_at (plain_program c.args.p.now) n c.act_and_serve.new.self.stacks pause) (moment_of c.act_and_serve.new.self (g.I.Source.left c.act_and_serve.new.input) (g.O.Sink.taken c.act_and_serve.new.out))) c.in-Held.is (c.in-Ok.ensures.comes n (omega (arith, few, c.acts.invariant.0)))),
)

pub returns-in-Err-clause-comes : goal.returns-in-Err-clause-comes
returns-in-Err-clause-comes g c = λ n few.
    comes_on (proceed (plain_program c.args.p.now) n (rig_of (flow_of c.args.flow) c.args.self.now.stacks)) (moment_of c.args.self.now (g.I.Source.left c.args.input.now) (g.O.Sink.taken c.args.out.now)) (moment_of c.act_and_serve.new.self (g.I.Source.left c.act_and_serve.new.input) (g.O.Sink.taken c.act_and_serve.new.out)) c.in-Err.broken (paused_at (plain_program c.args.p.now) n c.act_and_serve.new.self.stacks) _
    (serves_comes (proceed (plain_program c.args.p.now) n (rig_of (flow_of c.args.flow) c.args.self.now.stacks)) (proceed (plain_program c.args.p.now) n (rig_of (flow_of c.acts.flow) c.acts.self.stacks)) (moment_of c.args.self.now (g.I.Source.left c.args.input.now) (g.O.Sink.taken c.args.out.now)) (moment_of c.acts.self (g.I.Source.left c.acts.input) (g.O.Sink.taken c.acts.out)) (moment_of c.act_and_serve.new.self (g.I.Source.left c.act_and_serve.new.input) (g.O.Sink.taken c.act_and_serve.new.out)) (Err c.in-Err.broken) (paused_at (plain_program c.args.p.now) n c.act_and_serve.new.self.stacks) (c.acts.invariant.3 n few) (c.in-Err.ensures.comes n (omega (arith, few, c.acts.invariant.0))))
