-- What is left comes after what was done.
use Rattle.p10_core.specs.Views.{plain_program}
use Rattle.p10_interp.proofs.Served.{below_left, comes_on, serves_comes, serves_then}
use Rattle.p10_interp.specs.declared.work.Pause.TheVariants.{Held, Over}
use Rattle.p10_interp.specs.private.Arriving.{paused_at}
use Rattle.p10_interp.specs.private.Machines.{rig_of}
use Rattle.p10_interp.specs.private.Resuming.{proceed}
use Rattle.p10_interp.specs.private.Serving.{Serves, moment_of}
use Rattle.p10_interp.specs.private.Views.{flow_of}
use Rattle.p10_meaning.specs.Statements.{normal}
use Rattle.std.proofs.Common.{Err, arith, subst}
use Rattle.p10_interp.proofs.engine.Engine.work_off.Goals as goal

pub returns-in-Over-clause-comes : goal.returns-in-Over-clause-comes
returns-in-Over-clause-comes g c = λ n few.
    serves_then (proceed (plain_program c.args.p.now) n (rig_of normal c.args.self.now.stacks)) (proceed (plain_program c.args.p.now) n (rig_of (flow_of c.steps.flow) c.steps.self.stacks)) (paused_at (plain_program c.args.p.now) n c.take_step.new.self.stacks (Over c.in-Over.last)) (moment_of c.args.self.now (g.I.Source.left c.args.input.now) (g.O.Sink.taken c.args.out.now)) (moment_of c.steps.self (g.I.Source.left c.steps.input) (g.O.Sink.taken c.steps.out)) (moment_of c.take_step.new.self (g.I.Source.left c.take_step.new.input) (g.O.Sink.taken c.take_step.new.out)) (c.steps.invariant.3 n few)
    (subst (λ pause. Serves (proceed (plain_program c.args.p.now) n (rig_of (flow_of c.steps.flow) c.steps.self.stacks)) (moment_of c.steps.self (g.I.Source.left c.steps.input) (g.O.Sink.taken c.steps.out)) (paused_at (plain_program c.args.p.now) n c.take_step.new.self.stacks pause) (moment_of c.take_step.new.self (g.I.Source.left c.take_step.new.input) (g.O.Sink.taken c.take_step.new.out))) c.in-Over.is (c.in-Ok.ensures.comes n (omega (arith, few, c.steps.invariant.0))))

pub steps-preserved : goal.steps-preserved
steps-preserved g c = (
  let f = below_left c.in-Ok.pause c.steps.self.outside.left c.take_step.new.self.outside.left c.in-Ok.ensures.falls in omega (arith, f, c.steps.invariant.0),
  omega (arith, c.steps.invariant.1, c.in-Ok.ensures.source),
  omega (arith, c.steps.invariant.2, c.in-Ok.ensures.sink),
  λ n few.
      serves_then (proceed (plain_program c.args.p.now) n (rig_of normal c.args.self.now.stacks)) (proceed (plain_program c.args.p.now) n (rig_of (flow_of c.steps.flow) c.steps.self.stacks)) (paused_at (plain_program c.args.p.now) n c.take_step.new.self.stacks (Held c.in-Held.next)) (moment_of c.args.self.now (g.I.Source.left c.args.input.now) (g.O.Sink.taken c.args.out.now)) (moment_of c.steps.self (g.I.Source.left c.steps.input) (g.O.Sink.taken c.steps.out)) (moment_of c.take_step.new.self (g.I.Source.left c.take_step.new.input) (g.O.Sink.taken c.take_step.new.out)) (c.steps.invariant.3 n few)
      (subst (λ pause. Serves (proceed (plain_program c.args.p.now) n (rig_of (flow_of c.steps.flow) c.steps.self.stacks)) (moment_of c.steps.self (g.I.Source.left c.steps.input) (g.O.Sink.taken c.steps.out)) (paused_at (plain_program c.args.p.now) n c.take_step.new.self.stacks pause) (moment_of c.take_step.new.self (g.I.Source.left c.take_step.new.input) (g.O.Sink.taken c.take_step.new.out))) c.in-Held.is (c.in-Ok.ensures.comes n (omega (arith, few, c.steps.invariant.0)))),
)

pub returns-in-Err-clause-comes : goal.returns-in-Err-clause-comes
returns-in-Err-clause-comes g c = λ n few.
    comes_on (proceed (plain_program c.args.p.now) n (rig_of normal c.args.self.now.stacks)) (moment_of c.args.self.now (g.I.Source.left c.args.input.now) (g.O.Sink.taken c.args.out.now)) (moment_of c.take_step.new.self (g.I.Source.left c.take_step.new.input) (g.O.Sink.taken c.take_step.new.out)) c.in-Err.broken (paused_at (plain_program c.args.p.now) n c.take_step.new.self.stacks) _
    (serves_comes (proceed (plain_program c.args.p.now) n (rig_of normal c.args.self.now.stacks)) (proceed (plain_program c.args.p.now) n (rig_of (flow_of c.steps.flow) c.steps.self.stacks)) (moment_of c.args.self.now (g.I.Source.left c.args.input.now) (g.O.Sink.taken c.args.out.now)) (moment_of c.steps.self (g.I.Source.left c.steps.input) (g.O.Sink.taken c.steps.out)) (moment_of c.take_step.new.self (g.I.Source.left c.take_step.new.input) (g.O.Sink.taken c.take_step.new.out)) (Err c.in-Err.broken) (paused_at (plain_program c.args.p.now) n c.take_step.new.self.stacks) (c.steps.invariant.3 n few) (c.in-Err.ensures.comes n (omega (arith, few, c.steps.invariant.0))))
