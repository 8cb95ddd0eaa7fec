-- What was asked for comes first.
use Rattle.p10_interp.proofs.Served.{comes_on, serves_comes}
use Rattle.p10_interp.specs.private.Machines.{rig_of}
use Rattle.p10_interp.specs.private.Resuming.{proceed}
use Rattle.p10_interp.specs.private.Serving.{Comes, moment_of}
use Rattle.p10_interp.specs.private.Views.{flow_of}
use Rattle.std.proofs.Common.{arith, subst}
use Rattle.p10_interp.proofs.engine.Engine.ask_and_read.Goals as goal

pub returns-in-Ok-clause-comes : goal.returns-in-Ok-clause-comes
returns-in-Ok-clause-comes g c = λ p n taken few.
    subst (λ stacks. Comes (proceed p n (rig_of (flow_of c.args.flow) stacks)) (moment_of c.args.self.now (g.I.Source.left c.args.input.now) taken) c.read_end.result (λ done. proceed p n (rig_of (flow_of c.args.flow) c.read_end.new.self.stacks)) (moment_of c.read_end.new.self (g.I.Source.left c.ask.new.input) taken)) c.in-Ok.ensures.stacks
    (serves_comes (proceed p n (rig_of (flow_of c.args.flow) c.ask.new.self.stacks)) (proceed p n (rig_of (flow_of c.args.flow) c.ask.new.self.stacks)) (moment_of c.args.self.now (g.I.Source.left c.args.input.now) taken) (moment_of c.ask.new.self (g.I.Source.left c.ask.new.input) taken) (moment_of c.read_end.new.self (g.I.Source.left c.ask.new.input) taken) c.read_end.result _
    (c.in-Ok.ensures.comes p n (rig_of (flow_of c.args.flow) c.ask.new.self.stacks) taken few) (c.read_end.ensures.comes p n (g.I.Source.left c.ask.new.input) taken (omega (arith, few, c.in-Ok.ensures.left))))

pub returns-in-Err-clause-comes : goal.returns-in-Err-clause-comes
returns-in-Err-clause-comes g c = λ p n taken few.
    comes_on (proceed p n (rig_of (flow_of c.args.flow) c.args.self.now.stacks)) (moment_of c.args.self.now (g.I.Source.left c.args.input.now) taken) (moment_of c.ask.new.self (g.I.Source.left c.ask.new.input) taken) c.in-Err.broken (λ done. proceed p n (rig_of (flow_of c.args.flow) c.args.self.now.stacks)) _ (c.in-Err.ensures.comes p n (rig_of (flow_of c.args.flow) c.args.self.now.stacks) taken few)
