-- Acts come first.
use Rattle.p10_core.specs.Views.{plain_program}
use Rattle.p10_interp.proofs.Served.{falls_left, falls_on, serves_comes}
use Rattle.p10_interp.specs.private.Arriving.{paused_at}
use Rattle.p10_interp.specs.private.Machines.{rig_of}
use Rattle.p10_interp.specs.private.Resuming.{proceed}
use Rattle.p10_interp.specs.private.Serving.{moment_of}
use Rattle.p10_interp.specs.private.Views.{flow_of, tasks_in}
use Rattle.p10_interp.specs.private.Weights.{weights}
use Rattle.std.proofs.Common.{arith}
use Rattle.p10_interp.proofs.engine.Engine.act_and_serve.Goals as goal

pub returns-in-Ok-clause-comes : goal.returns-in-Ok-clause-comes
returns-in-Ok-clause-comes g c = λ n few.
    serves_comes (proceed (plain_program c.args.p.now) n (rig_of (flow_of c.args.flow) c.args.self.now.stacks)) (paused_at (plain_program c.args.p.now) n c.act.new.self.stacks c.in-Ok.pause) (moment_of c.args.self.now (g.I.Source.left c.args.input.now) (g.O.Sink.taken c.args.out.now)) (moment_of c.act.new.self (g.I.Source.left c.args.input.now) (g.O.Sink.taken c.args.out.now)) (moment_of c.serve_at.new.self (g.I.Source.left c.serve_at.new.input) (g.O.Sink.taken c.serve_at.new.out)) c.serve_at.result (paused_at (plain_program c.args.p.now) n c.serve_at.new.self.stacks)
    (c.in-Ok.ensures.comes n (g.I.Source.left c.args.input.now) (g.O.Sink.taken c.args.out.now) few)
    (c.serve_at.ensures.comes (plain_program c.args.p.now) n (let l = falls_left c.in-Ok.pause c.args.self.now.outside.left (weights (tasks_in c.args.self.now.stacks.tasks)) c.act.new.self.outside.left (weights (tasks_in c.act.new.self.stacks.tasks)) c.in-Ok.ensures.falls in omega (arith, few, l)))

pub returns-in-Ok-clause-falls : goal.returns-in-Ok-clause-falls
returns-in-Ok-clause-falls g c =
    falls_on c.serve_at.result c.in-Ok.pause c.args.self.now.outside.left (weights (tasks_in c.args.self.now.stacks.tasks)) c.act.new.self.outside.left (weights (tasks_in c.act.new.self.stacks.tasks)) c.serve_at.new.self.outside.left (weights (tasks_in c.serve_at.new.self.stacks.tasks)) c.in-Ok.ensures.falls c.serve_at.ensures.left c.serve_at.ensures.work c.serve_at.ensures.same
