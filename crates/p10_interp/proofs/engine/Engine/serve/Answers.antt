-- The sink comes first.
use Rattle.p10_interp.proofs.Served.{comes_on, serves_comes}
use Rattle.p10_interp.specs.private.Machines.{rig_of}
use Rattle.p10_interp.specs.private.Resuming.{proceed}
use Rattle.p10_interp.specs.private.Serving.{Comes, moment_of}
use Rattle.p10_interp.specs.private.Views.{flow_of}
use Rattle.std.proofs.Common.{arith, subst}
use Rattle.p10_interp.proofs.engine.Engine.serve.Goals as goal

pub returns-in-Ok-clause-comes : goal.returns-in-Ok-clause-comes
returns-in-Ok-clause-comes g c = λ p n few.
    subst (λ stacks. Comes (proceed p n (rig_of (flow_of c.args.flow) stacks)) (moment_of c.args.self.now (g.I.Source.left c.args.input.now) (g.O.Sink.taken c.args.out.now)) c.feed.result (λ done. proceed p n (rig_of (flow_of c.args.flow) c.feed.new.self.stacks)) (moment_of c.feed.new.self (g.I.Source.left c.feed.new.input) (g.O.Sink.taken c.put_piece.new.out))) c.in-Ok.ensures.stacks
    (serves_comes (proceed p n (rig_of (flow_of c.args.flow) c.put_piece.new.self.stacks)) (proceed p n (rig_of (flow_of c.args.flow) c.put_piece.new.self.stacks)) (moment_of c.args.self.now (g.I.Source.left c.args.input.now) (g.O.Sink.taken c.args.out.now)) (moment_of c.put_piece.new.self (g.I.Source.left c.args.input.now) (g.O.Sink.taken c.put_piece.new.out)) (moment_of c.feed.new.self (g.I.Source.left c.feed.new.input) (g.O.Sink.taken c.put_piece.new.out)) c.feed.result _
    (c.in-Ok.ensures.comes p n (rig_of (flow_of c.args.flow) c.put_piece.new.self.stacks) (g.I.Source.left c.args.input.now) few) (c.feed.ensures.comes p n (g.O.Sink.taken c.put_piece.new.out) (omega (arith, few, c.in-Ok.ensures.left))))

pub returns-in-Err-clause-comes : goal.returns-in-Err-clause-comes
returns-in-Err-clause-comes g c = λ p n few.
    comes_on (proceed p n (rig_of (flow_of c.args.flow) c.args.self.now.stacks)) (moment_of c.args.self.now (g.I.Source.left c.args.input.now) (g.O.Sink.taken c.args.out.now)) (moment_of c.put_piece.new.self (g.I.Source.left c.args.input.now) (g.O.Sink.taken c.put_piece.new.out)) c.in-Err.broken (λ done. proceed p n (rig_of (flow_of c.args.flow) c.args.self.now.stacks)) _ (c.in-Err.ensures.comes p n (rig_of (flow_of c.args.flow) c.args.self.now.stacks) (g.I.Source.left c.args.input.now) few)
