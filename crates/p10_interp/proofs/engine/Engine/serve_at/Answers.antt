-- Only a pause that goes on needs the outside.
use Rattle.p10_interp.proofs.Served.{comes_as, comes_on}
use Rattle.p10_interp.specs.declared.work.Pause.TheVariants.{Held}
use Rattle.p10_interp.specs.private.Arriving.{paused_at}
use Rattle.p10_interp.specs.private.Machines.{rig_of}
use Rattle.p10_interp.specs.private.Resuming.{proceed}
use Rattle.p10_interp.specs.private.Serving.{Serves, moment_of}
use Rattle.p10_interp.specs.private.Views.{flow_of}
use Rattle.std.proofs.Common.{Err, ap, subst, sym}
use Rattle.p10_interp.proofs.engine.Engine.serve_at.Goals as goal

pub returns-in-Ok-clause-comes : goal.returns-in-Ok-clause-comes
returns-in-Ok-clause-comes g c = λ p n few.
    subst (λ pause. Serves (paused_at p n c.args.self.now.stacks pause) (moment_of c.args.self.now (g.I.Source.left c.args.input.now) (g.O.Sink.taken c.args.out.now)) (paused_at p n c.serve.new.self.stacks (Held c.in-Held.next)) (moment_of c.serve.new.self (g.I.Source.left c.serve.new.input) (g.O.Sink.taken c.serve.new.out))) (sym c.in-Held.is) (c.in-Ok.ensures.comes p n few)

pub returns-in-Err-clause-comes : goal.returns-in-Err-clause-comes
returns-in-Err-clause-comes g c = λ p n few.
    comes_as (paused_at p n c.args.self.now.stacks c.args.pause) (proceed p n (rig_of (flow_of c.in-Held.next) c.args.self.now.stacks)) (λ w. ap (λ pause. paused_at p n c.args.self.now.stacks pause w) c.in-Held.is) (moment_of c.args.self.now (g.I.Source.left c.args.input.now) (g.O.Sink.taken c.args.out.now)) _ (Err c.in-Err.broken) _
    (comes_on (proceed p n (rig_of (flow_of c.in-Held.next) c.args.self.now.stacks)) (moment_of c.args.self.now (g.I.Source.left c.args.input.now) (g.O.Sink.taken c.args.out.now)) (moment_of c.serve.new.self (g.I.Source.left c.serve.new.input) (g.O.Sink.taken c.serve.new.out)) c.in-Err.broken (λ done. proceed p n (rig_of (flow_of c.in-Held.next) c.serve.new.self.stacks)) _ (c.in-Err.ensures.comes p n few))
