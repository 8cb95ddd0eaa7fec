-- The step of entry is taken.
use Rattle.p10_core.specs.Views.{plain_function, plain_program}
use Rattle.p10_interp.proofs.Begun.{step_paid}
use Rattle.p10_interp.proofs.Served.{serves_by, serves_comes}
use Rattle.p10_interp.specs.private.Parts.{entered_stage}
use Rattle.p10_interp.specs.private.Serving.{moment_of, state_at}
use Rattle.p10_meaning.specs.States.{step}
use Rattle.std.proofs.Common.{arith, ◌-◌}
use Rattle.p10_interp.proofs.engine.Engine.run_before.Goals as goal

pub returns-else-self-eq0-clause-comes : goal.returns-else-self-eq0-clause-comes
returns-else-self-eq0-clause-comes g c = λ n few.
    serves_comes (λ w. step w (entered_stage (plain_program c.args.p.now) n (plain_function c.args.main.0.now) c.args.main.1)) (entered_stage (plain_program c.args.p.now) n (plain_function c.args.main.0.now) c.args.main.1) (moment_of c.args.self.now (g.I.Source.left c.args.input.now) (g.O.Sink.taken c.args.out.now)) (moment_of (record c.args.self.now { outside = (record c.args.self.now.outside { left = c.args.self.now.outside.left - 1 }) }) (g.I.Source.left c.args.input.now) (g.O.Sink.taken c.args.out.now)) _ c.run_entered.result _
    (serves_by (λ w. step w (entered_stage (plain_program c.args.p.now) n (plain_function c.args.main.0.now) c.args.main.1)) (entered_stage (plain_program c.args.p.now) n (plain_function c.args.main.0.now) c.args.main.1) c.args.self.now.outside (record c.args.self.now.outside { left = c.args.self.now.outside.left - 1 }) c.args.self.now.ended (g.I.Source.left c.args.input.now) (g.O.Sink.taken c.args.out.now) (λ rest earlier. step_paid (state_at c.args.self.now.outside rest earlier) (entered_stage (plain_program c.args.p.now) n (plain_function c.args.main.0.now) c.args.main.1) c.if-self-eq0.false))
    (c.run_entered.ensures.comes n (omega (arith, few)))
