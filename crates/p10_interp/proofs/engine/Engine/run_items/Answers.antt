-- The step of entry comes first.
use Rattle.p10_core.specs.Views.{plain_function, plain_program}
use Rattle.p10_interp.proofs.Parted.{first_goes, first_steps}
use Rattle.p10_interp.proofs.Served.{comes_as, loses_still}
use Rattle.p10_interp.specs.Stages.{first_stage}
use Rattle.p10_interp.specs.private.OpenCalls.{calls_in}
use Rattle.p10_interp.specs.private.Parts.{entered_stage, frame_in, stage_of}
use Rattle.p10_interp.specs.private.Serving.{moment_of}
use Rattle.p10_meaning.specs.States.{step}
use Rattle.std.proofs.Common.{ap, option_map, sym, ◌∙◌}
use Rattle.p10_interp.proofs.engine.Engine.run_items.Goals as goal

pub returns-in-Some-task-clause-comes : goal.returns-in-Some-task-clause-comes
returns-in-Some-task-clause-comes g c = λ n few.
    comes_as (first_stage (plain_program c.args.p.now) n) (λ w. step w (entered_stage (plain_program c.args.p.now) n (plain_function c.in-Some.function.now) c.in-Some-task.place))
    (λ w. first_steps (plain_program c.args.p.now) n (plain_function c.in-Some.function.now) c.in-Some-task.place w (sym c.main_of.ensures ∙ ap (λ o. option_map (λ f. plain_function f.now) o) c.in-Some.is) c.in-Some-task.is c.requires.task)
    (moment_of c.args.self.now (g.I.Source.left c.args.input.now) (g.O.Sink.taken c.args.out.now)) (moment_of c.run_before.new.self (g.I.Source.left c.run_before.new.input) (g.O.Sink.taken c.run_before.new.out)) c.run_before.result (λ ended. stage_of ended (frame_in (calls_in c.run_before.new.self.stacks.calls))) (c.run_before.ensures.comes n few)

pub returns-in-None-task-clause-comes : goal.returns-in-None-task-clause-comes
returns-in-None-task-clause-comes g c = λ n few. loses_still (first_stage (plain_program c.args.p.now) n) n (moment_of c.args.self.now (g.I.Source.left c.args.input.now) (g.O.Sink.taken c.args.out.now)) (first_goes (plain_program c.args.p.now) n) few

pub returns-in-None-clause-comes : goal.returns-in-None-clause-comes
returns-in-None-clause-comes g c = λ n few. loses_still (first_stage (plain_program c.args.p.now) n) n (moment_of c.args.self.now (g.I.Source.left c.args.input.now) (g.O.Sink.taken c.args.out.now)) (first_goes (plain_program c.args.p.now) n) few
