-- Where there is no task loop, all of `main` is run.
use Rattle.p10_core.specs.Views.{plain_program, plain_statement}
use Rattle.p10_interp.proofs.Parted.{first_whole}
use Rattle.p10_interp.proofs.Served.{comes_as}
use Rattle.p10_interp.specs.Stages.{first_stage, over_with}
use Rattle.p10_interp.specs.private.OpenCalls.{calls_in}
use Rattle.p10_interp.specs.private.Parts.{frame_in, stage_of}
use Rattle.p10_interp.specs.private.Serving.{moment_of}
use Rattle.p10_meaning.specs.Calling.{call_at, no_depth}
use Rattle.p10_meaning.specs.Runs.{task_in}
use Rattle.std.proofs.Common.{[], ap, option_map, ◌∙◌}
use Rattle.p10_interp.proofs.engine.Engine.run_first.Goals as goal

pub returns-in-None-clause-comes : goal.returns-in-None-clause-comes
returns-in-None-clause-comes g c = λ n few.
    comes_as (first_stage (plain_program c.args.p.now) n) (λ w. over_with (call_at n (plain_program c.args.p.now) no_depth c.args.p.now.main [] w)) (λ w. first_whole (plain_program c.args.p.now) n w (c.task_item.ensures.task ∙ ap (λ o. task_in (option_map (λ x. plain_statement x.now) o)) c.in-None.is))
    (moment_of c.args.self.now (g.I.Source.left c.args.input.now) (g.O.Sink.taken c.args.out.now)) (moment_of c.run_main.new.self (g.I.Source.left c.run_main.new.input) (g.O.Sink.taken c.run_main.new.out)) c.run_main.result (λ ended. stage_of ended (frame_in (calls_in c.run_main.new.self.stacks.calls))) (c.run_main.ensures.comes n few)
