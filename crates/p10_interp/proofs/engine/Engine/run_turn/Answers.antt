-- Where there is no loop, the run is over.
use Rattle.p10_core.specs.Views.{plain_program, plain_statement}
use Rattle.p10_interp.proofs.Parted.{turn_none}
use Rattle.p10_interp.proofs.Served.{serves_by}
use Rattle.p10_interp.specs.Stages.{turn_stage}
use Rattle.p10_interp.specs.declared.ended.Ended.TheVariants.{Returned}
use Rattle.p10_interp.specs.private.OpenCalls.{calls_in}
use Rattle.p10_interp.specs.private.Parts.{frame_in, stage_of}
use Rattle.p10_interp.specs.private.Serving.{state_at}
use Rattle.p10_meaning.specs.Runs.{task_in}
use Rattle.std.proofs.Common.{ap, option_map, pos, ◌∙◌}
use Rattle.p10_interp.proofs.engine.Engine.run_turn.Goals as goal

pub returns-in-None-clause-comes : goal.returns-in-None-clause-comes
returns-in-None-clause-comes g c = λ n few.
    serves_by (turn_stage (plain_program c.args.p.now) n (frame_in (calls_in c.args.self.now.stacks.calls))) (stage_of (Returned (pos 0)) (frame_in (calls_in c.args.self.now.stacks.calls))) c.args.self.now.outside c.args.self.now.outside c.args.self.now.ended (g.I.Source.left c.args.input.now) (g.O.Sink.taken c.args.out.now)
    (λ rest earlier. turn_none (plain_program c.args.p.now) n (frame_in (calls_in c.args.self.now.stacks.calls)) (state_at c.args.self.now.outside rest earlier) (c.task_item.ensures.task ∙ ap (λ o. task_in (option_map (λ x. plain_statement x.now) o)) c.in-None.is))
