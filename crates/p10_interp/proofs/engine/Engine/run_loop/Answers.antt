-- The turn is one in the call of `main`.
use Rattle.p10_core.specs.Views.{plain_function, plain_program, plain_statement}
use Rattle.p10_interp.proofs.Parted.{turn_is, turn_stage_goes}
use Rattle.p10_interp.proofs.Served.{comes_as, comes_memory, loses_still}
use Rattle.p10_interp.specs.Stages.{turn_stage}
use Rattle.p10_interp.specs.private.OpenCalls.{calls_in}
use Rattle.p10_interp.specs.private.Parts.{frame_in, part_of_turn, stage_of}
use Rattle.p10_interp.specs.private.Serving.{moment_of}
use Rattle.p10_meaning.specs.Runs.{task_in}
use Rattle.std.proofs.Common.{Some, ap, option_map, sym, ◌∙◌}
use Rattle.p10_interp.proofs.engine.Engine.run_loop.Goals as goal

pub returns-in-Ok-clause-comes : goal.returns-in-Ok-clause-comes
returns-in-Ok-clause-comes g c = λ n few.
    comes_as (turn_stage (plain_program c.args.p.now) n (frame_in (calls_in c.args.self.now.stacks.calls))) (part_of_turn (plain_program c.args.p.now) n (task_in (Some (plain_statement c.args.item.now))) (calls_in c.stand_in.new.calls))
    (λ w. turn_is (plain_program c.args.p.now) n (plain_function c.in-Some.function.now) (task_in (Some (plain_statement c.args.item.now))) (calls_in c.args.self.now.stacks.calls) (calls_in c.stand_in.new.calls) w (sym c.main_of.ensures ∙ ap (λ o. option_map (λ f. plain_function f.now) o) c.in-Some.is) c.requires.task c.in-Ok.ensures.ok c.requires.there)
    (moment_of c.args.self.now (g.I.Source.left c.args.input.now) (g.O.Sink.taken c.args.out.now)) (moment_of c.run_in.new.self (g.I.Source.left c.run_in.new.input) (g.O.Sink.taken c.run_in.new.out)) c.run_in.result (λ ended. stage_of ended (frame_in (calls_in c.run_in.new.self.stacks.calls))) (c.run_in.ensures.comes n few)

pub returns-in-Err-clause-comes : goal.returns-in-Err-clause-comes
returns-in-Err-clause-comes g c = λ n few.
    comes_memory (turn_stage (plain_program c.args.p.now) n (frame_in (calls_in c.args.self.now.stacks.calls))) n c.args.self.now.outside _ c.args.self.now.ended _ (g.I.Source.left c.args.input.now) (g.O.Sink.taken c.args.out.now) c.in-Err.broken _ (turn_stage_goes (plain_program c.args.p.now) n (frame_in (calls_in c.args.self.now.stacks.calls))) few c.in-Err.ensures.err

pub returns-in-None-clause-comes : goal.returns-in-None-clause-comes
returns-in-None-clause-comes g c = λ n few. loses_still (turn_stage (plain_program c.args.p.now) n (frame_in (calls_in c.args.self.now.stacks.calls))) n (moment_of c.args.self.now (g.I.Source.left c.args.input.now) (g.O.Sink.taken c.args.out.now)) (turn_stage_goes (plain_program c.args.p.now) n (frame_in (calls_in c.args.self.now.stacks.calls))) few
