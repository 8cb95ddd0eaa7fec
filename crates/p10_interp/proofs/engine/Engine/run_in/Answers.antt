-- The item is a loop with these parts.
use Rattle.p10_core.specs.Views.{plain_program, plain_statement}
use Rattle.p10_interp.proofs.ListedStatements.{loop_task}
use Rattle.p10_interp.proofs.Parted.{part_goes}
use Rattle.p10_interp.proofs.Served.{loses_still}
use Rattle.p10_interp.specs.private.OpenCalls.{calls_in}
use Rattle.p10_interp.specs.private.Parts.{frame_in, part_of_turn, stage_of}
use Rattle.p10_interp.specs.private.Serving.{Comes, moment_of}
use Rattle.p10_meaning.specs.Runs.{task_in}
use Rattle.std.proofs.Common.{Some, subst, sym}
use Rattle.p10_interp.proofs.engine.Engine.run_in.Goals as goal

pub returns-in-Loop-clause-comes : goal.returns-in-Loop-clause-comes
returns-in-Loop-clause-comes g c = λ n few.
    subst (λ task. Comes (part_of_turn (plain_program c.args.p.now) n task (calls_in c.args.self.now.stacks.calls)) (moment_of c.args.self.now (g.I.Source.left c.args.input.now) (g.O.Sink.taken c.args.out.now)) c.run_with.result (λ ended. stage_of ended (frame_in (calls_in c.run_with.new.self.stacks.calls))) (moment_of c.run_with.new.self (g.I.Source.left c.run_with.new.input) (g.O.Sink.taken c.run_with.new.out)))
    (sym (loop_task c.args.item.now.at c.args.item.now.form _ _ _ _ _ c.deref.result.now c.in-Loop.is c.deref.ensures)) (c.run_with.ensures.comes n few)

pub returns-in_default-clause-comes : goal.returns-in_default-clause-comes
returns-in_default-clause-comes g c = λ n few. loses_still (part_of_turn (plain_program c.args.p.now) n (task_in (Some (plain_statement c.args.item.now))) (calls_in c.args.self.now.stacks.calls)) n (moment_of c.args.self.now (g.I.Source.left c.args.input.now) (g.O.Sink.taken c.args.out.now)) (part_goes (plain_program c.args.p.now) n (task_in (Some (plain_statement c.args.item.now))) (calls_in c.args.self.now.stacks.calls)) few
