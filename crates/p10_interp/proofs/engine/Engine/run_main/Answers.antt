-- All of `main` is one piece of work.
use Rattle.p10_core.specs.Views.{plain_program}
use Rattle.p10_interp.proofs.Parted.{main_rig, whole_goes}
use Rattle.p10_interp.proofs.Served.{comes_as, comes_memory}
use Rattle.p10_interp.specs.Stages.{over_with}
use Rattle.p10_interp.specs.private.Machines.{rig_of}
use Rattle.p10_interp.specs.private.OpenCalls.{calls_in}
use Rattle.p10_interp.specs.private.Parts.{after_main, frame_in, stage_of}
use Rattle.p10_interp.specs.private.Resuming.{proceed}
use Rattle.p10_interp.specs.private.Serving.{moment_of}
use Rattle.p10_interp.specs.private.Views.{tasks_in}
use Rattle.p10_meaning.specs.Calling.{call_at, no_depth}
use Rattle.p10_meaning.specs.Statements.{normal}
use Rattle.p10_meaning.specs.States.{and_then}
use Rattle.std.proofs.Common.{[]}
use Rattle.p10_interp.proofs.engine.Engine.run_main.Goals as goal

pub returns-in-Ok-clause-comes : goal.returns-in-Ok-clause-comes
returns-in-Ok-clause-comes g c = λ n few.
    comes_as (λ w. over_with (call_at n (plain_program c.args.p.now) no_depth c.args.p.now.main [] w)) (λ w. and_then (proceed (plain_program c.args.p.now) n (rig_of normal c.put_on.new.stacks) w) after_main)
    (main_rig (plain_program c.args.p.now) n (rig_of normal c.put_on.new.stacks) (tasks_in c.args.self.now.stacks.tasks) c.args.self.now.stacks.operands (calls_in c.args.self.now.stacks.calls) c.requires.tasks c.requires.operands c.requires.calls c.in-Ok.ensures.ok)
    (moment_of c.args.self.now (g.I.Source.left c.args.input.now) (g.O.Sink.taken c.args.out.now)) (moment_of c.work_to_return.new.self (g.I.Source.left c.work_to_return.new.input) (g.O.Sink.taken c.work_to_return.new.out)) c.work_to_return.result (λ ended. stage_of ended (frame_in (calls_in c.work_to_return.new.self.stacks.calls))) (c.work_to_return.ensures.comes n few)

pub returns-in-Err-clause-comes : goal.returns-in-Err-clause-comes
returns-in-Err-clause-comes g c = λ n few.
    comes_memory (λ w. over_with (call_at n (plain_program c.args.p.now) no_depth c.args.p.now.main [] w)) n c.args.self.now.outside _ c.args.self.now.ended _ (g.I.Source.left c.args.input.now) (g.O.Sink.taken c.args.out.now) c.in-Err.broken _ (whole_goes (plain_program c.args.p.now) n) few c.in-Err.ensures.err
