-- The body is the only work.
use Rattle.p10_core.specs.Views.{plain_program, plain_statement}
use Rattle.p10_interp.proofs.Parted.{goes_then, rig_as, turn_goes}
use Rattle.p10_interp.proofs.Served.{comes_as, comes_memory, proceed_goes_on}
use Rattle.p10_interp.specs.private.Machines.{rig_of}
use Rattle.p10_interp.specs.private.OpenCalls.{calls_in}
use Rattle.p10_interp.specs.private.Parts.{after_turn, frame_in, stage_of}
use Rattle.p10_interp.specs.private.Resuming.{proceed}
use Rattle.p10_interp.specs.private.Serving.{moment_of}
use Rattle.p10_interp.specs.private.Tasks.{execute_statement}
use Rattle.p10_interp.specs.private.Views.{tasks_in}
use Rattle.p10_meaning.specs.Statements.{normal}
use Rattle.p10_meaning.specs.States.{and_then}
use Rattle.std.proofs.Common.{[], ap, ◌∷◌}
use Rattle.p10_interp.proofs.engine.Engine.run_body.Goals as goal

pub returns-in-Ok-clause-comes : goal.returns-in-Ok-clause-comes
returns-in-Ok-clause-comes g c = λ n few.
    comes_as (λ w. and_then (proceed (plain_program c.args.p.now) n (record { flow = normal; tasks = execute_statement (plain_statement c.args.body.now) ∷ []; operands = c.args.self.now.stacks.operands; calls = calls_in c.args.self.now.stacks.calls }) w) after_turn) (λ w. and_then (proceed (plain_program c.args.p.now) n (rig_of normal c.put_on.new.stacks) w) after_turn)
    (λ w. ap (λ r. and_then (proceed (plain_program c.args.p.now) n r w) after_turn) (rig_as (rig_of normal c.put_on.new.stacks) (execute_statement (plain_statement c.args.body.now)) (tasks_in c.args.self.now.stacks.tasks) c.args.self.now.stacks.operands (calls_in c.args.self.now.stacks.calls) c.requires.tasks c.in-Ok.ensures.ok))
    (moment_of c.args.self.now (g.I.Source.left c.args.input.now) (g.O.Sink.taken c.args.out.now)) (moment_of c.work_to_end.new.self (g.I.Source.left c.work_to_end.new.input) (g.O.Sink.taken c.work_to_end.new.out)) c.work_to_end.result (λ ended. stage_of ended (frame_in (calls_in c.work_to_end.new.self.stacks.calls))) (c.work_to_end.ensures.comes n few)

pub returns-in-Err-clause-comes : goal.returns-in-Err-clause-comes
returns-in-Err-clause-comes g c = λ n few.
    comes_memory (λ w. and_then (proceed (plain_program c.args.p.now) n (record { flow = normal; tasks = execute_statement (plain_statement c.args.body.now) ∷ []; operands = c.args.self.now.stacks.operands; calls = calls_in c.args.self.now.stacks.calls }) w) after_turn) n c.args.self.now.outside _ c.args.self.now.ended _ (g.I.Source.left c.args.input.now) (g.O.Sink.taken c.args.out.now) c.in-Err.broken _ (goes_then n (proceed (plain_program c.args.p.now) n (record { flow = normal; tasks = execute_statement (plain_statement c.args.body.now) ∷ []; operands = c.args.self.now.stacks.operands; calls = calls_in c.args.self.now.stacks.calls })) after_turn (proceed_goes_on (plain_program c.args.p.now) n (record { flow = normal; tasks = execute_statement (plain_statement c.args.body.now) ∷ []; operands = c.args.self.now.stacks.operands; calls = calls_in c.args.self.now.stacks.calls })) (turn_goes n)) few c.in-Err.ensures.err
