-- The items come after the entry.
use Rattle.p10_core.specs.Views.{plain_function, plain_program}
use Rattle.p10_interp.proofs.Parted.{entered_goes}
use Rattle.p10_interp.proofs.Served.{comes_memory, serves_at, serves_comes}
use Rattle.p10_interp.specs.private.Machines.{rig_of}
use Rattle.p10_interp.specs.private.OpenCalls.{calls_in}
use Rattle.p10_interp.specs.private.Parts.{after_items, entered_stage, frame_in, stage_of}
use Rattle.p10_interp.specs.private.Resuming.{proceed}
use Rattle.p10_interp.specs.private.Serving.{moment_of}
use Rattle.p10_meaning.specs.Statements.{normal}
use Rattle.p10_meaning.specs.States.{and_then}
use Rattle.std.proofs.Common.{arith}
use Rattle.p10_interp.proofs.engine.Engine.run_entered.Goals as goal

pub returns-in-Ok-clause-comes : goal.returns-in-Ok-clause-comes
returns-in-Ok-clause-comes g c = λ n few.
    serves_comes (entered_stage (plain_program c.args.p.now) n (plain_function c.args.main.0.now) c.args.main.1) (λ w. and_then (proceed (plain_program c.args.p.now) n (rig_of normal c.enter_main.new.self.stacks) w) after_items) (moment_of c.args.self.now (g.I.Source.left c.args.input.now) (g.O.Sink.taken c.args.out.now)) (moment_of c.enter_main.new.self (g.I.Source.left c.args.input.now) (g.O.Sink.taken c.args.out.now)) (moment_of c.work_to_loop.new.self (g.I.Source.left c.work_to_loop.new.input) (g.O.Sink.taken c.work_to_loop.new.out)) c.work_to_loop.result (λ ended. stage_of ended (frame_in (calls_in c.work_to_loop.new.self.stacks.calls)))
    (serves_at (entered_stage (plain_program c.args.p.now) n (plain_function c.args.main.0.now) c.args.main.1) (λ w. and_then (proceed (plain_program c.args.p.now) n (rig_of normal c.enter_main.new.self.stacks) w) after_items) c.args.self.now.outside c.enter_main.new.self.outside c.args.self.now.ended c.enter_main.new.self.ended (g.I.Source.left c.args.input.now) (g.O.Sink.taken c.args.out.now) c.in-Ok.ensures.ended (c.in-Ok.ensures.ok (plain_program c.args.p.now) n))
    (c.work_to_loop.ensures.comes n (omega (arith, few, c.in-Ok.ensures.left)))

pub returns-in-Err-clause-comes : goal.returns-in-Err-clause-comes
returns-in-Err-clause-comes g c = λ n few.
    comes_memory (entered_stage (plain_program c.args.p.now) n (plain_function c.args.main.0.now) c.args.main.1) n c.args.self.now.outside _ c.args.self.now.ended _ (g.I.Source.left c.args.input.now) (g.O.Sink.taken c.args.out.now) c.in-Err.broken _ (entered_goes (plain_program c.args.p.now) n (plain_function c.args.main.0.now) c.args.main.1) few c.in-Err.ensures.err
