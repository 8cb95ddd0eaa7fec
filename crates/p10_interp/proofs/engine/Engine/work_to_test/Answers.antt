-- The body comes after the test.
use Rattle.p10_core.specs.Views.{plain_program, plain_statement}
use Rattle.p10_interp.proofs.Parted.{part_breaks, part_then, test_goes}
use Rattle.p10_interp.proofs.Served.{proceed_goes_on}
use Rattle.p10_interp.specs.declared.work.Pause.TheVariants.{Over}
use Rattle.p10_interp.specs.private.Arriving.{paused_at}
use Rattle.p10_interp.specs.private.Machines.{rig_of}
use Rattle.p10_interp.specs.private.OpenCalls.{calls_in}
use Rattle.p10_interp.specs.private.Parts.{after_test}
use Rattle.p10_interp.specs.private.Resuming.{proceed}
use Rattle.p10_interp.specs.private.Serving.{moment_of}
use Rattle.p10_interp.specs.private.Views.{flow_of}
use Rattle.p10_meaning.specs.Statements.{normal}
use Rattle.std.proofs.Common.{arith}
use Rattle.p10_interp.proofs.engine.Engine.work_to_test.Goals as goal

pub returns-in-Ok-clause-comes : goal.returns-in-Ok-clause-comes
returns-in-Ok-clause-comes g c = λ n few.
    part_then (proceed (plain_program c.args.p.now) n (rig_of normal c.args.self.now.stacks)) (after_test (plain_program c.args.p.now) n (plain_statement c.args.body.now)) n (moment_of c.args.self.now (g.I.Source.left c.args.input.now) (g.O.Sink.taken c.args.out.now)) (moment_of c.work_off.new.self (g.I.Source.left c.work_off.new.input) (g.O.Sink.taken c.work_off.new.out)) (moment_of c.run_tested.new.self (g.I.Source.left c.run_tested.new.input) (g.O.Sink.taken c.run_tested.new.out)) (record { flow = flow_of c.in-Ok.field-0; operands = c.work_off.new.self.stacks.operands; calls = calls_in c.work_off.new.self.stacks.calls }) c.run_tested.result _ (c.in-Ok.ensures.comes n few) (c.run_tested.ensures.comes n (omega (arith, few, c.in-Ok.ensures.left)))

pub returns-in-Err-clause-comes : goal.returns-in-Err-clause-comes
returns-in-Err-clause-comes g c = λ n few.
    part_breaks (proceed (plain_program c.args.p.now) n (rig_of normal c.args.self.now.stacks)) (after_test (plain_program c.args.p.now) n (plain_statement c.args.body.now)) n (moment_of c.args.self.now (g.I.Source.left c.args.input.now) (g.O.Sink.taken c.args.out.now)) (moment_of c.work_off.new.self (g.I.Source.left c.work_off.new.input) (g.O.Sink.taken c.work_off.new.out)) c.in-Err.broken (λ flow. paused_at (plain_program c.args.p.now) n c.work_off.new.self.stacks (Over flow)) _ (proceed_goes_on (plain_program c.args.p.now) n (rig_of normal c.args.self.now.stacks)) few (test_goes (plain_program c.args.p.now) n (plain_statement c.args.body.now)) (c.in-Err.ensures.comes n few)
