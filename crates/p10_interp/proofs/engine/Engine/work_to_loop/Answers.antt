-- The step of the loop comes after the items.
use Rattle.p10_core.specs.Views.{plain_program}
use Rattle.p10_interp.proofs.Parted.{items_goes, part_breaks, part_then}
use Rattle.p10_interp.proofs.Served.{comes_at, proceed_goes_on}
use Rattle.p10_interp.specs.declared.work.Pause.TheVariants.{Over}
use Rattle.p10_interp.specs.private.Arriving.{paused_at}
use Rattle.p10_interp.specs.private.Machines.{rig_of}
use Rattle.p10_interp.specs.private.OpenCalls.{calls_in}
use Rattle.p10_interp.specs.private.Parts.{after_items, frame_in, stage_of}
use Rattle.p10_interp.specs.private.Resuming.{proceed}
use Rattle.p10_interp.specs.private.Serving.{moment_of}
use Rattle.p10_interp.specs.private.Views.{flow_of}
use Rattle.p10_meaning.specs.Statements.{normal}
use Rattle.std.proofs.Common.{arith}
use Rattle.p10_interp.proofs.engine.Engine.work_to_loop.Goals as goal

pub returns-in-Ok-clause-comes : goal.returns-in-Ok-clause-comes
returns-in-Ok-clause-comes g c = λ n few.
    part_then (proceed (plain_program c.args.p.now) n (rig_of normal c.args.self.now.stacks)) after_items n (moment_of c.args.self.now (g.I.Source.left c.args.input.now) (g.O.Sink.taken c.args.out.now)) (moment_of c.work_off.new.self (g.I.Source.left c.work_off.new.input) (g.O.Sink.taken c.work_off.new.out)) (moment_of c.reach_loop.new.self (g.I.Source.left c.work_off.new.input) (g.O.Sink.taken c.work_off.new.out)) (record { flow = flow_of c.in-Ok.flow; operands = c.work_off.new.self.stacks.operands; calls = calls_in c.work_off.new.self.stacks.calls }) c.reach_loop.result _ (c.in-Ok.ensures.comes n few)
    (comes_at (after_items (record { flow = flow_of c.in-Ok.flow; operands = c.work_off.new.self.stacks.operands; calls = calls_in c.work_off.new.self.stacks.calls })) c.work_off.new.self.outside.left c.work_off.new.self.outside c.reach_loop.new.self.outside c.work_off.new.self.ended c.reach_loop.new.self.ended (g.I.Source.left c.work_off.new.input) (g.O.Sink.taken c.work_off.new.out) c.reach_loop.result (λ ended. stage_of ended (frame_in (calls_in c.reach_loop.new.self.stacks.calls))) c.reach_loop.ensures.ended (items_goes c.work_off.new.self.outside.left (record { flow = flow_of c.in-Ok.flow; operands = c.work_off.new.self.stacks.operands; calls = calls_in c.work_off.new.self.stacks.calls })) (omega arith) c.reach_loop.ensures.yields)

pub returns-in-Err-clause-comes : goal.returns-in-Err-clause-comes
returns-in-Err-clause-comes g c = λ n few.
    part_breaks (proceed (plain_program c.args.p.now) n (rig_of normal c.args.self.now.stacks)) after_items n (moment_of c.args.self.now (g.I.Source.left c.args.input.now) (g.O.Sink.taken c.args.out.now)) (moment_of c.work_off.new.self (g.I.Source.left c.work_off.new.input) (g.O.Sink.taken c.work_off.new.out)) c.in-Err.broken (λ flow. paused_at (plain_program c.args.p.now) n c.work_off.new.self.stacks (Over flow)) _ (proceed_goes_on (plain_program c.args.p.now) n (rig_of normal c.args.self.now.stacks)) few (items_goes n) (c.in-Err.ensures.comes n few)
