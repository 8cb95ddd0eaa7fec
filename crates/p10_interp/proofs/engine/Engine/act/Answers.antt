-- The outside isn't asked.
use Rattle.p10_core.specs.Views.{plain_program}
use Rattle.p10_interp.specs.private.Views.{flow_of}
use Rattle.p10_interp.specs.private.Machines.{rig_of}
use Rattle.p10_interp.specs.private.Resuming.{proceed}
use Rattle.p10_interp.specs.private.Arriving.{paused_at}
use Rattle.p10_interp.proofs.Served.{proceed_goes_on, serves_by}
use Rattle.p10_interp.proofs.Traded.{act_breaks}
use Rattle.p10_interp.proofs.engine.Engine.act.Goals as goal

pub returns-in-Ok-clause-comes : goal.returns-in-Ok-clause-comes
returns-in-Ok-clause-comes c = λ n left taken few.
    serves_by (proceed (plain_program c.args.p.now) n (rig_of (flow_of c.args.flow) c.args.self.now.stacks)) (paused_at (plain_program c.args.p.now) n c.work_on.new.stacks c.in-Ok.pause) c.args.self.now.outside c.work_on.new.outside c.args.self.now.ended left taken
    (λ rest earlier. c.in-Ok.ensures.comes (record { out = earlier; rest = rest }) n few)

pub returns-in-Err-clause-comes : goal.returns-in-Err-clause-comes
returns-in-Err-clause-comes c = λ n left taken few.
    act_breaks (plain_program c.args.p.now) n (proceed (plain_program c.args.p.now) n (rig_of (flow_of c.args.flow) c.args.self.now.stacks)) c.args.self.now.outside c.work_on.new.outside c.args.self.now.ended left taken c.work_on.new.stacks c.in-Err.halt c.broken_by.result _
    (proceed_goes_on (plain_program c.args.p.now) n (rig_of (flow_of c.args.flow) c.args.self.now.stacks)) few c.broken_by.ensures (λ rest earlier. c.in-Err.ensures.comes (record { out = earlier; rest = rest }) n few)
