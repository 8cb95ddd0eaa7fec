-- One stretch a turn.
use Rattle.std.proofs.Common.{◌≡◌, ◌≤◌, ◌∙◌, inl, arith, subst, Ok, Err}
use Rattle.p10_core.specs.Views.{plain_program}
use Rattle.p10_interp.specs.declared.work.Pause.TheVariants.{Over}
use Rattle.p10_interp.specs.private.Arriving.{paused_at, Falls}
use Rattle.p10_interp.specs.private.Views.{flow_of, tasks_in}
use Rattle.p10_interp.specs.private.Weights.{weights}
use Rattle.p10_interp.specs.private.Machines.{state_of, rig_of}
use Rattle.p10_interp.specs.private.Resuming.{proceed}
use Rattle.p10_interp.proofs.Advanced.{arrived, falls_from, never_more}
use Rattle.p10_interp.proofs.running.work_on.Goals as goal

pub returns-in-Over-clause-comes : goal.returns-in-Over-clause-comes
returns-in-Over-clause-comes c = λ io n few.
    c.stretches.invariant.1 io n few ∙
    subst (λ pause. proceed (plain_program c.args.p.now) n (rig_of (flow_of c.stretches.flow) c.stretches.stacks) (state_of c.stretches.outside io) ≡ paused_at (plain_program c.args.p.now) n c.advance.new.stacks pause (state_of c.advance.new.outside io)) c.in-Over.is
    (c.in-Ok.ensures.comes io n (never_more c.args.outside.now.left (weights (tasks_in c.args.stacks.now.tasks)) c.stretches.outside.left (weights (tasks_in c.stretches.stacks.tasks)) n c.stretches.invariant.0 few))

pub returns-in-Over-clause-falls : goal.returns-in-Over-clause-falls
returns-in-Over-clause-falls c =
    falls_from (Over c.in-Over.end) c.args.outside.now.left (weights (tasks_in c.args.stacks.now.tasks)) c.stretches.outside.left (weights (tasks_in c.stretches.stacks.tasks)) c.advance.new.outside.left (weights (tasks_in c.advance.new.stacks.tasks)) c.stretches.invariant.0
    (subst (λ pause. Falls pause c.stretches.outside.left (weights (tasks_in c.stretches.stacks.tasks)) c.advance.new.outside.left (weights (tasks_in c.advance.new.stacks.tasks))) c.in-Over.is c.in-Ok.ensures.falls)

pub returns-in-Err-clause-comes : goal.returns-in-Err-clause-comes
returns-in-Err-clause-comes c = λ io n few.
    arrived (plain_program c.args.p.now) n _ (proceed (plain_program c.args.p.now) n (rig_of (flow_of c.stretches.flow) c.stretches.stacks) (state_of c.stretches.outside io)) (Err c.in-Err.halt) c.advance.new.stacks (state_of c.advance.new.outside io)
    (c.stretches.invariant.1 io n few) (c.in-Err.ensures.comes io n (never_more c.args.outside.now.left (weights (tasks_in c.args.stacks.now.tasks)) c.stretches.outside.left (weights (tasks_in c.stretches.stacks.tasks)) n c.stretches.invariant.0 few))

pub stretches-smaller : goal.stretches-smaller
stretches-smaller c = omega (arith, c.if-left-outside.false)

pub stretches-preserved : goal.stretches-preserved
stretches-preserved c = (
  inl (let few = never_more c.args.outside.now.left (weights (tasks_in c.args.stacks.now.tasks)) c.stretches.outside.left (weights (tasks_in c.stretches.stacks.tasks)) c.args.outside.now.left c.stretches.invariant.0 (omega (arith)) in omega (arith, few, c.if-left-outside.false)),
  λ io n few.
      c.stretches.invariant.1 io n few ∙
      subst (λ pause. proceed (plain_program c.args.p.now) n (rig_of (flow_of c.stretches.flow) c.stretches.stacks) (state_of c.stretches.outside io) ≡ paused_at (plain_program c.args.p.now) n c.advance.new.stacks pause (state_of c.advance.new.outside io)) c.in-Held.is
      (c.in-Ok.ensures.comes io n (never_more c.args.outside.now.left (weights (tasks_in c.args.stacks.now.tasks)) c.stretches.outside.left (weights (tasks_in c.stretches.stacks.tasks)) n c.stretches.invariant.0 few)),
)
