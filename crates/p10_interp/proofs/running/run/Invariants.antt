-- No more steps are left than at first, and what the work comes to stays.
use Rattle.std.proofs.Common.{◌≡◌, ℕ, ◌≤◌}
use Rattle.p10_core.specs.Views.{plain_program}
use Rattle.p10_interp.specs.private.Views.{flow_of}
use Rattle.p10_interp.specs.private.Machines.{Around, state_of, rig_of}
use Rattle.p10_interp.specs.private.Resuming.{proceed}
use Rattle.p10_interp.proofs.running.run.Given as goal

abbrev pub invariant-loop-end : goal.invariant-loop-end
invariant-loop-end l =
    (l.outside.left ≤ l.initial.outside.left) ×
    ((io : Around) (n : ℕ) → l.initial.outside.left ≤ n →
    proceed (plain_program l.p) n (rig_of (flow_of l.initial.flow) l.initial.stacks) (state_of l.initial.outside io) ≡ proceed (plain_program l.p) n (rig_of (flow_of l.flow) l.stacks) (state_of l.outside io))

abbrev pub decreases-loop-end : goal.decreases-loop-end
decreases-loop-end l = l.outside.left
