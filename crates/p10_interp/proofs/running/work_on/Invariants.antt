-- A step was taken, or no more is to be done than at first, and what the work comes to stays.
use Rattle.std.proofs.Common.{◌≡◌, ℕ, ◌≤◌, ◌<◌, ◌⊎◌}
use Rattle.p10_core.specs.Views.{plain_program}
use Rattle.p10_interp.specs.private.Views.{flow_of, tasks_in}
use Rattle.p10_interp.specs.private.Weights.{weights}
use Rattle.p10_interp.specs.private.Machines.{Around, state_of, rig_of}
use Rattle.p10_interp.specs.private.Resuming.{proceed}
use Rattle.p10_interp.proofs.running.work_on.Given as goal

abbrev pub invariant-stretches : goal.invariant-stretches
invariant-stretches l =
    ((l.outside.left < l.initial.outside.left) ⊎ ((l.outside.left ≡ l.initial.outside.left) × (weights (tasks_in l.stacks.tasks) ≤ weights (tasks_in l.initial.stacks.tasks)))) ×
    ((io : Around) (n : ℕ) → l.initial.outside.left ≤ n →
    proceed (plain_program l.p) n (rig_of (flow_of l.initial.flow) l.initial.stacks) (state_of l.initial.outside io) ≡ proceed (plain_program l.p) n (rig_of (flow_of l.flow) l.stacks) (state_of l.outside io))

abbrev pub decreases-stretches : goal.decreases-stretches
decreases-stretches l = l.outside.left
