-- What is left to be done comes to what all comes to.
use Rattle.std.proofs.Common.{ℕ, ◌≤◌}
use Rattle.p10_core.specs.Views.{plain_program}
use Rattle.p10_meaning.specs.Statements.{normal}
use Rattle.p10_interp.specs.private.Views.{flow_of}
use Rattle.p10_interp.specs.private.Machines.{rig_of}
use Rattle.p10_interp.specs.private.Resuming.{proceed}
use Rattle.p10_interp.specs.private.Serving.{moment_of, Serves}
use Rattle.p10_interp.proofs.engine.Engine.work_off.Given as goal

abbrev pub invariant-steps : goal.invariant-steps
invariant-steps g l =
    (l.self.outside.left ≤ l.initial.self.outside.left) ×
    (g.I.Source.faults l.initial.input ≤ g.I.Source.faults l.input) ×
    (g.O.Sink.faults l.initial.out ≤ g.O.Sink.faults l.out) ×
    ((n : ℕ) → l.initial.self.outside.left ≤ n →
    Serves (proceed (plain_program l.p) n (rig_of normal l.initial.self.stacks)) (moment_of l.initial.self (g.I.Source.left l.initial.input) (g.O.Sink.taken l.initial.out))
    (proceed (plain_program l.p) n (rig_of (flow_of l.flow) l.self.stacks)) (moment_of l.self (g.I.Source.left l.input) (g.O.Sink.taken l.out)))

abbrev pub decreases-steps : goal.decreases-steps
decreases-steps g l = l.self.outside.left
