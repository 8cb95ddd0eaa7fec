-- What is left to be copied comes to what all comes to.
use Rattle.std.proofs.Common.{◌≡◌, ◌-◌}
use Rattle.p10_meaning.specs.Statements.{Frame, copy_scalars}
use Rattle.p10_machine.specs.Views.{Around, state_of}
use Rattle.p10_machine.proofs.objects.copy_scalars.Given as goal

abbrev pub invariant-loop-i : goal.invariant-loop-i
invariant-loop-i l =
    (io : Around) (frame : Frame) → copy_scalars l.count 0 l.spans.0 l.pointers.0 l.spans.1 l.pointers.1 frame (state_of l.steps l.initial.outside io) ≡
    copy_scalars (l.count - l.i) l.i l.spans.0 l.pointers.0 l.spans.1 l.pointers.1 frame (state_of l.left l.outside io)
