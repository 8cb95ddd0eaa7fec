-- What is left to be copied comes to what all comes to.
use Rattle.std.proofs.Common.{◌≡◌, ◌-◌}
use Rattle.p10_meaning.specs.Statements.{Frame, copy_scalars}
use Rattle.p10_interp.specs.private.Machines.{Around, state_of}
use Rattle.p10_interp.proofs.copying.copy_scalars.Given as goal

abbrev pub invariant-loop-i : goal.invariant-loop-i
invariant-loop-i l =
    (io : Around) (frame : Frame) → copy_scalars l.count 0 l.copied.to_span l.copied.to l.copied.from_span l.copied.from frame (state_of l.initial.outside io) ≡
    copy_scalars (l.count - l.i) l.i l.copied.to_span l.copied.to l.copied.from_span l.copied.from frame (state_of l.outside io)
