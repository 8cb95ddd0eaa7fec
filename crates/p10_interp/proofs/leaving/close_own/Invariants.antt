-- Some objects are closed, and the others are left to be.
use Rattle.std.proofs.Common.{◌≡◌, List, ◌∷◌, vec_len}
use Rattle.p10_interp.specs.private.Tasks.{Open}
use Rattle.p10_interp.specs.private.OpenCalls.{calls_in}
use Rattle.p10_interp.proofs.ClosedBlocks.{IsClosing}
use Rattle.p10_interp.proofs.leaving.close_own.Given as goal

abbrev pub invariant-loop-object : goal.invariant-loop-object
invariant-loop-object l = (f : Open) (around : List Open) → calls_in l.initial.calls ≡ f ∷ around → IsClosing f around (calls_in l.calls) l.initial.store l.store

abbrev pub decreases-loop-object : goal.decreases-loop-object
decreases-loop-object l = vec_len l.calls.marks
