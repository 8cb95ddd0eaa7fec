-- The objects from a number on are the block's.
use Rattle.std.proofs.Common.{◌≡◌, ◌-◌, ◌+◌, ◌++◌, List, ◌∷◌, ◌≤◌}
use Rattle.p10_core.specs.WholePrograms.{numbers_from}
use Rattle.p10_interp.specs.private.Tasks.{Open}
use Rattle.p10_interp.specs.private.OpenCalls.{calls_in, owning_all}
use Rattle.p10_interp.proofs.entering.own_between.Given as goal

abbrev pub invariant-loop-object : goal.invariant-loop-object
invariant-loop-object l =
    (l.object ≤ l.end) × ((l.first ≤ l.object + (l.first - l.end)) × ((f : Open) (around : List Open) → calls_in l.initial.calls ≡ f ∷ around → calls_in l.calls ≡ owning_all f (numbers_from l.object (l.end - l.object) ++ f.frame.opened) ∷ around))

abbrev pub decreases-loop-object : goal.decreases-loop-object
decreases-loop-object l = l.object
