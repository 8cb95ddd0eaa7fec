-- What stood before the turns stands after each of them.
use Rattle.std.proofs.Common.{ℕ, ◌≤◌, ◌-◌, ℤ, List, Option}
use Rattle.p10_core.specs.Typed.{PlainProgram}
use Rattle.p10_interp.specs.Machines.{resting_of}
use Rattle.p10_run.specs.private.Standing.{Stands}
use Rattle.p10_run.proofs.turns.make_turns.Given as goal

abbrev pub invariant-turns : goal.invariant-turns
invariant-turns g l =
    (g.I.Source.faults l.initial.input ≤ g.I.Source.faults l.input) ×
    (g.O.Sink.faults l.initial.out ≤ g.O.Sink.faults l.out) ×
    ((p : PlainProgram) (sensors : List ℤ) (left taken : Option (List ℕ)) →
    Stands p l.budget sensors l.initial.answer (resting_of l.initial.machine) left (g.I.Source.left l.initial.input) taken (g.O.Sink.taken l.initial.out) →
    Stands p l.budget sensors l.answer (resting_of l.machine) left (g.I.Source.left l.input) taken (g.O.Sink.taken l.out))

abbrev pub decreases-turns : goal.decreases-turns
decreases-turns g l = l.budget.turns - (resting_of l.machine).turns
