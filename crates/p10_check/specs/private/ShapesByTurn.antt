-- The conditions that need no loops but the task loop's, of which the claimed steps of a turn are given.
use Rattle.std.specs.Prelude.{◌≡◌, ℕ, nat_eq, not, if◌then◌else◌, List, ◌++◌, Option, Some, None, slice_get}
use Rattle.p10_base.specs.declared.span.Span.{Span}
use Rattle.p10_core.specs.declared.statements.LoopHead.{LoopHead}
use Rattle.p10_core.specs.Typed.{PlainFunction, PlainProgram}
use Rattle.p10_cert.specs.Claims.{Loop, Claims}
use Rattle.p10_flowrules.specs.declared.calls.AnyCall.{AnyCall}
use Rattle.p10_flowrules.specs.Allocating.{AreLateAllocations}
use Rattle.p10_pass.specs.Passing.{Failing}
use Rattle.p10_sums.specs.Counting.{turns_claimed}
use Rattle.p10_check.specs.Places.{place_if, name_at}
use Rattle.p10_check.specs.Shapes.{rising_calls, wrong_main, hidden_effects, task_head, bounds_main}
use Rattle.p10_check.specs.Conditions.{failing_at_each}

-- ## The steps of a turn

-- the steps that claims on the loops of `main` give a turn of the task loop; 0 without one
abbrev pub turn_at : List Loop → Option LoopHead → ℕ
turn_at loops None = 0
turn_at loops (Some head) = turns_claimed (slice_get loops head.number)

abbrev pub turn_by_loops : PlainProgram → List Loop → Option PlainFunction → ℕ
turn_by_loops p loops None = 0
turn_by_loops p loops (Some f) = turn_at loops (task_head p p.main f)

-- the same by what the functions before one give, of which the claim on loops is known
abbrev pub turn_or : PlainProgram → ℕ → ℕ → List Loop → ℕ
turn_or p turn number loops = if nat_eq number p.main then turn_by_loops p loops (slice_get p.functions p.main) else turn

-- ## The conditions

-- K14 where this many steps are claimed of a turn
abbrev pub low_total_by : PlainProgram → Claims → ℕ → List Span
low_total_by p c turn = place_if (not (bounds_main c.total (slice_get c.funcs p.main) turn)) (name_at p p.main)

-- the failing K2, K4, K13 and K14
abbrev pub shape_failures_by : PlainProgram → Claims → ℕ → List AnyCall → List Failing
shape_failures_by p c turn late =
    failing_at_each 2 (rising_calls p c.funcs)
    ++ (failing_at_each 4 (wrong_main p c.funcs)
    ++ (failing_at_each 13 (hidden_effects p c.funcs late)
    ++ failing_at_each 14 (low_total_by p c turn)))

-- what are these
pub record AreShapeFailuresBy (p : PlainProgram) (c : Claims) (turn : ℕ) (fails : List Failing) : Type 0 where
  pub late : List AnyCall
  pub late_are : AreLateAllocations p late
  pub are : fails ≡ shape_failures_by p c turn late
