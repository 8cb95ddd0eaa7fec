-- The conditions on sums: K11 and K12.
use Rattle.std.specs.Prelude.{ℕ, nat_le, Bool, not, ◌&&◌, List, [], ◌++◌, Option, Some, None, slice_get}
use Rattle.p10_base.specs.declared.span.Span.{Span}
use Rattle.p10_base.specs.declared.report.TheConstants.Limit.{MOST_SUM}
use Rattle.p10_core.specs.declared.statements.LoopHead.{LoopHead}
use Rattle.p10_core.specs.Typed.{PlainFunction, PlainProgram}
use Rattle.p10_cert.specs.Claims.{Func}
use Rattle.p10_sums.specs.declared.sum.FuncSum.{FuncSum}
use Rattle.p10_sums.specs.Counting.{steps_claimed, calls_claimed, bytes_claimed, counting_of, task_of}
use Rattle.p10_sums.specs.Sums.{sum_under}
use Rattle.p10_check.specs.Places.{place_if}
use Rattle.p10_check.specs.Shapes.{task_head, turn_claimed}

-- whether a claim is at least a sum; a sum over the greatest that is allowed is above every claim
abbrev pub covers_sum : ℕ → ℕ → Bool
covers_sum claim sum = nat_le sum claim && nat_le sum MOST_SUM

-- what the function with a number costs by what is claimed of its callees and loops
abbrev pub sum_claimed : PlainProgram → List Func → ℕ → PlainFunction → FuncSum
sum_claimed p functions n f = sum_under (counting_of p functions n f) (task_of p n) f

-- K11 of the task loop: the steps that are claimed of a turn cover what a turn costs; its place is the loop
abbrev pub short_turn : List Func → ℕ → ℕ → Option LoopHead → List Span
short_turn functions n turn None = []
short_turn functions n turn (Some head) = place_if (not (covers_sum (turn_claimed functions n (Some head)) turn)) head.span

-- K11: the claimed steps of a function cover what it costs, and those of a turn of its task loop what a turn does
abbrev pub short_steps : PlainProgram → List Func → ℕ → PlainFunction → List Span
short_steps p functions n f =
    place_if (not (covers_sum (steps_claimed (slice_get functions n)) (sum_claimed p functions n f).steps)) f.span
    ++ short_turn functions n (sum_claimed p functions n f).turn (task_head p n f)

-- K12: the claimed calls and bytes of a function cover its depths
abbrev pub short_depths : PlainProgram → List Func → ℕ → PlainFunction → List Span
short_depths p functions n f =
    place_if (not (covers_sum (calls_claimed (slice_get functions n)) (sum_claimed p functions n f).calls && covers_sum (bytes_claimed (slice_get functions n)) (sum_claimed p functions n f).bytes)) f.span
