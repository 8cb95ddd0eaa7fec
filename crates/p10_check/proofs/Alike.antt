-- The conditions on one function are the same under claims that differ in nothing but the loops of others.
use Rattle.std.proofs.Common.{◌≡◌, ℕ, not, ◌&&◌, List, [], ◌++◌, Option, Some, None, refl, sym, ap, ◌∙◌}
use Rattle.std.specs.Prelude.{slice_get}
use Rattle.p10_base.specs.declared.span.Span.{Span}
use Rattle.p10_core.specs.declared.statements.LoopHead.{LoopHead}
use Rattle.p10_core.specs.Typed.{PlainFunction, PlainProgram}
use Rattle.p10_cert.specs.Claims.{Func, Claims}
use Rattle.p10_pass.specs.Claiming.{loop_claimed}
use Rattle.p10_pass.specs.Passing.{Failing, Left}
use Rattle.p10_sums.specs.declared.sum.FuncSum.{FuncSum}
use Rattle.p10_sums.specs.Counting.{steps_claimed, calls_claimed, bytes_claimed, turns_claimed, loops_claimed}
use Rattle.p10_loopless.specs.Loopless.{AgreeOn}
use Rattle.p10_loopless.proofs.Bodies.{same_entry, same_pass}
use Rattle.p10_loopless.proofs.Sums.{same_sums}
use Rattle.p10_check.specs.Places.{place_if}
use Rattle.p10_check.specs.Shapes.{task_head}
use Rattle.p10_check.specs.Sums.{covers_sum, sum_claimed, short_turn, short_depths}
use Rattle.p10_check.specs.Passes.{Standing, left_by, unranked}
use Rattle.p10_check.specs.Conditions.{failing_at_each, function_failures, function_failures_at}

-- the pass from the function's entry
same_left : (p : PlainProgram) (n : ℕ) (c d : Claims) → AgreeOn n c.funcs d.funcs → left_by p c n ≡ left_by p d n
same_left p n c d agree = λ i. (same_pass p n c d agree (same_entry p n c d agree i)) i

-- K11 of a turn by the claim on the function itself
abbrev short_turn_by : Option Func → ℕ → Option LoopHead → List Span
short_turn_by own turn None = []
short_turn_by own turn (Some head) = place_if (not (covers_sum (turns_claimed (slice_get (loops_claimed own) head.number)) turn)) head.span

short_turn_is : (functions : List Func) (n turn : ℕ) (head : Option LoopHead) → short_turn functions n turn head ≡ short_turn_by (slice_get functions n) turn head
short_turn_is functions n turn None = refl
short_turn_is functions n turn (Some head) = refl

-- the failing conditions by what the pass leaves, the claim on the function itself and what it costs
abbrev failures_by : Standing → PlainProgram → ℕ → PlainFunction → Left → Option Func → FuncSum → List Failing
failures_by stands p n f left own sum =
    failing_at_each 3 left.arguments
    ++ (failing_at_each 5 left.results
    ++ (failing_at_each 6 left.entries
    ++ (failing_at_each 7 left.backs
    ++ (failing_at_each 8 (unranked 8 (λ w. stands n w.at w.entry (loop_claimed (loops_claimed own) w.at)) left.weak)
    ++ (failing_at_each 9 (unranked 9 (λ w. stands n w.at w.entry (loop_claimed (loops_claimed own) w.at)) left.weak)
    ++ (failing_at_each 10 (unranked 10 (λ w. stands n w.at w.entry (loop_claimed (loops_claimed own) w.at)) left.weak)
    ++ (failing_at_each 11 (place_if (not (covers_sum (steps_claimed own) sum.steps)) f.span ++ short_turn_by own sum.turn (task_head p n f))
    ++ failing_at_each 12 (place_if (not (covers_sum (calls_claimed own) sum.calls && covers_sum (bytes_claimed own) sum.bytes)) f.span))))))))

failures_are : (stands : Standing) (p : PlainProgram) (c : Claims) (n : ℕ) (f : PlainFunction)
    → function_failures stands p c n f ≡ failures_by stands p n f (left_by p c n) (slice_get c.funcs n) (sum_claimed p c.funcs n f)
failures_are stands p c n f =
    ap (λ turn.
    failing_at_each 3 (left_by p c n).arguments
    ++ (failing_at_each 5 (left_by p c n).results
    ++ (failing_at_each 6 (left_by p c n).entries
    ++ (failing_at_each 7 (left_by p c n).backs
    ++ (failing_at_each 8 (unranked 8 (λ w. stands n w.at w.entry (loop_claimed (loops_claimed (slice_get c.funcs n)) w.at)) (left_by p c n).weak)
    ++ (failing_at_each 9 (unranked 9 (λ w. stands n w.at w.entry (loop_claimed (loops_claimed (slice_get c.funcs n)) w.at)) (left_by p c n).weak)
    ++ (failing_at_each 10 (unranked 10 (λ w. stands n w.at w.entry (loop_claimed (loops_claimed (slice_get c.funcs n)) w.at)) (left_by p c n).weak)
    ++ (failing_at_each 11 (place_if (not (covers_sum (steps_claimed (slice_get c.funcs n)) (sum_claimed p c.funcs n f).steps)) f.span ++ turn)
    ++ failing_at_each 12 (short_depths p c.funcs n f)))))))))
    (short_turn_is c.funcs n (sum_claimed p c.funcs n f).turn (task_head p n f))

same_failures : (stands : Standing) (p : PlainProgram) (c d : Claims) (n : ℕ) (f : PlainFunction) → AgreeOn n c.funcs d.funcs → function_failures stands p c n f ≡ function_failures stands p d n f
same_failures stands p c d n f agree =
    failures_are stands p c n f
    ∙ (λ i. failures_by stands p n f (same_left p n c d agree i) (agree.own i) (same_sums p n c.funcs d.funcs agree (Some f) i))
    ∙ sym (failures_are stands p d n f)

-- the same where there may be no such function
pub same_failures_at : (stands : Standing) (p : PlainProgram) (c d : Claims) (n : ℕ) (f : Option PlainFunction) → AgreeOn n c.funcs d.funcs → function_failures_at stands p c n f ≡ function_failures_at stands p d n f
same_failures_at stands p c d n None agree = refl
same_failures_at stands p c d n (Some f) agree = same_failures stands p c d n f agree
