-- Claims that cover a sum, by the sum up to one more than the greatest that is allowed.
use Rattle.std.proofs.Common.{◌≡◌, ◌∙◌, ℕ, ◌+◌, min, not, ◌&&◌, ◌++◌, nat_le, List, Option, Some, None, slice_get, sym, ap, refl, arith}
use Rattle.std.proofs.lemmas.Bool.Decides.{nat_tests}
use Rattle.p10_base.specs.declared.report.TheConstants.Limit.{MOST_SUM}
use Rattle.p10_core.specs.declared.statements.LoopHead.{LoopHead}
use Rattle.p10_core.specs.Typed.{PlainFunction, PlainProgram}
use Rattle.p10_cert.specs.Claims.{Func}
use Rattle.p10_sums.specs.declared.sum.FuncSum.{FuncSum}
use Rattle.p10_sums.specs.Counting.{steps_claimed, calls_claimed, bytes_claimed}
use Rattle.p10_sums.specs.Sums.{function_sum, sum_at}
use Rattle.p10_pass.specs.Passing.{Failing}
use Rattle.p10_check.specs.Places.{place_if}
use Rattle.p10_check.specs.Shapes.{task_head, turn_claimed}
use Rattle.p10_check.specs.Sums.{covers_sum, sum_claimed, short_turn, short_steps, short_depths}
use Rattle.p10_check.specs.Conditions.{failing_at_each}
use Rattle.p10_check.specs.private.Shortfalls.{short_steps_by, short_depths_by}
use Rattle.p10_check.proofs.Joining.{at_both, in_turn}

capped_at : (most claim n : ℕ) → (nat_le (min n (most + 1)) claim && nat_le (min n (most + 1)) most) ≡ (nat_le n claim && nat_le n most)
capped_at most claim n = grind (arith, nat_tests)

-- a claim covers a sum where it covers the sum up to the limit
covers_capped : (claim n capped : ℕ) → capped ≡ min n (MOST_SUM + 1) → covers_sum claim capped ≡ covers_sum claim n
covers_capped claim n capped is = ap (covers_sum claim) is ∙ capped_at MOST_SUM claim n

turn_capped : (claims : List Func) (n turn capped : ℕ) (head : Option LoopHead) → capped ≡ min turn (MOST_SUM + 1) → short_turn claims n capped head ≡ short_turn claims n turn head
turn_capped claims n turn capped None is = refl
turn_capped claims n turn capped (Some head) is = ap (λ b. place_if (not b) head.span) (covers_capped (turn_claimed claims n (Some head)) turn capped is)

depths_capped : (calls bytes s t capped other : ℕ) → capped ≡ min s (MOST_SUM + 1) → other ≡ min t (MOST_SUM + 1)
    → (covers_sum calls capped && covers_sum bytes other) ≡ (covers_sum calls s && covers_sum bytes t)
depths_capped calls bytes s t capped other is too =
    ap (λ b. b && covers_sum bytes other) (covers_capped calls s capped is) ∙ ap (λ b. covers_sum calls s && b) (covers_capped bytes t other too)

-- where claims on a function fall short, by its sum up to the limit
pub short_told : (p : PlainProgram) (claims : List Func) (n : ℕ) (f : PlainFunction) (sum : FuncSum) (head : Option LoopHead) (old one two new : List Failing)
    → sum.steps ≡ min (sum_at p claims n).steps (MOST_SUM + 1) → sum.calls ≡ min (sum_at p claims n).calls (MOST_SUM + 1)
    → sum.bytes ≡ min (sum_at p claims n).bytes (MOST_SUM + 1) → sum.turn ≡ min (sum_at p claims n).turn (MOST_SUM + 1)
    → slice_get p.functions n ≡ Some f → head ≡ task_head p n f
    → one ≡ old ++ failing_at_each 11 (short_steps_by claims n f.span sum)
    → two ≡ one ++ failing_at_each 11 (short_turn claims n sum.turn head)
    → new ≡ two ++ failing_at_each 12 (short_depths_by claims n f.span sum)
    → new ≡ old ++ (failing_at_each 11 (short_steps p claims n f) ++ failing_at_each 12 (short_depths p claims n f))
short_told p claims n f sum head old one two new steps calls bytes turn there begins first second third =
    in_turn old two new (failing_at_each 11 (short_steps p claims n f)) (failing_at_each 12 (short_depths p claims n f))
    (in_turn old one two (failing_at_each 11 (short_steps_by claims n f.span sum)) (failing_at_each 11 (short_turn claims n sum.turn head)) first second
    ∙ ap (λ xs. old ++ xs) (sym (at_both 11 (short_steps_by claims n f.span sum) (short_turn claims n sum.turn head)))
    ∙ ap (λ xs. old ++ failing_at_each 11 (xs ++ short_turn claims n sum.turn head)) steps_are
    ∙ ap (λ xs. old ++ failing_at_each 11 (place_if (not (covers_sum (steps_claimed (slice_get claims n)) (sum_claimed p claims n f).steps)) f.span ++ xs)) turn_is)
    (third ∙ ap (λ b. two ++ failing_at_each 12 (place_if (not b) f.span)) depths_are)
  where
    steps_are : short_steps_by claims n f.span sum ≡ place_if (not (covers_sum (steps_claimed (slice_get claims n)) (sum_claimed p claims n f).steps)) f.span
    steps_are = ap (λ b. place_if (not b) f.span) (covers_capped (steps_claimed (slice_get claims n)) (sum_claimed p claims n f).steps sum.steps (steps ∙ ap (λ o. min (function_sum p claims n o).steps (MOST_SUM + 1)) there))

    turn_is : short_turn claims n sum.turn head ≡ short_turn claims n (sum_claimed p claims n f).turn (task_head p n f)
    turn_is =
        turn_capped claims n (sum_claimed p claims n f).turn sum.turn head (turn ∙ ap (λ o. min (function_sum p claims n o).turn (MOST_SUM + 1)) there)
        ∙ ap (short_turn claims n (sum_claimed p claims n f).turn) begins

    depths_are :
        (covers_sum (calls_claimed (slice_get claims n)) sum.calls && covers_sum (bytes_claimed (slice_get claims n)) sum.bytes)
        ≡ (covers_sum (calls_claimed (slice_get claims n)) (sum_claimed p claims n f).calls && covers_sum (bytes_claimed (slice_get claims n)) (sum_claimed p claims n f).bytes)
    depths_are =
        depths_capped (calls_claimed (slice_get claims n)) (bytes_claimed (slice_get claims n)) (sum_claimed p claims n f).calls (sum_claimed p claims n f).bytes sum.calls sum.bytes
        (calls ∙ ap (λ o. min (function_sum p claims n o).calls (MOST_SUM + 1)) there) (bytes ∙ ap (λ o. min (function_sum p claims n o).bytes (MOST_SUM + 1)) there)
