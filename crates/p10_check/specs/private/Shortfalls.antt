-- Where claims on a function fall short of a sum that is given.
use Rattle.std.specs.Prelude.{ℕ, not, ◌&&◌, Bool, List, slice_get}
use Rattle.p10_base.specs.declared.span.Span.{Span}
use Rattle.p10_cert.specs.Claims.{Func}
use Rattle.p10_sums.specs.declared.sum.FuncSum.{FuncSum}
use Rattle.p10_sums.specs.Counting.{steps_claimed, calls_claimed, bytes_claimed, alloc_claimed}
use Rattle.p10_check.specs.Places.{place_if}
use Rattle.p10_check.specs.Sums.{covers_sum}

-- K11 of a function by a sum
abbrev pub short_steps_by : List Func → ℕ → Span → FuncSum → List Span
short_steps_by functions n name s = place_if (not (covers_sum (steps_claimed (slice_get functions n)) s.steps)) name

-- K12 by a sum
abbrev pub short_depths_by : List Func → ℕ → Span → FuncSum → List Span
short_depths_by functions n name s =
    place_if (not (covers_sum (calls_claimed (slice_get functions n)) s.calls && covers_sum (bytes_claimed (slice_get functions n)) s.bytes)) name

-- whether a sum has an effect that isn't claimed
abbrev pub hides_effect : List Func → ℕ → FuncSum → Bool
hides_effect functions n s = s.alloc && not (alloc_claimed (slice_get functions n))
