-- The conditions of a certificate, in the order in which they are tried, and the first that fails.
use Rattle.std.specs.Prelude.{◌≡◌, ℕ, List, [], ◌∷◌, ◌++◌, map, Option, Some, None}
use Rattle.p10_base.specs.declared.span.Span.{Span}
use Rattle.p10_base.specs.declared.report.Bounds.{Bounds}
use Rattle.p10_core.specs.Typed.{PlainFunction, PlainProgram}
use Rattle.p10_cert.specs.Claims.{Claims}
use Rattle.p10_fit.specs.Fits.{unfit}
use Rattle.p10_flowrules.specs.declared.calls.AnyCall.{AnyCall}
use Rattle.p10_flowrules.specs.Allocating.{AreLateAllocations}
use Rattle.p10_pass.specs.Passing.{Failing}
use Rattle.p10_check.specs.declared.verdict.Verdict.{Verdict}
use Rattle.p10_check.specs.declared.verdict.Verdict.TheVariants.{Accepted, Refused}
use Rattle.p10_check.specs.Places.{all_places, name_at}
use Rattle.p10_check.specs.Shapes.{rising_calls, wrong_main, hidden_effects, low_total}
use Rattle.p10_check.specs.Sums.{short_steps, short_depths}
use Rattle.p10_check.specs.Passes.{Standing, left_by, unranked_loops, wrong_arguments, wrong_results, wrong_entries, wrong_backs, wrong_ranks}

-- a condition that fails at each of these places
abbrev pub failing_at_each : ℕ → List Span → List Failing
failing_at_each k places = map (λ at. record { k = k; at = at }) places

-- the failing conditions K2 to K14, by number, then in program order, then in text order. Evidence stands for loops, and `late` are the
-- calls in `main` after its mark that allocate or free memory
abbrev pub failures : Standing → PlainProgram → Claims → List AnyCall → List Failing
failures stands p c late =
    failing_at_each 2 (rising_calls p c.funcs)
    ++ (failing_at_each 3 (wrong_arguments p c)
    ++ (failing_at_each 4 (wrong_main p c.funcs)
    ++ (failing_at_each 5 (wrong_results p c)
    ++ (failing_at_each 6 (wrong_entries p c)
    ++ (failing_at_each 7 (wrong_backs p c)
    ++ (failing_at_each 8 (wrong_ranks stands p c 8)
    ++ (failing_at_each 9 (wrong_ranks stands p c 9)
    ++ (failing_at_each 10 (wrong_ranks stands p c 10)
    ++ (failing_at_each 11 (all_places p (short_steps p c.funcs))
    ++ (failing_at_each 12 (all_places p (short_depths p c.funcs))
    ++ (failing_at_each 13 (hidden_effects p c.funcs late)
    ++ failing_at_each 14 (low_total p c))))))))))))

-- ## The first that fails

-- the first of some failing conditions
abbrev pub first_failing : List Failing → Option Failing
first_failing [] = None
first_failing (e ∷ rest) = Some e

-- K1 at the function at which the certificate doesn't speak of the program, or else what follows, which asks for K1
abbrev pub after_fitting : PlainProgram → Option ℕ → List Failing → List Failing
after_fitting p (Some n) rest = record { k = 1; at = name_at p n } ∷ []
after_fitting p None rest = rest

-- the first condition that fails
abbrev pub first_failure : Standing → PlainProgram → Claims → List AnyCall → Option Failing
first_failure stands p c late = first_failing (after_fitting p (unfit p c) (failures stands p c late))

-- what is the first condition of a certificate for a program that fails, or that none does
pub record IsFirstFailing (stands : Standing) (p : PlainProgram) (c : Claims) (first : Option Failing) : Type 0 where
  pub late : List AnyCall
  pub late_are : AreLateAllocations p late
  pub is : first ≡ first_failure stands p c late

-- ## Parts of the conditions

-- the failing K2, K4, K13 and K14, which speak of no values and sums
abbrev pub shape_failures : PlainProgram → Claims → List AnyCall → List Failing
shape_failures p c late =
    failing_at_each 2 (rising_calls p c.funcs)
    ++ (failing_at_each 4 (wrong_main p c.funcs)
    ++ (failing_at_each 13 (hidden_effects p c.funcs late)
    ++ failing_at_each 14 (low_total p c)))

-- what are these of a certificate for a program, or the failing K1
pub record AreShapeFailures (p : PlainProgram) (c : Claims) (fails : List Failing) : Type 0 where
  pub late : List AnyCall
  pub late_are : AreLateAllocations p late
  pub are : fails ≡ after_fitting p (unfit p c) (shape_failures p c late)

-- the failing K3 and K5 to K12 of the function with a number
abbrev pub function_failures : Standing → PlainProgram → Claims → ℕ → PlainFunction → List Failing
function_failures stands p c n f =
    failing_at_each 3 (left_by p c n).arguments
    ++ (failing_at_each 5 (left_by p c n).results
    ++ (failing_at_each 6 (left_by p c n).entries
    ++ (failing_at_each 7 (left_by p c n).backs
    ++ (failing_at_each 8 (unranked_loops stands c n 8 (left_by p c n).weak)
    ++ (failing_at_each 9 (unranked_loops stands c n 9 (left_by p c n).weak)
    ++ (failing_at_each 10 (unranked_loops stands c n 10 (left_by p c n).weak)
    ++ (failing_at_each 11 (short_steps p c.funcs n f)
    ++ failing_at_each 12 (short_depths p c.funcs n f))))))))

-- the same where there may be no such function
abbrev pub function_failures_at : Standing → PlainProgram → Claims → ℕ → Option PlainFunction → List Failing
function_failures_at stands p c n None = []
function_failures_at stands p c n (Some f) = function_failures stands p c n f

-- ## Verdicts

-- the verdict on a certificate with a total, by the first condition that fails
abbrev pub verdict_by : Bounds → Option Failing → Verdict
verdict_by total None = Accepted total
verdict_by total (Some e) = Refused e.k e.at

-- what is the verdict on a certificate for a program
pub record IsVerdict (stands : Standing) (p : PlainProgram) (c : Claims) (verdict : Verdict) : Type 0 where
  pub first : Option Failing
  pub first_is : IsFirstFailing stands p c first
  pub is : verdict ≡ verdict_by c.total first
