-- Calls keep their claims where these allow the sums: the step of an induction on the bound of nested calls.
use Rattle.std.specs.Prelude.{◌≡◌, ℕ, zero, suc, ◌≤◌, true, List, Option, Some, None, slice_get}
use Rattle.p10_core.specs.Typed.{PlainFunction, PlainProgram}
use Rattle.p10_cert.specs.Claims.{Func}
use Rattle.p10_meaning.specs.declared.pointers.Scalar.{Scalar}
use Rattle.p10_meaning.specs.States.{State}
use Rattle.p10_meaning.specs.Calling.{Depth, setting_of, call_at}
use Rattle.p10_sums.specs.declared.sum.FuncSum.{FuncSum}
use Rattle.p10_sums.specs.Counting.{steps_claimed, calls_claimed, bytes_claimed, alloc_claimed, counting_of}
use Rattle.p10_sums.specs.Sums.{sum_under}
use Rattle.p10_sums.specs.Laws.{CallKeeps, BodyKeeps}

-- what is claimed of a function is no less than what it costs
pub record Allows (claim : Option Func) (sum : FuncSum) : Type 0 where
  pub steps_allowed : sum.steps ≤ steps_claimed claim
  pub calls_allowed : sum.calls ≤ calls_claimed claim
  pub bytes_allowed : sum.bytes ≤ bytes_claimed claim
  pub effect_allowed : sum.alloc ≡ true → alloc_claimed claim ≡ true

-- the calls and loops of a body keep their claims, where a bound on nested calls lets it be entered
abbrev pub BodyKeepsWithin : ℕ → PlainProgram → List Func → Depth → ℕ → PlainFunction → List Scalar → State → Type 0
BodyKeepsWithin zero p functions depth k f xs w = Unit {0}
BodyKeepsWithin (suc n) p functions depth k f xs w = BodyKeeps p functions n depth k f xs w

-- a call of a function keeps its claim, where that allows what the function costs, and the calls and loops of its body keep theirs
abbrev pub CallsKeepTheirClaims : Type 0
CallsKeepTheirClaims =
    (p : PlainProgram) (functions : List Func) (n : ℕ) (depth : Depth) (caller : PlainFunction) (k : ℕ) (f : PlainFunction) (xs : List Scalar) (w : State) →
    slice_get p.functions k ≡ Some f → Allows (slice_get functions k) (sum_under (counting_of p functions k f) None f) → w.left ≤ n →
    BodyKeepsWithin n p functions depth k f xs w → CallKeeps (setting_of p n (call_at n p) depth caller) functions depth k xs w
