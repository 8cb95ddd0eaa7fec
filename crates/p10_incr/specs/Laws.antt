-- What holds of edits and of the verdicts after them.
use Rattle.std.specs.Prelude.{◌≡◌, ℕ, ◌<◌, ◌≤◌, false, List, [], ◌∷◌, ◌++◌, Some, None, slice_get, Decides}
use Rattle.std.specs.List.{AllByRecursion}
use Rattle.p10_core.specs.Typed.{PlainFunction, PlainProgram}
use Rattle.p10_cert.specs.Claims.{Func}
use Rattle.p10_pass.specs.Passing.{Failing}
use Rattle.p10_check.specs.declared.verdict.TextVerdict.{TextVerdict}
use Rattle.p10_check.specs.Passes.{Standing}
use Rattle.p10_check.specs.Conditions.{function_failures}
use Rattle.p10_check.specs.Texts.{claims_in, IsStatementVerdict}
use Rattle.p10_incr.specs.Alike.{same_func}
use Rattle.p10_incr.specs.Edits.{Edit, is_dirty}
use Rattle.p10_incr.specs.Rechecking.{first_by_number, IsRecheckVerdict}

-- two claims are the same exactly where the test says so
abbrev pub SameFuncDecides : Type 0
SameFuncDecides = (f g : Func) → Decides (same_func f g) (f ≡ g)

-- a failing condition is the first of some: those before it have greater numbers, and those after it none that is lower
pub record IsFirstIn (fails : List Failing) (e : Failing) : Type 0 where
  pub before : List Failing
  pub after : List Failing
  pub are : fails ≡ before ++ e ∷ after
  pub greater : AllByRecursion (λ (f : Failing). e.k < f.k) before
  pub no_lower : AllByRecursion (λ (f : Failing). e.k ≤ f.k) after

-- what is told as the first of failing conditions is the first, and nothing is told where none fails
abbrev pub FirstIsFirst : Type 0
FirstIsFirst = (fails : List Failing) → ((e : Failing) → first_by_number fails ≡ Some e → IsFirstIn fails e) × (first_by_number fails ≡ None → fails ≡ [])

-- where no function that isn't dirty has a failing condition, the verdict after an edit is that on the whole certificate
abbrev pub CleanFunctionsSuffice : Type 0
CleanFunctionsSuffice =
    (stands : Standing) (p : PlainProgram) (e : Edit) (verdict : TextVerdict)
    → ((n : ℕ) (f : PlainFunction) → slice_get p.functions n ≡ Some f → is_dirty p e n ≡ false → function_failures stands p (claims_in e.new) n f ≡ [])
    → IsRecheckVerdict stands p e verdict → IsStatementVerdict stands p e.digests e.new verdict
