-- The verdict on a certificate after an edit, and which functions are passed for it.
use Rattle.std.specs.Prelude.{◌≡◌, ℕ, nat_lt, if◌then◌else◌, List, [], ◌∷◌, ◌++◌, flat_map, Option, Some, None, slice_get}
use Rattle.p10_core.specs.Typed.{PlainProgram}
use Rattle.p10_cert.specs.Claims.{Claims}
use Rattle.p10_fit.specs.Fits.{unfit}
use Rattle.p10_flowrules.specs.declared.calls.AnyCall.{AnyCall}
use Rattle.p10_flowrules.specs.Allocating.{AreLateAllocations}
use Rattle.p10_pass.specs.Passing.{Failing}
use Rattle.p10_check.specs.declared.verdict.Verdict.{Verdict}
use Rattle.p10_check.specs.declared.verdict.TextVerdict.{TextVerdict}
use Rattle.p10_check.specs.Passes.{Standing}
use Rattle.p10_check.specs.Conditions.{after_fitting, shape_failures, function_failures_at, verdict_by}
use Rattle.p10_check.specs.Texts.{StaleAt, claims_in, first_stale, TellsStale, text_verdict}
use Rattle.p10_incr.specs.Edits.{Edit, dirty}

-- ## The first condition that fails

-- the first of two failing conditions, of which the first may be lacking: the second only where its number is lower
abbrev pub first_of : Option Failing → Failing → Failing
first_of None e = e
first_of (Some a) e = if nat_lt e.k a.k then e else a

-- the first of one and of others that follow
abbrev pub first_from : Option Failing → List Failing → Option Failing
first_from first [] = first
first_from first (e ∷ rest) = first_from (Some (first_of first e)) rest

-- the first of some failing conditions by number, and of those with the same number by their order
abbrev pub first_by_number : List Failing → Option Failing
first_by_number fails = first_from None fails

-- the failing K3 and K5 to K12 of the functions with these numbers, one function after the other
abbrev pub failures_among : Standing → PlainProgram → Claims → List ℕ → List Failing
failures_among stands p c numbers = flat_map (λ n. function_failures_at stands p c n (slice_get p.functions n)) numbers

-- the failing K1, or else K2, K4, K13 and K14 of the program, and K3 and K5 to K12 of the functions with these numbers
abbrev pub failures_after : Standing → PlainProgram → Claims → List AnyCall → List ℕ → List Failing
failures_after stands p c late numbers = after_fitting p (unfit p c) (shape_failures p c late ++ failures_among stands p c numbers)

-- what is the first condition that fails, where of the functions only those with these numbers are asked for theirs
pub record IsFirstAmong (stands : Standing) (p : PlainProgram) (c : Claims) (numbers : List ℕ) (first : Option Failing) : Type 0 where
  pub late : List AnyCall
  pub late_are : AreLateAllocations p late
  pub is : first ≡ first_by_number (failures_after stands p c late numbers)

-- ## Verdicts

-- what is the verdict on claims, by what is asked of the functions with these numbers alone
pub record IsVerdictAmong (stands : Standing) (p : PlainProgram) (c : Claims) (numbers : List ℕ) (verdict : Verdict) : Type 0 where
  pub first : Option Failing
  pub first_is : IsFirstAmong stands p c numbers first
  pub is : verdict ≡ verdict_by c.total first

-- the same of a verdict on a text
abbrev pub JudgesAmong : Standing → PlainProgram → Claims → List ℕ → TextVerdict → Type 0
JudgesAmong stands p c numbers verdict = (v : Verdict) × IsVerdictAmong stands p c numbers v × (verdict ≡ text_verdict v)

-- the same by the first function whose digests differ: K0 comes before the other conditions
abbrev pub RechecksBy : Standing → PlainProgram → Claims → List ℕ → Option StaleAt → TextVerdict → Type 0
RechecksBy stands p c numbers (Some stale) verdict = TellsStale p stale verdict
RechecksBy stands p c numbers None verdict = JudgesAmong stands p c numbers verdict

-- what is the verdict on the new certificate of an edit: functions that aren't dirty are asked for nothing
abbrev pub IsRecheckVerdict : Standing → PlainProgram → Edit → TextVerdict → Type 0
IsRecheckVerdict stands p e verdict = RechecksBy stands p (claims_in e.new) (dirty p e) (first_stale 0 e.new.entries e.digests) verdict

-- ## What is passed

-- the functions that are passed, in this order: none where K0 fails or K1
abbrev pub passed_where : Option StaleAt → Option ℕ → List ℕ → List ℕ
passed_where None None numbers = numbers
passed_where stale misfit numbers = []

-- the functions that are passed for an edit
abbrev pub passed_for : PlainProgram → Edit → List ℕ
passed_for p e = passed_where (first_stale 0 e.new.entries e.digests) (unfit p (claims_in e.new)) (dirty p e)
