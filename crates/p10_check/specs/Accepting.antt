-- What it is for a certificate to be accepted: each condition holds.
use Rattle.std.specs.Prelude.{◌≡◌, ℕ, List, [], Some, None, slice_get}
use Rattle.p10_base.specs.declared.report.Bounds.{Bounds}
use Rattle.p10_core.specs.Typed.{PlainFunction, PlainProgram}
use Rattle.p10_cert.specs.Claims.{Claims}
use Rattle.p10_fit.specs.Fits.{unfit}
use Rattle.p10_flowrules.specs.declared.calls.AnyCall.{AnyCall}
use Rattle.p10_flowrules.specs.Allocating.{AreLateAllocations}
use Rattle.p10_check.specs.declared.verdict.Verdict.{Verdict}
use Rattle.p10_check.specs.declared.verdict.Verdict.TheVariants.{Accepted}
use Rattle.p10_check.specs.Shapes.{rising_calls, wrong_main, hidden_effects, low_total}
use Rattle.p10_check.specs.Sums.{short_steps, short_depths}
use Rattle.p10_check.specs.Passes.{Standing, left_by, unranked_loops}
use Rattle.p10_check.specs.Conditions.{IsVerdict}

-- all conditions on the function with a number hold: K3, K5 to K10 and K11 and K12
pub record HoldsIn (stands : Standing) (p : PlainProgram) (c : Claims) (n : ℕ) (f : PlainFunction) : Type 0 where
  pub arguments : (left_by p c n).arguments ≡ []
  pub results : (left_by p c n).results ≡ []
  pub entries : (left_by p c n).entries ≡ []
  pub backs : (left_by p c n).backs ≡ []
  pub entered : unranked_loops stands c n 8 (left_by p c n).weak ≡ []
  pub falling : unranked_loops stands c n 9 (left_by p c n).weak ≡ []
  pub turns : unranked_loops stands c n 10 (left_by p c n).weak ≡ []
  pub steps : short_steps p c.funcs n f ≡ []
  pub depths : short_depths p c.funcs n f ≡ []

-- all conditions hold
pub record Holds (stands : Standing) (p : PlainProgram) (c : Claims) : Type 0 where
  pub fits : unfit p c ≡ None
  pub ranks : rising_calls p c.funcs ≡ []
  pub main : wrong_main p c.funcs ≡ []
  pub functions : (n : ℕ) (f : PlainFunction) → slice_get p.functions n ≡ Some f → HoldsIn stands p c n f
  pub late : List AnyCall
  pub late_are : AreLateAllocations p late
  pub effects : hidden_effects p c.funcs late ≡ []
  pub total : low_total p c ≡ []

-- a certificate that is accepted has a total that is what was said, and all conditions hold
abbrev pub AcceptedHold : Type 0
AcceptedHold = (stands : Standing) (p : PlainProgram) (c : Claims) (b : Bounds) → IsVerdict stands p c (Accepted b) → (b ≡ c.total) × Holds stands p c

-- where all conditions hold, the certificate is accepted
abbrev pub HoldingAccepts : Type 0
HoldingAccepts = (stands : Standing) (p : PlainProgram) (c : Claims) → Holds stands p c → IsVerdict stands p c (Accepted c.total)

-- there is one verdict
abbrev pub OneVerdict : Type 0
OneVerdict = (stands : Standing) (p : PlainProgram) (c : Claims) (these others : Verdict) → IsVerdict stands p c these → IsVerdict stands p c others → these ≡ others
