-- What derivation answers of a program: its violations, a limit that is exceeded, or one certificate.
use Rattle.std.specs.Prelude.{◌≡◌, ◌↔◌, ◌⊎◌, ℕ, ◌<◌, List, [], map, length, slice_get, Some, Contains}
use Rattle.std.specs.List.Sorted.{IsStrictlySortedBy}
use Rattle.p10_base.specs.declared.span.Span.{Span}
use Rattle.p10_base.specs.declared.report.Sub.{Sub}
use Rattle.p10_base.specs.declared.report.Violation.{Violation}
use Rattle.p10_base.specs.declared.report.Limit.{Limit}
use Rattle.p10_base.specs.declared.report.TheConstants.Limit.{SUM, MOST_SUM, CERTIFICATE_BYTES, MOST_CERTIFICATE_BYTES}
use Rattle.p10_base.specs.Order.{violation_cmp}
use Rattle.p10_core.specs.Typed.{PlainFunction, PlainProgram}
use Rattle.p10_core.specs.WholePrograms.{parameter_types}
use Rattle.p10_graph.specs.Graphs.{IsOnCycle}
use Rattle.p10_calls.specs.CallGraphs.{call_graph}
use Rattle.p10_calls.specs.Ranks.{AreRanks}
use Rattle.p10_cert.specs.Claims.{Loop, Func, Claims}
use Rattle.p10_cert.specs.Certificate.{certificate_text}
use Rattle.p10_sums.specs.Sums.{HasPassing, sum_at, all_sums}
use Rattle.p10_flowrules.specs.FlowRows.{ViolatesFlow}
use Rattle.p10_finder.specs.Functions.{any_value, loops_of, result_of, func_found, counted_sum, total_of}
use Rattle.p10_approach.specs.Offers.{Offers}

-- ## Results of functions

-- what is claimed of the function with a number while loops are looked for: its parameters may have any values of their types; and its
-- result, where it lies on a cycle of calls, is any value of its type, and else what it returns where its callees keep their claims
pub record HasResult (o : Offers) (p : PlainProgram) (c : Claims) (n : ℕ) (f : PlainFunction) (claim : Func) : Type 0 where
  pub params : claim.params ≡ map any_value (parameter_types f)
  pub recursive : IsOnCycle (call_graph p) n → claim.result ≡ any_value f.result
  pub other : (IsOnCycle (call_graph p) n → ⊥) → claim.result ≡ result_of o p c n f

-- claims of the functions of a program in which each result is the one that is found where the others stand: so it is found after
-- those of the callees, except on a cycle
pub record HaveResults (o : Offers) (p : PlainProgram) (c : Claims) : Type 0 where
  pub each : length c.funcs ≡ length p.functions
  pub results : (n : ℕ) (f : PlainFunction) (claim : Func) → slice_get p.functions n ≡ Some f → slice_get c.funcs n ≡ Some claim → HasResult o p c n f claim

-- ## Violations, where these claims stand

-- 2.1: a loop other than the task loop for which no candidate's claim stands, at its keyword
pub record LacksBoundAt (o : Offers) (p : PlainProgram) (c : Claims) (span : Span) : Type 0 where
  pub number : ℕ
  pub function : PlainFunction
  pub there : slice_get p.functions number ≡ Some function
  pub lacks : Contains (loops_of o p c number function).unbounded span

-- 2.1
abbrev pub bound_row : Sub
bound_row = record { rule = 2; sub = 1 }

-- one of the rows for which there is no certificate is violated at a place: 2.1, or one on calls and the task loop (1.3, 2.2, 3.1)
pub data ViolatesBounds (o : Offers) (p : PlainProgram) (c : Claims) : Sub → Span → Type 0 where
  no_bound : (span : Span) → LacksBoundAt o p c span → ViolatesBounds o p c bound_row span
  flow : (sub : Sub) (span : Span) → ViolatesFlow p sub span → ViolatesBounds o p c sub span

-- the violations of these rows, in order, each once
pub record AreViolations (o : Offers) (p : PlainProgram) (c : Claims) (found : List Violation) : Type 0 where
  pub sorted : IsStrictlySortedBy violation_cmp found
  pub exact : (v : Violation) → Contains found v ↔ ViolatesBounds o p c v.sub v.span

-- the same, where the claims are those whose results are found
pub record HasViolations (o : Offers) (p : PlainProgram) (found : List Violation) : Type 0 where
  pub claims : Claims
  pub right : HaveResults o p claims
  pub all : AreViolations o p claims found

-- ## The certificate

-- the claims of a program without recursion: ranks by its calls, and of each function what is found where the claims of the others
-- stand: so it is found after those of its callees
pub record AreClaims (o : Offers) (p : PlainProgram) (c : Claims) : Type 0 where
  pub ranks : AreRanks (call_graph p) (map (λ f. f.rank) c.funcs)
  pub each : (n : ℕ) (f : PlainFunction) (claim : Func) → slice_get p.functions n ≡ Some f → slice_get c.funcs n ≡ Some claim → claim ≡ func_found o p c n claim.rank f
  pub total : c.total ≡ total_of (counted_sum (sum_at p c.funcs p.main))

-- a claim has a loop with more turns than are allowed
pub record HasLongLoop (funcs : List Func) : Type 0 where
  pub func : Func
  pub loop : Loop
  pub among : Contains funcs func
  pub inside : Contains func.loops loop
  pub long : MOST_SUM < loop.turns

-- a sum of steps, calls or bytes, or a number of turns, exceeds the greatest that is allowed (M9)
abbrev pub PassesSum : PlainProgram → Claims → Type 0
PassesSum p c = HasPassing (all_sums p c.funcs) ⊎ HasLongLoop c.funcs

-- the text of a certificate is longer than is allowed (M10)
abbrev pub PassesText : Claims → Type 0
PassesText c = MOST_CERTIFICATE_BYTES < length (certificate_text c)

-- ## Answers

-- an answer: violations, a limit that is exceeded, or a certificate
pub data Derived : Type 0 where
  Violating : List Violation → Derived
  Over : Limit → Derived
  Certified : Claims → Derived

-- there are violations, and these are all
pub record IsViolating (o : Offers) (p : PlainProgram) (found : List Violation) : Type 0 where
  pub all : HasViolations o p found
  pub some : found ≡ [] → ⊥

-- these are the claims of the program, and there are no violations
pub record Claiming (o : Offers) (p : PlainProgram) (c : Claims) : Type 0 where
  pub claims : AreClaims o p c
  pub lawful : AreViolations o p c []

-- the limit that is exceeded where there are no violations: a sum first, and then the text
pub record PassesLimit (o : Offers) (p : PlainProgram) (limit : Limit) : Type 0 where
  pub certificate : Claims
  pub claims : Claiming o p certificate
  pub passes : ((limit ≡ SUM) × PassesSum p certificate) ⊎ ((limit ≡ CERTIFICATE_BYTES) × (PassesSum p certificate → ⊥) × PassesText certificate)

-- these are the claims, which keep within all limits, and there are no violations
pub record IsCertified (o : Offers) (p : PlainProgram) (c : Claims) : Type 0 where
  pub claims : Claiming o p c
  pub sums : PassesSum p c → ⊥
  pub text : PassesText c → ⊥

-- what derivation answers of a program
abbrev pub IsDerived : Offers → PlainProgram → Derived → Type 0
IsDerived o p (Violating found) = IsViolating o p found
IsDerived o p (Over limit) = PassesLimit o p limit
IsDerived o p (Certified c) = IsCertified o p c
