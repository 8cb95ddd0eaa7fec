-- What a certificate that was accepted says of the functions of its program.
use Rattle.std.proofs.Common.{◌≡◌, ◌∙◌, ℕ, zero, suc, ◌+◌, Bool, true, false, List, [], ◌∷◌, ◌++◌, length, Option, Some, None, refl, sym, ap, subst, arith}
use Rattle.std.specs.Prelude.{if◌then◌else◌, slice_get}
use Rattle.p10_base.specs.declared.report.Bounds.{Bounds}
use Rattle.p10_core.specs.Typed.{PlainFunction, PlainProgram}
use Rattle.p10_cert.specs.Claims.{Func, Claims}
use Rattle.p10_cert.specs.Statements.{Entry, Statement}
use Rattle.p10_fit.specs.Fits.{fits_function, unfit_from}
use Rattle.p10_check.specs.declared.verdict.Verdict.{Verdict}
use Rattle.p10_check.specs.declared.verdict.Verdict.TheVariants as plain
use Rattle.p10_check.specs.declared.verdict.TextVerdict.TheVariants.{Accepted}
use Rattle.p10_check.specs.Passes.{Standing}
use Rattle.p10_check.specs.Conditions.{failing_at_each, function_failures, IsVerdict}
use Rattle.p10_check.specs.Accepting.{HoldsIn, Holds}
use Rattle.p10_check.specs.Texts.{StaleAt, claims_in, first_stale, text_verdict, JudgesBy}
use Rattle.p10_check.proofs.Holding.{accepted_hold}
use Rattle.p10_check.proofs.Stales.{finds_first_stale}
use Rattle.p10_rechecks.specs.Laws.{WasAccepted}

-- ## All conditions hold

accepted_is : (b : Bounds) (v : Verdict) → Accepted b ≡ text_verdict v → v ≡ plain.Accepted b
accepted_is b (plain.Accepted total) is = cc
accepted_is b (plain.Refused k at) is = cc

record Accepts (stands : Standing) (q : PlainProgram) (digests : List (List ℕ)) (s : Statement) : Type 0 where
  fresh : first_stale 0 s.entries digests ≡ None
  all : Holds stands q (claims_in s)

by_stale : (stands : Standing) (q : PlainProgram) (digests : List (List ℕ)) (s : Statement) (b : Bounds) (o : Option StaleAt) → first_stale 0 s.entries digests ≡ o → JudgesBy stands q (claims_in s) o (Accepted b) → Accepts stands q digests s
by_stale stands q digests s b (Some stale) is h = absurd h
by_stale stands q digests s b None is h =
    record { fresh = is; all = (accepted_hold stands q (claims_in s) b (subst (IsVerdict stands q (claims_in s)) (accepted_is b h.0 h.2) h.1)).1 }

-- ## Of one function

-- nothing fails in it
none_fails : (stands : Standing) (q : PlainProgram) (c : Claims) (n : ℕ) (f : PlainFunction) → HoldsIn stands q c n f → function_failures stands q c n f ≡ []
none_fails stands q c n f h =
    λ i. failing_at_each 3 (h.arguments i)
    ++ (failing_at_each 5 (h.results i)
    ++ (failing_at_each 6 (h.entries i)
    ++ (failing_at_each 7 (h.backs i)
    ++ (failing_at_each 8 (h.entered i)
    ++ (failing_at_each 9 (h.falling i)
    ++ (failing_at_each 10 (h.turns i)
    ++ (failing_at_each 11 (h.steps i)
    ++ failing_at_each 12 (h.depths i))))))))

-- where claims speak of a program, it has a function for each
function_there : (q : PlainProgram) (m n : ℕ) (functions : List PlainFunction) (claims : List Func) (claim : Func) → unfit_from q m functions claims ≡ None → slice_get claims n ≡ Some claim → (f : PlainFunction) × (slice_get functions n ≡ Some f)
function_there q m n functions [] claim fits there = cc
function_there q m n [] (c ∷ claims) claim fits there = cc
function_there q m zero (f ∷ functions) (c ∷ claims) claim fits there = (f, refl)
function_there q m (suc n) (f ∷ functions) (c ∷ claims) claim fits there = by_fit (fits_function q m f c) fits (λ rest. function_there q (m + 1) n functions claims claim rest there)
  where
    by_fit : (b : Bool) → (if b then unfit_from q (m + 1) functions claims else Some m) ≡ None → (unfit_from q (m + 1) functions claims ≡ None → (g : PlainFunction) × (slice_get functions n ≡ Some g)) → (g : PlainFunction) × (slice_get functions n ≡ Some g)
    by_fit true fits more = more fits
    by_fit false fits more = cc

-- a list has something at each place below its length
element_there : {A B : Type 0} (xs : List A) (ys : List B) (n : ℕ) (y : B) → length xs ≡ length ys → slice_get ys n ≡ Some y → (x : A) × (slice_get xs n ≡ Some x)
element_there xs [] n y same there = cc
element_there [] (z ∷ ys) n y same there = let no : ⊥ = omega (arith, same) in absurd no
element_there (x ∷ xs) (z ∷ ys) zero y same there = (x, refl)
element_there (x ∷ xs) (z ∷ ys) (suc n) y same there = element_there xs ys n y (omega (arith, same)) there

-- the function of which something is said
pub record Stood (stands : Standing) (q : PlainProgram) (digests : List (List ℕ)) (s : Statement) (n : ℕ) (kept : List ℕ) : Type 0 where
  pub function : PlainFunction
  pub there : slice_get q.functions n ≡ Some function
  pub digest : slice_get digests n ≡ Some kept
  pub none : function_failures stands q (claims_in s) n function ≡ []

pub stood : (stands : Standing) (q : PlainProgram) (digests : List (List ℕ)) (outside : List ℕ) (s : Statement) → WasAccepted stands q digests outside s → (n : ℕ) (entry : Entry) (kept : List ℕ)
    → slice_get s.entries n ≡ Some entry → entry.digest ≡ Some kept → slice_get (claims_in s).funcs n ≡ Some entry.func → Stood stands q digests s n kept
stood stands q digests outside s was n entry kept said digest claimed =
    let h : Accepts stands q digests s = by_stale stands q digests s was.total (first_stale 0 s.entries digests) refl was.accepted in
    let f : (f : PlainFunction) × (slice_get q.functions n ≡ Some f) = function_there q 0 n q.functions (claims_in s).funcs entry.func h.all.fits claimed in
    let d : (x : List ℕ) × (slice_get digests n ≡ Some x) = element_there digests q.functions n f.0 was.each f.1 in
    let own : kept ≡ d.0 = (finds_first_stale s.entries digests).1 h.fresh n entry kept d.0 said digest d.1 in
    record { function = f.0; there = f.1; digest = d.1 ∙ ap Some (sym own); none = none_fails stands q (claims_in s) n f.0 (h.all.functions n f.0 f.1) }
