-- Where no function that isn't dirty has a failing condition, those of the dirty ones decide the verdict.
use Rattle.std.proofs.Common.{◌≡◌, ◌∙◌, ℕ, suc, ◌+◌, ◌≤◌, nat_lt, Bool, true, false, cond, List, [], ◌∷◌, ◌++◌, length, Option, Some, None, sym, ap, refl, arith}
use Rattle.std.specs.Prelude.{if◌then◌else◌, flat_map, slice_get}
use Rattle.std.specs.List.{filter, AllByRecursion}
use Rattle.std.proofs.lemmas.Bool.Decides.{nat_tests}
use Rattle.p10_base.specs.declared.span.Span.{Span}
use Rattle.p10_core.specs.Typed.{PlainFunction, PlainProgram}
use Rattle.p10_core.specs.WholePrograms.{numbers_from}
use Rattle.p10_cert.specs.Claims.{Claims}
use Rattle.p10_fit.specs.Fits.{unfit}
use Rattle.p10_flowrules.specs.declared.calls.AnyCall.{AnyCall}
use Rattle.p10_pass.specs.Passing.{Failing}
use Rattle.p10_check.specs.declared.verdict.Verdict.{Verdict}
use Rattle.p10_check.specs.declared.verdict.TextVerdict.{TextVerdict}
use Rattle.p10_check.specs.Shapes.{rising_calls, wrong_main, hidden_effects, low_total}
use Rattle.p10_check.specs.Sums.{short_steps, short_depths}
use Rattle.p10_check.specs.Passes.{Standing, left_by, unranked_loops}
use Rattle.p10_check.specs.Conditions.{failing_at_each, failures, first_failing, after_fitting, shape_failures, function_failures, function_failures_at, IsVerdict}
use Rattle.p10_check.specs.Texts.{StaleAt, claims_in, first_stale, JudgesBy}
use Rattle.p10_check.specs.private.Firsts.{earlier, earliest_from}
use Rattle.p10_check.proofs.Earliest.{earliest_is_first}
use Rattle.p10_incr.specs.Edits.{Edit, is_dirty, dirty}
use Rattle.p10_incr.specs.Rechecking.{first_of, first_from, first_by_number, failures_among, IsVerdictAmong, RechecksBy}
use Rattle.p10_incr.specs.Laws.{CleanFunctionsSuffice}

-- ## Failing conditions by number

abbrev AtLeast : ℕ → List Failing → Type 0
AtLeast k fails = AllByRecursion (λ (e : Failing). k ≤ e.k) fails

-- the first has the least number
abbrev Ordered : List Failing → Type 0
Ordered [] = Unit {0}
Ordered (e ∷ fails) = AtLeast e.k fails

-- the same, and none has a lower number than this
record Rows (k : ℕ) (fails : List Failing) : Type 0 where
  least : AtLeast k fails
  ordered : Ordered fails

lower : (k m : ℕ) (fails : List Failing) → k ≤ m → AtLeast m fails → AtLeast k fails
lower k m [] le h = tt
lower k m (e ∷ fails) le h = (omega (arith, le, h.0), lower k m fails le h.1)

at_each : (k : ℕ) (places : List Span) (rest : List Failing) → AtLeast k rest → AtLeast k (failing_at_each k places ++ rest)
at_each k [] rest h = h
at_each k (at ∷ places) rest h = (omega arith, at_each k places rest h)

ordered_row : (k : ℕ) (places : List Span) (rest : List Failing) → AtLeast k rest → Ordered rest → Ordered (failing_at_each k places ++ rest)
ordered_row k [] rest h ordered = ordered
ordered_row k (at ∷ places) rest h ordered = at_each k places rest h

row : (k m : ℕ) (places : List Span) (rest : List Failing) → k ≤ m → Rows m rest → Rows k (failing_at_each k places ++ rest)
row k m places rest le rows = record { least = at_each k places rest (lower k m rest le rows.least); ordered = ordered_row k places rest (lower k m rest le rows.least) rows.ordered }

last_row : (k : ℕ) (places : List Span) → Rows k (failing_at_each k places)
last_row k [] = record { least = tt; ordered = tt }
last_row k (at ∷ places) = let rest = last_row k places in record { least = (omega arith, rest.least); ordered = rest.least }

function_ordered : (stands : Standing) (p : PlainProgram) (c : Claims) (n : ℕ) (f : PlainFunction) → Ordered (function_failures stands p c n f)
function_ordered stands p c n f =
    (row 3 5 (left_by p c n).arguments _ (omega arith)
    (row 5 6 (left_by p c n).results _ (omega arith)
    (row 6 7 (left_by p c n).entries _ (omega arith)
    (row 7 8 (left_by p c n).backs _ (omega arith)
    (row 8 9 (unranked_loops stands c n 8 (left_by p c n).weak) _ (omega arith)
    (row 9 10 (unranked_loops stands c n 9 (left_by p c n).weak) _ (omega arith)
    (row 10 11 (unranked_loops stands c n 10 (left_by p c n).weak) _ (omega arith)
    (row 11 12 (short_steps p c.funcs n f) _ (omega arith)
    (last_row 12 (short_depths p c.funcs n f)))))))))).ordered

shape_ordered : (p : PlainProgram) (c : Claims) (late : List AnyCall) → Ordered (shape_failures p c late)
shape_ordered p c late =
    (row 2 4 (rising_calls p c.funcs) _ (omega arith)
    (row 4 13 (wrong_main p c.funcs) _ (omega arith)
    (row 13 14 (hidden_effects p c.funcs late) _ (omega arith)
    (last_row 14 (low_total p c))))).ordered

-- ## The first of them

pub from_both : (o : Option Failing) (xs ys : List Failing) → first_from o (xs ++ ys) ≡ first_from (first_from o xs) ys
from_both o [] ys = refl
from_both o (x ∷ xs) ys = from_both (Some (first_of o x)) xs ys

stays : (a : Failing) (rest : List Failing) → AtLeast a.k rest → first_from (Some a) rest ≡ Some a
stays a [] h = refl
stays a (b ∷ rest) h = let kept : nat_lt b.k a.k ≡ false = grind (arith, nat_tests, h.0) in ap (λ t. first_from (Some (if t then b else a)) rest) kept ∙ stays a rest h.1

no_greater : (o : Option Failing) (e : Failing) → (first_of o e).k ≤ e.k
no_greater None e = omega arith
no_greater (Some a) e = by_test (nat_lt e.k a.k) refl
  where
    by_test : (b : Bool) → nat_lt e.k a.k ≡ b → (if b then e else a).k ≤ e.k
    by_test true is = omega arith
    by_test false is = grind (arith, nat_tests, is)

one_earlier : (o : Option Failing) (e : Failing) → Some (first_of o e) ≡ earlier o (Some e)
one_earlier None e = refl
one_earlier (Some a) e = by_test (nat_lt e.k a.k)
  where
    by_test : (b : Bool) → Some (if b then e else a) ≡ (if b then Some e else Some a)
    by_test true = refl
    by_test false = refl

none_earlier : (o : Option Failing) → o ≡ earlier o None
none_earlier None = refl
none_earlier (Some a) = refl

ordered_first : (o : Option Failing) (fails : List Failing) → Ordered fails → first_from o fails ≡ earlier o (first_failing fails)
ordered_first o [] ordered = none_earlier o
ordered_first o (e ∷ rest) ordered = stays (first_of o e) rest (lower (first_of o e).k e.k rest (no_greater o e) ordered) ∙ one_earlier o e

-- ## All functions

same_places : (m : ℕ) → m + 0 ≡ m
same_places m = omega arith

next_places : (m j : ℕ) → m + suc j ≡ (m + 1) + j
next_places m j = omega arith

-- those of functions from number m on, which are these
among_from : (stands : Standing) (p : PlainProgram) (c : Claims) (m : ℕ) (fs : List PlainFunction) → ((j : ℕ) → slice_get p.functions (m + j) ≡ slice_get fs j) → (o : Option Failing)
    → first_from o (failures_among stands p c (numbers_from m (length fs))) ≡ earliest_from stands p c o m fs
among_from stands p c m [] there o = refl
among_from stands p c m (f ∷ fs) there o =
    let here : slice_get p.functions m ≡ Some f = ap (slice_get p.functions) (sym (same_places m)) ∙ there 0 in
    let rest : List Failing = failures_among stands p c (numbers_from (m + 1) (length fs)) in
    ap (λ g. first_from o (function_failures_at stands p c m g ++ rest)) here
    ∙ from_both o (function_failures stands p c m f) rest
    ∙ ap (λ first. first_from first rest) (ordered_first o (function_failures stands p c m f) (function_ordered stands p c m f))
    ∙ among_from stands p c (m + 1) fs (λ j. ap (slice_get p.functions) (sym (next_places m j)) ∙ there (suc j)) (earlier o (first_failing (function_failures stands p c m f)))

none_plus : (j : ℕ) → 0 + j ≡ j
none_plus j = omega arith

all_among : (stands : Standing) (p : PlainProgram) (c : Claims) (late : List AnyCall)
    → first_by_number (shape_failures p c late ++ failures_among stands p c (numbers_from 0 (length p.functions))) ≡ first_failing (failures stands p c late)
all_among stands p c late =
    from_both None (shape_failures p c late) (failures_among stands p c (numbers_from 0 (length p.functions)))
    ∙ ap (λ first. first_from first (failures_among stands p c (numbers_from 0 (length p.functions)))) (ordered_first None (shape_failures p c late) (shape_ordered p c late))
    ∙ among_from stands p c 0 p.functions (λ j. ap (slice_get p.functions) (none_plus j)) (first_failing (shape_failures p c late))
    ∙ earliest_is_first stands p c late (shape_failures p c late) refl

-- ## Clean functions

-- elements that give nothing may be left out
left_out : (test : ℕ → Bool) (g : ℕ → List Failing) (numbers : List ℕ) → ((n : ℕ) → test n ≡ false → g n ≡ []) → flat_map g (filter test numbers) ≡ flat_map g numbers
left_out test g [] none = refl
left_out test g (n ∷ numbers) none = by_test (test n) refl (left_out test g numbers none)
  where
    by_test : (b : Bool) → test n ≡ b → flat_map g (filter test numbers) ≡ flat_map g numbers → flat_map g (cond b (n ∷ filter test numbers) (filter test numbers)) ≡ g n ++ flat_map g numbers
    by_test true is rest = ap (λ fails. g n ++ fails) rest
    by_test false is rest = rest ∙ ap (λ fails. fails ++ flat_map g numbers) (sym (none n is))

clean_at : (stands : Standing) (p : PlainProgram) (c : Claims) (n : ℕ) (o : Option PlainFunction) → ((f : PlainFunction) → o ≡ Some f → function_failures stands p c n f ≡ []) → function_failures_at stands p c n o ≡ []
clean_at stands p c n None none = refl
clean_at stands p c n (Some f) none = none f refl

-- where functions are clean
abbrev Clean : Standing → PlainProgram → Edit → Type 0
Clean stands p e = (n : ℕ) (f : PlainFunction) → slice_get p.functions n ≡ Some f → is_dirty p e n ≡ false → function_failures stands p (claims_in e.new) n f ≡ []

first_same : (stands : Standing) (p : PlainProgram) (e : Edit) (late : List AnyCall) → Clean stands p e → (o : Option ℕ)
    → first_by_number (after_fitting p o (shape_failures p (claims_in e.new) late ++ failures_among stands p (claims_in e.new) (dirty p e))) ≡ first_failing (after_fitting p o (failures stands p (claims_in e.new) late))
first_same stands p e late clean (Some n) = refl
first_same stands p e late clean None =
    let c : Claims = claims_in e.new in
    ap (λ fails. first_by_number (shape_failures p c late ++ fails))
    (left_out (is_dirty p e) (λ n. function_failures_at stands p c n (slice_get p.functions n)) (numbers_from 0 (length p.functions)) (λ n isn't. clean_at stands p c n (slice_get p.functions n) (λ f there. clean n f there isn't)))
    ∙ all_among stands p c late

verdict_same : (stands : Standing) (p : PlainProgram) (e : Edit) (v : Verdict) → Clean stands p e → IsVerdictAmong stands p (claims_in e.new) (dirty p e) v → IsVerdict stands p (claims_in e.new) v
verdict_same stands p e v clean h = record {
  first = h.first;
  first_is = record { late = h.first_is.late; late_are = h.first_is.late_are; is = h.first_is.is ∙ first_same stands p e h.first_is.late clean (unfit p (claims_in e.new)) };
  is = h.is;
}

by_stale : (stands : Standing) (p : PlainProgram) (e : Edit) (verdict : TextVerdict) → Clean stands p e → (o : Option StaleAt) → RechecksBy stands p (claims_in e.new) (dirty p e) o verdict → JudgesBy stands p (claims_in e.new) o verdict
by_stale stands p e verdict clean (Some stale) is = is
by_stale stands p e verdict clean None is = (is.0, verdict_same stands p e is.0 clean is.1, is.2)

pub clean_functions_suffice : CleanFunctionsSuffice
clean_functions_suffice stands p e verdict clean is = by_stale stands p e verdict clean (first_stale 0 e.new.entries e.digests) is
