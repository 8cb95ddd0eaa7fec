-- The first failing condition by number, program order and text order is the earliest of the first ones of parts.
use Rattle.std.proofs.Common.{◌≡◌, ◌∙◌, ℕ, zero, suc, ◌+◌, ◌<◌, ◌≤◌, nat_lt, Bool, true, false, List, [], ◌∷◌, ◌++◌, length, map, drop, Option, Some, None, sym, ap, refl, arith}
use Rattle.std.specs.Prelude.{if◌then◌else◌, slice_get}
use Rattle.std.proofs.lemmas.List.{append-nil}
use Rattle.std.proofs.lemmas.Bool.Decides.{nat_tests}
use Rattle.p10_base.specs.declared.span.Span.{Span}
use Rattle.p10_core.specs.declared.program.Func.{Func}
use Rattle.p10_core.specs.Typed.{PlainFunction, PlainProgram}
use Rattle.p10_core.specs.Views.{plain_function}
use Rattle.p10_cert.specs.Claims.{Claims}
use Rattle.p10_fit.specs.Fits.{unfit}
use Rattle.p10_flowrules.specs.declared.calls.AnyCall.{AnyCall}
use Rattle.p10_pass.specs.Passing.{Failing}
use Rattle.p10_check.specs.declared.verdict.Verdict.{Verdict}
use Rattle.p10_check.specs.Places.{places_from}
use Rattle.p10_check.specs.Shapes.{rising_calls, wrong_main, hidden_effects, low_total}
use Rattle.p10_check.specs.Sums.{short_steps, short_depths}
use Rattle.p10_check.specs.Passes.{Standing, left_by, unranked_loops}
use Rattle.p10_check.specs.Conditions.{failing_at_each, failures, first_failing, after_fitting, shape_failures, function_failures, function_failures_at, verdict_by, IsVerdict}
use Rattle.p10_check.specs.private.Firsts.{AreAfterFitting, earlier, earliest_from, first_after}

-- ## The earlier of two

-- a failing condition, if there is one, has a greater number
abbrev Later : ℕ → Option Failing → Type 0
Later k None = Unit {0}
Later k (Some e) = k < e.k

earlier_none : (a : Option Failing) → earlier a None ≡ a
earlier_none None = refl
earlier_none (Some a) = refl

not_lower : (a b : Failing) (later : nat_lt b.k a.k ≡ false) → earlier (Some a) (Some b) ≡ Some a
not_lower a b later = ap (λ t. if t then Some b else Some a) later

-- one keeps its place before others that are later, or have its number
keeps : (a : Failing) (o : Option Failing) → Later a.k o → earlier (Some a) o ≡ Some a
keeps a None later = refl
keeps a (Some b) later = let kept : nat_lt b.k a.k ≡ false = grind (arith, nat_tests, later) in not_lower a b kept

keeps_same : (k : ℕ) (x y : Span) → earlier (Some (record { k = k; at = x })) (Some (record { k = k; at = y })) ≡ Some (record { k = k; at = x })
keeps_same k x y = let same : nat_lt k k ≡ false = grind (arith, nat_tests) in not_lower (record { k = k; at = x }) (record { k = k; at = y }) same

-- one comes before what is later
overtakes : (b : Failing) (o : Option Failing) → Later b.k o → earlier o (Some b) ≡ Some b
overtakes b None later = refl
overtakes b (Some a) later = let lower : nat_lt b.k a.k ≡ true = grind (arith, nat_tests, later) in ap (λ t. if t then Some b else Some a) lower

left_case : (x : Bool) (a b c : Failing) → earlier (if x then Some b else Some a) (Some c) ≡ (if x then (if nat_lt c.k b.k then Some c else Some b) else (if nat_lt c.k a.k then Some c else Some a))
left_case true a b c = refl
left_case false a b c = refl

right_case : (y : Bool) (a b c : Failing) → earlier (Some a) (if y then Some c else Some b) ≡ (if y then (if nat_lt c.k a.k then Some c else Some a) else (if nat_lt b.k a.k then Some b else Some a))
right_case true a b c = refl
right_case false a b c = refl

by_tests : (x y z : Bool) (a b c : Option Failing) → (x ≡ true → y ≡ true → z ≡ true) → (x ≡ false → y ≡ false → z ≡ false)
    → (if x then (if y then c else b) else (if z then c else a)) ≡ (if y then (if z then c else a) else (if x then b else a))
by_tests true true true a b c both none = refl
by_tests true true false a b c both none = let no : false ≡ true = both refl refl in cc
by_tests true false z a b c both none = refl
by_tests false true z a b c both none = refl
by_tests false false true a b c both none = let no : true ≡ false = none refl refl in cc
by_tests false false false a b c both none = refl

three : (a b c : Option Failing) → earlier (earlier a b) c ≡ earlier a (earlier b c)
three None b c = refl
three (Some a) None c = refl
three (Some a) (Some b) None = earlier_none (earlier (Some a) (Some b))
three (Some a) (Some b) (Some c) =
    left_case (nat_lt b.k a.k) a b c
    ∙ by_tests (nat_lt b.k a.k) (nat_lt c.k b.k) (nat_lt c.k a.k) (Some a) (Some b) (Some c) (λ p q. grind (arith, nat_tests, p, q)) (λ p q. grind (arith, nat_tests, p, q))
    ∙ sym (right_case (nat_lt c.k b.k) a b c)

-- ## Conditions by number

-- numbers that rise, all greater than one
abbrev Rise : ℕ → List ℕ → Type 0
Rise k [] = Unit {0}
Rise k (n ∷ rest) = (k < n) × Rise n rest

-- the conditions with these numbers, each at its places
abbrev listed : List ℕ → List (List Span) → List Failing
listed [] rows = []
listed (k ∷ ks) [] = []
listed (k ∷ ks) (places ∷ rows) = failing_at_each k places ++ listed ks rows

-- the places of two parts, number by number
abbrev joined : List (List Span) → List (List Span) → List (List Span)
joined [] others = others
joined (places ∷ rows) [] = places ∷ rows
joined (places ∷ rows) (more ∷ others) = (places ++ more) ∷ joined rows others

later_than : (k n : ℕ) (o : Option Failing) → k < n → Later n o → Later k o
later_than k n None lt later = tt
later_than k n (Some e) lt later = omega arith

all_later : (k : ℕ) (ks : List ℕ) (rows : List (List Span)) → Rise k ks → Later k (first_failing (listed ks rows))
all_later k [] rows rise = tt
all_later k (n ∷ ks) [] rise = tt
all_later k (n ∷ ks) ([] ∷ rows) rise = later_than k n (first_failing (listed ks rows)) rise.0 (all_later n ks rows rise.1)
all_later k (n ∷ ks) ((x ∷ xs) ∷ rows) rise = rise.0

-- the first of two parts is the earlier of the first of each
first_joined : (k : ℕ) (ks : List ℕ) (these others : List (List Span)) → Rise k ks
    → first_failing (listed ks (joined these others)) ≡ earlier (first_failing (listed ks these)) (first_failing (listed ks others))
first_joined k [] these others rise = refl
first_joined k (n ∷ ks) [] others rise = refl
first_joined k (n ∷ ks) (places ∷ rows) [] rise = sym (earlier_none (first_failing (listed (n ∷ ks) (places ∷ rows))))
first_joined k (n ∷ ks) ((x ∷ xs) ∷ rows) ((y ∷ ys) ∷ others) rise = sym (keeps_same n x y)
first_joined k (n ∷ ks) ((x ∷ xs) ∷ rows) ([] ∷ others) rise = sym (keeps (record { k = n; at = x }) (first_failing (listed ks others)) (all_later n ks others rise.1))
first_joined k (n ∷ ks) ([] ∷ rows) ((y ∷ ys) ∷ others) rise = sym (overtakes (record { k = n; at = y }) (first_failing (listed ks rows)) (all_later n ks rows rise.1))
first_joined k (n ∷ ks) ([] ∷ rows) ([] ∷ others) rise = first_joined n ks rows others rise.1

-- ## The conditions K2 to K14

abbrev numbers : List ℕ
numbers = 2 ∷ 3 ∷ 4 ∷ 5 ∷ 6 ∷ 7 ∷ 8 ∷ 9 ∷ 10 ∷ 11 ∷ 12 ∷ 13 ∷ 14 ∷ []

they_rise : Rise 1 numbers
they_rise =
    (omega arith, (omega arith, (omega arith, (omega arith, (omega arith, (omega arith, (omega arith, (omega arith, (omega arith, (omega arith, (omega arith, (omega arith, (omega arith, tt)))))))))))))

-- the places of K2, K4, K13 and K14
abbrev shape_rows : PlainProgram → Claims → List AnyCall → List (List Span)
shape_rows p c late = rising_calls p c.funcs ∷ [] ∷ wrong_main p c.funcs ∷ [] ∷ [] ∷ [] ∷ [] ∷ [] ∷ [] ∷ [] ∷ [] ∷ hidden_effects p c.funcs late ∷ low_total p c ∷ []

-- the places of K3 and K5 to K12 in a function
abbrev function_rows : Standing → PlainProgram → Claims → ℕ → PlainFunction → List (List Span)
function_rows stands p c n f =
    [] ∷ (left_by p c n).arguments ∷ [] ∷ (left_by p c n).results ∷ (left_by p c n).entries ∷ (left_by p c n).backs
    ∷ unranked_loops stands c n 8 (left_by p c n).weak ∷ unranked_loops stands c n 9 (left_by p c n).weak ∷ unranked_loops stands c n 10 (left_by p c n).weak
    ∷ short_steps p c.funcs n f ∷ short_depths p c.funcs n f ∷ []

-- the same in functions, of which the first one has this number
abbrev functions_rows : Standing → PlainProgram → Claims → ℕ → List PlainFunction → List (List Span)
functions_rows stands p c n fs =
    [] ∷ places_from (λ n f. (left_by p c n).arguments) n fs ∷ [] ∷ places_from (λ n f. (left_by p c n).results) n fs ∷ places_from (λ n f. (left_by p c n).entries) n fs ∷ places_from (λ n f. (left_by p c n).backs) n fs
    ∷ places_from (λ n f. unranked_loops stands c n 8 (left_by p c n).weak) n fs ∷ places_from (λ n f. unranked_loops stands c n 9 (left_by p c n).weak) n fs ∷ places_from (λ n f. unranked_loops stands c n 10 (left_by p c n).weak) n fs
    ∷ places_from (short_steps p c.funcs) n fs ∷ places_from (short_depths p c.funcs) n fs ∷ []

shape_listed : (p : PlainProgram) (c : Claims) (late : List AnyCall) → listed numbers (shape_rows p c late) ≡ shape_failures p c late
shape_listed p c late =
    ap (λ last. failing_at_each 2 (rising_calls p c.funcs) ++ (failing_at_each 4 (wrong_main p c.funcs) ++ (failing_at_each 13 (hidden_effects p c.funcs late) ++ last))) (append-nil (failing_at_each 14 (low_total p c)))

function_listed : (stands : Standing) (p : PlainProgram) (c : Claims) (n : ℕ) (f : PlainFunction) → listed numbers (function_rows stands p c n f) ≡ function_failures stands p c n f
function_listed stands p c n f =
    ap (λ last. failing_at_each 3 (left_by p c n).arguments
    ++ (failing_at_each 5 (left_by p c n).results
    ++ (failing_at_each 6 (left_by p c n).entries
    ++ (failing_at_each 7 (left_by p c n).backs
    ++ (failing_at_each 8 (unranked_loops stands c n 8 (left_by p c n).weak)
    ++ (failing_at_each 9 (unranked_loops stands c n 9 (left_by p c n).weak)
    ++ (failing_at_each 10 (unranked_loops stands c n 10 (left_by p c n).weak)
    ++ (failing_at_each 11 (short_steps p c.funcs n f)
    ++ last)))))))) (append-nil (failing_at_each 12 (short_depths p c.funcs n f)))

-- the places of all
abbrev all_rows : Standing → PlainProgram → Claims → List AnyCall → List Span → List Span → List (List Span)
all_rows stands p c late rising wrong =
    rising ∷ places_from (λ n f. (left_by p c n).arguments) 0 p.functions ∷ wrong ∷ places_from (λ n f. (left_by p c n).results) 0 p.functions ∷ places_from (λ n f. (left_by p c n).entries) 0 p.functions
    ∷ places_from (λ n f. (left_by p c n).backs) 0 p.functions
    ∷ places_from (λ n f. unranked_loops stands c n 8 (left_by p c n).weak) 0 p.functions ∷ places_from (λ n f. unranked_loops stands c n 9 (left_by p c n).weak) 0 p.functions
    ∷ places_from (λ n f. unranked_loops stands c n 10 (left_by p c n).weak) 0 p.functions
    ∷ places_from (short_steps p c.funcs) 0 p.functions ∷ places_from (short_depths p c.funcs) 0 p.functions ∷ hidden_effects p c.funcs late ∷ low_total p c ∷ []

all_joined : (stands : Standing) (p : PlainProgram) (c : Claims) (late : List AnyCall)
    → listed numbers (joined (shape_rows p c late) (functions_rows stands p c 0 p.functions)) ≡ listed numbers (all_rows stands p c late (rising_calls p c.funcs) (wrong_main p c.funcs))
all_joined stands p c late = λ i. listed numbers (all_rows stands p c late (append-nil (rising_calls p c.funcs) i) (append-nil (wrong_main p c.funcs) i))

first_of_all : (stands : Standing) (p : PlainProgram) (c : Claims) (late : List AnyCall)
    → first_failing (listed numbers (all_rows stands p c late (rising_calls p c.funcs) (wrong_main p c.funcs))) ≡ first_failing (failures stands p c late)
first_of_all stands p c late = ap first_failing (simp append-nil)

-- the earliest of one and of those that fail in functions
from_functions : (stands : Standing) (p : PlainProgram) (c : Claims) (first : Option Failing) (n : ℕ) (fs : List PlainFunction)
    → earliest_from stands p c first n fs ≡ earlier first (first_failing (listed numbers (functions_rows stands p c n fs)))
from_functions stands p c first n [] = sym (earlier_none first)
from_functions stands p c first n (f ∷ fs) =
    from_functions stands p c (earlier first (first_failing (function_failures stands p c n f))) (n + 1) fs
    ∙ three first (first_failing (function_failures stands p c n f)) (first_failing (listed numbers (functions_rows stands p c (n + 1) fs)))
    ∙ ap (λ own. earlier first (earlier (first_failing own) (first_failing (listed numbers (functions_rows stands p c (n + 1) fs))))) (sym (function_listed stands p c n f))
    ∙ ap (earlier first) (sym (first_joined 1 numbers (function_rows stands p c n f) (functions_rows stands p c (n + 1) fs) they_rise))

-- the earliest of those that fail in shape and in functions is the first
pub earliest_is_first : (stands : Standing) (p : PlainProgram) (c : Claims) (late : List AnyCall) (fails : List Failing) → fails ≡ shape_failures p c late
    → earliest_from stands p c (first_failing fails) 0 p.functions ≡ first_failing (failures stands p c late)
earliest_is_first stands p c late fails are =
    from_functions stands p c (first_failing fails) 0 p.functions
    ∙ ap (λ xs. earlier (first_failing xs) (first_failing (listed numbers (functions_rows stands p c 0 p.functions)))) (are ∙ sym (shape_listed p c late))
    ∙ sym (first_joined 1 numbers (shape_rows p c late) (functions_rows stands p c 0 p.functions) they_rise)
    ∙ ap first_failing (all_joined stands p c late)
    ∙ first_of_all stands p c late

-- ## What the code finds

after_first : (p : PlainProgram) (o : Option ℕ) (fails : List Failing) → first_after p o (first_failing fails) ≡ first_failing (after_fitting p o fails)
after_first p (Some n) fails = refl
after_first p None fails = refl

-- the verdict by the earliest
pub verdict_is : (stands : Standing) (p : PlainProgram) (c : Claims) (shape : List Failing) (first : Option Failing) (verdict : Verdict) → AreAfterFitting p c shape
    → first ≡ first_after p (unfit p c) (earliest_from stands p c (first_failing shape) 0 p.functions) → verdict ≡ verdict_by c.total first → IsVerdict stands p c verdict
verdict_is stands p c shape first verdict fitting found is = record {
  first = first;
  first_is = record {
    late = fitting.late;
    late_are = fitting.late_are;
    is = found ∙ ap (first_after p (unfit p c)) (earliest_is_first stands p c fitting.late shape fitting.are) ∙ after_first p (unfit p c) (failures stands p c fitting.late);
  };
  is = is;
}

-- what stands at a place among functions
at_place : (all : List Func) (n : ℕ) → n < length all → (f : Func) × (drop n all ≡ f ∷ drop (n + 1) all) × (slice_get (map plain_function all) n ≡ Some (plain_function f))
at_place [] n lt = let no : ⊥ = omega arith in absurd no
at_place (x ∷ xs) zero lt = (x, refl, refl)
at_place (x ∷ xs) (suc n) lt =
    let there : (f : Func) × (drop n xs ≡ f ∷ drop (n + 1) xs) × (slice_get (map plain_function xs) n ≡ Some (plain_function f)) = at_place xs n (omega (arith, lt)) in
    let same : suc (n + 1) ≡ suc n + 1 = omega arith in
    (there.0, there.1 ∙ ap (λ k. there.0 ∷ drop k (x ∷ xs)) same, there.2)

-- the earliest, once one function more was looked at
pub earliest_step : (stands : Standing) (p : PlainProgram) (c : Claims) (all : List Func) (n : ℕ) (found next whole : Option Failing) (fails : List Failing) → n < length all
    → fails ≡ function_failures_at stands p c n (slice_get (map plain_function all) n) → next ≡ earlier found (first_failing fails)
    → earliest_from stands p c found n (map plain_function (drop n all)) ≡ whole
    → earliest_from stands p c next (n + 1) (map plain_function (drop (n + 1) all)) ≡ whole
earliest_step stands p c all n found next whole fails lt own now before = of (at_place all n lt)
  where
    of : (f : Func) × (drop n all ≡ f ∷ drop (n + 1) all) × (slice_get (map plain_function all) n ≡ Some (plain_function f)) → earliest_from stands p c next (n + 1) (map plain_function (drop (n + 1) all)) ≡ whole
    of there =
        ap (λ o. earliest_from stands p c o (n + 1) (map plain_function (drop (n + 1) all))) (now ∙ ap (λ xs. earlier found (first_failing xs)) (own ∙ ap (function_failures_at stands p c n) there.2))
        ∙ ap (λ fs. earliest_from stands p c found n (map plain_function fs)) (sym there.1) ∙ before

drop_all : {X : Type 0} (all : List X) (i : ℕ) → length all ≤ i → drop i all ≡ []
drop_all [] zero past = refl
drop_all [] (suc i) past = refl
drop_all (x ∷ xs) zero past = let no : ⊥ = omega arith in absurd no
drop_all (x ∷ xs) (suc i) past = drop_all xs i (omega (arith, past))

-- the earliest, once all were looked at
pub earliest_done : (stands : Standing) (p : PlainProgram) (c : Claims) (all : List Func) (n : ℕ) (found whole : Option Failing) → length all ≤ n
    → earliest_from stands p c found n (map plain_function (drop n all)) ≡ whole → found ≡ whole
earliest_done stands p c all n found whole past before = sym (ap (λ fs. earliest_from stands p c found n (map plain_function fs)) (drop_all all n past)) ∙ before
