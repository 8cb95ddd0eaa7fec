-- Of a function that isn't dirty no callee is touched.
use Rattle.std.proofs.Common.{◌≡◌, ◌∙◌, ℕ, zero, suc, ◌+◌, nat_eq, ◌&&◌, ◌||◌, Bool, false, List, [], ◌∷◌, ◌++◌, map, Option, Some, None, refl, sym, ap, arith, eq-eqb}
use Rattle.std.specs.Prelude.{slice_get}
use Rattle.std.specs.List.{list_any, AllByRecursion}
use Rattle.p10_core.specs.declared.uses.FunctionUse.{FunctionUse}
use Rattle.p10_core.specs.Typed.{PlainFunction, PlainProgram}
use Rattle.p10_core.specs.Nodes.{PlainNode, nodes_of_statements}
use Rattle.p10_core.specs.Uses.{function_used}
use Rattle.p10_calls.specs.declared.sites.CallSite.{CallSite}
use Rattle.p10_calls.specs.CallSites.{calls_among, calls_by, site, sites_from}
use Rattle.p10_sums.specs.Depths.{callees}
use Rattle.p10_rechecks.proofs.Kept.{neither_holds}

-- none of two lists meets a test
any_both : (test : CallSite → Bool) (xs ys : List CallSite) → list_any test (xs ++ ys) ≡ false → (list_any test xs ≡ false) × (list_any test ys ≡ false)
any_both test [] ys h = (refl, h)
any_both test (x ∷ xs) ys h =
    let parts = neither_holds (test x) (list_any test (xs ++ ys)) h in
    let rest = any_both test xs ys parts.1 in
    (ap (λ b. b || list_any test xs) parts.0 ∙ rest.0, rest.1)

-- whether a call is of a function that meets a test, and stands in one with a number
abbrev pub calls_in : ℕ → (ℕ → Bool) → CallSite → Bool
calls_in n touched s = nat_eq s.caller n && touched s.call.function

no_calls : (n : ℕ) (touched : ℕ → Bool) (calls : List FunctionUse) → list_any (calls_in n touched) (map (site n) calls) ≡ false → AllByRecursion (λ (u : FunctionUse). touched u.function ≡ false) calls
no_calls n touched [] h = tt
no_calls n touched (u ∷ calls) h =
    let parts = neither_holds (nat_eq n n && touched u.function) (list_any (calls_in n touched) (map (site n) calls)) h in
    (sym (ap (λ b. b && touched u.function) (eq-eqb n n refl)) ∙ parts.0, no_calls n touched calls parts.1)

-- those of the functions from a number on, of which one stands at a place
calls_there : (n from k : ℕ) (touched : ℕ → Bool) (functions : List PlainFunction) (g : PlainFunction) → n ≡ from + k → slice_get functions k ≡ Some g → list_any (calls_in n touched) (sites_from from functions) ≡ false
    → AllByRecursion (λ (u : FunctionUse). touched u.function ≡ false) (calls_by g)
calls_there n from k touched [] g at there h = cc
calls_there n from zero touched (f ∷ functions) g at there h =
    let here : f ≡ g = cc in
    let same : n ≡ from = omega (arith, at) in
    let parts = any_both (calls_in n touched) (map (site from) (calls_by f)) (sites_from (from + 1) functions) h in
    no_calls n touched (calls_by g) ((λ i. list_any (calls_in n touched) (map (site (same i)) (calls_by (sym here i)))) ∙ parts.0)
calls_there n from (suc k) touched (f ∷ functions) g at there h =
    calls_there n (from + 1) k touched functions g (omega (arith, at)) there (any_both (calls_in n touched) (map (site from) (calls_by f)) (sites_from (from + 1) functions) h).1

-- callees by the calls
callees_by : (T : ℕ → Type 0) (nodes : List PlainNode) → AllByRecursion (λ (u : FunctionUse). T u.function) (calls_among nodes) → AllByRecursion T (callees nodes)
callees_by T [] h = tt
callees_by T (n ∷ nodes) h = by_use (function_used n) refl h (callees_by T nodes)
  where
    by_use : (o : Option FunctionUse) → function_used n ≡ o → AllByRecursion (λ (u : FunctionUse). T u.function) (calls_among (n ∷ nodes)) → (AllByRecursion (λ (u : FunctionUse). T u.function) (calls_among nodes) → AllByRecursion T (callees nodes))
        → AllByRecursion T (callees (n ∷ nodes))
    by_use None is h rest = rw is (rest (rw is at h))
    by_use (Some u) is h rest = rw is ((rw is at h).0, rest (rw is at h).1)

pub callees_untouched : (p : PlainProgram) (touched : ℕ → Bool) (n : ℕ) (g : PlainFunction) → slice_get p.functions n ≡ Some g → list_any (calls_in n touched) (sites_from 0 p.functions) ≡ false
    → AllByRecursion (λ m. touched m ≡ false) (callees (nodes_of_statements g.body))
callees_untouched p touched n g there h = callees_by (λ m. touched m ≡ false) (nodes_of_statements g.body) (calls_there n 0 n touched p.functions g (omega arith) there h)

pub all_weaker : (P Q : ℕ → Type 0) → ((n : ℕ) → P n → Q n) → (numbers : List ℕ) → AllByRecursion P numbers → AllByRecursion Q numbers
all_weaker P Q each [] h = tt
all_weaker P Q each (n ∷ numbers) h = (each n h.0, all_weaker P Q each numbers h.1)
