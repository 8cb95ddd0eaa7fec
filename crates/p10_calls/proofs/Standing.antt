-- The calls of functions, one after the other.
use Rattle.std.proofs.Common.{◌≡◌, ℕ, zero, suc, ◌+◌, ◌<◌, List, [], ◌∷◌, ◌++◌, length, map, get_or, drop, Some, refl, sym, ◌∙◌, ap, subst, append_assoc, arith, inl, inr}
use Rattle.std.specs.Prelude.{slice_get}
use Rattle.std.specs.List.{Contains}
use Rattle.std.proofs.lemmas.List.{map-append, drop_more}
use Rattle.std.proofs.lemmas.List.Elements.{filter_map-append, Contains-append_left, Contains-append_right, Contains-append_cases}
use Rattle.p10_core.specs.declared.program.Func.{Func}
use Rattle.p10_core.specs.declared.uses.FunctionUse.{FunctionUse}
use Rattle.p10_core.specs.Typed.{PlainFunction}
use Rattle.p10_core.specs.Nodes.{PlainNode}
use Rattle.p10_core.specs.Uses.{function_used}
use Rattle.p10_core.specs.Views.{plain_function}
use Rattle.p10_calls.specs.declared.sites.CallSite.{CallSite}
use Rattle.p10_calls.specs.CallSites.{calls_among, calls_by, site, sites_from}
use Rattle.p10_calls.proofs.Lists.{none_in, mapped, mapped_from}

-- the next node, and the calls among the nodes after it
pub node_more : (caller : ℕ) (old new : List CallSite) (n : PlainNode) (before after : List PlainNode) → before ≡ n ∷ after → new ≡ old ++ map (site caller) (calls_among (n ∷ []))
    → new ++ map (site caller) (calls_among after) ≡ old ++ map (site caller) (calls_among before)
node_more caller old new n before after e put =
    ap (λ l. l ++ map (site caller) (calls_among after)) put
    ∙ append_assoc old (map (site caller) (calls_among (n ∷ []))) (map (site caller) (calls_among after))
    ∙ ap (λ l. old ++ l) (sym (map-append (site caller) (calls_among (n ∷ [])) (calls_among after))
    ∙ ap (map (site caller)) (sym (filter_map-append function_used (n ∷ []) after) ∙ ap calls_among (sym e)))

-- the next function, and the calls of those after it
pub function_more : (fs : List Func) (i : ℕ) (d : Func) (old new : List CallSite) → i < length fs → new ≡ old ++ map (site i) (calls_by (plain_function (get_or fs i d)))
    → new ++ sites_from (i + 1) (map plain_function (drop (i + 1) fs)) ≡ old ++ sites_from i (map plain_function (drop i fs))
function_more fs i d old new inside put =
    ap (λ l. l ++ sites_from (i + 1) (map plain_function (drop (i + 1) fs))) put
    ∙ append_assoc old (map (site i) (calls_by (plain_function (get_or fs i d)))) (sites_from (i + 1) (map plain_function (drop (i + 1) fs)))
    ∙ ap (λ (l : List Func). old ++ sites_from i (map plain_function l)) (sym (drop_more fs i d inside))

-- ## Where a call stands

-- a call stands in the body of one of functions, of which the first one has the number `from`
pub record StandsIn (from : ℕ) (fs : List PlainFunction) (s : CallSite) : Type 0 where
  pub place : ℕ
  pub function : PlainFunction
  pub caller_is : s.caller ≡ from + place
  pub there : slice_get fs place ≡ Some function
  pub made : Contains (calls_by function) s.call

pub stands_in : (from : ℕ) (fs : List PlainFunction) (s : CallSite) → Contains (sites_from from fs) s → StandsIn from fs s
stands_in from [] s held = absurd (none_in s held)
stands_in from (f ∷ fs) s held =
    elim (Contains-append_cases (map (site from) (calls_by f)) (sites_from (from + 1) fs) s held) [
      | inl first ↦ let found = mapped_from (site from) (calls_by f) s first in record {
        place = 0;
        function = f;
        caller_is = let e : from ≡ s.caller = ap (λ (t : CallSite). t.caller) found.2 in omega (arith, e);
        there = refl;
        made = subst (λ (t : CallSite). Contains (calls_by f) t.call) found.2 found.1;
      }
      | inr later ↦ let rest = stands_in (from + 1) fs s later in record {
        place = suc rest.place;
        function = rest.function;
        caller_is = let e : s.caller ≡ from + 1 + rest.place = rest.caller_is in omega (arith, e);
        there = rest.there;
        made = rest.made;
      }
    ]

pub site_there : (from place : ℕ) (fs : List PlainFunction) (f : PlainFunction) (c : FunctionUse) → slice_get fs place ≡ Some f → Contains (calls_by f) c → Contains (sites_from from fs) (site (from + place) c)
site_there from place [] f c e held = absurd cc
site_there from zero (g ∷ fs) f c e held =
    let same : g ≡ f = cc in
    let number : from + 0 ≡ from = omega arith in
    Contains-append_left (map (site from) (calls_by g)) (sites_from (from + 1) fs) (site (from + 0) c)
    (subst (λ (n : ℕ). Contains (map (site from) (calls_by g)) (site n c)) (sym number) (mapped (site from) (calls_by g) c (subst (λ (h : PlainFunction). Contains (calls_by h) c) (sym same) held)))
site_there from (suc place) (g ∷ fs) f c e held =
    let number : from + 1 + place ≡ from + suc place = omega arith in
    Contains-append_right (map (site from) (calls_by g)) (sites_from (from + 1) fs) (site (from + suc place) c)
    (subst (λ (n : ℕ). Contains (sites_from (from + 1) fs) (site n c)) number (site_there (from + 1) place fs f c e held))
