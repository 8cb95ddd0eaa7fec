-- Accepted certificates, and those of which all conditions hold.
use Rattle.std.proofs.Common.{◌≡◌, ◌∙◌, ℕ, zero, suc, ◌+◌, List, [], ◌∷◌, ◌++◌, Option, Some, None, sym, ap, refl, subst, arith}
use Rattle.std.specs.Prelude.{slice_get}
use Rattle.p10_base.specs.declared.span.Span.{Span}
use Rattle.p10_base.specs.declared.report.Bounds.{Bounds}
use Rattle.p10_core.specs.Typed.{PlainFunction, PlainProgram}
use Rattle.p10_cert.specs.Claims.{Claims}
use Rattle.p10_fit.specs.Fits.{unfit}
use Rattle.p10_calls.proofs.Lists.{those_are_one}
use Rattle.p10_flowrules.specs.declared.calls.AnyCall.{AnyCall}
use Rattle.p10_flowrules.specs.Allocating.{IsAllocating, late_calls}
use Rattle.p10_pass.specs.Passing.{Failing}
use Rattle.p10_check.specs.declared.verdict.Verdict.TheVariants.{Accepted}
use Rattle.p10_check.specs.Places.{places_from, all_places}
use Rattle.p10_check.specs.Shapes.{rising_calls, wrong_main, hidden_effects, low_total}
use Rattle.p10_check.specs.Sums.{short_steps, short_depths}
use Rattle.p10_check.specs.Passes.{Standing, left_by, unranked_loops, wrong_arguments, wrong_results, wrong_entries, wrong_backs, wrong_ranks}
use Rattle.p10_check.specs.Conditions.{failing_at_each, failures, first_failing, after_fitting, first_failure, verdict_by}
use Rattle.p10_check.specs.Accepting.{HoldsIn, Holds, AcceptedHold, HoldingAccepts, OneVerdict}

-- ## One verdict

pub one_verdict : OneVerdict
one_verdict stands p c these others one other =
    one.is ∙ ap (verdict_by c.total) same ∙ sym other.is
  where
    same : one.first ≡ other.first
    same =
        one.first_is.is
        ∙ ap (first_failure stands p c) (those_are_one (λ c. IsAllocating p c.called) (late_calls p) one.first_is.late other.first_is.late one.first_is.late_are other.first_is.late_are)
        ∙ sym other.first_is.is

-- ## What holds where nothing fails

none_first : (fails : List Failing) → first_failing fails ≡ None → fails ≡ []
none_first [] none = refl
none_first (e ∷ rest) none = cc

front_none : {A : Type 0} (xs ys : List A) → xs ++ ys ≡ [] → xs ≡ []
front_none [] ys none = refl
front_none (x ∷ xs) ys none = cc

back_none : {A : Type 0} (xs ys : List A) → xs ++ ys ≡ [] → ys ≡ []
back_none [] ys none = none
back_none (x ∷ xs) ys none = cc

no_places : (k : ℕ) (places : List Span) → failing_at_each k places ≡ [] → places ≡ []
no_places k [] none = refl
no_places k (at ∷ places) none = cc

fitting_first : (p : PlainProgram) (o : Option ℕ) (fails : List Failing) → first_failing (after_fitting p o fails) ≡ None → (o ≡ None) × (fails ≡ [])
fitting_first p None fails none = (refl, none_first fails none)
fitting_first p (Some n) fails none = cc

accepted_first : (b total : Bounds) (o : Option Failing) → Accepted b ≡ verdict_by total o → (b ≡ total) × (o ≡ None)
accepted_first b total None is = (cc, refl)
accepted_first b total (Some e) is = cc

-- no function has a place among those of all
none_in : (places : ℕ → PlainFunction → List Span) (from : ℕ) (functions : List PlainFunction) → places_from places from functions ≡ []
    → (n : ℕ) (f : PlainFunction) → slice_get functions n ≡ Some f → places (from + n) f ≡ []
none_in places from [] none n f there = cc
none_in places from (g ∷ functions) none zero f there =
    let same : g ≡ f = cc in
    (λ i. places ((let z : from + 0 ≡ from = omega arith in z) i) (sym same i)) ∙ front_none (places from g) (places_from places (from + 1) functions) none
none_in places from (g ∷ functions) none (suc n) f there =
    let next : from + suc n ≡ from + 1 + n = omega arith in
    ap (λ k. places k f) next ∙ none_in places (from + 1) functions (back_none (places from g) (places_from places (from + 1) functions) none) n f there

none_at : (p : PlainProgram) (places : ℕ → PlainFunction → List Span) → all_places p places ≡ [] → (n : ℕ) (f : PlainFunction) → slice_get p.functions n ≡ Some f → places n f ≡ []
none_at p places none n f there =
    let same : 0 + n ≡ n = omega arith in
    subst (λ k. places k f ≡ []) same (none_in places 0 p.functions none n f there)

-- all have none
all_none : (places : ℕ → PlainFunction → List Span) (from : ℕ) (functions : List PlainFunction)
    → ((n : ℕ) (f : PlainFunction) → slice_get functions n ≡ Some f → places (from + n) f ≡ []) → places_from places from functions ≡ []
all_none places from [] each = refl
all_none places from (f ∷ functions) each =
    let here : from + 0 ≡ from = omega arith in
    ap (λ xs. xs ++ places_from places (from + 1) functions) (subst (λ k. places k f ≡ []) here (each 0 f refl))
    ∙ all_none places (from + 1) functions (λ n g there. let next : from + suc n ≡ from + 1 + n = omega arith in subst (λ k. places k g ≡ []) next (each (suc n) g there))

all_none_at : (p : PlainProgram) (places : ℕ → PlainFunction → List Span) → ((n : ℕ) (f : PlainFunction) → slice_get p.functions n ≡ Some f → places n f ≡ []) → all_places p places ≡ []
all_none_at p places each = all_none places 0 p.functions (λ n f there. let same : n ≡ 0 + n = omega arith in subst (λ k. places k f ≡ []) same (each n f there))

-- the places of each condition, where there is no failure
record NoFailures (stands : Standing) (p : PlainProgram) (c : Claims) (late : List AnyCall) : Type 0 where
  ranks : rising_calls p c.funcs ≡ []
  arguments : wrong_arguments p c ≡ []
  main : wrong_main p c.funcs ≡ []
  results : wrong_results p c ≡ []
  entries : wrong_entries p c ≡ []
  backs : wrong_backs p c ≡ []
  entered : wrong_ranks stands p c 8 ≡ []
  falling : wrong_ranks stands p c 9 ≡ []
  turns : wrong_ranks stands p c 10 ≡ []
  steps : all_places p (short_steps p c.funcs) ≡ []
  depths : all_places p (short_depths p c.funcs) ≡ []
  effects : hidden_effects p c.funcs late ≡ []
  total : low_total p c ≡ []

-- one condition fails nowhere, and what follows doesn't either
split : (k : ℕ) (places : List Span) (rest : List Failing) → failing_at_each k places ++ rest ≡ [] → (places ≡ []) × (rest ≡ [])
split k places rest none = (no_places k places (front_none (failing_at_each k places) rest none), back_none (failing_at_each k places) rest none)

nothing_fails : (stands : Standing) (p : PlainProgram) (c : Claims) (late : List AnyCall) → failures stands p c late ≡ [] → NoFailures stands p c late
nothing_fails stands p c late none =
    let k2 = split 2 (rising_calls p c.funcs) _ none in
    let k3 = split 3 (wrong_arguments p c) _ k2.1 in
    let k4 = split 4 (wrong_main p c.funcs) _ k3.1 in
    let k5 = split 5 (wrong_results p c) _ k4.1 in
    let k6 = split 6 (wrong_entries p c) _ k5.1 in
    let k7 = split 7 (wrong_backs p c) _ k6.1 in
    let k8 = split 8 (wrong_ranks stands p c 8) _ k7.1 in
    let k9 = split 9 (wrong_ranks stands p c 9) _ k8.1 in
    let k10 = split 10 (wrong_ranks stands p c 10) _ k9.1 in
    let k11 = split 11 (all_places p (short_steps p c.funcs)) _ k10.1 in
    let k12 = split 12 (all_places p (short_depths p c.funcs)) _ k11.1 in
    let k13 = split 13 (hidden_effects p c.funcs late) _ k12.1 in
    record {
      ranks = k2.0;
      arguments = k3.0;
      main = k4.0;
      results = k5.0;
      entries = k6.0;
      backs = k7.0;
      entered = k8.0;
      falling = k9.0;
      turns = k10.0;
      steps = k11.0;
      depths = k12.0;
      effects = k13.0;
      total = no_places 14 (low_total p c) k13.1;
    }

holds_in : (stands : Standing) (p : PlainProgram) (c : Claims) (late : List AnyCall) → NoFailures stands p c late → (n : ℕ) (f : PlainFunction) → slice_get p.functions n ≡ Some f → HoldsIn stands p c n f
holds_in stands p c late none n f there = record {
  arguments = none_at p (λ n f. (left_by p c n).arguments) none.arguments n f there;
  results = none_at p (λ n f. (left_by p c n).results) none.results n f there;
  entries = none_at p (λ n f. (left_by p c n).entries) none.entries n f there;
  backs = none_at p (λ n f. (left_by p c n).backs) none.backs n f there;
  entered = none_at p (λ n f. unranked_loops stands c n 8 (left_by p c n).weak) none.entered n f there;
  falling = none_at p (λ n f. unranked_loops stands c n 9 (left_by p c n).weak) none.falling n f there;
  turns = none_at p (λ n f. unranked_loops stands c n 10 (left_by p c n).weak) none.turns n f there;
  steps = none_at p (short_steps p c.funcs) none.steps n f there;
  depths = none_at p (short_depths p c.funcs) none.depths n f there;
}

pub accepted_hold : AcceptedHold
accepted_hold stands p c b verdict =
    let none : (b ≡ c.total) × (verdict.first ≡ None) = accepted_first b c.total verdict.first verdict.is in
    let fitting : (unfit p c ≡ None) × (failures stands p c verdict.first_is.late ≡ []) = fitting_first p (unfit p c) (failures stands p c verdict.first_is.late) (sym verdict.first_is.is ∙ none.1) in
    let nowhere : NoFailures stands p c verdict.first_is.late = nothing_fails stands p c verdict.first_is.late fitting.1 in (
      none.0,
      record {
        fits = fitting.0;
        ranks = nowhere.ranks;
        main = nowhere.main;
        functions = holds_in stands p c verdict.first_is.late nowhere;
        late = verdict.first_is.late;
        late_are = verdict.first_is.late_are;
        effects = nowhere.effects;
        total = nowhere.total;
      },
    )

-- ## What is said where all holds

-- lists of places that are all empty give no failure
no_failures : (stands : Standing) (p : PlainProgram) (c : Claims) (late : List AnyCall) → NoFailures stands p c late → failures stands p c late ≡ []
no_failures stands p c late none =
    λ i. failing_at_each 2 (none.ranks i)
    ++ (failing_at_each 3 (none.arguments i)
    ++ (failing_at_each 4 (none.main i)
    ++ (failing_at_each 5 (none.results i)
    ++ (failing_at_each 6 (none.entries i)
    ++ (failing_at_each 7 (none.backs i)
    ++ (failing_at_each 8 (none.entered i)
    ++ (failing_at_each 9 (none.falling i)
    ++ (failing_at_each 10 (none.turns i)
    ++ (failing_at_each 11 (none.steps i)
    ++ (failing_at_each 12 (none.depths i)
    ++ (failing_at_each 13 (none.effects i)
    ++ failing_at_each 14 (none.total i))))))))))))

none_where_holds : (stands : Standing) (p : PlainProgram) (c : Claims) (h : Holds stands p c) → NoFailures stands p c h.late
none_where_holds stands p c h = record {
  ranks = h.ranks;
  arguments = all_none_at p (λ n f. (left_by p c n).arguments) (λ n f there. (h.functions n f there).arguments);
  main = h.main;
  results = all_none_at p (λ n f. (left_by p c n).results) (λ n f there. (h.functions n f there).results);
  entries = all_none_at p (λ n f. (left_by p c n).entries) (λ n f there. (h.functions n f there).entries);
  backs = all_none_at p (λ n f. (left_by p c n).backs) (λ n f there. (h.functions n f there).backs);
  entered = all_none_at p (λ n f. unranked_loops stands c n 8 (left_by p c n).weak) (λ n f there. (h.functions n f there).entered);
  falling = all_none_at p (λ n f. unranked_loops stands c n 9 (left_by p c n).weak) (λ n f there. (h.functions n f there).falling);
  turns = all_none_at p (λ n f. unranked_loops stands c n 10 (left_by p c n).weak) (λ n f there. (h.functions n f there).turns);
  steps = all_none_at p (short_steps p c.funcs) (λ n f there. (h.functions n f there).steps);
  depths = all_none_at p (short_depths p c.funcs) (λ n f there. (h.functions n f there).depths);
  effects = h.effects;
  total = h.total;
}

pub holding_accepts : HoldingAccepts
holding_accepts stands p c h = record {
  first = None;
  first_is = record {
    late = h.late;
    late_are = h.late_are;
    is = sym (ap first_failing (ap (λ o. after_fitting p o (failures stands p c h.late)) h.fits ∙ no_failures stands p c h.late (none_where_holds stands p c h)));
  };
  is = refl;
}
