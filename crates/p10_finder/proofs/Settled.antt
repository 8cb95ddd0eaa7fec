-- Results that are found, each after those of the functions that are called, are those of the program.
use Rattle.std.proofs.Common.{◌≡◌, ℕ, zero, suc, ◌+◌, ◌<◌, ◌≤◌, List, [], ◌∷◌, length, Some, None, refl, sym, ap, ◌∙◌, subst, arith, inl, inr}
use Rattle.std.specs.Prelude.{◌↔◌, slice_get}
use Rattle.std.specs.List.{slice_index}
use Rattle.std.proofs.Math.ListN.{set, length-set}
use Rattle.std.proofs.lemmas.Bool.{cases_eq}
use Rattle.std.proofs.lemmas.List.{length-map}
use Rattle.std.proofs.lemmas.Option.{slice_get_cases}
use Rattle.p10_core.specs.Typed.{PlainFunction, PlainProgram}
use Rattle.p10_graph.specs.Graphs.{Edge, IsGraph, IsOnCycle}
use Rattle.p10_graph.specs.Components.{AreComponents}
use Rattle.p10_calls.specs.CallGraphs.{call_graph}
use Rattle.p10_cert.specs.Claims.{Value, Func, Claims}
use Rattle.p10_absx.specs.Assessing.{result_claimed}
use Rattle.p10_absx.specs.Entering.{claims_on}
use Rattle.p10_absx.proofs.Entries.{get_map, get_below, get_set, get_other}
use Rattle.p10_finder.specs.Functions.{any_value, result_of}
use Rattle.p10_finder.specs.Answers.{HasResult, HaveResults}
use Rattle.p10_finder.specs.private.Visiting.{IsLoneAt}
use Rattle.p10_finder.specs.private.Settling.{bare_claim, with_results, any_results, claims_by, with_claim, AreResultsBelow, AreSettled}
use Rattle.p10_finder.proofs.Judging.{on_cycle_too}
use Rattle.p10_finder.proofs.SameValues.{Same}
use Rattle.p10_finder.proofs.SameLoops.{result_same}
use Rattle.p10_finder.proofs.OneResult.{edges_each}
use Rattle.p10_finder.proofs.VisitOrder.{alone, falls}
use Rattle.p10_approach.specs.Offers.{Offers}

one_claim : (x y : Func) → Some x ≡ Some y → x ≡ y
one_claim x y e = cc

pub one_function : (x y : PlainFunction) → Some x ≡ Some y → x ≡ y
one_function x y e = cc

one_value : (x y : Value) → Some x ≡ Some y → x ≡ y
one_value x y e = cc

-- ## Claims with results

with_results_at : (fs : List PlainFunction) (vs : List Value) (n : ℕ) (f : PlainFunction) (v : Value) → slice_get fs n ≡ Some f → slice_get vs n ≡ Some v → slice_get (with_results fs vs) n ≡ Some (bare_claim f v)
with_results_at [] vs n f v e g = absurd cc
with_results_at (x ∷ fs) [] n f v e g = absurd cc
with_results_at (x ∷ fs) (w ∷ vs) zero f v e g =
    let function : x ≡ f = cc in
    let result : w ≡ v = cc in
    λ i. Some (bare_claim (function i) (result i))
with_results_at (x ∷ fs) (w ∷ vs) (suc n) f v e g = with_results_at fs vs n f v e g

with_results_length : (fs : List PlainFunction) (vs : List Value) → length vs ≡ length fs → length (with_results fs vs) ≡ length fs
with_results_length [] vs e = refl
with_results_length (x ∷ fs) [] e = absurd (omega (arith, e))
with_results_length (x ∷ fs) (v ∷ vs) e = ap suc (with_results_length fs vs (omega (arith, e)))

no_results : (fs : List PlainFunction) (n : ℕ) → slice_get (with_results fs []) n ≡ None
no_results [] n = refl
no_results (x ∷ fs) n = refl

-- where the results are the same, the claims are
claims_same : (fs : List PlainFunction) (vs ws : List Value) (n : ℕ) → slice_get vs n ≡ slice_get ws n → slice_get (with_results fs vs) n ≡ slice_get (with_results fs ws) n
claims_same [] vs ws n e = refl
claims_same (x ∷ fs) [] [] n e = refl
claims_same (x ∷ fs) [] (w ∷ ws) zero e = absurd cc
claims_same (x ∷ fs) [] (w ∷ ws) (suc n) e = sym (no_results fs n) ∙ claims_same fs [] ws n e
claims_same (x ∷ fs) (v ∷ vs) [] zero e = absurd cc
claims_same (x ∷ fs) (v ∷ vs) [] (suc n) e = claims_same fs vs [] n e ∙ no_results fs n
claims_same (x ∷ fs) (v ∷ vs) (w ∷ ws) zero e = let same : v ≡ w = cc in ap (λ (q : Value). Some (bare_claim x q)) same
claims_same (x ∷ fs) (v ∷ vs) (w ∷ ws) (suc n) e = claims_same fs vs ws n e

-- one claim says the same
one_says : (c d : Claims) (n : ℕ) → slice_get c.funcs n ≡ slice_get d.funcs n → Same c d n
one_says c d n e = record { params = ap claims_on e; result = λ kind. ap (result_claimed kind) e }

-- a result is put among others
pub with_results_set : (fs : List PlainFunction) (vs : List Value) (n : ℕ) (f : PlainFunction) (v : Value) → slice_get fs n ≡ Some f → set (with_results fs vs) n (bare_claim f v) ≡ with_results fs (set vs n v)
with_results_set [] vs n f v e = absurd cc
with_results_set (x ∷ fs) [] n f v e = refl
with_results_set (x ∷ fs) (w ∷ vs) zero f v e = let same : x ≡ f = cc in ap (λ (g : PlainFunction). bare_claim g v ∷ with_results fs vs) (sym same)
with_results_set (x ∷ fs) (w ∷ vs) (suc n) f v e = ap (λ (cs : List Func). bare_claim x w ∷ cs) (with_results_set fs vs n f v e)

-- no results yet
pub first_results : (o : Offers) (p : PlainProgram) (g : List (List ℕ)) (numbers : List ℕ) → AreResultsBelow o p g numbers 0 (any_results p.functions)
first_results o p g numbers = record {
  each = length-map p.functions (λ (f : PlainFunction). any_value f.result);
  any = λ n f is on. get_map (λ (f : PlainFunction). any_value f.result) p.functions n f is;
  found = λ n f is off under. absurd (omega (arith, under));
}

module _ (o : Offers) (p : PlainProgram) (g : List (List ℕ)) (numbers : List ℕ) (nodes : length g ≡ length p.functions) (edges : (u v : ℕ) → Edge g u v ↔ Edge (call_graph p) u v) (whole : IsGraph g) (are : AreComponents g numbers) where
  inside : (n : ℕ) (f : PlainFunction) → slice_get p.functions n ≡ Some f → n < length g
  inside n f is = let low : n < length p.functions = get_below p.functions n f is in omega (arith, low, nodes)

  -- ## One function

  -- no function on no cycle has the number
  passed : (results : List Value) (k : ℕ) → ((u : ℕ) → u < length g → (IsOnCycle g u → ⊥) → slice_index numbers u ≡ k → ⊥) → AreResultsBelow o p g numbers k results → AreResultsBelow o p g numbers (k + 1) results
  passed results k none before = record {
    each = before.each;
    any = before.any;
    found = λ n f is off under. let apart : slice_index numbers n ≡ k → ⊥ = none n (inside n f is) off in before.found n f is off (omega (arith, under, apart));
  }

  module _ (node k : ℕ) (only : IsLoneAt g numbers k node) where
    -- the function at the number has another one
    pub settled_apart : (results : List Value) → (slice_index numbers node ≡ k → ⊥) → AreResultsBelow o p g numbers k results → AreResultsBelow o p g numbers (k + 1) results
    settled_apart results apart before = passed results k (λ u low off is. apart (ap (slice_index numbers) (sym (only u low (alone g numbers whole are u low off) is)) ∙ is)) before

    -- it lies on a cycle
    pub settled_cyclic : (results : List Value) → IsOnCycle g node → AreResultsBelow o p g numbers k results → AreResultsBelow o p g numbers (k + 1) results
    settled_cyclic results on before = passed results k (λ u low off is. off (subst (IsOnCycle g) (sym (only u low (alone g numbers whole are u low off) is)) on)) before

    -- it has its result
    module _ (results : List Value) (v : Value) (there : node < length g) (off : IsOnCycle g node → ⊥) (number : slice_index numbers node ≡ k) (before : AreResultsBelow o p g numbers k results) where
      abbrev after : List Value
      after = set results node v

      -- what doesn't call it gives the same
      stays : (n : ℕ) (f : PlainFunction) → slice_get p.functions n ≡ Some f → (IsOnCycle g n → ⊥) → slice_index numbers n ≤ k → result_of o p (claims_by p.functions results) n f ≡ result_of o p (claims_by p.functions after) n f
      stays n f is free most = result_same o p (claims_by p.functions results) (claims_by p.functions after) n f (edges_each p (Same (claims_by p.functions results) (claims_by p.functions after)) n f is
          (λ m edge. same_but m (λ same.
          let less : slice_index numbers m < slice_index numbers n = falls g numbers whole are n m (inside n f is) free ((edges n m).1 edge) in
          let e : slice_index numbers m ≡ slice_index numbers node = ap (slice_index numbers) same in
          omega (arith, less, most, e, number)))
          (λ m past. same_but m (λ same. omega (arith, past, same, there, nodes))))
        where
          same_but : (m : ℕ) → (m ≡ node → ⊥) → Same (claims_by p.functions results) (claims_by p.functions after) m
          same_but m apart = one_says (claims_by p.functions results) (claims_by p.functions after) m (claims_same p.functions results after m (sym (get_other results node m v apart)))

      pub settled_more : ((f : PlainFunction) → slice_get p.functions node ≡ Some f → v ≡ result_of o p (claims_by p.functions results) node f) → AreResultsBelow o p g numbers (k + 1) after
      settled_more is_found = record {
        each = length-set results node v ∙ before.each;
        any = λ n f is on. get_other results node n v (λ same. off (subst (IsOnCycle g) same on)) ∙ before.any n f is on;
        found = λ n f is free under. elim (cases_eq n node) [
          | inl here ↦
              let size : length results ≡ length p.functions = before.each in
              let own : slice_get after n ≡ Some v = ap (slice_get after) here ∙ get_set results node v (omega (arith, size, there, nodes)) in
              let found : v ≡ result_of o p (claims_by p.functions results) n f =
              is_found f (subst (λ m. slice_get p.functions m ≡ Some f) here is) ∙ ap (λ m. result_of o p (claims_by p.functions results) m f) (sym here) in
              own ∙ ap Some (found ∙ stays n f is free (omega (arith, under)))
          | inr apart ↦
              let other : slice_index numbers n ≡ k → ⊥ = λ e. apart (only n (inside n f is) (alone g numbers whole are n (inside n f is) free) e) in
              let low : slice_index numbers n < k = omega (arith, under, other) in
              get_other results node n v apart ∙ (before.found n f is free low ∙ ap Some (stays n f is free (omega (arith, low))))
        ];
      }

  -- ## All functions

  pub all_results : (results : List Value) (end : ℕ) → length g ≤ end → AreResultsBelow o p g numbers end results → HaveResults o p (claims_by p.functions results)
  all_results results end past below = record {
    each = with_results_length p.functions results below.each;
    results = λ n f claim is claimed.
        let low : n < length p.functions = get_below p.functions n f is in
        let count : length results ≡ length p.functions = below.each in
        elim (slice_get_cases results n).1 [
          | inr (over, none) ↦ absurd (omega (arith, over, low, count))
          | inl (v, within, at, got) ↦
              let same : bare_claim f v ≡ claim = one_claim (bare_claim f v) claim (sym (with_results_at p.functions results n f v is at) ∙ claimed) in
              subst (HasResult o p (claims_by p.functions results) n f) same (record {
                params = refl;
                recursive = λ on. one_value v (any_value f.result) (sym at ∙ below.any n f is (on_cycle_too (call_graph p) g n (λ x y. (edges x y).1) on));
                other = λ off.
                    let most : slice_index numbers n < length g = are.below n (inside n f is) in
                    one_value v (result_of o p (claims_by p.functions results) n f)
                    (sym at ∙ below.found n f is (λ on. off (on_cycle_too g (call_graph p) n (λ x y. (edges x y).0) on)) (omega (arith, most, past)));
              })
        ];
  }

-- ## Claims

module _ (o : Offers) (p : PlainProgram) (g : List (List ℕ)) (numbers : List ℕ) (nodes : length g ≡ length p.functions) (edges : (u v : ℕ) → Edge g u v ↔ Edge (call_graph p) u v) (whole : IsGraph g) (are : AreComponents g numbers) (node k : ℕ)
    (only : IsLoneAt g numbers k node) (c : Claims) (before : AreSettled o p g numbers k c) where
  pub claims_apart : (slice_index numbers node ≡ k → ⊥) → AreSettled o p g numbers (k + 1) c
  claims_apart apart = record { results = before.results; claims = before.claims; below = settled_apart o p g numbers nodes edges whole are node k only before.results apart before.below }

  pub claims_cyclic : IsOnCycle g node → AreSettled o p g numbers (k + 1) c
  claims_cyclic on = record { results = before.results; claims = before.claims; below = settled_cyclic o p g numbers nodes edges whole are node k only before.results on before.below }

  pub claims_more : (d : Claims) → node < length g → (IsOnCycle g node → ⊥) → slice_index numbers node ≡ k → ((f : PlainFunction) → slice_get p.functions node ≡ Some f → d ≡ with_claim c node (bare_claim f (result_of o p c node f)))
      → AreSettled o p g numbers (k + 1) d
  claims_more d there off number now = elim (slice_get_cases p.functions node).1 [
    | inr (past, none) ↦ absurd (omega (arith, past, there, nodes))
    | inl (f, within, is, got) ↦
        let v : Value = result_of o p (claims_by p.functions before.results) node f in
        let put : with_claim (claims_by p.functions before.results) node (bare_claim f v) ≡ claims_by p.functions (set before.results node v) =
        λ i. record { funcs = with_results_set p.functions before.results node f v is i; total = record { prefix = 0; turn = 0; calls = 0; bytes = 0 } } in
        record {
          results = set before.results node v;
          claims = now f is ∙ (ap (λ (e : Claims). with_claim e node (bare_claim f (result_of o p e node f))) before.claims ∙ put);
          below = settled_more o p g numbers nodes edges whole are node k only before.results v there off number before.below
              (λ h have. ap (result_of o p (claims_by p.functions before.results) node) (one_function f h (sym is ∙ have)));
        }
  ]
