-- Recursive calls, by the numbers of components.
use Rattle.std.proofs.Common.{◌≡◌, ℕ, zero, suc, ◌+◌, ◌<◌, ◌≤◌, List, [], ◌∷◌, length, map, nat_lt, nat_eq, eq-eqb, Bool, true, false, ◌&&◌, refl, sym, ◌∙◌, ap, subst, arith, inl, inr}
use Rattle.std.specs.Prelude.{◌↔◌}
use Rattle.std.specs.List.{Contains, filter, slice_index}
use Rattle.std.proofs.lemmas.Bool.{and_parts, ltb-true, lt-ltb, eqb-true}
use Rattle.std.proofs.lemmas.Option.{slice_get_within}
use Rattle.std.proofs.lemmas.List.{length-map}
use Rattle.p10_core.specs.declared.program.Func.{Func}
use Rattle.p10_core.specs.declared.program.Program.{Program}
use Rattle.p10_core.specs.Typed.{PlainProgram}
use Rattle.p10_core.specs.Views.{plain_function, plain_program}
use Rattle.p10_graph.specs.Graphs.{Edge, Reaches, Walk}
use Rattle.p10_graph.specs.Components.{AreComponents}
use Rattle.p10_graph.proofs.Cycles.{edge_law}
use Rattle.p10_calls.specs.declared.sites.CallSite.{CallSite}
use Rattle.p10_calls.specs.CallSites.{call_sites}
use Rattle.p10_calls.specs.CallGraphs.{callees_of, call_graph}
use Rattle.p10_calls.specs.Recursion.{IsRecursiveCall, AreRecursiveCalls}
use Rattle.p10_calls.specs.Ranks.{AreRanks}
use Rattle.p10_calls.specs.private.Numbering.{has_one_number, HasEdgesOf, Descends}
use Rattle.p10_calls.proofs.Lists.{none_in, passes}
use Rattle.p10_calls.proofs.Standing.{stands_in}
use Rattle.p10_calls.proofs.Edges.{names_two, two_named, reaches_same, reaches_within, same_edges}

-- both functions of a call are there and have one number
pub record HaveOneNumber (numbers : List ℕ) (s : CallSite) : Type 0 where
  pub caller_low : s.caller < length numbers
  pub called_low : s.call.function < length numbers
  pub same : slice_index numbers s.caller ≡ slice_index numbers s.call.function

pub one_number : (numbers : List ℕ) (s : CallSite) → has_one_number numbers s ≡ true → HaveOneNumber numbers s
one_number numbers s e =
    let all = and_parts (nat_lt s.caller (length numbers) && nat_lt s.call.function (length numbers)) (nat_eq (slice_index numbers s.caller) (slice_index numbers s.call.function)) e in
    let both = and_parts (nat_lt s.caller (length numbers)) (nat_lt s.call.function (length numbers)) all.0 in
    record {
      caller_low = ltb-true s.caller (length numbers) both.0;
      called_low = ltb-true s.call.function (length numbers) both.1;
      same = eqb-true (slice_index numbers s.caller) (slice_index numbers s.call.function) all.1;
    }

pub number_one : (numbers : List ℕ) (s : CallSite) → HaveOneNumber numbers s → has_one_number numbers s ≡ true
number_one numbers s h =
    ap (λ (b : Bool). (b && nat_lt s.call.function (length numbers)) && nat_eq (slice_index numbers s.caller) (slice_index numbers s.call.function)) (lt-ltb s.caller (length numbers) h.caller_low)
    ∙ ap (λ (b : Bool). b && nat_eq (slice_index numbers s.caller) (slice_index numbers s.call.function)) (lt-ltb s.call.function (length numbers) h.called_low)
    ∙ eq-eqb (slice_index numbers s.caller) (slice_index numbers s.call.function) h.same

module _ (p : PlainProgram) (g : List (List ℕ)) (numbers : List ℕ) (is : HasEdgesOf (call_sites p) (length p.functions) g) (are : AreComponents g numbers) where
  -- a call whose functions have one number is recursive
  recursive_by_number : (s : CallSite) → HaveOneNumber numbers s → IsRecursiveCall p s
  recursive_by_number s h =
      let each : length numbers ≡ length g = are.each in
      let low : s.caller < length numbers = h.caller_low in
      let low2 : s.call.function < length numbers = h.called_low in
      let within : s.caller < length g = omega (arith, each, low) in
      let within2 : s.call.function < length g = omega (arith, each, low2) in
      reaches_same g (call_graph p) (λ u v edge. (same_edges p g is u v).0 edge) s.call.function s.caller
      ((are.same s.caller s.call.function within within2).0 h.same).back

  -- the functions of a recursive call have one number
  number_by_recursion : (s : CallSite) → Contains (call_sites p) s → IsRecursiveCall p s → HaveOneNumber numbers s
  number_by_recursion s held recursive =
      let each : length numbers ≡ length g = are.each in
      let nodes : length g ≡ length p.functions = is.nodes in
      let at = stands_in 0 p.functions s held in
      let found : at.place < length p.functions = slice_get_within p.functions at.place at.function at.there in
      let number : s.caller ≡ 0 + at.place = at.caller_is in
      let caller_low : s.caller < length g = omega (arith, nodes, found, number) in
      let back : Reaches g s.call.function s.caller = reaches_same (call_graph p) g (λ u v edge. (same_edges p g is u v).1 edge) s.call.function s.caller recursive in
      let called_low : s.call.function < length g = reaches_within g s.call.function s.caller caller_low back in
      let edge : Edge g s.caller s.call.function = (is.edges s.caller s.call.function).1
      (s, held, two_named (length p.functions) s (omega (arith, nodes, caller_low)) (omega (arith, nodes, called_low))) in
      record {
        caller_low = omega (arith, each, caller_low);
        called_low = omega (arith, each, called_low);
        same = (edge_law g numbers s.caller s.call.function are called_low edge).0 back;
      }

  pub recursive_are : AreRecursiveCalls p (filter (has_one_number numbers) (call_sites p))
  recursive_are = record {
    test = has_one_number numbers;
    exact = λ s held. (
      (λ e. recursive_by_number s (one_number numbers s e)),
      (λ recursive. number_one numbers s (number_by_recursion s held recursive)),
    );
    are = refl;
  }

  -- ## No call is recursive

  module _ (none : filter (has_one_number numbers) (call_sites p) ≡ []) where
    falls : (u v : ℕ) → Edge g u v → slice_index numbers v < slice_index numbers u
    falls u v edge =
        let found = (is.edges u v).0 edge in
        let two = names_two (length p.functions) found.0 u v found.2 in
        let each : length numbers ≡ length g = are.each in
        let nodes : length g ≡ length p.functions = is.nodes in
        let down : slice_index numbers v ≤ slice_index numbers u = are.order u v edge in
        let other : slice_index numbers u ≡ slice_index numbers v → ⊥ = λ same.
        none_in found.0 (subst (λ (l : List CallSite). Contains l found.0) none (passes (has_one_number numbers) (call_sites p) found.0 found.1 (number_one numbers found.0 (record {
          caller_low = let i : found.0.caller ≡ u = two.caller_is in let l : u < length p.functions = two.caller_low in omega (arith, i, l, each, nodes);
          called_low = let i : found.0.call.function ≡ v = two.called_is in let l : v < length p.functions = two.called_low in omega (arith, i, l, each, nodes);
          same = ap (slice_index numbers) two.caller_is ∙ same ∙ ap (slice_index numbers) (sym two.called_is);
        })))) in
        omega (arith, down, other)

    walk_falls : (n : ℕ) (u v : ℕ) → Walk g n u v → slice_index numbers v ≤ slice_index numbers u
    walk_falls zero u v w = let e : slice_index numbers u ≡ slice_index numbers v = ap (slice_index numbers) w in omega (arith, e)
    walk_falls (suc n) u v w =
        let first : slice_index numbers w.0 < slice_index numbers u = falls u w.0 w.1 in
        let rest : slice_index numbers v ≤ slice_index numbers w.0 = walk_falls n w.0 v w.2 in
        omega (arith, first, rest)

    one_apart : (n : ℕ) (u v : ℕ) → slice_index numbers u ≡ slice_index numbers v → Walk g n u v → u ≡ v
    one_apart zero u v same w = w
    one_apart (suc n) u v same w =
        let first : slice_index numbers w.0 < slice_index numbers u = falls u w.0 w.1 in
        let rest : slice_index numbers v ≤ slice_index numbers w.0 = walk_falls n w.0 v w.2 in
        absurd (omega (arith, first, rest, same))

    pub descends : Descends g numbers
    descends = record {
      each = are.each;
      below = are.below;
      apart = λ u v low low2 same. let there = ((are.same u v low low2).0 same).there in one_apart there.edges u v same there.walk;
      falls = falls;
    }

-- ranks of a graph are those of each with the same edges
pub ranks_same : (g h : List (List ℕ)) (ranks : List ℕ) → length h ≡ length g → ((u v : ℕ) → Edge g u v ↔ Edge h u v) → AreRanks g ranks → AreRanks h ranks
ranks_same g h ranks nodes same are = record {
  each = are.each ∙ sym nodes;
  exact = λ u low. let rank = are.exact u (subst (λ (n : ℕ). u < n) nodes low) in record {
    above = λ v edge. rank.above v ((same u v).1 edge);
    least = elim rank.least [ inl none ↦ inl none | inr (v, edge, is) ↦ inr (v, (same u v).0 edge, is) ];
  };
}

-- ## What code has found

pub graph_of_program : (program : Program) (sites slice : List CallSite) (fs : List Func) (g : List (List ℕ)) → sites ≡ call_sites (plain_program program) → slice ≡ sites → fs ≡ program.functions
    → HasEdgesOf slice (length fs) g → HasEdgesOf (call_sites (plain_program program)) (length (plain_program program).functions) g
graph_of_program program sites slice fs g are same functions is =
    let count : length fs ≡ length (map plain_function program.functions) = ap length functions ∙ sym (length-map program.functions plain_function) in
    subst (λ (n : ℕ). HasEdgesOf (call_sites (plain_program program)) n g) count (subst (λ (l : List CallSite). HasEdgesOf l (length fs) g) (same ∙ are) is)

pub found_are : (p : PlainProgram) (g : List (List ℕ)) (numbers slice : List ℕ) (sites found : List CallSite) → HasEdgesOf (call_sites p) (length p.functions) g → AreComponents g numbers → slice ≡ numbers
    → sites ≡ call_sites p → found ≡ filter (has_one_number slice) sites → AreRecursiveCalls p found
found_are p g numbers slice sites found is are same all e =
    subst (AreRecursiveCalls p) (sym (e ∙ ap (λ (l : List ℕ). filter (has_one_number l) sites) same ∙ ap (filter (has_one_number numbers)) all)) (recursive_are p g numbers is are)

pub none_descend : (p : PlainProgram) (g : List (List ℕ)) (numbers slice slice2 : List ℕ) (sites found : List CallSite) → HasEdgesOf (call_sites p) (length p.functions) g → AreComponents g numbers → slice ≡ numbers
    → sites ≡ call_sites p → found ≡ filter (has_one_number slice) sites → found ≡ [] → slice2 ≡ numbers → Descends g slice2
none_descend p g numbers slice slice2 sites found is are same all e none same2 =
    subst (Descends g) (sym same2) (descends p g numbers is are (sym (e ∙ ap (λ (l : List ℕ). filter (has_one_number l) sites) same ∙ ap (filter (has_one_number numbers)) all) ∙ none))

pub nothing_found : {A : Type 0} (xs : List A) (n : ℕ) → n ≡ length xs → true ≡ nat_eq n 0 → xs ≡ []
nothing_found [] n is e = refl
nothing_found (x ∷ xs) n is e = let zero_is : n ≡ 0 = eqb-true n 0 (sym e) in absurd (omega (arith, is, zero_is))

pub something_found : {A : Type 0} (xs : List A) (n : ℕ) → n ≡ length xs → false ≡ nat_eq n 0 → xs ≡ [] → ⊥
something_found xs n is e none =
    let zero_is : n ≡ 0 = is ∙ ap length none in
    let test : nat_eq n 0 ≡ true = eq-eqb n 0 zero_is in
    absurd cc

pub ranked_ordered : (p : PlainProgram) (g : List (List ℕ)) (ranks told : List ℕ) (found : List CallSite) → HasEdgesOf (call_sites p) (length p.functions) g → AreRanks g ranks → told ≡ ranks → AreRecursiveCalls p found → found ≡ []
    → AreRanks (call_graph p) told × AreRecursiveCalls p []
ranked_ordered p g ranks told found is are same recursive none = (
  ranks_same g (call_graph p) told (length-map p.functions (callees_of (length p.functions)) ∙ sym is.nodes) (same_edges p g is) (subst (AreRanks g) (sym same) are),
  subst (AreRecursiveCalls p) none recursive,
)
