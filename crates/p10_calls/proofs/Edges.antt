-- The graph of calls, and the graphs with the same edges.
use Rattle.std.proofs.Common.{◌≡◌, ℕ, zero, suc, ◌+◌, ◌<◌, ◌≤◌, List, [], ◌∷◌, ◌++◌, length, map, take, get_or, nat_lt, Bool, true, false, ◌&&◌, cond, Option, Some, None, option_map, refl, sym, ◌∙◌, ap, subst, arith, inl, inr}
use Rattle.std.specs.Prelude.{◌↔◌, slice_get, Result, Ok, Err, IfOk}
use Rattle.std.specs.Option.{option_to_list}
use Rattle.std.specs.List.{All, Contains, filter_map}
use Rattle.std.proofs.lemmas.Bool.{and_parts, ltb-true, lt-ltb}
use Rattle.std.proofs.lemmas.Option.{slice_get-map, get_or_from_slice_get, slice_get_cases, some_pair_parts}
use Rattle.std.proofs.lemmas.List.{length-map, take_more}
use Rattle.std.proofs.lemmas.List.Elements.{filter_map-append, Contains-get_or}
use Rattle.p10_core.specs.declared.uses.FunctionUse.{FunctionUse}
use Rattle.p10_core.specs.Typed.{PlainFunction, PlainProgram}
use Rattle.p10_graph.specs.Graphs.{Edge, Reaches, Walk}
use Rattle.p10_graph.proofs.Found.{edge_within}
use Rattle.p10_calls.specs.declared.sites.CallSite.{CallSite}
use Rattle.p10_calls.specs.CallSites.{call_sites, calls_by, site}
use Rattle.p10_calls.specs.CallGraphs.{callees_of, call_graph}
use Rattle.p10_calls.specs.private.Numbering.{edge_of, HasEdgesOf}
use Rattle.p10_calls.proofs.Lists.{only_one, kept, came_from, mapped, mapped_from, passes, passed}
use Rattle.p10_calls.proofs.Standing.{stands_in, site_there}

-- ## Graphs with the same edges

walk_same : (g h : List (List ℕ)) → ((u v : ℕ) → Edge g u v → Edge h u v) → (n : ℕ) (u v : ℕ) → Walk g n u v → Walk h n u v
walk_same g h same zero u v w = w
walk_same g h same (suc n) u v w = (w.0, same u w.0 w.1, walk_same g h same n w.0 v w.2)

pub reaches_same : (g h : List (List ℕ)) → ((u v : ℕ) → Edge g u v → Edge h u v) → (u v : ℕ) → Reaches g u v → Reaches h u v
reaches_same g h same u v r = record { edges = r.edges; walk = walk_same g h same r.edges u v r.walk }

-- what reaches a node is a node
walk_within : (g : List (List ℕ)) (n u v : ℕ) → v < length g → Walk g n u v → u < length g
walk_within g zero u v low w = subst (λ (x : ℕ). x < length g) (sym w) low
walk_within g (suc n) u v low w = edge_within g u w.0 w.1

pub reaches_within : (g : List (List ℕ)) (u v : ℕ) → v < length g → Reaches g u v → u < length g
reaches_within g u v low r = walk_within g r.edges u v low r.walk

-- ## The edge of a call

abbrev edge_to : ℕ → ℕ → Option (ℕ × ℕ)
edge_to u v = Some (u, v)

pub record NamesTwo (count : ℕ) (s : CallSite) (u v : ℕ) : Type 0 where
  pub caller_is : s.caller ≡ u
  pub called_is : s.call.function ≡ v
  pub caller_low : u < count
  pub called_low : v < count

two_of : (count : ℕ) (s : CallSite) (u v : ℕ) (b : Bool) → (nat_lt s.caller count && nat_lt s.call.function count) ≡ b → cond {A = Option (ℕ × ℕ)} b (Some (s.caller, s.call.function)) None ≡ Some (u, v) → NamesTwo count s u v
two_of count s u v false is e = absurd cc
two_of count s u v true is e =
    let parts = and_parts (nat_lt s.caller count) (nat_lt s.call.function count) is in
    let low : s.caller < count = ltb-true s.caller count parts.0 in
    let low2 : s.call.function < count = ltb-true s.call.function count parts.1 in
    let same = some_pair_parts s.caller u s.call.function v e in
    let first : s.caller ≡ u = same.0 in
    let second : s.call.function ≡ v = same.1 in
    record { caller_is = first; called_is = second; caller_low = omega (arith, first, low); called_low = omega (arith, second, low2) }

pub names_two : (count : ℕ) (s : CallSite) (u v : ℕ) → edge_of count s ≡ Some (u, v) → NamesTwo count s u v
names_two count s u v e = two_of count s u v (nat_lt s.caller count && nat_lt s.call.function count) refl e

pub two_named : (count : ℕ) (s : CallSite) → s.caller < count → s.call.function < count → edge_of count s ≡ Some (s.caller, s.call.function)
two_named count s first second =
    ap (λ (b : Bool). cond {A = Option (ℕ × ℕ)} b (Some (s.caller, s.call.function)) None)
    (ap (λ (b : Bool). b && nat_lt s.call.function count) (lt-ltb s.caller count first) ∙ lt-ltb s.call.function count second)

-- ## The graph of calls

pub graph_is : (sites : List CallSite) (count : ℕ) (edges : List (ℕ × ℕ)) (g : List (List ℕ)) → edges ≡ filter_map (edge_of count) sites → length g ≡ count
    → ((u v : ℕ) → Edge g u v ↔ Contains edges (u, v)) → HasEdgesOf sites count g
graph_is sites count edges g are nodes is = record {
  nodes = nodes;
  edges = λ u v. (
    (λ edge. came_from (edge_of count) sites (u, v) (subst (λ (l : List (ℕ × ℕ)). Contains l (u, v)) are ((is u v).0 edge))),
    (λ found. (is u v).1 (subst (λ (l : List (ℕ × ℕ)). Contains l (u, v)) (sym are) (kept (edge_of count) sites found.0 (u, v) found.1 found.2))),
  );
}

row_at : (count : ℕ) (fs : List PlainFunction) (u : ℕ) (f : PlainFunction) → slice_get fs u ≡ Some f → get_or (map (callees_of count) fs) u [] ≡ callees_of count f
row_at count fs u f e = get_or_from_slice_get (map (callees_of count) fs) u (callees_of count f) [] (slice_get-map (callees_of count) fs u ∙ ap (λ (o : Option PlainFunction). option_map (callees_of count) o) e)

-- a call in the body of a function is one of its calls in the graph
pub edge_there : (p : PlainProgram) (s : CallSite) (u v : ℕ) → Contains (call_sites p) s → NamesTwo (length p.functions) s u v → Edge (call_graph p) u v
edge_there p s u v held two =
    let n : ℕ = length p.functions in
    let at = stands_in 0 p.functions s held in
    let place : at.place ≡ u = let e : s.caller ≡ 0 + at.place = at.caller_is in let i : s.caller ≡ u = two.caller_is in omega (arith, e, i) in
    let found : slice_get p.functions u ≡ Some at.function = ap (λ (k : ℕ). slice_get p.functions k) (sym place) ∙ at.there in
    let called : Contains (map (λ (c : FunctionUse). c.function) (calls_by at.function)) v =
    subst (λ (w : ℕ). Contains (map (λ (c : FunctionUse). c.function) (calls_by at.function)) w) two.called_is (mapped (λ (c : FunctionUse). c.function) (calls_by at.function) s.call at.made) in
    let low : v < n = two.called_low in
    let test : nat_lt v n ≡ true = lt-ltb v n low in
    subst (λ (row : List ℕ). Contains row v) (sym (row_at n p.functions u at.function found))
    (passes (λ (w : ℕ). nat_lt w n) (map (λ (c : FunctionUse). c.function) (calls_by at.function)) v called test)

-- an edge in the graph is a call in the body of a function
from_row : (p : PlainProgram) (u v : ℕ) (f : PlainFunction) → u < length p.functions → slice_get p.functions u ≡ Some f → Contains (callees_of (length p.functions) f) v
    → (s : CallSite) × Contains (call_sites p) s × (edge_of (length p.functions) s ≡ Some (u, v))
from_row p u v f within e held =
    let n : ℕ = length p.functions in
    let called = passed (λ (w : ℕ). nat_lt w n) (map (λ (c : FunctionUse). c.function) (calls_by f)) v held in
    let from = mapped_from (λ (c : FunctionUse). c.function) (calls_by f) v called.0 in
    let c : FunctionUse = from.0 in
    let is : c.function ≡ v = from.2 in
    let low : v < n = ltb-true v n called.1 in
    let number : 0 + u ≡ u = omega arith in (
      site u c,
      subst (λ (k : ℕ). Contains (call_sites p) (site k c)) number (site_there 0 u p.functions f c e from.1),
      two_named n (site u c) within (omega (arith, is, low)) ∙ ap (edge_to u) is,
    )

pub edge_from : (p : PlainProgram) (u v : ℕ) → Edge (call_graph p) u v → (s : CallSite) × Contains (call_sites p) s × (edge_of (length p.functions) s ≡ Some (u, v))
edge_from p u v edge =
    let n : ℕ = length p.functions in
    let low : u < length (call_graph p) = edge_within (call_graph p) u v edge in
    let nodes : length (call_graph p) ≡ n = length-map p.functions (callees_of n) in
    let within : u < n = omega (arith, low, nodes) in
    elim (slice_get_cases p.functions u).1 [
      | inl inside ↦ from_row p u v inside.0 within inside.2 (subst (λ (row : List ℕ). Contains row v) (row_at n p.functions u inside.0 inside.2) edge)
      | inr past ↦ let high : n ≤ u = past.0 in absurd (omega (arith, within, high))
    ]

-- a graph of the calls of a program has the edges of the graph of calls
pub same_edges : (p : PlainProgram) (g : List (List ℕ)) → HasEdgesOf (call_sites p) (length p.functions) g → (u v : ℕ) → Edge g u v ↔ Edge (call_graph p) u v
same_edges p g is u v = (
  (λ edge. let found = (is.edges u v).0 edge in edge_there p found.0 u v found.1 (names_two (length p.functions) found.0 u v found.2)),
  (λ edge. (is.edges u v).1 (edge_from p u v edge)),
)

-- ## Edges, one after the other

pub edge_more : (sites : List CallSite) (count i : ℕ) (d : CallSite) (old new : List (ℕ × ℕ)) → i < length sites → old ≡ filter_map (edge_of count) (take i sites)
    → new ≡ old ++ option_to_list (edge_of count (get_or sites i d)) → new ≡ filter_map (edge_of count) (take (i + 1) sites)
edge_more sites count i d old new inside before put =
    put ∙ ap (λ (l : List (ℕ × ℕ)). l ++ option_to_list (edge_of count (get_or sites i d))) before
    ∙ ap (λ (l : List (ℕ × ℕ)). filter_map (edge_of count) (take i sites) ++ l) (only_one (edge_of count) (get_or sites i d))
    ∙ sym (ap (filter_map (edge_of count)) (take_more sites i d inside) ∙ filter_map-append (edge_of count) (take i sites) (get_or sites i d ∷ []))

pub edges_within : (sites : List CallSite) (count : ℕ) (edges : List (ℕ × ℕ)) → edges ≡ filter_map (edge_of count) sites → All (λ e. (e.0 < count) × (e.1 < count)) edges
edges_within sites count edges e k d inside =
    let found = came_from (edge_of count) sites (get_or edges k d) (subst (λ (l : List (ℕ × ℕ)). Contains l (get_or edges k d)) e (Contains-get_or edges k d inside)) in
    let two = names_two count found.0 (get_or edges k d).0 (get_or edges k d).1 found.2 in
    (two.caller_low, two.called_low)

pub graph_of_is : {E : Type 0} (sites : List CallSite) (count : ℕ) (edges slice : List (ℕ × ℕ)) (r : Result (List (List ℕ)) E) → edges ≡ filter_map (edge_of count) sites → slice ≡ edges → IfOk r (λ g. length g ≡ count)
    → IfOk r (λ g. (u v : ℕ) → Edge g u v ↔ Contains slice (u, v)) → IfOk r (HasEdgesOf sites count)
graph_of_is sites count edges slice (Err e) are same nodes is = tt
graph_of_is sites count edges slice (Ok g) are same nodes is = graph_is sites count slice g (same ∙ are) nodes is
