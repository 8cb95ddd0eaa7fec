-- The claims of a program are one.
use Rattle.std.proofs.Common.{◌≡◌, ℕ, zero, suc, ◌+◌, ◌<◌, ◌≤◌, List, [], ◌∷◌, map, length, Option, Some, None, refl, sym, ap, ◌∙◌, arith, inl, inr}
use Rattle.std.specs.Prelude.{◌||◌, slice_get}
use Rattle.std.specs.List.{slice_index}
use Rattle.std.proofs.lemmas.Bool.{cases_lt}
use Rattle.std.proofs.lemmas.List.{length-map}
use Rattle.std.proofs.lemmas.Option.{slice_get_past, slice_get_cases}
use Rattle.p10_core.specs.declared.uses.FunctionUse.{FunctionUse}
use Rattle.p10_core.specs.Typed.{PlainFunction, PlainProgram}
use Rattle.p10_core.specs.Nodes.{PlainNode, nodes_of_statements}
use Rattle.p10_core.specs.Uses.{function_used}
use Rattle.p10_core.specs.WholePrograms.{parameter_types, frame_bytes}
use Rattle.p10_calls.specs.CallGraphs.{callees_of, call_graph}
use Rattle.p10_calls.proofs.Uniqueness.{ranks_are_unique, no_ranks_on_cycles}
use Rattle.p10_cert.specs.Claims.{Func, Loop, Claims}
use Rattle.p10_sums.specs.declared.sum.FuncSum.{FuncSum}
use Rattle.p10_sums.specs.Counting.{calls_claimed, bytes_claimed, alloc_claimed, loops_claimed, task_of}
use Rattle.p10_sums.specs.Depths.{with_callee, callees, greatest_number, depth_of, node_manages_memory, callee_manages_memory, have_effect}
use Rattle.p10_sums.specs.Sums.{sum_under, function_sum, sum_at}
use Rattle.p10_candidates.specs.Trials.{counted}
use Rattle.p10_finder.specs.Functions.{any_value, loops_of, with_turn_steps, counted_sum, func_found, total_of}
use Rattle.p10_finder.specs.Answers.{HaveResults, AreClaims}
use Rattle.p10_finder.proofs.Called.{OfUse, EachCalled, all_called}
use Rattle.p10_finder.proofs.SameValues.{Same}
use Rattle.p10_finder.proofs.SameLoops.{loops_of_same, result_same}
use Rattle.p10_finder.proofs.OneResult.{edges_each, results_same}
use Rattle.p10_finder.proofs.SameCosts.{OneClaim, counting_under}
use Rattle.p10_finder.proofs.SteadyCosts.{steps_steady, turns_steady, one_number}
use Rattle.p10_approach.specs.Offers.{Offers}

-- ## Lists

mapped_at : {A B : Type 0} (f : A → B) (xs : List A) (n : ℕ) (x : A) → slice_get xs n ≡ Some x → slice_get (map f xs) n ≡ Some (f x)
mapped_at f [] n x e = absurd cc
mapped_at f (y ∷ xs) zero x e = let same : y ≡ x = cc in ap (λ z. Some (f z)) same
mapped_at f (y ∷ xs) (suc n) x e = mapped_at f xs n x e

some_one : {A : Type 0} (x y : A) → Some x ≡ Some y → x ≡ y
some_one x y e = cc

lists_by_place : {A : Type 0} (xs ys : List A) → ((n : ℕ) → slice_get xs n ≡ slice_get ys n) → xs ≡ ys
lists_by_place [] [] all = refl
lists_by_place [] (y ∷ ys) all = let e : None ≡ Some y = all 0 in absurd cc
lists_by_place (x ∷ xs) [] all = let e : Some x ≡ None = all 0 in absurd cc
lists_by_place (x ∷ xs) (y ∷ ys) all =
    let first = some_one x y (all 0) in
    let rest = lists_by_place xs ys (λ n. all (suc n)) in
    λ i. first i ∷ rest i

-- ## Sums

module _ (fs gs : List Func) where
  with_use : (claimed : Option Func → ℕ) (u : Option FunctionUse) (xs : List ℕ) → OfUse (OneClaim fs gs) u → map (λ g. claimed (slice_get fs g)) xs ≡ map (λ g. claimed (slice_get gs g)) xs
      → map (λ g. claimed (slice_get fs g)) (with_callee u xs) ≡ map (λ g. claimed (slice_get gs g)) (with_callee u xs)
  with_use claimed None xs h e = e
  with_use claimed (Some u) xs h e = λ i. claimed (h i) ∷ e i

  callees_claimed : (claimed : Option Func → ℕ) (nodes : List PlainNode) → EachCalled (OneClaim fs gs) nodes → map (λ g. claimed (slice_get fs g)) (callees nodes) ≡ map (λ g. claimed (slice_get gs g)) (callees nodes)
  callees_claimed claimed [] h = refl
  callees_claimed claimed (n ∷ rest) h = with_use claimed (function_used n) (callees rest) h.0 (callees_claimed claimed rest h.1)

  depth_same : (f : PlainFunction) → EachCalled (OneClaim fs gs) (nodes_of_statements f.body) → depth_of fs f ≡ depth_of gs f
  depth_same f h =
      let calls = callees_claimed calls_claimed (nodes_of_statements f.body) h in
      let bytes = callees_claimed bytes_claimed (nodes_of_statements f.body) h in
      λ i. record { calls = 1 + greatest_number (calls i); bytes = frame_bytes f + greatest_number (bytes i) }

  callee_same : (u : Option FunctionUse) → OfUse (OneClaim fs gs) u → callee_manages_memory fs u ≡ callee_manages_memory gs u
  callee_same None h = refl
  callee_same (Some u) h = λ i. alloc_claimed (h i)

  effects_same : (nodes : List PlainNode) → EachCalled (OneClaim fs gs) nodes → have_effect fs nodes ≡ have_effect gs nodes
  effects_same [] h = refl
  effects_same (n ∷ rest) h =
      let one = callee_same (function_used n) h.0 in
      let more = effects_same rest h.1 in
      λ i. (node_manages_memory n || one i) || more i

  -- two sums by the same loops, with t steps of a turn
  pub one_sum : (p : PlainProgram) (task : Option ℕ) (f : PlainFunction) (loops : List Loop) (t : ℕ) → EachCalled (OneClaim fs gs) (nodes_of_statements f.body)
      → sum_under (counting_under p f.variables fs (map (with_turn_steps t) loops)) task f ≡ sum_under (counting_under p f.variables gs (map (with_turn_steps t) loops)) task f
  one_sum p task f loops t h =
      let steps = steps_steady p f.variables fs gs loops task f h in
      let turns = turns_steady p f.variables fs gs loops task f h in
      let depth = depth_same f h in
      let effect = effects_same (nodes_of_statements f.body) h in
      λ i. record { steps = steps.same t i; calls = (depth i).calls; bytes = (depth i).bytes; alloc = effect i; turn = turns.same t i }

  -- two sums by the same loops, each with its own steps of a turn
  sums_same : (p : PlainProgram) (task : Option ℕ) (f : PlainFunction) (loops : List Loop) (s t : FuncSum) → EachCalled (OneClaim fs gs) (nodes_of_statements f.body)
      → s ≡ sum_under (counting_under p f.variables fs (map (with_turn_steps (counted s.turn)) loops)) task f → t ≡ sum_under (counting_under p f.variables gs (map (with_turn_steps (counted t.turn)) loops)) task f → s ≡ t
  sums_same p task f loops s t h first second =
      let turns = turns_steady p f.variables fs gs loops task f h in
      let turn : counted s.turn ≡ counted t.turn = one_number _ _ s.turn t.turn turns (ap (λ (q : FuncSum). q.turn) first) (ap (λ (q : FuncSum). q.turn) second) in
      first ∙ (one_sum p task f loops (counted s.turn) h ∙ (ap (λ n. sum_under (counting_under p f.variables gs (map (with_turn_steps n) loops)) task f) turn ∙ sym second))

-- ## Claims

-- claims of a program have its results
pub claims_have_results : (o : Offers) (p : PlainProgram) (c : Claims) → AreClaims o p c → HaveResults o p c
claims_have_results o p c is = record {
  each = sym (length-map c.funcs (λ f. f.rank)) ∙ (is.ranks.each ∙ length-map p.functions (callees_of (length p.functions)));
  results = λ n f claim there claimed. let e : claim ≡ func_found o p c n claim.rank f = is.each n f claim there claimed in record {
    params = ap (λ (q : Func). q.params) e;
    recursive = λ on. absurd (no_ranks_on_cycles (call_graph p) (map (λ f. f.rank) c.funcs) is.ranks n on);
    other = λ none. ap (λ (q : Func). q.result) e;
  };
}

-- the sums of a function, by the loops that are found
sum_by : (o : Offers) (p : PlainProgram) (c : Claims) (n : ℕ) (f : PlainFunction) (a : Func) → slice_get p.functions n ≡ Some f → slice_get c.funcs n ≡ Some a → a ≡ func_found o p c n a.rank f
    → sum_at p c.funcs n ≡ sum_under (counting_under p f.variables c.funcs (map (with_turn_steps (counted (sum_at p c.funcs n).turn)) (loops_of o p c n f).claims)) (task_of p n) f
sum_by o p c n f a is claimed e =
    ap (function_sum p c.funcs n) is
    ∙ ((λ i. sum_under (counting_under p f.variables c.funcs (loops_claimed (claimed i))) (task_of p n) f)
    ∙ ap (λ (q : Func). sum_under (counting_under p f.variables c.funcs q.loops) (task_of p n) f) e)

module _ (o : Offers) (p : PlainProgram) (c d : Claims) (first : AreClaims o p c) (second : AreClaims o p d) where
  results : (n : ℕ) → Same c d n
  results n = results_same o p c d (claims_have_results o p c first) (claims_have_results o p d second) n

  -- one function, whose callees have one claim
  one_func : (n : ℕ) (f : PlainFunction) (a b : Func) → slice_get p.functions n ≡ Some f → slice_get c.funcs n ≡ Some a → slice_get d.funcs n ≡ Some b → EachCalled (OneClaim c.funcs d.funcs) (nodes_of_statements f.body) → a ≡ b
  one_func n f a b is claimed claimed2 h =
      let e : a ≡ func_found o p c n a.rank f = first.each n f a is claimed in
      let e2 : b ≡ func_found o p d n b.rank f = second.each n f b is claimed2 in
      let called = all_called (Same c d) results (nodes_of_statements f.body) in
      let loops = loops_of_same o p c d n f called in
      let result = result_same o p c d n f called in
      let ranks = ranks_are_unique (call_graph p) (map (λ f. f.rank) c.funcs) (map (λ f. f.rank) d.funcs) first.ranks second.ranks in
      let rank : a.rank ≡ b.rank = some_one a.rank b.rank
      (sym (mapped_at (λ (f : Func). f.rank) c.funcs n a claimed) ∙ (ap (λ (l : List ℕ). slice_get l n) ranks ∙ mapped_at (λ (f : Func). f.rank) d.funcs n b claimed2)) in
      let sum = sums_same c.funcs d.funcs p (task_of p n) f (loops_of o p c n f).claims (sum_at p c.funcs n) (sum_at p d.funcs n) h (sum_by o p c n f a is claimed e)
      (sum_by o p d n f b is claimed2 e2 ∙ (λ i. sum_under (counting_under p f.variables d.funcs (map (with_turn_steps (counted (sum_at p d.funcs n).turn)) (sym loops i).claims)) (task_of p n) f)) in
      let middle : func_found o p c n a.rank f ≡ func_found o p d n b.rank f = λ i. record {
        name = f.name;
        rank = rank i;
        steps = counted (sum i).steps;
        calls = counted (sum i).calls;
        bytes = counted (sum i).bytes;
        alloc = (sum i).alloc;
        params = map any_value (parameter_types f);
        result = result i;
        loops = map (with_turn_steps (counted (sum i).turn)) (loops i).claims;
      } in
      e ∙ (middle ∙ sym e2)

  past_one : (m : ℕ) → length p.functions ≤ m → OneClaim c.funcs d.funcs m
  past_one m past =
      let each : length c.funcs ≡ length p.functions = (claims_have_results o p c first).each in
      let each2 : length d.funcs ≡ length p.functions = (claims_have_results o p d second).each in
      slice_get_past c.funcs m (omega (arith, past, each)) ∙ sym (slice_get_past d.funcs m (omega (arith, past, each2)))

  -- by ranks: a function calls functions of smaller rank alone
  func_below : (k n : ℕ) → slice_index (map (λ (f : Func). f.rank) c.funcs) n < k → OneClaim c.funcs d.funcs n
  func_below zero n low = absurd (omega (arith, low))
  func_below (suc k) n low = elim (cases_lt n (length p.functions)) [
    | inr past ↦ past_one n past
    | inl inside ↦
        let each : length c.funcs ≡ length p.functions = (claims_have_results o p c first).each in
        let each2 : length d.funcs ≡ length p.functions = (claims_have_results o p d second).each in
        let nodes : length (call_graph p) ≡ length p.functions = length-map p.functions (callees_of (length p.functions)) in
        let rank = first.ranks.exact n (omega (arith, inside, nodes)) in
        elim (slice_get_cases p.functions n).1 [
          | inr (past, none) ↦ absurd (omega (arith, past, inside))
          | inl (f, there, is, got) ↦ elim (slice_get_cases c.funcs n).1 [
            | inr (past, none) ↦ absurd (omega (arith, past, inside, each))
            | inl (a, there2, is2, got2) ↦ elim (slice_get_cases d.funcs n).1 [
              | inr (past, none) ↦ absurd (omega (arith, past, inside, each2))
              | inl (b, there3, is3, got3) ↦
                  let same : a ≡ b = one_func n f a b is is2 is3 (edges_each p (OneClaim c.funcs d.funcs) n f is (λ m edge. func_below k m (let down = rank.above m edge in smaller _ _ k down low)) past_one) in
                  is2 ∙ (ap Some same ∙ sym is3)
            ]
          ]
        ]
  ]
    where
      smaller : (x y k : ℕ) → x < y → y < suc k → x < k
      smaller x y k down low = omega (arith, down, low)

  pub one_claims : c ≡ d
  one_claims =
      let funcs = lists_by_place c.funcs d.funcs (λ n. func_below (suc (slice_index (map (λ (f : Func). f.rank) c.funcs) n)) n (omega arith)) in
      let total = first.total ∙ (ap (λ (fs : List Func). total_of (counted_sum (sum_at p fs p.main))) funcs ∙ sym second.total) in
      λ i. record { funcs = funcs i; total = total i }
