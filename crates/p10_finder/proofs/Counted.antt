-- Sums that are counted, each after those of the functions that are called, are those of the program's claims.
use Rattle.std.proofs.Common.{◌≡◌, ℕ, ◌+◌, ◌<◌, ◌≤◌, List, length, map, get_or, Some, refl, sym, ap, ◌∙◌, subst, arith, inl, inr}
use Rattle.std.specs.Prelude.{slice_get}
use Rattle.std.specs.List.{slice_index}
use Rattle.std.proofs.lemmas.Bool.{cases_lt}
use Rattle.std.proofs.Math.ListN.{set, length-set}
use Rattle.std.proofs.lemmas.List.{length-map}
use Rattle.std.proofs.lemmas.Option.{slice_get_past, slice_get_cases, get_or_from_slice_get}
use Rattle.std.proofs.lemmas.Grind.{same_number_lists}
use Rattle.p10_base.specs.declared.report.Bounds.{Bounds}
use Rattle.p10_base.specs.declared.report.TheConstants.Limit.{MOST_SUM}
use Rattle.p10_core.specs.Typed.{PlainFunction, PlainProgram}
use Rattle.p10_core.specs.Nodes.{nodes_of_statements}
use Rattle.p10_core.specs.WholePrograms.{parameter_types}
use Rattle.p10_graph.specs.Graphs.{Edge}
use Rattle.p10_calls.specs.CallGraphs.{callees_of, call_graph}
use Rattle.p10_calls.specs.Ranks.{AreRanks}
use Rattle.p10_cert.specs.Claims.{Func, Claims}
use Rattle.p10_absx.proofs.Entries.{get_map, get_below, get_set, get_other}
use Rattle.p10_sums.specs.declared.sum.FuncSum.{FuncSum}
use Rattle.p10_sums.specs.Counting.{loops_claimed, task_of}
use Rattle.p10_sums.specs.Sums.{sum_under, function_sum, sum_at}
use Rattle.p10_candidates.specs.Trials.{counted}
use Rattle.p10_finder.specs.Functions.{any_value, loops_of, with_turn_steps, counted_sum, func_found, total_of}
use Rattle.p10_finder.specs.Answers.{AreClaims}
use Rattle.p10_finder.specs.private.Counting.{unsummed, AreUnsummed, with_sum, with_sums, first_sum, counted_once, IsSum, AreSumsBelow, AreSums}
use Rattle.p10_finder.proofs.Called.{EachCalled, all_called}
use Rattle.p10_finder.proofs.SameValues.{Same}
use Rattle.p10_finder.proofs.SameLoops.{loops_of_same, result_same}
use Rattle.p10_finder.proofs.OneResult.{none_same, some_same, edges_each}
use Rattle.p10_finder.proofs.SameCosts.{OneClaim, counting_under}
use Rattle.p10_finder.proofs.SteadyCosts.{turns_steady, own_number}
use Rattle.p10_finder.proofs.OneClaims.{one_sum}
use Rattle.p10_finder.proofs.Listing.{with_sums_at, with_sums_length, claims_same}
use Rattle.p10_approach.specs.Offers.{Offers}

some_one : {A : Type 0} (x y : A) → Some x ≡ Some y → x ≡ y
some_one x y e = cc

-- ## One function

pub sum_is : (made sum : FuncSum) → made.steps ≡ counted sum.steps → made.calls ≡ counted sum.calls → made.bytes ≡ counted sum.bytes → made.alloc ≡ sum.alloc → made.turn ≡ counted sum.turn → made ≡ counted_sum sum
sum_is made sum steps calls bytes alloc turn = λ i. record { steps = steps i; calls = calls i; bytes = bytes i; alloc = alloc i; turn = turn i }

-- the sums of the functions with a number are counted under claims, and the others are as they were
record AreCountedAt (p : PlainProgram) (funcs : List Func) (numbers : List ℕ) (number : ℕ) (old new : List FuncSum) : Type 0 where
  each : length new ≡ length old
  counted : (n : ℕ) → n < length old → slice_index numbers n ≡ number → slice_get new n ≡ Some (counted_sum (sum_at p funcs n))
  others : (n : ℕ) → (slice_index numbers n ≡ number → ⊥) → slice_get new n ≡ slice_get old n

-- the only function with the number was counted
counted_one : (p : PlainProgram) (funcs : List Func) (numbers : List ℕ) (number node : ℕ) (old : List FuncSum) → node < length old → slice_index numbers node ≡ number → ((n : ℕ) → n < length old → slice_index numbers n ≡ number → n ≡ node)
    → AreCountedAt p funcs numbers number old (set old node (counted_sum (sum_at p funcs node)))
counted_one p funcs numbers number node old inside is only =
    let made : FuncSum = counted_sum (sum_at p funcs node) in
    record {
      each = length-set old node made;
      counted = λ n low at. subst (λ (m : ℕ). slice_get (set old node made) m ≡ Some (counted_sum (sum_at p funcs m))) (sym (only n low at)) (get_set old node made inside);
      others = λ n apart. get_other old node n made (λ here. apart (ap (slice_index numbers) here ∙ is));
    }

module _ (o : Offers) (p : PlainProgram) (c : Claims) (ranks numbers : List ℕ) (are : AreUnsummed o p c ranks c.funcs) where
  -- ## What a function costs under sums

  -- the same by t steps of a turn of the task
  abbrev cost : List FuncSum → ℕ → PlainFunction → ℕ → FuncSum
  cost ss n f t = sum_under (counting_under p f.variables (with_sums c.funcs ss) (map (with_turn_steps t) (loops_of o p c n f).claims)) (task_of p n) f

  own_cost : (ss : List FuncSum) (n : ℕ) (f : PlainFunction) (s : FuncSum) → slice_get p.functions n ≡ Some f → slice_get ss n ≡ Some s → sum_at p (with_sums c.funcs ss) n ≡ cost ss n f s.turn
  own_cost ss n f s is is2 =
      let claimed = with_sums_at c.funcs ss n (unsummed o p c n (slice_index ranks n) f) s (are.claims n f is) is2 in
      ap (function_sum p (with_sums c.funcs ss) n) is ∙ (λ i. sum_under (counting_under p f.variables (with_sums c.funcs ss) (loops_claimed (claimed i))) (task_of p n) f)

  -- ## A function counted twice

  module _ (falls : (n m : ℕ) → n < length p.functions → Edge (call_graph p) n m → slice_index numbers m < slice_index numbers n) (number : ℕ) (zeroth first second : List FuncSum) (below : AreSumsBelow p c numbers number zeroth)
      (once : AreCountedAt p (with_sums c.funcs zeroth) numbers number zeroth first) (twice : AreCountedAt p (with_sums c.funcs first) numbers number first second) where
    unchanged : (m : ℕ) → (slice_index numbers m ≡ number → ⊥) → slice_get second m ≡ slice_get zeroth m
    unchanged m apart = twice.others m apart ∙ once.others m apart

    size : length first ≡ length p.functions
    size = once.each ∙ below.each

    size_after : length second ≡ length p.functions
    size_after = twice.each ∙ size

    past_first : (m : ℕ) → length p.functions ≤ m → OneClaim (with_sums c.funcs first) (with_sums c.funcs zeroth) m
    past_first m past =
        let before : length zeroth ≡ length p.functions = below.each in
        let now : length first ≡ length p.functions = size in
        claims_same c.funcs first zeroth m (slice_get_past first m (omega (arith, past, now)) ∙ sym (slice_get_past zeroth m (omega (arith, past, before))))

    past_second : (m : ℕ) → length p.functions ≤ m → OneClaim (with_sums c.funcs second) (with_sums c.funcs zeroth) m
    past_second m past =
        let before : length zeroth ≡ length p.functions = below.each in
        let now : length second ≡ length p.functions = size_after in
        claims_same c.funcs second zeroth m (slice_get_past second m (omega (arith, past, now)) ∙ sym (slice_get_past zeroth m (omega (arith, past, before))))

    -- a function that is called has a smaller number
    smaller : (n m : ℕ) → n < length p.functions → slice_index numbers n ≤ number → Edge (call_graph p) n m → slice_index numbers m ≡ number → ⊥
    smaller n m low few edge same =
        let under : slice_index numbers m < slice_index numbers n = falls n m low edge in
        omega (arith, under, few, same)

    called_first : (n : ℕ) (f : PlainFunction) → slice_get p.functions n ≡ Some f → slice_index numbers n ≤ number → EachCalled (OneClaim (with_sums c.funcs first) (with_sums c.funcs zeroth)) (nodes_of_statements f.body)
    called_first n f is few =
        edges_each p (OneClaim (with_sums c.funcs first) (with_sums c.funcs zeroth)) n f is
        (λ m edge. claims_same c.funcs first zeroth m (once.others m (smaller n m (get_below p.functions n f is) few edge))) past_first

    called_second : (n : ℕ) (f : PlainFunction) → slice_get p.functions n ≡ Some f → slice_index numbers n ≤ number → EachCalled (OneClaim (with_sums c.funcs second) (with_sums c.funcs zeroth)) (nodes_of_statements f.body)
    called_second n f is few =
        edges_each p (OneClaim (with_sums c.funcs second) (with_sums c.funcs zeroth)) n f is
        (λ m edge. claims_same c.funcs second zeroth m (unchanged m (smaller n m (get_below p.functions n f is) few edge))) past_second

    -- what functions of smaller numbers cost is as before
    still : (n : ℕ) (f : PlainFunction) (s : FuncSum) → slice_get p.functions n ≡ Some f → slice_index numbers n < number → slice_get zeroth n ≡ Some s → IsSum p c zeroth n → IsSum p c second n
    still n f s is low claimed sum =
        let same : slice_get second n ≡ slice_get zeroth n = unchanged n (λ e. let l : slice_index numbers n < number = low in omega (arith, l, e)) in
        let few : slice_index numbers n ≤ number = omega (arith, low) in
        let costs : sum_at p (with_sums c.funcs zeroth) n ≡ sum_at p (with_sums c.funcs second) n =
        own_cost zeroth n f s is claimed ∙ (sym (one_sum (with_sums c.funcs second) (with_sums c.funcs zeroth) p (task_of p n) f (loops_of o p c n f).claims s.turn (called_second n f is few)) ∙ sym (own_cost second n f s is (same ∙ claimed))) in
        same ∙ (sum ∙ ap (λ q. Some (counted_sum q)) costs)

    -- and what a function of this number costs is its own
    now_own : (n : ℕ) (f : PlainFunction) → slice_get p.functions n ≡ Some f → slice_index numbers n ≡ number → slice_get zeroth n ≡ Some first_sum → IsSum p c second n
    now_own n f is same start =
        let low : n < length p.functions = get_below p.functions n f is in
        let few : slice_index numbers n ≤ number = omega (arith, same) in
        let before : length zeroth ≡ length p.functions = below.each in
        let between : length first ≡ length p.functions = size in
        let s1 : FuncSum = counted_sum (sum_at p (with_sums c.funcs zeroth) n) in
        let s2 : FuncSum = counted_sum (sum_at p (with_sums c.funcs first) n) in
        let one : slice_get first n ≡ Some s1 = once.counted n (omega (arith, low, before)) same in
        let two : slice_get second n ≡ Some s2 = twice.counted n (omega (arith, low, between)) same in
        let loops = (loops_of o p c n f).claims in
        let same1 : (t : ℕ) → cost first n f t ≡ cost zeroth n f t = λ t. one_sum (with_sums c.funcs first) (with_sums c.funcs zeroth) p (task_of p n) f loops t (called_first n f is few) in
        let same2 : (t : ℕ) → cost second n f t ≡ cost zeroth n f t = λ t. one_sum (with_sums c.funcs second) (with_sums c.funcs zeroth) p (task_of p n) f loops t (called_second n f is few) in
        let cost0 : sum_at p (with_sums c.funcs zeroth) n ≡ cost zeroth n f (MOST_SUM + 1) = own_cost zeroth n f first_sum is start in
        let cost1 : sum_at p (with_sums c.funcs first) n ≡ cost zeroth n f s1.turn = own_cost first n f s1 is one ∙ same1 s1.turn in
        let cost2 : sum_at p (with_sums c.funcs second) n ≡ cost zeroth n f s2.turn = own_cost second n f s2 is two ∙ same2 s2.turn in
        let steady = turns_steady p f.variables (with_sums c.funcs zeroth) (with_sums c.funcs zeroth) loops (task_of p n) f (all_called (OneClaim (with_sums c.funcs zeroth) (with_sums c.funcs zeroth)) (λ m. refl) (nodes_of_statements f.body)) in
        let turn1 : s1.turn ≡ counted (cost zeroth n f (MOST_SUM + 1)).turn = ap (λ (q : FuncSum). counted q.turn) cost0 in
        let turn2 : s2.turn ≡ s1.turn =
        ap (λ (q : FuncSum). counted q.turn) cost1 ∙ (ap (λ t. counted (cost zeroth n f t).turn) turn1 ∙ (own_number (λ t. (cost zeroth n f t).turn) steady.kind ∙ sym turn1)) in
        let costs : sum_at p (with_sums c.funcs first) n ≡ sum_at p (with_sums c.funcs second) n = cost1 ∙ (ap (cost zeroth n f) (sym turn2) ∙ sym cost2) in
        two ∙ ap (λ q. Some (counted_sum q)) costs

    one_number_more : AreSumsBelow p c numbers (number + 1) second
    one_number_more = record {
      each = size_after;
      counted = λ n low under. elim (slice_get_cases p.functions n).1 [
        | inr (past, none) ↦ absurd (omega (arith, past, low))
        | inl (f, inside, is, got) ↦ elim (cases_lt (slice_index numbers n) number) [
          | inl less ↦
              let sum = below.counted n low less in
              still n f (counted_sum (sum_at p (with_sums c.funcs zeroth) n)) is less sum sum
          | inr over ↦
              let same : slice_index numbers n ≡ number = omega (arith, under, over) in
              now_own n f is same (below.first n low over)
        ]
      ];
      first = λ n low over.
          unchanged n (λ same. let l : number + 1 ≤ slice_index numbers n = over in omega (arith, l, same)) ∙ below.first n low (omega (arith, over));
    }

  -- ## All functions

  pub first_sums : (sums : List FuncSum) → length sums ≡ length p.functions → ((n : ℕ) → n < length sums → slice_get sums n ≡ Some first_sum) → AreSumsBelow p c numbers 0 sums
  first_sums sums each all = record {
    each = each;
    counted = λ n low under. absurd (omega (arith, under));
    first = λ n low over. let e : length sums ≡ length p.functions = each in all n (omega (arith, low, e));
  }

  pub all_sums : (sums : List FuncSum) (end : ℕ) → ((n : ℕ) → n < length p.functions → slice_index numbers n < end) → AreSumsBelow p c numbers end sums → AreSums p c sums
  all_sums sums end few below = record { each = below.each; counted = λ n low. below.counted n low (few n low) }

  -- no function has the number
  pub none_more : (sums : List FuncSum) (number : ℕ) → ((n : ℕ) → n < length p.functions → slice_index numbers n ≡ number → ⊥) → AreSumsBelow p c numbers number sums → AreSumsBelow p c numbers (number + 1) sums
  none_more sums number none below = record {
    each = below.each;
    counted = λ n low under. let apart : slice_index numbers n ≡ number → ⊥ = none n low in below.counted n low (omega (arith, under, apart));
    first = λ n low over. below.first n low (omega (arith, over));
  }

  -- the only function with the number is counted
  pub one_more : (falls : (n m : ℕ) → n < length p.functions → Edge (call_graph p) n m → slice_index numbers m < slice_index numbers n) (node number : ℕ) (sums : List FuncSum) → node < length p.functions → slice_index numbers node ≡ number
      → ((n : ℕ) → n < length p.functions → slice_index numbers n ≡ number → n ≡ node) → AreSumsBelow p c numbers number sums → AreSumsBelow p c numbers (number + 1) (counted_once p c.funcs node (counted_once p c.funcs node sums))
  one_more falls node number sums there is only below =
      let first : List FuncSum = counted_once p c.funcs node sums in
      let second : List FuncSum = counted_once p c.funcs node first in
      let size : length sums ≡ length p.functions = below.each in
      let between : length first ≡ length sums = length-set sums node (counted_sum (sum_at p (with_sums c.funcs sums) node)) in
      one_number_more falls number sums first second below
      (counted_one p (with_sums c.funcs sums) numbers number node sums (omega (arith, there, size)) is (λ n low at. only n (omega (arith, low, size)) at))
      (counted_one p (with_sums c.funcs first) numbers number node first (omega (arith, there, size, between)) is (λ n low at. only n (omega (arith, low, size, between)) at))

  -- ## Claims

  module _ (right : AreRanks (call_graph p) ranks) (sums : List FuncSum) (all : AreSums p c sums) (total : Bounds) where
    -- the claims with their sums
    abbrev done : Claims
    done = record { funcs = with_sums c.funcs sums; total = total }

    done_length : length (with_sums c.funcs sums) ≡ length p.functions
    done_length =
        let each : length c.funcs ≡ length p.functions = are.each in
        let size : length sums ≡ length p.functions = all.each in
        with_sums_length c.funcs sums (omega (arith, each, size)) ∙ each

    done_at : (n : ℕ) (f : PlainFunction) → slice_get p.functions n ≡ Some f → slice_get (with_sums c.funcs sums) n ≡ Some (with_sum (counted_sum (sum_at p (with_sums c.funcs sums) n)) (unsummed o p c n (slice_index ranks n) f))
    done_at n f is = with_sums_at c.funcs sums n (unsummed o p c n (slice_index ranks n) f) (counted_sum (sum_at p (with_sums c.funcs sums) n)) (are.claims n f is) (all.counted n (get_below p.functions n f is))

    results_done : (n : ℕ) → Same c done n
    results_done n =
        let each : length c.funcs ≡ length p.functions = are.each in
        let size : length (with_sums c.funcs sums) ≡ length p.functions = done_length in
        elim (cases_lt n (length p.functions)) [
          | inr past ↦ none_same (slice_get c.funcs n) (slice_get (with_sums c.funcs sums) n) (slice_get_past c.funcs n (omega (arith, past, each))) (slice_get_past (with_sums c.funcs sums) n (omega (arith, past, size)))
          | inl low ↦ elim (slice_get_cases p.functions n).1 [
            | inr (past, none) ↦ absurd (omega (arith, past, low))
            | inl (f, inside, is, got) ↦
                some_same (slice_get c.funcs n) (slice_get (with_sums c.funcs sums) n) (unsummed o p c n (slice_index ranks n) f)
                (with_sum (counted_sum (sum_at p (with_sums c.funcs sums) n)) (unsummed o p c n (slice_index ranks n) f)) (are.claims n f is) (done_at n f is) refl refl
          ]
        ]

    -- a claim is what is found where the others stand
    claim_found : (n : ℕ) (f : PlainFunction) → with_sum (counted_sum (sum_at p (with_sums c.funcs sums) n)) (unsummed o p c n (slice_index ranks n) f) ≡ func_found o p done n (slice_index ranks n) f
    claim_found n f =
        let called = all_called (Same c done) results_done (nodes_of_statements f.body) in
        let loops = loops_of_same o p c done n f called in
        let result = result_same o p c done n f called in
        let sum : FuncSum = counted_sum (sum_at p (with_sums c.funcs sums) n) in
        λ i. record {
          name = f.name;
          rank = slice_index ranks n;
          steps = sum.steps;
          calls = sum.calls;
          bytes = sum.bytes;
          alloc = sum.alloc;
          params = map any_value (parameter_types f);
          result = result i;
          loops = map (with_turn_steps sum.turn) (loops i).claims;
        }

    ranks_at : (n : ℕ) → n < length (map (λ (f : Func). f.rank) (with_sums c.funcs sums)) → get_or (map (λ (f : Func). f.rank) (with_sums c.funcs sums)) n 0 ≡ get_or ranks n 0
    ranks_at n inside =
        let size : length (with_sums c.funcs sums) ≡ length p.functions = done_length in
        let mapped : length (map (λ (f : Func). f.rank) (with_sums c.funcs sums)) ≡ length (with_sums c.funcs sums) = length-map (with_sums c.funcs sums) (λ (f : Func). f.rank) in
        elim (slice_get_cases p.functions n).1 [
          | inr (past, none) ↦ absurd (omega (arith, past, inside, size, mapped))
          | inl (f, low, is, got) ↦
              get_or_from_slice_get (map (λ (f : Func). f.rank) (with_sums c.funcs sums)) n (slice_index ranks n) 0
              (get_map (λ (f : Func). f.rank) (with_sums c.funcs sums) n (with_sum (counted_sum (sum_at p (with_sums c.funcs sums) n)) (unsummed o p c n (slice_index ranks n) f)) (done_at n f is))
        ]

    ranks_are : map (λ (f : Func). f.rank) (with_sums c.funcs sums) ≡ ranks
    ranks_are =
        let size : length (with_sums c.funcs sums) ≡ length p.functions = done_length in
        let nodes : length (call_graph p) ≡ length p.functions = length-map p.functions (callees_of (length p.functions)) in
        same_number_lists (map (λ (f : Func). f.rank) (with_sums c.funcs sums)) ranks (length-map (with_sums c.funcs sums) (λ (f : Func). f.rank) ∙ (size ∙ (sym nodes ∙ sym right.each))) ranks_at

    pub are_claims : total ≡ total_of (counted_sum (sum_at p (with_sums c.funcs sums) p.main)) → AreClaims o p done
    are_claims is = record {
      ranks = subst (AreRanks (call_graph p)) (sym ranks_are) right;
      each = λ n f claim there claimed.
          let same : with_sum (counted_sum (sum_at p (with_sums c.funcs sums) n)) (unsummed o p c n (slice_index ranks n) f) ≡ claim = some_one _ claim (sym (done_at n f there) ∙ claimed) in
          subst (λ (q : Func). q ≡ func_found o p done n q.rank f) same (claim_found n f);
      total = is;
    }
