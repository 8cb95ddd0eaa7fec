-- What is claimed of each function's result is of its type: by ranks, since it is found where those of its callees stand.
use Rattle.std.proofs.Common.{◌≡◌, ℕ, zero, suc, ◌<◌, ◌≤◌, Bool, true, false, List, [], ◌∷◌, length, map, Option, Some, None, refl, sym, ap, ◌∙◌, subst, arith}
use Rattle.std.specs.Prelude.{slice_get, nat_lt, ◌&&◌, if◌then◌else◌, IfSome, ltb}
use Rattle.std.specs.Option.{option_map}
use Rattle.std.specs.List.{slice_index}
use Rattle.std.proofs.lemmas.Bool.{lt-ltb, ltb-true}
use Rattle.std.proofs.lemmas.List.{length-map}
use Rattle.std.proofs.lemmas.Option.{same_Some, slice_get-map, slice_get_past}
use Rattle.p10_int.specs.declared.types.IntType.{IntType}
use Rattle.p10_range.specs.Ranges.{Interval}
use Rattle.p10_range.specs.Rows.{values_of}
use Rattle.p10_range.specs.Laws.{IsOfType}
use Rattle.p10_core.specs.Types.{PlainType, void, integer, pointer, array, structure}
use Rattle.p10_core.specs.Constants.{integer_of}
use Rattle.p10_core.specs.Rows.{is_integer}
use Rattle.p10_core.specs.Typed.{PlainVariable, PlainFunction, PlainProgram}
use Rattle.p10_core.specs.Nodes.{nodes_of_statements}
use Rattle.p10_core.specs.WholePrograms.{region_of, loops_of as heads_of, IsWholeFunction, IsWholeProgram}
use Rattle.p10_graph.specs.Graphs.{Edge}
use Rattle.p10_calls.specs.CallGraphs.{callees_of, call_graph}
use Rattle.p10_cert.specs.Claims.{Value, Number, Address, Nothing, Func, Claims}
use Rattle.p10_absx.specs.Abstract.{Abstract, only_range}
use Rattle.p10_absx.specs.Environments.{known}
use Rattle.p10_absx.specs.Assessing.{result_claimed}
use Rattle.p10_absx.specs.Entering.{parameter_claimed, entries_from}
use Rattle.p10_absx.proofs.Entries.{get_below}
use Rattle.p10_fit.specs.Sites.{task_loop_number}
use Rattle.p10_known.specs.Typing.{AreOfTypes, ResultsOfTypes}
use Rattle.p10_known.proofs.Ranges.{all_of_type, Has}
use Rattle.p10_known.proofs.Statements.{Lies, statements_types}
use Rattle.p10_finder.specs.Loops.{no_loops}
use Rattle.p10_finder.specs.Functions.{known_at_start, loops_of, result_by, result_of}
use Rattle.p10_finder.specs.Answers.{AreClaims}
use Rattle.p10_finder.proofs.Called.{EachCalled}
use Rattle.p10_finder.proofs.SameValues.{SayTheSame, Same}
use Rattle.p10_finder.proofs.SameLoops.{result_same}
use Rattle.p10_finder.proofs.OneResult.{edges_each}
use Rattle.p10_derived_texts.proofs.Walking.{Right, right_so, lines_of, task_count, tasks_among, one_task_among, function_free, statements_right}
use Rattle.p10_approach.specs.Offers.{Offers, AreOffers}

-- ## Where a function begins

entry_has : (k parameters : ℕ) (vs : List PlainVariable) (i : ℕ) (v : PlainVariable) (a : Abstract) → slice_get vs i ≡ Some v → known (entries_from k parameters [] vs) i ≡ Some a → Has (integer_of v.type) a
entry_has k parameters [] i v a there e = absurd cc
entry_has k parameters (u ∷ vs) zero v a there e = at (ltb k parameters && u.frame && is_integer u.type) e
  where
    same : u ≡ v
    same = same_Some _ _ there

    at : (b : Bool) → (if b then Some (only_range (parameter_claimed (integer_of u.type) (slice_get [] k))) else None) ≡ Some a → Has (integer_of v.type) a
    at true e = subst (Has (integer_of v.type)) (same_Some _ _ e) (subst (λ (w : PlainVariable). IsOfType (integer_of w.type) (values_of (integer_of u.type))) same (all_of_type (integer_of u.type)))
    at false e = absurd cc
entry_has k parameters (u ∷ vs) (suc i) v a there e = entry_has (suc k) parameters vs i v a there e

entry_places : (k parameters : ℕ) (vs : List PlainVariable) → length (entries_from k parameters [] vs) ≡ length vs
entry_places k parameters [] = refl
entry_places k parameters (v ∷ vs) = ap suc (entry_places (suc k) parameters vs)

start_typed : (f : PlainFunction) → AreOfTypes f.variables (known_at_start f)
start_typed f = record { places = entry_places 0 f.parameters f.variables; each = λ n v a there e. entry_has 0 f.parameters f.variables n v a there e }

-- ## Values that are claimed

-- the range that a claim on a value of a type has
abbrev pub value_claimed : IntType → Value → Interval
value_claimed kind (Number r) = r
value_claimed kind v = values_of kind

claimed_is : (kind : IntType) (g : Func) → result_claimed kind (Some g) ≡ value_claimed kind g.result
claimed_is kind g = at g.result
  where
    at : (v : Value) → result_claimed kind (Some (record g { result = v })) ≡ value_claimed kind v
    at (Number r) = refl
    at Address = refl
    at Nothing = refl

by_has : (t : PlainType) (o : Option Interval) → IfSome o (IsOfType (integer_of t)) → IsOfType (integer_of t) (value_claimed (integer_of t) (result_by t o))
by_has (integer c kind) (Some r) h = h
by_has (integer c kind) None h = all_of_type kind
by_has (pointer c t) o h = all_of_type (integer_of (pointer c t))
by_has (void c) o h = all_of_type (integer_of (void c))
by_has (array c t n) o h = all_of_type (integer_of (array c t n))
by_has (structure c n) o h = all_of_type (integer_of (structure c n))

-- ## Functions, where results of callees are of their types

module _ (o : Offers) (are : AreOffers o) (p : PlainProgram) (whole : IsWholeProgram p) (d : Claims) (results : ResultsOfTypes p (Some d)) (n : ℕ) (f : PlainFunction) (there : slice_get p.functions n ≡ Some f) where
  abbrev is_whole : IsWholeFunction p n f
  is_whole = whole.functions n f there

  lies : Lies p f (region_of p n f)
  lies = record { program_is = refl; function_is = refl }

  -- the loops have one task at most
  pub few_tasks : task_count (task_loop_number p n f) (heads_of f.body) ≤ 1
  few_tasks = subst (λ ns. tasks_among (task_loop_number p n f) ns ≤ 1) (sym is_whole.loops_in_order) (one_task_among (task_loop_number p n f) 0 (length (heads_of f.body)))

  pub loops_right : Right p f d results (task_loop_number p n f) (o n f) (are n f) 0 (task_count (task_loop_number p n f) (heads_of f.body)) (loops_of o p d n f)
  loops_right = right_so p f d results (task_loop_number p n f) (o n f) (are n f) 0 _ _ _ (omega arith)
      (statements_right p f d results (task_loop_number p n f) (o n f) (are n f) (region_of p n f) lies 0 0 f.body is_whole.body (function_free p n f few_tasks) (Some (known_at_start f)) (start_typed f) no_loops
      (record { fits = tt; nesting = λ rest h. h 0 (omega arith); tasks_are = refl; shallow = tt; marked = refl; near = tt }))

  pub result_has : IsOfType (integer_of f.result) (value_claimed (integer_of f.result) (result_of o p d n f))
  result_has = by_has f.result _ (statements_types p f (Some d) results (Some (loops_of o p d n f).claims) (lines_of p f d results (task_loop_number p n f) (o n f) (are n f) (loops_of o p d n f).claims loops_right.fits) None
      (region_of p n f) lies f.body is_whole.body (known_at_start f) (start_typed f)).returned

-- ## By ranks

module _ (o : Offers) (are : AreOffers o) (p : PlainProgram) (whole : IsWholeProgram p) (c : Claims) (is : AreClaims o p c) where
  abbrev cut_func : ℕ → Func → Func
  cut_func k g = if nat_lt g.rank k then g else record g { result = Nothing }

  -- the claims without the results of functions from a rank on
  abbrev cut : ℕ → Claims
  cut k = record c { funcs = map (cut_func k) c.funcs }

  -- results of functions below a rank are of their types
  abbrev AreBelow : ℕ → Type 0
  AreBelow k = (n : ℕ) (f : PlainFunction) (g : Func) → slice_get p.functions n ≡ Some f → slice_get c.funcs n ≡ Some g → g.rank < k → IsOfType (integer_of f.result) (result_claimed (integer_of f.result) (Some g))

  cut_results : (k : ℕ) → AreBelow k → ResultsOfTypes p (Some (cut k))
  cut_results k below = record { each = λ n f there. subst (λ o. IsOfType (integer_of f.result) (result_claimed (integer_of f.result) o)) (sym (slice_get-map (cut_func k) c.funcs n)) (at n f there (slice_get c.funcs n) refl) }
    where
      kept : (kind : IntType) (g : Func) (b : Bool) → (b ≡ true → IsOfType kind (result_claimed kind (Some g))) → IsOfType kind (result_claimed kind (Some (if b then g else record g { result = Nothing })))
      kept kind g true h = h refl
      kept kind g false h = all_of_type kind

      at : (n : ℕ) (f : PlainFunction) → slice_get p.functions n ≡ Some f → (o : Option Func) → slice_get c.funcs n ≡ o → IsOfType (integer_of f.result) (result_claimed (integer_of f.result) (option_map (cut_func k) o))
      at n f there None e = all_of_type (integer_of f.result)
      at n f there (Some g) e = kept (integer_of f.result) g (nat_lt g.rank k) (λ low. below n f g there e (ltb-true g.rank k low))

  -- a function of smaller rank is claimed with its result
  cut_same : (k m : ℕ) → ((g : Func) → slice_get c.funcs m ≡ Some g → g.rank < k) → Same c (cut k) m
  cut_same k m low = subst (SayTheSame (slice_get c.funcs m)) (sym (slice_get-map (cut_func k) c.funcs m)) (at (slice_get c.funcs m) refl)
    where
      kept : (g : Func) (b : Bool) → b ≡ true → SayTheSame (Some g) (Some (if b then g else record g { result = Nothing }))
      kept g true e = record { params = refl; result = λ kind. refl }
      kept g false e = absurd cc

      at : (o : Option Func) → slice_get c.funcs m ≡ o → SayTheSame o (option_map (cut_func k) o)
      at None e = record { params = refl; result = λ kind. refl }
      at (Some g) e = kept g (nat_lt g.rank k) (lt-ltb g.rank k (low g e))

  pub each_claim : length c.funcs ≡ length p.functions
  each_claim = sym (length-map c.funcs (λ (f : Func). f.rank)) ∙ (is.ranks.each ∙ length-map p.functions (callees_of (length p.functions)))

  -- the rank of a claim is that of its function's node
  pub rank_is : (n : ℕ) (g : Func) → slice_get c.funcs n ≡ Some g → slice_index (map (λ (f : Func). f.rank) c.funcs) n ≡ g.rank
  rank_is n g e = index_is (map (λ (f : Func). f.rank) c.funcs) n g.rank (slice_get-map (λ (f : Func). f.rank) c.funcs n ∙ ap (option_map (λ (f : Func). f.rank)) e)
    where
      index_is : (xs : List ℕ) (n x : ℕ) → slice_get xs n ≡ Some x → slice_index xs n ≡ x
      index_is [] n x e = absurd cc
      index_is (y ∷ xs) zero x e = same_Some _ _ e
      index_is (y ∷ xs) (suc n) x e = index_is xs n x e

  results_below : (k : ℕ) → AreBelow k
  results_below zero n f g there claimed low = absurd (omega (arith, low))
  results_below (suc k) n f g there claimed low =
      let called : EachCalled (Same c (cut k)) (nodes_of_statements f.body) = edges_each p (Same c (cut k)) n f there
      (λ m edge. cut_same k m (λ h e. smaller m h e (above m edge)))
      (λ m past. cut_same k m (λ h e. absurd (none_there m h past e))) in
      let same : result_of o p c n f ≡ result_of o p (cut k) n f = result_same o p c (cut k) n f called in
      let found : g.result ≡ result_of o p c n f = ap (λ (q : Func). q.result) (is.each n f g there claimed) in
      subst (IsOfType (integer_of f.result)) (sym (claimed_is (integer_of f.result) g ∙ ap (value_claimed (integer_of f.result)) (found ∙ same)))
      (result_has o are p whole (cut k) (cut_results k (results_below k)) n f there)
    where
      inside : n < length (call_graph p)
      inside = let nodes : length (call_graph p) ≡ length p.functions = length-map p.functions (callees_of (length p.functions)) in omega (arith, nodes, get_below p.functions n f there)

      above : (m : ℕ) → Edge (call_graph p) n m → slice_index (map (λ (f : Func). f.rank) c.funcs) m < slice_index (map (λ (f : Func). f.rank) c.funcs) n
      above m edge = (is.ranks.exact n inside).above m edge

      smaller : (m : ℕ) (h : Func) → slice_get c.funcs m ≡ Some h → slice_index (map (λ (f : Func). f.rank) c.funcs) m < slice_index (map (λ (f : Func). f.rank) c.funcs) n → h.rank < k
      smaller m h e less = omega (arith, less, low, rank_is m h e, rank_is n g claimed)

      none_there : (m : ℕ) (h : Func) → length p.functions ≤ m → slice_get c.funcs m ≡ Some h → ⊥
      none_there m h past e = let gone : slice_get c.funcs m ≡ None = slice_get_past c.funcs m (omega (arith, past, each_claim)) in absurd cc

  -- what is claimed of each result is of its type
  pub claims_results : ResultsOfTypes p (Some c)
  claims_results = record { each = λ n f there. at n f there (slice_get c.funcs n) refl }
    where
      at : (n : ℕ) (f : PlainFunction) → slice_get p.functions n ≡ Some f → (o : Option Func) → slice_get c.funcs n ≡ o → IsOfType (integer_of f.result) (result_claimed (integer_of f.result) o)
      at n f there None e = all_of_type (integer_of f.result)
      at n f there (Some g) e = results_below (suc g.rank) n f g there e (omega arith)
