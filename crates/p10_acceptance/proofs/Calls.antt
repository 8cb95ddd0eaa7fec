-- Each call in a whole function is of a function of the program, which has a lower rank (K2).
use Rattle.std.proofs.Common.{◌≡◌, ℕ, ◌+◌, ◌<◌, length, drop, cond, Bool, true, false, not, List, [], ◌∷◌, ◌++◌, map, Option, Some, None, refl, ap, sym, ◌∙◌, subst, arith, inl, inr}
use Rattle.std.specs.Prelude.{slice_get, nat_lt}
use Rattle.std.specs.List.{filter, Contains, slice_index}
use Rattle.std.proofs.lemmas.Bool.{lt-ltb}
use Rattle.std.proofs.lemmas.List.{length-map}
use Rattle.p10_core.specs.declared.uses.FunctionUse.{FunctionUse}
use Rattle.p10_core.specs.declared.statements.LoopKeyword.{LoopKeyword}
use Rattle.p10_core.specs.declared.statements.LoopKeyword.TheVariants.{While, Do, For}
use Rattle.p10_core.specs.Types.{PlainType}
use Rattle.p10_core.specs.Typed.{PlainValue, value, constant, read, sense, address, decay, convert, cast, unary, binary, logic, conditional, call, built_in, PlainPlace, place, variable, global, literal, index, member, dereference, PlainValues, no_values, more_values, PlainItem, PlainWritten, one_scalar, scalars_of_text, PlainInitializer, not_initialized, single, copied, listed, PlainStatement, statement, set, update, copy, evaluate, asserts, declare, declare_static, block, if_then, if_else, loop, switch, break, continue, return, empty, mark, PlainStatements, no_statements, more_statements, PlainFunction, PlainProgram}
use Rattle.p10_core.specs.Nodes.{PlainNode, nodes_of_value, nodes_of_place, nodes_of_values, nodes_of_maybe, nodes_of_written, nodes_of_items, nodes_of_initializer, in_loop_order, nodes_of_statement, nodes_of_statements}
use Rattle.p10_core.specs.Uses.{function_used}
use Rattle.p10_core.specs.Whole.{SeenFunction, Surroundings, IsWholeValue, IsWholePlace, AreWholeValues}
use Rattle.p10_core.specs.WholePrograms.{Region, around, after, after_all, surroundings_of, region_of, IsWholeWritten, width_of_written, AreWholeItems, IsWholeInitializer, IsMaybeTest, Returns, IsWholeStatement, AreWholeStatements, IsWholeProgram}
use Rattle.p10_core.specs.Sizes.{scalars_of}
use Rattle.p10_calls.specs.declared.sites.CallSite.{CallSite}
use Rattle.p10_calls.specs.CallSites.{call_sites}
use Rattle.p10_calls.specs.CallGraphs.{callees_of, call_graph}
use Rattle.p10_calls.proofs.Lists.{none_in, here, there, first_or_later, came_from}
use Rattle.p10_calls.proofs.Standing.{stands_in}
use Rattle.p10_calls.proofs.Edges.{edge_there}
use Rattle.p10_cert.specs.Claims.{Func, Claims}
use Rattle.p10_check.specs.Shapes.{rank_claimed, goes_down, rising_calls}
use Rattle.p10_finder.specs.Answers.{AreClaims}
use Rattle.p10_finder.proofs.Called.{OfUse, EachCalled, both_called}
use Rattle.p10_finder.proofs.OneClaims.{claims_have_results}
use Rattle.p10_acceptance.proofs.Statements.{IsIn, in_after, in_after_all}
use Rattle.p10_acceptance.proofs.Results.{is_there, there_below, index_is, mapped_at, seen_is}
use Rattle.p10_approach.specs.Offers.{Offers}

-- ## Values

module _ (P : ℕ → Type 0) (s : Surroundings) (seen : (n : ℕ) (x : SeenFunction) → s.function_at n ≡ Some x → P n) where
  mutual
    value_calls : (v : PlainValue) → IsWholeValue s v → EachCalled P (nodes_of_value v)
    value_calls (value at t (constant z)) i = (tt, tt)
    value_calls (value at t (read p)) i = (tt, place_calls p i.0)
    value_calls (value at t (sense n)) i = (tt, tt)
    value_calls (value at t (address p)) i = (tt, place_calls p i.0)
    value_calls (value at t (decay p)) i = (tt, place_calls p i.0)
    value_calls (value at t (convert v)) i = (tt, value_calls v i.0)
    value_calls (value at t (cast v)) i = (tt, value_calls v i.0)
    value_calls (value at t (unary op v)) i = (tt, value_calls v i.0)
    value_calls (value at t (binary op a b)) i = (tt, both_called P (nodes_of_value a) (nodes_of_value b) (value_calls a i.0) (value_calls b i.1))
    value_calls (value at t (logic op a b)) i = (tt, both_called P (nodes_of_value a) (nodes_of_value b) (value_calls a i.0) (value_calls b i.1))
    value_calls (value at t (conditional v a b)) i = (tt, both_called P (nodes_of_value v) (nodes_of_value a ++ nodes_of_value b) (value_calls v i.0) (both_called P (nodes_of_value a) (nodes_of_value b) (value_calls a i.1) (value_calls b i.2)))
    value_calls (value at t (call name n vs)) i = (seen n i.1.seen i.1.there, values_call vs i.0)
    value_calls (value at t (built_in name f vs)) i = (tt, values_call vs i.0)

    place_calls : (q : PlainPlace) → IsWholePlace s q → EachCalled P (nodes_of_place q)
    place_calls (place at t (variable n)) i = (tt, tt)
    place_calls (place at t (global n)) i = (tt, tt)
    place_calls (place at t (literal n bytes)) i = (tt, tt)
    place_calls (place at t (index a j)) i = (tt, both_called P (nodes_of_value a) (nodes_of_value j) (value_calls a i.0) (value_calls j i.1))
    place_calls (place at t (member q m)) i = (tt, place_calls q i.0)
    place_calls (place at t (dereference v)) i = (tt, value_calls v i.0)

    values_call : (vs : PlainValues) → AreWholeValues s vs → EachCalled P (nodes_of_values vs)
    values_call no_values i = tt
    values_call (more_values v vs) i = both_called P (nodes_of_value v) (nodes_of_values vs) (value_calls v i.0) (values_call vs i.1)

  items_call : (scalars : List PlainType) (items : List PlainItem) (from : ℕ) → AreWholeItems s scalars from items → EachCalled P (nodes_of_items items)
  items_call scalars [] from i = tt
  items_call scalars (item ∷ items) from i = both_called P (nodes_of_written item.written) (nodes_of_items items) (written item.written i.1) (items_call scalars items (item.scalar + width_of_written item.written) i.2)
    where
      written : (w : PlainWritten) → IsWholeWritten s (drop item.scalar scalars) w → EachCalled P (nodes_of_written w)
      written (one_scalar v) j = value_calls v j.whole
      written (scalars_of_text bytes) j = tt

  initializer_calls : (t : PlainType) (initializer : PlainInitializer) → IsWholeInitializer s t initializer → EachCalled P (nodes_of_initializer initializer)
  initializer_calls t not_initialized i = tt
  initializer_calls t (single v) i = value_calls v i.whole
  initializer_calls t (copied q) i = place_calls q i.whole
  initializer_calls t (listed at items) i = items_call (scalars_of s.structures t) items 0 i.whole

  maybe_calls : (o : Option PlainValue) → IsMaybeTest s o → EachCalled P (nodes_of_maybe o)
  maybe_calls None i = tt
  maybe_calls (Some v) i = value_calls v i.whole

  return_calls : (t : PlainType) (o : Option PlainValue) → Returns s t o → EachCalled P (nodes_of_maybe o)
  return_calls t None i = tt
  return_calls t (Some v) i = value_calls v i.0

-- ## Statements

loop_calls : (P : ℕ → Type 0) (keyword : LoopKeyword) (first test third body : List PlainNode) → EachCalled P first → EachCalled P test → EachCalled P third → EachCalled P body → EachCalled P (in_loop_order keyword first test third body)
loop_calls P While first test third body a b c d = both_called P first (test ++ (third ++ body)) a (both_called P test (third ++ body) b (both_called P third body c d))
loop_calls P For first test third body a b c d = both_called P first (test ++ (third ++ body)) a (both_called P test (third ++ body) b (both_called P third body c d))
loop_calls P Do first test third body a b c d = both_called P first (body ++ (test ++ third)) a (both_called P body (test ++ third) d (both_called P test third b c))

module _ (p : PlainProgram) (f : PlainFunction) (P : ℕ → Type 0) (known : (n : ℕ) (x : SeenFunction) → (surroundings_of p).function_at n ≡ Some x → P n) where
  seen_at : (r : Region) → IsIn p f r → (n : ℕ) (x : SeenFunction) → (around r).function_at n ≡ Some x → P n
  seen_at r h n x e = known n x (ap (λ (q : PlainProgram). (surroundings_of q).function_at n) (sym h.program_is) ∙ e)

  mutual
    statement_calls : (r : Region) → IsIn p f r → (x : PlainStatement) → IsWholeStatement r x → EachCalled P (nodes_of_statement x)
    statement_calls r h (statement at (set q v)) i = (tt, both_called P (nodes_of_place q) (nodes_of_value v) (place_calls P (around r) (seen_at r h) q i.place) (value_calls P (around r) (seen_at r h) v i.value))
    statement_calls r h (statement at (update how op t q v)) i = (tt, both_called P (nodes_of_place q) (nodes_of_value v) (place_calls P (around r) (seen_at r h) q i.place) (value_calls P (around r) (seen_at r h) v i.value))
    statement_calls r h (statement at (copy q s)) i = (tt, both_called P (nodes_of_place q) (nodes_of_place s) (place_calls P (around r) (seen_at r h) q i.target) (place_calls P (around r) (seen_at r h) s i.source.whole))
    statement_calls r h (statement at (evaluate v)) i = (tt, value_calls P (around r) (seen_at r h) v i)
    statement_calls r h (statement at (asserts within v)) i = (tt, value_calls P (around r) (seen_at r h) v i.whole)
    statement_calls r h (statement at (declare n initializer)) i = (tt, initializer_calls P (around (record r { scope = n ∷ r.scope })) (seen_at r h) i.variable.type initializer i.initializer)
    statement_calls r h (statement at (declare_static n)) i = (tt, tt)
    statement_calls r h (statement at (block xs)) i = (tt, statements_call r h xs i)
    statement_calls r h (statement at (if_then v x)) i = (tt, both_called P (nodes_of_value v) (nodes_of_statement x) (value_calls P (around r) (seen_at r h) v i.0.whole) (statement_calls r h x i.1))
    statement_calls r h (statement at (if_else v x y)) i = (
      tt,
      both_called P (nodes_of_value v) (nodes_of_statement x ++ nodes_of_statement y) (value_calls P (around r) (seen_at r h) v i.0.whole)
          (both_called P (nodes_of_statement x) (nodes_of_statement y) (statement_calls r h x i.1) (statement_calls r h y i.2)),
    )
    statement_calls r h (statement at (loop head first tested third body)) i =
        let j = in_after_all p f r first h in (
          tt,
          loop_calls P head.keyword (nodes_of_statements first) (nodes_of_maybe tested) (nodes_of_statements third) (nodes_of_statement body) (statements_call r h first i.0)
              (maybe_calls P (around (after_all r first)) (seen_at (after_all r first) j) tested i.1) (statements_call (after_all r first) j third i.2)
              (statement_calls (record (after_all r first) { in_loop = true }) (record { program_is = j.program_is; function_is = j.function_is }) body i.3),
        )
    statement_calls r h (statement at (switch keyword v labels body)) i = (
      tt,
      both_called P (nodes_of_value v) (nodes_of_statement body) (value_calls P (around r) (seen_at r h) v i.0.whole)
          (statement_calls (record r { in_switch = true }) (record { program_is = h.program_is; function_is = h.function_is }) body i.1),
    )
    statement_calls r h (statement at break) i = (tt, tt)
    statement_calls r h (statement at continue) i = (tt, tt)
    statement_calls r h (statement at (return keyword v)) i = (tt, return_calls P (around r) (seen_at r h) r.function.result v i)
    statement_calls r h (statement at empty) i = (tt, tt)
    statement_calls r h (statement at (mark kind)) i = (tt, tt)

    statements_call : (r : Region) → IsIn p f r → (xs : PlainStatements) → AreWholeStatements r xs → EachCalled P (nodes_of_statements xs)
    statements_call r h no_statements i = tt
    statements_call r h (more_statements x rest) i = both_called P (nodes_of_statement x) (nodes_of_statements rest) (statement_calls r h x i.0) (statements_call (after r x) (in_after p f r x h) rest i.1)

-- ## Ranks

called_of : (P : ℕ → Type 0) (nodes : List PlainNode) → EachCalled P nodes → (x : PlainNode) (u : FunctionUse) → Contains nodes x → function_used x ≡ Some u → P u.function
called_of P [] h x u held e = absurd (none_in x held)
called_of P (y ∷ rest) h x u held e = elim (first_or_later y rest x held) [
  | inl same ↦ subst (OfUse P) (ap function_used same ∙ e) h.0
  | inr later ↦ called_of P rest h.1 x u later e
]

pub none_passes : {A : Type 0} (test : A → Bool) (xs : List A) → ((x : A) → Contains xs x → test x ≡ false) → filter test xs ≡ []
none_passes test [] h = refl
none_passes test (x ∷ xs) h = ap (λ b. cond b (x ∷ filter test xs) (filter test xs)) (h x (here x xs)) ∙ none_passes test xs (λ y held. h y (there x xs y held))

module _ (o : Offers) (p : PlainProgram) (whole : IsWholeProgram p) (c : Claims) (is : AreClaims o p c) where
  lower : (s : CallSite) → Contains (call_sites p) s → goes_down c.funcs s ≡ true
  lower s held =
      let at = stands_in 0 p.functions s held in
      let function : slice_get p.functions at.place ≡ Some at.function = at.there in
      let inside : s.caller ≡ at.place = plain s.caller at.place at.caller_is in
      let used = came_from function_used (nodes_of_statements at.function.body) s.call at.made in
      let each = statements_call p at.function (λ m. m < length p.functions) (λ n x e. let i = seen_is p n x e in there_below p.functions n i.function i.there) (region_of p at.place at.function) (record { program_is = refl; function_is = refl }) at.function.body
      (whole.functions at.place at.function function).body in
      let called_low : s.call.function < length p.functions = called_of (λ m. m < length p.functions) (nodes_of_statements at.function.body) each used.0 s.call used.1 used.2 in
      let caller_low : s.caller < length p.functions = let low = there_below p.functions at.place at.function function in omega (arith, low, inside) in
      let edge = edge_there p s s.caller s.call.function held (record { caller_is = refl; called_is = refl; caller_low = caller_low; called_low = called_low }) in
      let same : length c.funcs ≡ length p.functions = (claims_have_results o p c is).each in
      let nodes : length (call_graph p) ≡ length p.functions = length-map p.functions (callees_of (length p.functions)) in
      let up = (is.ranks.exact s.caller (omega (arith, caller_low, nodes))).above s.call.function edge in
      let first = is_there c.funcs s.call.function (omega (arith, called_low, same)) in
      let second = is_there c.funcs s.caller (omega (arith, caller_low, same)) in
      let rank : slice_index (map (λ (f : Func). f.rank) c.funcs) s.call.function ≡ first.0.rank = index_is (map (λ (f : Func). f.rank) c.funcs) s.call.function first.0.rank (mapped_at (λ (f : Func). f.rank) c.funcs s.call.function first.0 first.1) in
      let other : slice_index (map (λ (f : Func). f.rank) c.funcs) s.caller ≡ second.0.rank = index_is (map (λ (f : Func). f.rank) c.funcs) s.caller second.0.rank (mapped_at (λ (f : Func). f.rank) c.funcs s.caller second.0 second.1) in
      ap (λ o. nat_lt (rank_claimed o) (rank_claimed (slice_get c.funcs s.caller))) first.1
      ∙ (ap (λ o. nat_lt first.0.rank (rank_claimed o)) second.1 ∙ lt-ltb first.0.rank second.0.rank (omega (arith, up, rank, other)))
    where
      plain : (a b : ℕ) → a ≡ 0 + b → a ≡ b
      plain a b e = omega (arith, e)

  -- K2
  pub ranks_hold : rising_calls p c.funcs ≡ []
  ranks_hold = ap (map (λ (s : CallSite). s.call.name)) (none_passes (λ s. not (goes_down c.funcs s)) (call_sites p) (λ s held. ap not (lower s held)))
