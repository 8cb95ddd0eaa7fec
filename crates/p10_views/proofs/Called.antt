-- What holds of each function that trees call.
use Rattle.std.proofs.Common.{◌≡◌, ℕ, List, [], ◌∷◌, ◌++◌, Option, Some, None, refl, sym, subst}
use Rattle.std.specs.List.{AllByRecursion}
use Rattle.p10_base.specs.declared.at.At.{At}
use Rattle.p10_core.specs.declared.uses.FunctionUse.{FunctionUse}
use Rattle.p10_core.specs.declared.statements.LoopKeyword.{LoopKeyword}
use Rattle.p10_core.specs.declared.statements.LoopKeyword.TheVariants.{While, Do, For}
use Rattle.p10_core.specs.Types.{PlainType}
use Rattle.p10_core.specs.Typed.{PlainValue, value, PlainForm, constant, read, sense, address, decay, convert, cast, unary, binary, logic, conditional, call, built_in, PlainPlace, place, PlainPlaceForm, variable, global, literal, index, member, dereference, PlainValues, no_values, more_values}
use Rattle.p10_core.specs.Typed.{PlainWritten, one_scalar, scalars_of_text, PlainItem, PlainInitializer, not_initialized, single, copied, listed, PlainStatement, statement, PlainStatementForm, set, update, copy, evaluate, asserts, declare, declare_static, block, if_then, if_else, loop, switch, break, continue, return, empty, mark, PlainStatements, no_statements, more_statements}
use Rattle.p10_core.specs.Nodes.{PlainNode, a_value, in_loop_order, nodes_of_value, nodes_in_form, nodes_of_place, nodes_in_place_form, nodes_of_values, nodes_of_maybe, nodes_of_written, nodes_of_items, nodes_of_initializer, nodes_of_statement, nodes_in_statement_form, nodes_of_statements}
use Rattle.p10_core.specs.Uses.{function_used}
use Rattle.p10_sums.specs.Depths.{with_callee, callees}

abbrev mutual
  pub ValueCalls : (ℕ → Type 0) → PlainValue → Type 0
  ValueCalls T (value at t form) = FormCalls T form

  pub FormCalls : (ℕ → Type 0) → PlainForm → Type 0
  FormCalls T (constant z) = Unit {0}
  FormCalls T (read q) = PlaceCalls T q
  FormCalls T (sense n) = Unit {0}
  FormCalls T (address q) = PlaceCalls T q
  FormCalls T (decay q) = PlaceCalls T q
  FormCalls T (convert v) = ValueCalls T v
  FormCalls T (cast v) = ValueCalls T v
  FormCalls T (unary op v) = ValueCalls T v
  FormCalls T (binary op a b) = ValueCalls T a × ValueCalls T b
  FormCalls T (logic op a b) = ValueCalls T a × ValueCalls T b
  FormCalls T (conditional v a b) = ValueCalls T v × ValueCalls T a × ValueCalls T b
  FormCalls T (call name n arguments) = T n × ValuesCall T arguments
  FormCalls T (built_in name f arguments) = ValuesCall T arguments

  pub PlaceCalls : (ℕ → Type 0) → PlainPlace → Type 0
  PlaceCalls T (place at t form) = PlaceFormCalls T form

  pub PlaceFormCalls : (ℕ → Type 0) → PlainPlaceForm → Type 0
  PlaceFormCalls T (variable n) = Unit {0}
  PlaceFormCalls T (global n) = Unit {0}
  PlaceFormCalls T (literal n bytes) = Unit {0}
  PlaceFormCalls T (index a i) = ValueCalls T a × ValueCalls T i
  PlaceFormCalls T (member q m) = PlaceCalls T q
  PlaceFormCalls T (dereference v) = ValueCalls T v

  pub ValuesCall : (ℕ → Type 0) → PlainValues → Type 0
  ValuesCall T no_values = Unit {0}
  ValuesCall T (more_values v vs) = ValueCalls T v × ValuesCall T vs

abbrev pub MaybeCalls : (ℕ → Type 0) → Option PlainValue → Type 0
MaybeCalls T None = Unit {0}
MaybeCalls T (Some v) = ValueCalls T v

abbrev pub WrittenCalls : (ℕ → Type 0) → PlainWritten → Type 0
WrittenCalls T (one_scalar v) = ValueCalls T v
WrittenCalls T (scalars_of_text bytes) = Unit {0}

abbrev pub ItemsCall : (ℕ → Type 0) → List PlainItem → Type 0
ItemsCall T [] = Unit {0}
ItemsCall T (item ∷ items) = WrittenCalls T item.written × ItemsCall T items

abbrev pub InitializerCalls : (ℕ → Type 0) → PlainInitializer → Type 0
InitializerCalls T not_initialized = Unit {0}
InitializerCalls T (single v) = ValueCalls T v
InitializerCalls T (copied q) = PlaceCalls T q
InitializerCalls T (listed at items) = ItemsCall T items

abbrev mutual
  pub StatementCalls : (ℕ → Type 0) → PlainStatement → Type 0
  StatementCalls T (statement at form) = StatementFormCalls T form

  pub StatementFormCalls : (ℕ → Type 0) → PlainStatementForm → Type 0
  StatementFormCalls T (set q v) = PlaceCalls T q × ValueCalls T v
  StatementFormCalls T (update kind op t q v) = PlaceCalls T q × ValueCalls T v
  StatementFormCalls T (copy q r) = PlaceCalls T q × PlaceCalls T r
  StatementFormCalls T (evaluate v) = ValueCalls T v
  StatementFormCalls T (asserts at v) = ValueCalls T v
  StatementFormCalls T (declare n initializer) = InitializerCalls T initializer
  StatementFormCalls T (declare_static n) = Unit {0}
  StatementFormCalls T (block ss) = StatementsCall T ss
  StatementFormCalls T (if_then v s) = ValueCalls T v × StatementCalls T s
  StatementFormCalls T (if_else v s t) = ValueCalls T v × StatementCalls T s × StatementCalls T t
  StatementFormCalls T (loop head first test third body) = (StatementsCall T first × MaybeCalls T test) × (StatementsCall T third × StatementCalls T body)
  StatementFormCalls T (switch keyword v labels body) = ValueCalls T v × StatementCalls T body
  StatementFormCalls T break = Unit {0}
  StatementFormCalls T continue = Unit {0}
  StatementFormCalls T (return keyword v) = MaybeCalls T v
  StatementFormCalls T empty = Unit {0}
  StatementFormCalls T (mark kind) = Unit {0}

  pub StatementsCall : (ℕ → Type 0) → PlainStatements → Type 0
  StatementsCall T no_statements = Unit {0}
  StatementsCall T (more_statements s rest) = StatementCalls T s × StatementsCall T rest

-- ---- by the nodes of trees

abbrev UseHolds : (ℕ → Type 0) → Option FunctionUse → Type 0
UseHolds T None = Unit {0}
UseHolds T (Some called) = T called.function

abbrev NodesHold : (ℕ → Type 0) → List PlainNode → Type 0
NodesHold T nodes = AllByRecursion (λ n. UseHolds T (function_used n)) nodes

front : (T : ℕ → Type 0) (xs ys : List PlainNode) → NodesHold T (xs ++ ys) → NodesHold T xs
front T [] ys h = tt
front T (x ∷ xs) ys h = (h.0, front T xs ys h.1)

back : (T : ℕ → Type 0) (xs ys : List PlainNode) → NodesHold T (xs ++ ys) → NodesHold T ys
back T [] ys h = h
back T (x ∷ xs) ys h = back T xs ys h.1

mutual
  value_calls : (T : ℕ → Type 0) (v : PlainValue) → NodesHold T (nodes_of_value v) → ValueCalls T v
  value_calls T (value at t form) h = form_calls T at t form h.0 h.1

  form_calls : (T : ℕ → Type 0) (at : At) (t : PlainType) (form : PlainForm) → UseHolds T (function_used (a_value (value at t form))) → NodesHold T (nodes_in_form form) → FormCalls T form
  form_calls T at t (constant z) own h = tt
  form_calls T at t (read q) own h = place_calls T q h
  form_calls T at t (sense n) own h = tt
  form_calls T at t (address q) own h = place_calls T q h
  form_calls T at t (decay q) own h = place_calls T q h
  form_calls T at t (convert v) own h = value_calls T v h
  form_calls T at t (cast v) own h = value_calls T v h
  form_calls T at t (unary op v) own h = value_calls T v h
  form_calls T at t (binary op a b) own h = (value_calls T a (front T (nodes_of_value a) (nodes_of_value b) h), value_calls T b (back T (nodes_of_value a) (nodes_of_value b) h))
  form_calls T at t (logic op a b) own h = (value_calls T a (front T (nodes_of_value a) (nodes_of_value b) h), value_calls T b (back T (nodes_of_value a) (nodes_of_value b) h))
  form_calls T at t (conditional v a b) own h =
      let rest = back T (nodes_of_value v) (nodes_of_value a ++ nodes_of_value b) h in
      (value_calls T v (front T (nodes_of_value v) (nodes_of_value a ++ nodes_of_value b) h), value_calls T a (front T (nodes_of_value a) (nodes_of_value b) rest), value_calls T b (back T (nodes_of_value a) (nodes_of_value b) rest))
  form_calls T at t (call name n arguments) own h = (own, values_call T arguments h)
  form_calls T at t (built_in name f arguments) own h = values_call T arguments h

  place_calls : (T : ℕ → Type 0) (q : PlainPlace) → NodesHold T (nodes_of_place q) → PlaceCalls T q
  place_calls T (place at t form) h = place_form_calls T form h.1

  place_form_calls : (T : ℕ → Type 0) (form : PlainPlaceForm) → NodesHold T (nodes_in_place_form form) → PlaceFormCalls T form
  place_form_calls T (variable n) h = tt
  place_form_calls T (global n) h = tt
  place_form_calls T (literal n bytes) h = tt
  place_form_calls T (index a i) h = (value_calls T a (front T (nodes_of_value a) (nodes_of_value i) h), value_calls T i (back T (nodes_of_value a) (nodes_of_value i) h))
  place_form_calls T (member q m) h = place_calls T q h
  place_form_calls T (dereference v) h = value_calls T v h

  values_call : (T : ℕ → Type 0) (vs : PlainValues) → NodesHold T (nodes_of_values vs) → ValuesCall T vs
  values_call T no_values h = tt
  values_call T (more_values v vs) h = (value_calls T v (front T (nodes_of_value v) (nodes_of_values vs) h), values_call T vs (back T (nodes_of_value v) (nodes_of_values vs) h))

maybe_calls : (T : ℕ → Type 0) (v : Option PlainValue) → NodesHold T (nodes_of_maybe v) → MaybeCalls T v
maybe_calls T None h = tt
maybe_calls T (Some v) h = value_calls T v h

written_calls : (T : ℕ → Type 0) (w : PlainWritten) → NodesHold T (nodes_of_written w) → WrittenCalls T w
written_calls T (one_scalar v) h = value_calls T v h
written_calls T (scalars_of_text bytes) h = tt

items_call : (T : ℕ → Type 0) (items : List PlainItem) → NodesHold T (nodes_of_items items) → ItemsCall T items
items_call T [] h = tt
items_call T (item ∷ items) h =
    (written_calls T item.written (front T (nodes_of_written item.written) (nodes_of_items items) h), items_call T items (back T (nodes_of_written item.written) (nodes_of_items items) h))

initializer_calls : (T : ℕ → Type 0) (initializer : PlainInitializer) → NodesHold T (nodes_of_initializer initializer) → InitializerCalls T initializer
initializer_calls T not_initialized h = tt
initializer_calls T (single v) h = value_calls T v h
initializer_calls T (copied q) h = place_calls T q h
initializer_calls T (listed at items) h = items_call T items h

-- the parts of a loop, in the order of its keyword
record InLoop (T : ℕ → Type 0) (first test third body : List PlainNode) : Type 0 where
  of_first : NodesHold T first
  of_test : NodesHold T test
  of_third : NodesHold T third
  of_body : NodesHold T body

test_first : (T : ℕ → Type 0) (first test third body : List PlainNode) → NodesHold T (first ++ (test ++ (third ++ body))) → InLoop T first test third body
test_first T first test third body h =
    let after = back T first (test ++ (third ++ body)) h in
    let last = back T test (third ++ body) after in
    record { of_first = front T first (test ++ (third ++ body)) h; of_test = front T test (third ++ body) after; of_third = front T third body last; of_body = back T third body last }

in_loop : (T : ℕ → Type 0) (keyword : LoopKeyword) (first test third body : List PlainNode) → NodesHold T (in_loop_order keyword first test third body) → InLoop T first test third body
in_loop T While first test third body h = test_first T first test third body h
in_loop T For first test third body h = test_first T first test third body h
in_loop T Do first test third body h =
    let after = back T first (body ++ (test ++ third)) h in
    let last = back T body (test ++ third) after in
    record { of_first = front T first (body ++ (test ++ third)) h; of_test = front T test third last; of_third = back T test third last; of_body = front T body (test ++ third) after }

mutual
  statement_calls : (T : ℕ → Type 0) (s : PlainStatement) → NodesHold T (nodes_of_statement s) → StatementCalls T s
  statement_calls T (statement at form) h = statement_form_calls T form h.1

  statement_form_calls : (T : ℕ → Type 0) (form : PlainStatementForm) → NodesHold T (nodes_in_statement_form form) → StatementFormCalls T form
  statement_form_calls T (set q v) h = (place_calls T q (front T (nodes_of_place q) (nodes_of_value v) h), value_calls T v (back T (nodes_of_place q) (nodes_of_value v) h))
  statement_form_calls T (update kind op t q v) h = (place_calls T q (front T (nodes_of_place q) (nodes_of_value v) h), value_calls T v (back T (nodes_of_place q) (nodes_of_value v) h))
  statement_form_calls T (copy q r) h = (place_calls T q (front T (nodes_of_place q) (nodes_of_place r) h), place_calls T r (back T (nodes_of_place q) (nodes_of_place r) h))
  statement_form_calls T (evaluate v) h = value_calls T v h
  statement_form_calls T (asserts at v) h = value_calls T v h
  statement_form_calls T (declare n initializer) h = initializer_calls T initializer h
  statement_form_calls T (declare_static n) h = tt
  statement_form_calls T (block ss) h = statements_call T ss h
  statement_form_calls T (if_then v s) h = (value_calls T v (front T (nodes_of_value v) (nodes_of_statement s) h), statement_calls T s (back T (nodes_of_value v) (nodes_of_statement s) h))
  statement_form_calls T (if_else v s t) h =
      let rest = back T (nodes_of_value v) (nodes_of_statement s ++ nodes_of_statement t) h in (
        value_calls T v (front T (nodes_of_value v) (nodes_of_statement s ++ nodes_of_statement t) h),
        statement_calls T s (front T (nodes_of_statement s) (nodes_of_statement t) rest),
        statement_calls T t (back T (nodes_of_statement s) (nodes_of_statement t) rest),
      )
  statement_form_calls T (loop head first test third body) h =
      let parts = in_loop T head.keyword (nodes_of_statements first) (nodes_of_maybe test) (nodes_of_statements third) (nodes_of_statement body) h in
      ((statements_call T first parts.of_first, maybe_calls T test parts.of_test), (statements_call T third parts.of_third, statement_calls T body parts.of_body))
  statement_form_calls T (switch keyword v labels body) h =
      (value_calls T v (front T (nodes_of_value v) (nodes_of_statement body) h), statement_calls T body (back T (nodes_of_value v) (nodes_of_statement body) h))
  statement_form_calls T break h = tt
  statement_form_calls T continue h = tt
  statement_form_calls T (return keyword v) h = maybe_calls T v h
  statement_form_calls T empty h = tt
  statement_form_calls T (mark kind) h = tt

  statements_call : (T : ℕ → Type 0) (ss : PlainStatements) → NodesHold T (nodes_of_statements ss) → StatementsCall T ss
  statements_call T no_statements h = tt
  statements_call T (more_statements s rest) h =
      (statement_calls T s (front T (nodes_of_statement s) (nodes_of_statements rest) h), statements_call T rest (back T (nodes_of_statement s) (nodes_of_statements rest) h))

-- ---- by the functions that are called

by_use : (T : ℕ → Type 0) (n : PlainNode) (rest : List PlainNode) (u : Option FunctionUse) → function_used n ≡ u → (AllByRecursion T (callees rest) → NodesHold T rest) → AllByRecursion T (with_callee u (callees rest)) → NodesHold T (n ∷ rest)
by_use T n rest None is later h = (subst (UseHolds T) (sym is) tt, later h)
by_use T n rest (Some called) is later h = (subst (UseHolds T) (sym is) h.0, later h.1)

nodes_hold : (T : ℕ → Type 0) (nodes : List PlainNode) → AllByRecursion T (callees nodes) → NodesHold T nodes
nodes_hold T [] h = tt
nodes_hold T (n ∷ rest) h = by_use T n rest (function_used n) refl (nodes_hold T rest) h

pub calls_of_statements : (T : ℕ → Type 0) (ss : PlainStatements) → AllByRecursion T (callees (nodes_of_statements ss)) → StatementsCall T ss
calls_of_statements T ss h = statements_call T ss (nodes_hold T (nodes_of_statements ss) h)

pub each_holds : (T : ℕ → Type 0) → ((n : ℕ) → T n) → (numbers : List ℕ) → AllByRecursion T numbers
each_holds T all [] = tt
each_holds T all (n ∷ numbers) = (all n, each_holds T all numbers)
