-- What a pass over statements leaves depends only on what is claimed of the functions that they call.
use Rattle.std.proofs.Common.{◌≡◌, ℕ, suc, Bool, true, false, List, [], ◌∷◌, ◌++◌, Option, Some, None, refl}
use Rattle.std.specs.Prelude.{◌&&◌, slice_get, if◌then◌else◌}
use Rattle.std.specs.Option.{option_map}
use Rattle.p10_base.specs.declared.span.Span.{Span}
use Rattle.p10_int.specs.declared.types.IntType.{IntType}
use Rattle.p10_core.specs.declared.statements.LoopKeyword.{LoopKeyword}
use Rattle.p10_core.specs.declared.statements.LoopKeyword.TheVariants.{While, Do, For}
use Rattle.p10_core.specs.Rows.{is_integer}
use Rattle.p10_core.specs.Constants.{integer_of}
use Rattle.p10_core.specs.Typed.{PlainValue, type_of, PlainItem, PlainWritten, one_scalar, scalars_of_text, PlainInitializer, not_initialized, single, copied, listed, PlainLabels, PlainStatement, statement, PlainStatementForm, set, update, copy, evaluate, asserts, declare, declare_static, block, if_then, if_else, loop, switch, break, continue, return, empty, mark, PlainStatements, no_statements, more_statements, PlainVariable}
use Rattle.p10_core.specs.Nodes.{nodes_of_value, nodes_of_place, nodes_of_maybe, nodes_of_written, nodes_of_items, nodes_of_initializer, nodes_in_statement_form, nodes_of_statement, nodes_of_statements}
use Rattle.p10_cert.specs.Claims.{Value, Loop, Claims}
use Rattle.p10_absx.specs.Abstract.{Abstract, whole_type}
use Rattle.p10_absx.specs.Environments.{Environment, learned, hull_reached}
use Rattle.p10_absx.specs.Assessing.{value_found, known_where}
use Rattle.p10_pass.specs.Scopes.{form_assigns, assigned_forgotten}
use Rattle.p10_pass.specs.Claiming.{head_of, loop_claimed}
use Rattle.p10_pass.specs.Passing.{Tested, Left, nowhere, reached, where_going, followed, and_then_pass, beside, with_calls, as_block, Manner, set_value, updated_value, value_passed, items_passed, integer_declared, other_declared, declared, range_returned, by_claim, tested_in, tested_reached, round_of, loop_left, is_labelled, switch_left, pass_statement, pass_form, pass_statements, pass_switch, pass_switch_form, pass_from}
use Rattle.p10_finder.proofs.Called.{EachCalled, first_called, last_called, loop_called}
use Rattle.p10_finder.proofs.SameValues.{Same, value_same, has_same, failing_same, place_same}

module _ (c d : Claims) (loops : Option (List Loop)) (result : Option Value) (variables : List PlainVariable) where
  -- how calls and loops count, where these are the claims
  abbrev pub manner_under : Claims → Manner
  manner_under x = record { calls = Some x; loops = loops; result = result; variables = variables }

  -- ## Values in statements

  passed_same : (v : PlainValue) → EachCalled (Same c d) (nodes_of_value v) → (env : Environment) → value_passed (manner_under c) v env ≡ value_passed (manner_under d) v env
  passed_same v h env =
      let names = failing_same c d v h env in
      let has = has_same c d v h env in
      λ i. with_calls (names i) (reached (if has i then Some env else None))

  items_same : (items : List PlainItem) → EachCalled (Same c d) (nodes_of_items items) → (env : Environment) → items_passed (manner_under c) items env ≡ items_passed (manner_under d) items env
  items_same [] h env = refl
  items_same (item ∷ items) h env =
      at item.scalar item.written (first_called (Same c d) (nodes_of_written item.written) (nodes_of_items items) h)
      (items_same items (last_called (Same c d) (nodes_of_written item.written) (nodes_of_items items) h))
    where
      at : (n : ℕ) (w : PlainWritten) → EachCalled (Same c d) (nodes_of_written w) → ((env : Environment) → items_passed (manner_under c) items env ≡ items_passed (manner_under d) items env) →
          let one : PlainItem = record { scalar = n; written = w } in items_passed (manner_under c) (one ∷ items) env ≡ items_passed (manner_under d) (one ∷ items) env
      at n (one_scalar v) held rest = let first = passed_same v held env in λ i. and_then_pass (first i) (λ e. rest e i)
      at n (scalars_of_text bytes) held rest = λ i. and_then_pass (reached (Some env)) (λ e. rest e i)

  integer_same : (n : ℕ) (kind : IntType) (initializer : PlainInitializer) → EachCalled (Same c d) (nodes_of_initializer initializer) → (env : Environment) → integer_declared (manner_under c) n kind initializer env ≡ integer_declared (manner_under d) n kind initializer env
  integer_same n kind (single v) h env =
      let seen : Environment = learned env n (whole_type kind) in
      let names = failing_same c d v h seen in
      let found = value_same c d v h seen in
      λ i. with_calls (names i) (reached (option_map (learned seen n) (value_found (found i))))
  integer_same n kind initializer h env = refl

  other_same : (initializer : PlainInitializer) → EachCalled (Same c d) (nodes_of_initializer initializer) → (env : Environment) → other_declared (manner_under c) initializer env ≡ other_declared (manner_under d) initializer env
  other_same not_initialized h env = refl
  other_same (single v) h env = passed_same v h env
  other_same (copied p) h env = let names = place_same c d p h env in λ i. with_calls (names i) (reached (Some env))
  other_same (listed at items) h env = items_same items h env

  declared_same : (n : ℕ) (variable : Option PlainVariable) (initializer : PlainInitializer) → EachCalled (Same c d) (nodes_of_initializer initializer) → (env : Environment) → declared (manner_under c) n variable initializer env ≡ declared (manner_under d) n variable initializer env
  declared_same n None initializer h env = refl
  declared_same n (Some v) initializer h env =
      let first = integer_same n (integer_of v.type) initializer h env in
      let other = other_same initializer h env in
      λ i. if v.frame && is_integer v.type then first i else other i

  range_same : (keyword : Span) (a : Option Abstract) (env : Environment) → range_returned (manner_under c) keyword a env ≡ range_returned (manner_under d) keyword a env
  range_same keyword None env = refl
  range_same keyword (Some a) env = refl

  -- ## Loops

  tested_same : (v : Option PlainValue) → EachCalled (Same c d) (nodes_of_maybe v) → (env : Environment) → tested_in (manner_under c) v env ≡ tested_in (manner_under d) v env
  tested_same None h env = refl
  tested_same (Some v) h env =
      let found = value_same c d v h env in
      let failing = failing_same c d v h env in
      λ i. record { truth = known_where true env (found i); contrary = known_where false env (found i); names = failing i }

  reached_same : (v : Option PlainValue) → EachCalled (Same c d) (nodes_of_maybe v) → (env : Option Environment) → tested_reached (manner_under c) v env ≡ tested_reached (manner_under d) v env
  reached_same v h None = refl
  reached_same v h (Some env) = tested_same v h env

  round_same : (keyword : LoopKeyword) (v : Option PlainValue) → EachCalled (Same c d) (nodes_of_maybe v) → (third third2 body body2 : Environment → Left) → ((env : Environment) → third env ≡ third2 env) → ((env : Environment) → body env ≡ body2 env)
      → (head : Environment) → round_of (manner_under c) keyword v third body head ≡ round_of (manner_under d) keyword v third2 body2 head
  round_same While v h third third2 body body2 thirds bodies head = testing_first v h third third2 body body2 thirds bodies head
    where
      testing_first : (v : Option PlainValue) → EachCalled (Same c d) (nodes_of_maybe v) → (third third2 body body2 : Environment → Left) → ((env : Environment) → third env ≡ third2 env) → ((env : Environment) → body env ≡ body2 env)
          → (head : Environment) → round_of (manner_under c) While v third body head ≡ round_of (manner_under d) While v third2 body2 head
      testing_first v h third third2 body body2 thirds bodies head =
          let t = tested_same v h head in
          let b : where_going (tested_in (manner_under c) v head).truth body ≡ where_going (tested_in (manner_under d) v head).truth body2 = λ i. where_going (t i).truth (λ e. bodies e i) in
          λ i. let after : Left = where_going (hull_reached (b i).normal (b i).continues) (λ e. thirds e i) in
          record { enters = (t i).truth; back = after.normal; exits = hull_reached (t i).contrary (b i).breaks; body = b i; names = (t i).names ++ (after.arguments ++ (b i).arguments) }
  round_same For v h third third2 body body2 thirds bodies head =
      let t = tested_same v h head in
      let b : where_going (tested_in (manner_under c) v head).truth body ≡ where_going (tested_in (manner_under d) v head).truth body2 = λ i. where_going (t i).truth (λ e. bodies e i) in
      λ i. let after : Left = where_going (hull_reached (b i).normal (b i).continues) (λ e. thirds e i) in
      record { enters = (t i).truth; back = after.normal; exits = hull_reached (t i).contrary (b i).breaks; body = b i; names = (t i).names ++ (after.arguments ++ (b i).arguments) }
  round_same Do v h third third2 body body2 thirds bodies head =
      let b = bodies head in
      λ i. let t : Tested = reached_same v h (hull_reached (b i).normal (b i).continues) i in
      record { enters = Some head; back = t.truth; exits = hull_reached t.contrary (b i).breaks; body = b i; names = (b i).arguments ++ t.names }

  -- ## Statements

  mutual
    pub pass_same : (s : PlainStatement) → EachCalled (Same c d) (nodes_of_statement s) → (env : Environment) → pass_statement (manner_under c) s env ≡ pass_statement (manner_under d) s env
    pass_same (statement at form) h env = form_passes form h.1 env

    form_passes : (form : PlainStatementForm) → EachCalled (Same c d) (nodes_in_statement_form form) → (env : Environment) → pass_form (manner_under c) form env ≡ pass_form (manner_under d) form env
    form_passes (set p v) h env =
        let held = last_called (Same c d) (nodes_of_place p) (nodes_of_value v) h in
        let first = place_same c d p (first_called (Same c d) (nodes_of_place p) (nodes_of_value v) h) env in
        let names = failing_same c d v held env in
        let found = value_same c d v held env in
        λ i. with_calls (first i ++ names i) (reached (set_value p (type_of v) (value_found (found i)) env))
    form_passes (update kind op t p v) h env =
        let held = last_called (Same c d) (nodes_of_place p) (nodes_of_value v) h in
        let first = place_same c d p (first_called (Same c d) (nodes_of_place p) (nodes_of_value v) h) env in
        let names = failing_same c d v held env in
        let found = value_same c d v held env in
        λ i. with_calls (first i ++ names i) (reached (updated_value op t p (value_found (found i)) env))
    form_passes (copy p q) h env =
        let first = place_same c d p (first_called (Same c d) (nodes_of_place p) (nodes_of_place q) h) env in
        let second = place_same c d q (last_called (Same c d) (nodes_of_place p) (nodes_of_place q) h) env in
        λ i. with_calls (first i ++ second i) (reached (Some env))
    form_passes (evaluate v) h env = passed_same v h env
    form_passes (asserts at v) h env =
        let names = failing_same c d v h env in
        let found = value_same c d v h env in
        λ i. with_calls (names i) (reached (known_where true env (found i)))
    form_passes (declare n initializer) h env = declared_same n (slice_get variables n) initializer h env
    form_passes (declare_static n) h env = refl
    form_passes (block ss) h env = let all = all_pass ss h env in λ i. as_block ss (all i)
    form_passes (if_then v s) h env =
        let first = first_called (Same c d) (nodes_of_value v) (nodes_of_statement s) h in
        let names = failing_same c d v first env in
        let found = value_same c d v first env in
        let inner = pass_same s (last_called (Same c d) (nodes_of_value v) (nodes_of_statement s) h) in
        λ i. with_calls (names i) (beside (where_going (known_where true env (found i)) (λ e. inner e i)) (reached (known_where false env (found i))))
    form_passes (if_else v s t) h env =
        let first = first_called (Same c d) (nodes_of_value v) (nodes_of_statement s ++ nodes_of_statement t) h in
        let rest = last_called (Same c d) (nodes_of_value v) (nodes_of_statement s ++ nodes_of_statement t) h in
        let names = failing_same c d v first env in
        let found = value_same c d v first env in
        let inner = pass_same s (first_called (Same c d) (nodes_of_statement s) (nodes_of_statement t) rest) in
        let other = pass_same t (last_called (Same c d) (nodes_of_statement s) (nodes_of_statement t) rest) in
        λ i. with_calls (names i) (beside (where_going (known_where true env (found i)) (λ e. inner e i)) (where_going (known_where false env (found i)) (λ e. other e i)))
    form_passes (loop head first tested third body) h env =
        let parts = loop_called (Same c d) head.keyword (nodes_of_statements first) (nodes_of_maybe tested) (nodes_of_statements third) (nodes_of_statement body) h in
        let begins = all_pass first parts.in_first env in
        let round = round_same head.keyword tested parts.in_test (pass_statements (manner_under c) third) (pass_statements (manner_under d) third) (pass_statement (manner_under c) body) (pass_statement (manner_under d) body) (all_pass third parts.in_third) (pass_same body parts.in_body) in
        let assigned : ℕ → Bool = λ n. form_assigns n (loop head first tested third body) in
        λ i. by_claim loops (reached (Some (assigned_forgotten assigned variables env)))
        (λ loops. as_block first (and_then_pass (begins i) (λ entry.
        loop_left (manner_under c) (loop_claimed loops head.number) head assigned entry (round (head_of (loop_claimed loops head.number) variables entry) i))))
    form_passes (switch keyword v labels body) h env =
        let first = first_called (Same c d) (nodes_of_value v) (nodes_of_statement body) h in
        let names = failing_same c d v first env in
        let has = has_same c d v first env in
        let inner = switch_passes labels body (last_called (Same c d) (nodes_of_value v) (nodes_of_statement body) h) env in
        λ i. with_calls (names i) (if has i then inner i else nowhere)
    form_passes break h env = refl
    form_passes continue h env = refl
    form_passes (return keyword None) h env = refl
    form_passes (return keyword (Some v)) h env =
        let names = failing_same c d v h env in
        let found = value_same c d v h env in
        λ i. with_calls (names i) (if is_integer (type_of v) then range_same keyword (value_found (found i)) env i else record nowhere { returns = Some env })
    form_passes empty h env = refl
    form_passes (mark kind) h env = refl

    pub all_pass : (ss : PlainStatements) → EachCalled (Same c d) (nodes_of_statements ss) → (env : Environment) → pass_statements (manner_under c) ss env ≡ pass_statements (manner_under d) ss env
    all_pass no_statements h env = refl
    all_pass (more_statements s rest) h env =
        let first = pass_same s (first_called (Same c d) (nodes_of_statement s) (nodes_of_statements rest) h) env in
        let after = all_pass rest (last_called (Same c d) (nodes_of_statement s) (nodes_of_statements rest) h) in
        λ i. and_then_pass (first i) (λ e. after e i)

    switch_passes : (labels : PlainLabels) (s : PlainStatement) → EachCalled (Same c d) (nodes_of_statement s) → (env : Environment) → pass_switch (manner_under c) labels s env ≡ pass_switch (manner_under d) labels s env
    switch_passes labels (statement at form) h env = switch_form_passes labels form h.1 env

    switch_form_passes : (labels : PlainLabels) (form : PlainStatementForm) → EachCalled (Same c d) (nodes_in_statement_form form) → (env : Environment) → pass_switch_form (manner_under c) labels form env ≡ pass_switch_form (manner_under d) labels form env
    switch_form_passes labels (block ss) h env = let inner = from_passes labels 0 ss h env None in λ i. switch_left labels env (as_block ss (inner i))
    switch_form_passes labels form h env = refl

    from_passes : (labels : PlainLabels) (k : ℕ) (ss : PlainStatements) → EachCalled (Same c d) (nodes_of_statements ss) → (env : Environment) (before : Option Environment) → pass_from (manner_under c) labels k ss env before ≡ pass_from (manner_under d) labels k ss env before
    from_passes labels k no_statements h env before = refl
    from_passes labels k (more_statements s rest) h env before =
        let entered : Option Environment = if is_labelled k labels then hull_reached before (Some env) else before in
        let one = pass_same s (first_called (Same c d) (nodes_of_statement s) (nodes_of_statements rest) h) in
        let a : where_going entered (pass_statement (manner_under c) s) ≡ where_going entered (pass_statement (manner_under d) s) = λ i. where_going entered (λ e. one e i) in
        let after = from_passes labels (suc k) rest (last_called (Same c d) (nodes_of_statement s) (nodes_of_statements rest) h) env in
        λ i. followed (a i) (after (a i).normal i)
