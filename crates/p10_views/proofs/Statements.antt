-- The pass over statements leaves the same as over erased ones, but for places.
use Rattle.std.proofs.Common.{◌≡◌, ◌∙◌, ℕ, suc, Bool, true, false, List, ◌++◌, map, Option, Some, None, option_map, refl, ap}
use Rattle.std.specs.Prelude.{if◌then◌else◌, slice_get}
use Rattle.std.proofs.lemmas.Option.{slice_get-map}
use Rattle.p10_base.specs.declared.span.Span.{Span}
use Rattle.p10_core.specs.declared.statements.LoopHead.{LoopHead}
use Rattle.p10_core.specs.Typed.{PlainValue, type_of, PlainLabels, PlainStatement, statement, PlainStatementForm, set, update, copy, evaluate, asserts, declare, declare_static, block, if_then, if_else, loop, switch, break, continue, return, empty, mark, PlainStatements, no_statements, more_statements}
use Rattle.p10_cert.specs.Claims.{Loop}
use Rattle.p10_absx.specs.Environments.{Environment, hull_reached}
use Rattle.p10_absx.specs.Assessing.{assess, value_found, known_where}
use Rattle.p10_pass.specs.Arguments.{has_value, failing_in, failing_at}
use Rattle.p10_pass.specs.Scopes.{form_assigns, assigned_forgotten}
use Rattle.p10_pass.specs.Claiming.{head_of, loop_claimed}
use Rattle.p10_pass.specs.Passing.{Left, nowhere, reached, where_going, followed, and_then_pass, beside, with_calls, each_end, as_block, set_value, updated_value, by_claim, round_of, loop_left, is_labelled, switch_left, value_returned, declared, pass_statement, pass_form, pass_statements, pass_switch, pass_switch_form, pass_from}
use Rattle.p10_views.specs.Erased.{no_span, erased_type, erased_head, erased_value, erased_place, erased_initializer, erased_statement, erased_statement_form, erased_statements, erased_variable}
use Rattle.p10_views.proofs.Called.{MaybeCalls, StatementCalls, StatementFormCalls, StatementsCall}
use Rattle.p10_views.proofs.Spans.{erased_spans, erased_left, joined, followed_erased, beside_erased, calls_erased, going_erased, then_erased, either_erased}
use Rattle.p10_views.proofs.Types.{integer_value_erased}
use Rattle.p10_views.proofs.Assigning.{form_assigns_erased, scope_erased, head_erased, forgotten_erased, set_erased, updated_erased}
use Rattle.p10_views.proofs.Manners.{Twin, first_of, second_of, Shared, found_same, there_same, fails_same, fails_at_same}
use Rattle.p10_views.proofs.Parts.{evaluated_erased, declared_erased, returned_erased, round_erased}
use Rattle.p10_views.proofs.Loops.{loop_erased}

-- a block's ends, where its items leave the same
pub block_erased : (t : Twin) (ss : PlainStatements) (a b : Left) → b ≡ erased_left a → as_block (erased_statements t.program ss) b ≡ erased_left (as_block ss a)
block_erased t ss a b same = (λ i. each_end (λ e. scope_erased t.program ss e i) (same i))

-- a part with its failing calls
named : (names us : List Span) (a b : Left) → us ≡ erased_spans names → b ≡ erased_left a → with_calls us b ≡ erased_left (with_calls names a)
named names us a b fails same = (λ i. with_calls (fails i) (same i)) ∙ calls_erased names a

one_beside : (a b c d : Left) → c ≡ erased_left a → d ≡ erased_left b → beside c d ≡ erased_left (beside a b)
one_beside a b c d first second = (λ i. beside (first i) (second i)) ∙ beside_erased a b

-- what is entered where a condition is true or false
entered : (o u : Option Environment) → u ≡ o → (go went : Environment → Left) → ((e : Environment) → went e ≡ erased_left (go e)) → where_going u went ≡ erased_left (where_going o go)
entered o u same go went each = (λ i. where_going (same i) went) ∙ going_erased o go went each

-- what a loop leaves from its entry on
entry_erased : (t : Twin) (loops : List Loop) (head : LoopHead) (first : PlainStatements) (test : Option PlainValue) (third : PlainStatements) (body : PlainStatement) → MaybeCalls (Shared t) test
    → ((e : Environment) → pass_statements (second_of t) (erased_statements t.program third) e ≡ erased_left (pass_statements (first_of t) third e))
    → ((e : Environment) → pass_statement (second_of t) (erased_statement t.program body) e ≡ erased_left (pass_statement (first_of t) body e))
    → (entry : Environment) →
    loop_left (second_of t) (loop_claimed loops head.number) (erased_head head) (λ n. form_assigns n (erased_statement_form t.program (loop head first test third body))) entry
    (round_of (second_of t) head.keyword (option_map (erased_value t.program) test) (λ e. pass_statements (second_of t) (erased_statements t.program third) e) (λ e. pass_statement (second_of t) (erased_statement t.program body) e)
    (head_of (loop_claimed loops head.number) (map (erased_variable t.program) t.variables) entry))
    ≡ erased_left (loop_left (first_of t) (loop_claimed loops head.number) head (λ n. form_assigns n (loop head first test third body)) entry
    (round_of (first_of t) head.keyword test (λ e. pass_statements (first_of t) third e) (λ e. pass_statement (first_of t) body e) (head_of (loop_claimed loops head.number) t.variables entry)))
entry_erased t loops head first test third body h thirds bodies entry =
    let claim : Loop = loop_claimed loops head.number in
    let assigned : ℕ → Bool = λ n. form_assigns n (erased_statement_form t.program (loop head first test third body)) in
    (λ i. loop_left (second_of t) claim (erased_head head) assigned entry
    (round_of (second_of t) head.keyword (option_map (erased_value t.program) test) (λ e. pass_statements (second_of t) (erased_statements t.program third) e) (λ e. pass_statement (second_of t) (erased_statement t.program body) e)
    (head_erased t.program claim t.variables entry i)))
    ∙ (λ i. loop_left (second_of t) claim (erased_head head) assigned entry
    (round_erased t head.keyword test h (λ e. pass_statements (first_of t) third e) (λ e. pass_statements (second_of t) (erased_statements t.program third) e) (λ e. pass_statement (first_of t) body e) (λ e. pass_statement (second_of t) (erased_statement t.program body) e)
    thirds bodies (head_of claim t.variables entry) i))
    ∙ loop_erased t claim head assigned (λ n. form_assigns n (loop head first test third body)) (λ n. form_assigns_erased t.program n (loop head first test third body)) entry
    (round_of (first_of t) head.keyword test (λ e. pass_statements (first_of t) third e) (λ e. pass_statement (first_of t) body e) (head_of claim t.variables entry))

-- a whole loop, where its parts leave the same
whole_loop : (t : Twin) (loops : Option (List Loop)) (head : LoopHead) (first : PlainStatements) (test : Option PlainValue) (third : PlainStatements) (body : PlainStatement) → MaybeCalls (Shared t) test
    → ((e : Environment) → pass_statements (second_of t) (erased_statements t.program first) e ≡ erased_left (pass_statements (first_of t) first e))
    → ((e : Environment) → pass_statements (second_of t) (erased_statements t.program third) e ≡ erased_left (pass_statements (first_of t) third e))
    → ((e : Environment) → pass_statement (second_of t) (erased_statement t.program body) e ≡ erased_left (pass_statement (first_of t) body e))
    → (env : Environment) →
    by_claim loops (reached (Some (assigned_forgotten (λ n. form_assigns n (erased_statement_form t.program (loop head first test third body))) (map (erased_variable t.program) t.variables) env)))
    (λ loops. as_block (erased_statements t.program first) (and_then_pass (pass_statements (second_of t) (erased_statements t.program first) env) (λ entry.
    loop_left (second_of t) (loop_claimed loops head.number) (erased_head head) (λ n. form_assigns n (erased_statement_form t.program (loop head first test third body))) entry
    (round_of (second_of t) head.keyword (option_map (erased_value t.program) test) (λ e. pass_statements (second_of t) (erased_statements t.program third) e) (λ e. pass_statement (second_of t) (erased_statement t.program body) e)
    (head_of (loop_claimed loops head.number) (map (erased_variable t.program) t.variables) entry)))))
    ≡ erased_left (by_claim loops (reached (Some (assigned_forgotten (λ n. form_assigns n (loop head first test third body)) t.variables env)))
    (λ loops. as_block first (and_then_pass (pass_statements (first_of t) first env) (λ entry.
    loop_left (first_of t) (loop_claimed loops head.number) head (λ n. form_assigns n (loop head first test third body)) entry
    (round_of (first_of t) head.keyword test (λ e. pass_statements (first_of t) third e) (λ e. pass_statement (first_of t) body e) (head_of (loop_claimed loops head.number) t.variables entry))))))
whole_loop t None head first test third body h firsts thirds bodies env =
    λ i. reached (Some (forgotten_erased t.program (λ n. form_assigns n (erased_statement_form t.program (loop head first test third body))) (λ n. form_assigns n (loop head first test third body)) (λ n. form_assigns_erased t.program n (loop head first test third body)) t.variables env i))
whole_loop t (Some loops) head first test third body h firsts thirds bodies env =
    let go : Environment → Left = λ entry.
    loop_left (first_of t) (loop_claimed loops head.number) head (λ n. form_assigns n (loop head first test third body)) entry
    (round_of (first_of t) head.keyword test (λ e. pass_statements (first_of t) third e) (λ e. pass_statement (first_of t) body e) (head_of (loop_claimed loops head.number) t.variables entry)) in
    let went : Environment → Left = λ entry.
    loop_left (second_of t) (loop_claimed loops head.number) (erased_head head) (λ n. form_assigns n (erased_statement_form t.program (loop head first test third body))) entry
    (round_of (second_of t) head.keyword (option_map (erased_value t.program) test) (λ e. pass_statements (second_of t) (erased_statements t.program third) e) (λ e. pass_statement (second_of t) (erased_statement t.program body) e)
    (head_of (loop_claimed loops head.number) (map (erased_variable t.program) t.variables) entry)) in
    block_erased t first (and_then_pass (pass_statements (first_of t) first env) go) (and_then_pass (pass_statements (second_of t) (erased_statements t.program first) env) went)
    ((λ i. and_then_pass (firsts env i) went) ∙ then_erased (pass_statements (first_of t) first env) go went (entry_erased t loops head first test third body h thirds bodies))

mutual
  pub statement_erased : (t : Twin) (s : PlainStatement) → StatementCalls (Shared t) s → (env : Environment) → pass_statement (second_of t) (erased_statement t.program s) env ≡ erased_left (pass_statement (first_of t) s env)
  statement_erased t (statement at form) h env = form_erased t form h env

  form_erased : (t : Twin) (form : PlainStatementForm) → StatementFormCalls (Shared t) form → (env : Environment) → pass_form (second_of t) (erased_statement_form t.program form) env ≡ erased_left (pass_form (first_of t) form env)
  form_erased t (set q v) h env =
      named (failing_at t.c q env ++ failing_in t.c v env) (failing_at t.d (erased_place t.program q) env ++ failing_in t.d (erased_value t.program v) env)
      (reached (set_value q (type_of v) (value_found (assess t.c v env)) env)) (reached (set_value (erased_place t.program q) (type_of (erased_value t.program v)) (value_found (assess t.d (erased_value t.program v) env)) env))
      (joined (failing_at t.c q env) (failing_in t.c v env) (failing_at t.d (erased_place t.program q) env) (failing_in t.d (erased_value t.program v) env) (fails_at_same t q h.0 env) (fails_same t v h.1 env))
      (λ i. reached (((λ k. set_value (erased_place t.program q) (type_of (erased_value t.program v)) (value_found (found_same t v h.1 env k)) env)
      ∙ set_erased t.program q (type_of v) (type_of (erased_value t.program v)) (integer_value_erased t.program v) (value_found (assess t.c v env)) env) i))
  form_erased t (update kind op type q v) h env =
      named (failing_at t.c q env ++ failing_in t.c v env) (failing_at t.d (erased_place t.program q) env ++ failing_in t.d (erased_value t.program v) env)
      (reached (updated_value op type q (value_found (assess t.c v env)) env)) (reached (updated_value op (erased_type t.program type) (erased_place t.program q) (value_found (assess t.d (erased_value t.program v) env)) env))
      (joined (failing_at t.c q env) (failing_in t.c v env) (failing_at t.d (erased_place t.program q) env) (failing_in t.d (erased_value t.program v) env) (fails_at_same t q h.0 env) (fails_same t v h.1 env))
      (λ i. reached (((λ k. updated_value op (erased_type t.program type) (erased_place t.program q) (value_found (found_same t v h.1 env k)) env) ∙ updated_erased t.program op type q (value_found (assess t.c v env)) env) i))
  form_erased t (copy q r) h env =
      named (failing_at t.c q env ++ failing_at t.c r env) (failing_at t.d (erased_place t.program q) env ++ failing_at t.d (erased_place t.program r) env) (reached (Some env)) (reached (Some env))
      (joined (failing_at t.c q env) (failing_at t.c r env) (failing_at t.d (erased_place t.program q) env) (failing_at t.d (erased_place t.program r) env) (fails_at_same t q h.0 env) (fails_at_same t r h.1 env)) refl
  form_erased t (evaluate v) h env = evaluated_erased t v h env
  form_erased t (asserts call v) h env =
      named (failing_in t.c v env) (failing_in t.d (erased_value t.program v) env) (reached (known_where true env (assess t.c v env))) (reached (known_where true env (assess t.d (erased_value t.program v) env)))
      (fails_same t v h env) (λ i. reached (known_where true env (found_same t v h env i)))
  form_erased t (declare n initializer) h env =
      ap (λ v. declared (second_of t) n v (erased_initializer t.program initializer) env) (slice_get-map (erased_variable t.program) t.variables n)
      ∙ declared_erased t n (slice_get t.variables n) initializer h env
  form_erased t (declare_static n) h env = refl
  form_erased t (block ss) h env = block_erased t ss (pass_statements (first_of t) ss env) (pass_statements (second_of t) (erased_statements t.program ss) env) (statements_erased t ss h env)
  form_erased t (if_then v s) h env =
      named (failing_in t.c v env) (failing_in t.d (erased_value t.program v) env)
      (beside (where_going (known_where true env (assess t.c v env)) (λ e. pass_statement (first_of t) s e)) (reached (known_where false env (assess t.c v env))))
      (beside (where_going (known_where true env (assess t.d (erased_value t.program v) env)) (λ e. pass_statement (second_of t) (erased_statement t.program s) e)) (reached (known_where false env (assess t.d (erased_value t.program v) env))))
      (fails_same t v h.0 env)
      (one_beside (where_going (known_where true env (assess t.c v env)) (λ e. pass_statement (first_of t) s e)) (reached (known_where false env (assess t.c v env)))
      (where_going (known_where true env (assess t.d (erased_value t.program v) env)) (λ e. pass_statement (second_of t) (erased_statement t.program s) e)) (reached (known_where false env (assess t.d (erased_value t.program v) env)))
      (entered (known_where true env (assess t.c v env)) (known_where true env (assess t.d (erased_value t.program v) env)) (λ i. known_where true env (found_same t v h.0 env i))
      (λ e. pass_statement (first_of t) s e) (λ e. pass_statement (second_of t) (erased_statement t.program s) e) (λ e. statement_erased t s h.1 e))
      (λ i. reached (known_where false env (found_same t v h.0 env i))))
  form_erased t (if_else v s u) h env =
      named (failing_in t.c v env) (failing_in t.d (erased_value t.program v) env)
      (beside (where_going (known_where true env (assess t.c v env)) (λ e. pass_statement (first_of t) s e)) (where_going (known_where false env (assess t.c v env)) (λ e. pass_statement (first_of t) u e)))
      (beside (where_going (known_where true env (assess t.d (erased_value t.program v) env)) (λ e. pass_statement (second_of t) (erased_statement t.program s) e))
      (where_going (known_where false env (assess t.d (erased_value t.program v) env)) (λ e. pass_statement (second_of t) (erased_statement t.program u) e)))
      (fails_same t v h.0 env)
      (one_beside (where_going (known_where true env (assess t.c v env)) (λ e. pass_statement (first_of t) s e)) (where_going (known_where false env (assess t.c v env)) (λ e. pass_statement (first_of t) u e))
      (where_going (known_where true env (assess t.d (erased_value t.program v) env)) (λ e. pass_statement (second_of t) (erased_statement t.program s) e))
      (where_going (known_where false env (assess t.d (erased_value t.program v) env)) (λ e. pass_statement (second_of t) (erased_statement t.program u) e))
      (entered (known_where true env (assess t.c v env)) (known_where true env (assess t.d (erased_value t.program v) env)) (λ i. known_where true env (found_same t v h.0 env i))
      (λ e. pass_statement (first_of t) s e) (λ e. pass_statement (second_of t) (erased_statement t.program s) e) (λ e. statement_erased t s h.1 e))
      (entered (known_where false env (assess t.c v env)) (known_where false env (assess t.d (erased_value t.program v) env)) (λ i. known_where false env (found_same t v h.0 env i))
      (λ e. pass_statement (first_of t) u e) (λ e. pass_statement (second_of t) (erased_statement t.program u) e) (λ e. statement_erased t u h.2 e)))
  form_erased t (loop head first test third body) h env =
      whole_loop t t.loops head first test third body h.0.1 (λ e. statements_erased t first h.0.0 e) (λ e. statements_erased t third h.1.0 e) (λ e. statement_erased t body h.1.1 e) env
  form_erased t (switch keyword v labels body) h env =
      named (failing_in t.c v env) (failing_in t.d (erased_value t.program v) env) (if has_value t.c v env then pass_switch (first_of t) labels body env else nowhere)
      (if has_value t.d (erased_value t.program v) env then pass_switch (second_of t) labels (erased_statement t.program body) env else nowhere)
      (fails_same t v h.0 env)
      ((λ i. if there_same t v h.0 env i then pass_switch (second_of t) labels (erased_statement t.program body) env else nowhere)
      ∙ either_erased (has_value t.c v env) (pass_switch (first_of t) labels body env) nowhere (pass_switch (second_of t) labels (erased_statement t.program body) env) nowhere (switch_erased t labels body h.1 env) refl)
  form_erased t break h env = refl
  form_erased t continue h env = refl
  form_erased t (return keyword None) h env = refl
  form_erased t (return keyword (Some v)) h env =
      named (failing_in t.c v env) (failing_in t.d (erased_value t.program v) env) (value_returned (first_of t) keyword v env) (value_returned (second_of t) no_span (erased_value t.program v) env)
      (fails_same t v h env) (returned_erased t keyword v h env)
  form_erased t empty h env = refl
  form_erased t (mark kind) h env = refl

  pub statements_erased : (t : Twin) (ss : PlainStatements) → StatementsCall (Shared t) ss → (env : Environment)
      → pass_statements (second_of t) (erased_statements t.program ss) env ≡ erased_left (pass_statements (first_of t) ss env)
  statements_erased t no_statements h env = refl
  statements_erased t (more_statements s rest) h env =
      (λ i. and_then_pass (statement_erased t s h.0 env i) (λ e. pass_statements (second_of t) (erased_statements t.program rest) e))
      ∙ then_erased (pass_statement (first_of t) s env) (λ e. pass_statements (first_of t) rest e) (λ e. pass_statements (second_of t) (erased_statements t.program rest) e) (λ e. statements_erased t rest h.1 e)

  switch_erased : (t : Twin) (labels : PlainLabels) (s : PlainStatement) → StatementCalls (Shared t) s → (env : Environment)
      → pass_switch (second_of t) labels (erased_statement t.program s) env ≡ erased_left (pass_switch (first_of t) labels s env)
  switch_erased t labels (statement at form) h env = switch_form_erased t labels form h env

  switch_form_erased : (t : Twin) (labels : PlainLabels) (form : PlainStatementForm) → StatementFormCalls (Shared t) form → (env : Environment)
      → pass_switch_form (second_of t) labels (erased_statement_form t.program form) env ≡ erased_left (pass_switch_form (first_of t) labels form env)
  switch_form_erased t labels (block ss) h env =
      λ i. switch_left labels env (block_erased t ss (pass_from (first_of t) labels 0 ss env None) (pass_from (second_of t) labels 0 (erased_statements t.program ss) env None) (from_erased t labels 0 ss h env None) i)
  switch_form_erased t labels (set q v) h env = refl
  switch_form_erased t labels (update kind op type q v) h env = refl
  switch_form_erased t labels (copy q r) h env = refl
  switch_form_erased t labels (evaluate v) h env = refl
  switch_form_erased t labels (asserts call v) h env = refl
  switch_form_erased t labels (declare n initializer) h env = refl
  switch_form_erased t labels (declare_static n) h env = refl
  switch_form_erased t labels (if_then v s) h env = refl
  switch_form_erased t labels (if_else v s u) h env = refl
  switch_form_erased t labels (loop head first test third body) h env = refl
  switch_form_erased t labels (switch keyword v others body) h env = refl
  switch_form_erased t labels break h env = refl
  switch_form_erased t labels continue h env = refl
  switch_form_erased t labels (return keyword v) h env = refl
  switch_form_erased t labels empty h env = refl
  switch_form_erased t labels (mark kind) h env = refl

  from_erased : (t : Twin) (labels : PlainLabels) (k : ℕ) (ss : PlainStatements) → StatementsCall (Shared t) ss → (env : Environment) (before : Option Environment)
      → pass_from (second_of t) labels k (erased_statements t.program ss) env before ≡ erased_left (pass_from (first_of t) labels k ss env before)
  from_erased t labels k no_statements h env before = refl
  from_erased t labels k (more_statements s rest) h env before =
      let o : Option Environment = if is_labelled k labels then hull_reached before (Some env) else before in
      let a : Left = where_going o (λ e. pass_statement (first_of t) s e) in
      let same : where_going o (λ e. pass_statement (second_of t) (erased_statement t.program s) e) ≡ erased_left a =
      going_erased o (λ e. pass_statement (first_of t) s e) (λ e. pass_statement (second_of t) (erased_statement t.program s) e) (λ e. statement_erased t s h.0 e) in
      (λ i. followed (same i) (pass_from (second_of t) labels (suc k) (erased_statements t.program rest) env (same i).normal))
      ∙ (λ i. followed (erased_left a) (from_erased t labels (suc k) rest h.1 env a.normal i))
      ∙ followed_erased a (pass_from (first_of t) labels (suc k) rest env a.normal)
