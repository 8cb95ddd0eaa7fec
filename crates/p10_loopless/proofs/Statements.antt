-- The pass over statements leaves the same where claims are the same but for loops.
use Rattle.std.proofs.Common.{◌≡◌, ℕ, suc, true, false, List, [], ◌∷◌, ◌++◌, Option, Some, None, refl}
use Rattle.std.specs.Prelude.{if◌then◌else◌, slice_get}
use Rattle.p10_core.specs.Typed.{PlainValue, type_of, PlainLabels, PlainStatement, statement, PlainStatementForm, set, update, copy, evaluate, asserts, declare, declare_static, block, if_then, if_else, loop, switch, break, continue, return, empty, mark, PlainStatements, no_statements, more_statements}
use Rattle.p10_absx.specs.Environments.{Environment, hull_reached}
use Rattle.p10_absx.specs.Assessing.{value_found, known_where}
use Rattle.p10_pass.specs.Scopes.{form_assigns}
use Rattle.p10_pass.specs.Claiming.{head_of, loop_claimed}
use Rattle.p10_pass.specs.Passing.{Left, nowhere, reached, where_going, followed, and_then_pass, beside, with_calls, as_block, set_value, updated_value, loop_left, is_labelled, switch_left, pass_statement, pass_form, pass_statements, pass_switch, pass_switch_form, pass_from}
use Rattle.p10_loopless.proofs.Manners.{Twin, first_of, second_of, found_same, there_same, fails_same, fails_at_same}
use Rattle.p10_loopless.proofs.Parts.{same_evaluated, same_declared, same_returned, same_round}

mutual
  pub same_statement : (t : Twin) (s : PlainStatement) (env : Environment) → pass_statement (first_of t) s env ≡ pass_statement (second_of t) s env
  same_statement t (statement at form) env = same_form t form env

  same_form : (t : Twin) (form : PlainStatementForm) (env : Environment) → pass_form (first_of t) form env ≡ pass_form (second_of t) form env
  same_form t (set p v) env =
      λ i. with_calls (fails_at_same t p env i ++ fails_same t v env i) (reached (set_value p (type_of v) (value_found (found_same t v env i)) env))
  same_form t (update kind op type p v) env =
      λ i. with_calls (fails_at_same t p env i ++ fails_same t v env i) (reached (updated_value op type p (value_found (found_same t v env i)) env))
  same_form t (copy p q) env = λ i. with_calls (fails_at_same t p env i ++ fails_at_same t q env i) (reached (Some env))
  same_form t (evaluate v) env = same_evaluated t v env
  same_form t (asserts call v) env = λ i. with_calls (fails_same t v env i) (reached (known_where true env (found_same t v env i)))
  same_form t (declare n initializer) env = same_declared t n (slice_get t.variables n) initializer env
  same_form t (declare_static n) env = refl
  same_form t (block ss) env = λ i. as_block ss (same_statements t ss env i)
  same_form t (if_then v s) env =
      λ i. with_calls (fails_same t v env i) (beside (where_going (known_where true env (found_same t v env i)) (λ e. same_statement t s e i)) (reached (known_where false env (found_same t v env i))))
  same_form t (if_else v s u) env =
      λ i. with_calls (fails_same t v env i)
      (beside (where_going (known_where true env (found_same t v env i)) (λ e. same_statement t s e i)) (where_going (known_where false env (found_same t v env i)) (λ e. same_statement t u e i)))
  same_form t (loop head first tested third body) env =
      λ i. as_block first (and_then_pass (same_statements t first env i) (λ entry.
      loop_left (first_of t) (loop_claimed t.loops head.number) head (λ n. form_assigns n (loop head first tested third body)) entry
      (same_round t head.keyword tested (λ e. pass_statements (first_of t) third e) (λ e. pass_statements (second_of t) third e) (λ e. pass_statement (first_of t) body e) (λ e. pass_statement (second_of t) body e)
      (λ e. same_statements t third e) (λ e. same_statement t body e) (head_of (loop_claimed t.loops head.number) t.variables entry) i)))
  same_form t (switch keyword v labels body) env = λ i. with_calls (fails_same t v env i) (if there_same t v env i then same_switch t labels body env i else nowhere)
  same_form t break env = refl
  same_form t continue env = refl
  same_form t (return keyword None) env = refl
  same_form t (return keyword (Some v)) env = λ i. with_calls (fails_same t v env i) (same_returned t keyword v env i)
  same_form t empty env = refl
  same_form t (mark kind) env = refl

  pub same_statements : (t : Twin) (ss : PlainStatements) (env : Environment) → pass_statements (first_of t) ss env ≡ pass_statements (second_of t) ss env
  same_statements t no_statements env = refl
  same_statements t (more_statements s rest) env = λ i. and_then_pass (same_statement t s env i) (λ e. same_statements t rest e i)

  same_switch : (t : Twin) (labels : PlainLabels) (s : PlainStatement) (env : Environment) → pass_switch (first_of t) labels s env ≡ pass_switch (second_of t) labels s env
  same_switch t labels (statement at form) env = same_switch_form t labels form env

  same_switch_form : (t : Twin) (labels : PlainLabels) (form : PlainStatementForm) (env : Environment) → pass_switch_form (first_of t) labels form env ≡ pass_switch_form (second_of t) labels form env
  same_switch_form t labels (block ss) env = λ i. switch_left labels env (as_block ss (same_from t labels 0 ss env None i))
  same_switch_form t labels (set p v) env = refl
  same_switch_form t labels (update kind op type p v) env = refl
  same_switch_form t labels (copy p q) env = refl
  same_switch_form t labels (evaluate v) env = refl
  same_switch_form t labels (asserts call v) env = refl
  same_switch_form t labels (declare n initializer) env = refl
  same_switch_form t labels (declare_static n) env = refl
  same_switch_form t labels (if_then v s) env = refl
  same_switch_form t labels (if_else v s u) env = refl
  same_switch_form t labels (loop head first tested third body) env = refl
  same_switch_form t labels (switch keyword v others body) env = refl
  same_switch_form t labels break env = refl
  same_switch_form t labels continue env = refl
  same_switch_form t labels (return keyword v) env = refl
  same_switch_form t labels empty env = refl
  same_switch_form t labels (mark kind) env = refl

  same_from : (t : Twin) (labels : PlainLabels) (k : ℕ) (ss : PlainStatements) (env : Environment) (before : Option Environment)
      → pass_from (first_of t) labels k ss env before ≡ pass_from (second_of t) labels k ss env before
  same_from t labels k no_statements env before = refl
  same_from t labels k (more_statements s rest) env before =
      λ i. followed (where_going (if is_labelled k labels then hull_reached before (Some env) else before) (λ e. same_statement t s e i))
      (same_from t labels (suc k) rest env (where_going (if is_labelled k labels then hull_reached before (Some env) else before) (λ e. same_statement t s e i)).normal i)
