-- In a trial pass no condition fails: nothing is claimed of calls, of inner loops or of the result.
use Rattle.std.proofs.Common.{◌≡◌, ℕ, suc, Bool, true, false, List, [], ◌∷◌, ◌++◌, refl, ◌∙◌, ap, Option, Some, None, slice_get}
use Rattle.std.specs.Prelude.{◌&&◌, if◌then◌else◌}
use Rattle.p10_base.specs.declared.span.Span.{Span}
use Rattle.p10_int.specs.declared.types.IntType.{IntType}
use Rattle.p10_core.specs.declared.statements.LoopKeyword.{LoopKeyword}
use Rattle.p10_core.specs.declared.statements.LoopKeyword.TheVariants.{While, Do, For}
use Rattle.p10_core.specs.Rows.{is_integer}
use Rattle.p10_core.specs.Constants.{integer_of}
use Rattle.p10_core.specs.Typed.{PlainValue, type_of, PlainItem, PlainWritten, one_scalar, scalars_of_text, PlainInitializer, not_initialized, single, copied, listed, PlainLabels, PlainStatement, statement, set, update, copy, evaluate as expression, asserts, declare, declare_static, block, if_then, if_else, loop, switch, break, continue, return, empty, mark, PlainStatements, no_statements, more_statements, PlainVariable}
use Rattle.p10_absx.specs.Abstract.{Abstract}
use Rattle.p10_absx.specs.Environments.{Environment, hull_reached}
use Rattle.p10_absx.specs.Assessing.{assess, known_where, abstract_value}
use Rattle.p10_pass.specs.Arguments.{has_value}
use Rattle.p10_pass.specs.Passing.{Left, Manner, nowhere, reached, where_going, followed, beside, with_calls, as_block, value_passed, items_passed, integer_declared, other_declared, declared, value_returned, range_returned, Tested, tested_in, tested_reached, Round, round_of, is_labelled, switch_left, pass_statement, pass_statements, pass_switch, pass_from, trial_manner}
use Rattle.p10_execution.specs.Leaving.{NoneFails}
use Rattle.p10_turns.specs.Ranked.{PartsHold}

nowhere_clear : NoneFails nowhere
nowhere_clear = record { arguments = refl; results = refl; entries = refl; backs = refl }

none_of_both : {A : Type 0} (xs ys : List A) → xs ≡ [] → ys ≡ [] → xs ++ ys ≡ []
none_of_both xs ys e q = ap (λ l. l ++ ys) e ∙ q

followed_clear : (a b : Left) → NoneFails a → NoneFails b → NoneFails (followed a b)
followed_clear a b h k = record {
  arguments = none_of_both a.arguments b.arguments h.arguments k.arguments;
  results = none_of_both a.results b.results h.results k.results;
  entries = none_of_both a.entries b.entries h.entries k.entries;
  backs = none_of_both a.backs b.backs h.backs k.backs;
}

beside_clear : (a b : Left) → NoneFails a → NoneFails b → NoneFails (beside a b)
beside_clear a b h k = let c = followed_clear a b h k in record { arguments = c.arguments; results = c.results; entries = c.entries; backs = c.backs }

block_clear : (xs : PlainStatements) (a : Left) → NoneFails a → NoneFails (as_block xs a)
block_clear xs a h = record { arguments = h.arguments; results = h.results; entries = h.entries; backs = h.backs }

switch_clear : (labels : PlainLabels) (env : Environment) (a : Left) → NoneFails a → NoneFails (switch_left labels env a)
switch_clear labels env a h = record { arguments = h.arguments; results = h.results; entries = h.entries; backs = h.backs }

pub going_clear : (o : Option Environment) (go : Environment → Left) → ((env : Environment) → NoneFails (go env)) → NoneFails (where_going o go)
going_clear None go h = nowhere_clear
going_clear (Some env) go h = h env

if_clear : (t : Bool) (a b : Left) → NoneFails a → NoneFails b → NoneFails (if t then a else b)
if_clear true a b h k = h
if_clear false a b h k = k

module _ (variables : List PlainVariable) where
  abbrev m : Manner
  m = trial_manner variables

  -- ## Declarations and returns

  -- a trial pass finds no failing call
  calls_clear : (a : Left) → NoneFails a → NoneFails (with_calls [] a)
  calls_clear a h = record { arguments = h.arguments; results = h.results; entries = h.entries; backs = h.backs }

  passed_clear : (v : PlainValue) (env : Environment) → NoneFails (value_passed m v env)
  passed_clear v env = record { arguments = refl; results = refl; entries = refl; backs = refl }

  item_clear : (i : ℕ) (written : PlainWritten) (items : List PlainItem) (env : Environment) → ((env : Environment) → NoneFails (items_passed m items env)) → NoneFails (items_passed m (record { scalar = i; written = written } ∷ items) env)
  item_clear i (one_scalar v) items env rest = followed_clear (value_passed m v env) (where_going (value_passed m v env).normal (λ env. items_passed m items env)) (passed_clear v env)
      (going_clear (value_passed m v env).normal (λ env. items_passed m items env) rest)
  item_clear i (scalars_of_text bytes) items env rest = followed_clear (reached (Some env)) (items_passed m items env) (record { arguments = refl; results = refl; entries = refl; backs = refl }) (rest env)

  items_clear : (items : List PlainItem) (env : Environment) → NoneFails (items_passed m items env)
  items_clear [] env = record { arguments = refl; results = refl; entries = refl; backs = refl }
  items_clear (item ∷ items) env = item_clear item.scalar item.written items env (λ env. items_clear items env)

  integer_clear : (n : ℕ) (kind : IntType) (initializer : PlainInitializer) (env : Environment) → NoneFails (integer_declared m n kind initializer env)
  integer_clear n kind (single v) env = record { arguments = refl; results = refl; entries = refl; backs = refl }
  integer_clear n kind not_initialized env = record { arguments = refl; results = refl; entries = refl; backs = refl }
  integer_clear n kind (copied p) env = record { arguments = refl; results = refl; entries = refl; backs = refl }
  integer_clear n kind (listed at items) env = record { arguments = refl; results = refl; entries = refl; backs = refl }

  other_clear : (initializer : PlainInitializer) (env : Environment) → NoneFails (other_declared m initializer env)
  other_clear (single v) env = passed_clear v env
  other_clear not_initialized env = record { arguments = refl; results = refl; entries = refl; backs = refl }
  other_clear (copied p) env = record { arguments = refl; results = refl; entries = refl; backs = refl }
  other_clear (listed at items) env = items_clear items env

  declared_clear : (n : ℕ) (v : Option PlainVariable) (initializer : PlainInitializer) (env : Environment) → NoneFails (declared m n v initializer env)
  declared_clear n None initializer env = record { arguments = refl; results = refl; entries = refl; backs = refl }
  declared_clear n (Some v) initializer env = if_clear (v.frame && is_integer v.type) _ _ (integer_clear n (integer_of v.type) initializer env) (other_clear initializer env)

  range_clear : (keyword : Span) (a : Option Abstract) (env : Environment) → NoneFails (range_returned m keyword a env)
  range_clear keyword None env = nowhere_clear
  range_clear keyword (Some a) env = record { arguments = refl; results = refl; entries = refl; backs = refl }

  returned_clear : (keyword : Span) (v : PlainValue) (env : Environment) → NoneFails (value_returned m keyword v env)
  returned_clear keyword v env = if_clear (is_integer (type_of v)) (range_returned m keyword (abstract_value None env v) env) (record nowhere { returns = Some env }) (range_clear keyword (abstract_value None env v) env) (record { arguments = refl; results = refl; entries = refl; backs = refl })

  -- ## Statements

  mutual
    pub statement_clear : (x : PlainStatement) (env : Environment) → NoneFails (pass_statement m x env)
    statement_clear (statement at (set p v)) env = record { arguments = refl; results = refl; entries = refl; backs = refl }
    statement_clear (statement at (update kind op t p v)) env = record { arguments = refl; results = refl; entries = refl; backs = refl }
    statement_clear (statement at (copy p q)) env = record { arguments = refl; results = refl; entries = refl; backs = refl }
    statement_clear (statement at (expression v)) env = passed_clear v env
    statement_clear (statement at (asserts call v)) env = record { arguments = refl; results = refl; entries = refl; backs = refl }
    statement_clear (statement at (declare n initializer)) env = declared_clear n (slice_get variables n) initializer env
    statement_clear (statement at (declare_static n)) env = record { arguments = refl; results = refl; entries = refl; backs = refl }
    statement_clear (statement at (block xs)) env = block_clear xs (pass_statements m xs env) (statements_clear xs env)
    statement_clear (statement at (if_then v x)) env =
        let o = known_where true env (assess None v env) in
        calls_clear (beside (where_going o (λ env. pass_statement m x env)) (reached (known_where false env (assess None v env))))
        (beside_clear (where_going o (λ env. pass_statement m x env)) (reached (known_where false env (assess None v env))) (going_clear o (λ env. pass_statement m x env) (λ env. statement_clear x env)) (record { arguments = refl; results = refl; entries = refl; backs = refl }))
    statement_clear (statement at (if_else v x z)) env =
        let o = known_where true env (assess None v env) in
        let q = known_where false env (assess None v env) in
        calls_clear (beside (where_going o (λ env. pass_statement m x env)) (where_going q (λ env. pass_statement m z env)))
        (beside_clear (where_going o (λ env. pass_statement m x env)) (where_going q (λ env. pass_statement m z env)) (going_clear o (λ env. pass_statement m x env) (λ env. statement_clear x env))
        (going_clear q (λ env. pass_statement m z env) (λ env. statement_clear z env)))
    statement_clear (statement at (loop head first tested third body)) env = record { arguments = refl; results = refl; entries = refl; backs = refl }
    statement_clear (statement at (switch keyword v labels body)) env =
        let a = if has_value None v env then pass_switch m labels body env else nowhere in
        calls_clear a (if_clear (has_value None v env) (pass_switch m labels body env) nowhere (switched_clear labels body env) nowhere_clear)
    statement_clear (statement at break) env = record { arguments = refl; results = refl; entries = refl; backs = refl }
    statement_clear (statement at continue) env = record { arguments = refl; results = refl; entries = refl; backs = refl }
    statement_clear (statement at (return keyword None)) env = record { arguments = refl; results = refl; entries = refl; backs = refl }
    statement_clear (statement at (return keyword (Some v))) env = calls_clear (value_returned m keyword v env) (returned_clear keyword v env)
    statement_clear (statement at empty) env = record { arguments = refl; results = refl; entries = refl; backs = refl }
    statement_clear (statement at (mark kind)) env = record { arguments = refl; results = refl; entries = refl; backs = refl }

    pub statements_clear : (xs : PlainStatements) (env : Environment) → NoneFails (pass_statements m xs env)
    statements_clear no_statements env = record { arguments = refl; results = refl; entries = refl; backs = refl }
    statements_clear (more_statements x rest) env =
        let a : Left = pass_statement m x env in
        followed_clear a (where_going a.normal (λ env. pass_statements m rest env)) (statement_clear x env) (going_clear a.normal (λ env. pass_statements m rest env) (λ env. statements_clear rest env))

    switched_clear : (labels : PlainLabels) (x : PlainStatement) (env : Environment) → NoneFails (pass_switch m labels x env)
    switched_clear labels (statement at (block xs)) env = switch_clear labels env (as_block xs (pass_from m labels 0 xs env None)) (block_clear xs (pass_from m labels 0 xs env None) (from_clear labels 0 xs env None))
    switched_clear labels (statement at form) env = record { arguments = refl; results = refl; entries = refl; backs = refl }

    from_clear : (labels : PlainLabels) (k : ℕ) (xs : PlainStatements) (env : Environment) (before : Option Environment) → NoneFails (pass_from m labels k xs env before)
    from_clear labels k no_statements env before = record { arguments = refl; results = refl; entries = refl; backs = refl }
    from_clear labels k (more_statements x rest) env before =
        let o = if is_labelled k labels then hull_reached before (Some env) else before in
        let a : Left = where_going o (λ env. pass_statement m x env) in
        followed_clear a (pass_from m labels (suc k) rest env a.normal) (going_clear o (λ env. pass_statement m x env) (λ env. statement_clear x env)) (from_clear labels (suc k) rest env a.normal)

  -- ## Rounds

  test_clear : (tested : Option PlainValue) (env : Environment) → (tested_in m tested env).names ≡ []
  test_clear None env = refl
  test_clear (Some v) env = refl

  reached_test_clear : (tested : Option PlainValue) (o : Option Environment) → (tested_reached m tested o).names ≡ []
  reached_test_clear tested None = refl
  reached_test_clear tested (Some env) = test_clear tested env

  module _ (tested : Option PlainValue) (third : PlainStatements) (body : PlainStatement) (head : Environment) where
    abbrev of_keyword : LoopKeyword → Round
    of_keyword keyword = round_of m keyword tested (λ env. pass_statements m third env) (λ env. pass_statement m body env) head

    while_clear : PartsHold (of_keyword While)
    while_clear =
        let t : Tested = tested_in m tested head in
        let a : Left = where_going t.truth (λ env. pass_statement m body env) in
        let on : Option Environment = hull_reached a.normal a.continues in
        let c : Left = where_going on (λ env. pass_statements m third env) in
        let h : NoneFails a = going_clear t.truth (λ env. pass_statement m body env) (λ env. statement_clear body env) in
        let k : NoneFails c = going_clear on (λ env. pass_statements m third env) (λ env. statements_clear third env) in
        record {
          calls = none_of_both t.names (c.arguments ++ a.arguments) (test_clear tested head) (none_of_both c.arguments a.arguments k.arguments h.arguments);
          results = h.results;
          entries = h.entries;
          backs = h.backs;
        }

    do_clear : PartsHold (of_keyword Do)
    do_clear =
        let a : Left = pass_statement m body head in
        let on : Option Environment = hull_reached a.normal a.continues in
        let h : NoneFails a = statement_clear body head in
        record {
          calls = none_of_both a.arguments (tested_reached m tested on).names h.arguments (reached_test_clear tested on);
          results = h.results;
          entries = h.entries;
          backs = h.backs;
        }

    -- a round of a loop in a trial pass
    pub round_clear : (keyword : LoopKeyword) → PartsHold (of_keyword keyword)
    round_clear While = while_clear
    round_clear For = record { calls = while_clear.calls; results = while_clear.results; entries = while_clear.entries; backs = while_clear.backs }
    round_clear Do = do_clear
