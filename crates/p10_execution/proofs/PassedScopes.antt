-- What a pass knows at the ends of a statement: the same variables as before it, apart from those that it declares itself.
use Rattle.std.proofs.Common.{◌≡◌, ℕ, suc, Bool, true, false, List, [], ◌∷◌, ◌++◌, refl, ◌∙◌, ap, sym, subst, Option, Some, None}
use Rattle.std.specs.Prelude.{is_some, is_none, ◌||◌, ◌&&◌, if◌then◌else◌, nat_eq, slice_get, All}
use Rattle.std.specs.Option.{option_map, option_and_then}
use Rattle.std.proofs.lemmas.Bool.{eqb-true, eqb-false}
use Rattle.std.proofs.lemmas.List.Elements.{All-head, All-tail}
use Rattle.p10_base.specs.declared.span.Span.{Span}
use Rattle.p10_int.specs.declared.operators.BinOp.{BinOp}
use Rattle.p10_core.specs.declared.statements.LoopHead.{LoopHead}
use Rattle.p10_core.specs.declared.statements.LoopKeyword.{LoopKeyword}
use Rattle.p10_core.specs.declared.statements.LoopKeyword.TheVariants.{While, Do, For}
use Rattle.p10_core.specs.Types.{PlainType}
use Rattle.p10_core.specs.Rows.{is_integer}
use Rattle.p10_core.specs.Constants.{integer_of}
use Rattle.p10_core.specs.Typed.{PlainValue, type_of, PlainPlace, place, place_type, variable, global, literal, index, member, dereference, PlainItem, PlainWritten, one_scalar, scalars_of_text, PlainInitializer, not_initialized, single, copied, listed, PlainLabels, PlainStatement, statement, set, update, copy, evaluate, asserts, declare, declare_static, block, if_then, if_else, loop, switch, break, continue, return, empty, mark, PlainStatements, no_statements, more_statements, statements_list, PlainVariable}
use Rattle.p10_core.specs.WholePrograms.{Region, is_among, after, after_all, is_declaration, declared_in, declared_of, IsWholeStatement, AreWholeStatements}
use Rattle.p10_cert.specs.Claims.{Value, Loop, Claims}
use Rattle.p10_int.specs.declared.types.IntType.{IntType}
use Rattle.p10_absx.specs.Abstract.{Abstract, whole_type}
use Rattle.p10_absx.specs.Environments.{Environment, known, learned, hull_reached}
use Rattle.p10_absx.specs.Operators.{converted_abstract, binary_abstract}
use Rattle.p10_absx.specs.Assessing.{assess, known_where, abstract_value}
use Rattle.p10_pass.specs.Scopes.{offsets_restored}
use Rattle.p10_pass.specs.Claiming.{head_of, loop_claimed}
use Rattle.p10_pass.specs.Arguments.{has_value, failing_in, failing_at}
use Rattle.p10_pass.specs.Passing.{Left, Manner, nowhere, reached, where_going, and_then_pass, as_block, stored, set_value, updated_value, before_update, value_passed, items_passed, integer_declared, other_declared, declared, value_returned, range_returned, by_claim, tested_in, tested_reached, Round, round_of, loop_left, is_labelled, switch_left, pass_statement, pass_statements, pass_from}
use Rattle.p10_execution.specs.Scoping.{IsNumber, KnowsNumbers, IsBefore}
use Rattle.p10_execution.proofs.Numbers.{or_false}
use Rattle.p10_execution.proofs.Entries.{learned_other}
use Rattle.p10_execution.proofs.AssessedScopes.{SameScope, MaybeSame, scope_itself, learned_scope, assessed_scope}
use Rattle.p10_execution.proofs.TopDeclarations.{declares_here, declares_at_top, top_is_declared, not_here}
use Rattle.p10_execution.proofs.ScopedEnds.{nothing, third_declares, Scoped, MaybeScoped, EndsScoped, scoped_here, scoped_same, maybe_same, maybe_trans, scoped_trans, ends_trans, ends_wider, reached_scoped, nowhere_scoped, reaches, followed_scoped, beside_scoped, calls_scoped, going_scoped, if_scoped, map_scoped, changed_scope, before_left, before_right, before_same, before_scoped, before_nothing, before_rest, before_body, block_scoped}

-- ## Parts of statements

stored_scope : (p : PlainPlace) (a : Abstract) (env : Environment) → SameScope env (stored p a env)
stored_scope (place at t (variable n)) a env = by_case (is_some (known env n)) refl
  where
    by_case : (b : Bool) → is_some (known env n) ≡ b → SameScope env (if b then learned env n a else env)
    by_case true q = learned_scope env n a q
    by_case false q = scope_itself env
stored_scope (place at t (global n)) a env = scope_itself env
stored_scope (place at t (literal n bytes)) a env = scope_itself env
stored_scope (place at t (index x i)) a env = scope_itself env
stored_scope (place at t (member p m)) a env = scope_itself env
stored_scope (place at t (dereference v)) a env = scope_itself env

set_scope : (p : PlainPlace) (integers : Bool) (a : Option Abstract) (env : Environment) (t : PlainType) → is_integer t ≡ integers → MaybeSame env (set_value p t a env)
set_scope p integers None env t e = by_case (is_integer t)
  where
    by_case : (b : Bool) → MaybeSame env (if b then None else Some env)
    by_case true = tt
    by_case false = scope_itself env
set_scope p integers (Some a) env t e = by_case (is_integer t)
  where
    by_case : (b : Bool) → MaybeSame env (if b then Some (stored p a env) else Some env)
    by_case true = stored_scope p a env
    by_case false = scope_itself env

updated_scope : (op : BinOp) (t : PlainType) (p : PlainPlace) (b : Option Abstract) (env : Environment) → MaybeSame env (updated_value op t p b env)
updated_scope op t p b env = by_case (is_integer (place_type p))
  where
    stored_in : (o : Option Abstract) → MaybeSame env (option_map (λ r. stored p (converted_abstract (integer_of (place_type p)) r) env) o)
    stored_in None = tt
    stored_in (Some r) = stored_scope p (converted_abstract (integer_of (place_type p)) r) env

    result_of : Option Abstract
    result_of = option_and_then (λ b. binary_abstract op (integer_of t) (converted_abstract (integer_of t) (before_update p env)) b) b

    by_case : (test : Bool) → MaybeSame env (if test then option_map (λ r. stored p (converted_abstract (integer_of (place_type p)) r) env) result_of else Some env)
    by_case true = stored_in result_of
    by_case false = scope_itself env

-- the declaration of an integer frame variable brings it into scope
learned_scoped : (variables : List PlainVariable) (n : ℕ) (a : Abstract) (env : Environment) → KnowsNumbers variables env → IsNumber variables n → Scoped variables (λ m. nat_eq m n) env (learned env n a)
learned_scoped variables n a env k number = record {
  same = λ m e. ap is_some (learned_other env n m a (eqb-false m n e));
  knows = record { each = λ m e. by_case m (nat_eq m n) refl e };
}
  where
    by_case : (m : ℕ) (b : Bool) → nat_eq m n ≡ b → is_some (known (learned env n a) m) ≡ true → IsNumber variables m
    by_case m true q e = subst (λ j. IsNumber variables j) (sym (eqb-true m n q)) number
    by_case m false q e = k.each m (sym (ap is_some (learned_other env n m a (eqb-false m n q))) ∙ e)

both_true : (a b : Bool) → (a && b) ≡ true → (a ≡ true) × (b ≡ true)
both_true true b e = (refl, e)
both_true false b e = absurd cc

module _ (variables : List PlainVariable) (calls : Option Claims) (loops : Option (List Loop)) (result : Option Value) where
  abbrev m : Manner
  m = record { calls = calls; loops = loops; result = result; variables = variables }

  -- ends as they were, with another environment or none
  passed_scope : (but : ℕ → Bool) (v : PlainValue) (env : Environment) → KnowsNumbers variables env → EndsScoped variables but env (value_passed m v env)
  passed_scope but v env k = calls_scoped variables but env (failing_in calls v env) (reached (if has_value calls v env then Some env else None))
      (reaches variables but env (if has_value calls v env then Some env else None) (if_scoped variables but env (has_value calls v env) (Some env) None (scoped_here variables but env k) tt))

  and_then_scope : (but : ℕ → Bool) (env : Environment) (a : Left) (go : Environment → Left) → EndsScoped variables but env a → ((e : Environment) → Scoped variables but env e → EndsScoped variables but e (go e)) →
      EndsScoped variables but env (and_then_pass a go)
  and_then_scope but env a go h k = followed_scoped variables but env a (where_going a.normal go) h (going_scoped variables but env a.normal go h.normal k)

  items_scope : (but : ℕ → Bool) (items : List PlainItem) (env : Environment) → KnowsNumbers variables env → EndsScoped variables but env (items_passed m items env)
  items_scope but [] env k = reaches variables but env (Some env) (scoped_here variables but env k)
  items_scope but (item ∷ items) env k = first item.written (λ e s. items_scope but items e s.knows)
    where
      first : (written : PlainWritten) → ((e : Environment) → Scoped variables but env e → EndsScoped variables but e (items_passed m items e)) →
          EndsScoped variables but env (items_passed m (record item { written = written } ∷ items) env)
      first (one_scalar v) rest = and_then_scope but env (value_passed m v env) (λ env. items_passed m items env) (passed_scope but v env k) rest
      first (scalars_of_text bytes) rest = and_then_scope but env (reached (Some env)) (λ env. items_passed m items env) (reaches variables but env (Some env) (scoped_here variables but env k)) rest

  -- ## Declarations

  integer_scope : (n : ℕ) (kind : IntType) (initializer : PlainInitializer) (env : Environment) → KnowsNumbers variables env → IsNumber variables n →
      EndsScoped variables (λ m. nat_eq m n) env (integer_declared m n kind initializer env)
  integer_scope n kind (single v) env k number =
      let seen : Environment = learned env n (whole_type kind) in
      let first : Scoped variables (λ m. nat_eq m n) env seen = learned_scoped variables n (whole_type kind) env k number in
      calls_scoped variables (λ m. nat_eq m n) env (failing_in calls v seen) _ (reaches variables (λ m. nat_eq m n) env _ (again seen first (abstract_value calls seen v)))
    where
      again : (seen : Environment) → Scoped variables (λ m. nat_eq m n) env seen → (o : Option Abstract) → MaybeScoped variables (λ m. nat_eq m n) env (option_map (learned seen n) o)
      again seen first None = tt
      again seen first (Some a) = scoped_trans variables (λ m. nat_eq m n) env seen (learned seen n a) first (learned_scoped variables n a seen first.knows number)
  integer_scope n kind not_initialized env k number = reaches variables (λ m. nat_eq m n) env _ (learned_scoped variables n (whole_type kind) env k number)
  integer_scope n kind (copied p) env k number = reaches variables (λ m. nat_eq m n) env _ (learned_scoped variables n (whole_type kind) env k number)
  integer_scope n kind (listed at items) env k number = reaches variables (λ m. nat_eq m n) env _ (learned_scoped variables n (whole_type kind) env k number)

  other_scope : (but : ℕ → Bool) (initializer : PlainInitializer) (env : Environment) → KnowsNumbers variables env → EndsScoped variables but env (other_declared m initializer env)
  other_scope but not_initialized env k = reaches variables but env (Some env) (scoped_here variables but env k)
  other_scope but (single v) env k = passed_scope but v env k
  other_scope but (copied p) env k = calls_scoped variables but env (failing_at calls p env) (reached (Some env)) (reaches variables but env (Some env) (scoped_here variables but env k))
  other_scope but (listed at items) env k = items_scope but items env k

  declared_scope : (n : ℕ) (v : Option PlainVariable) (initializer : PlainInitializer) (env : Environment) → slice_get variables n ≡ v → KnowsNumbers variables env → EndsScoped variables (λ m. nat_eq m n) env (declared m n v initializer env)
  declared_scope n None initializer env e k = reaches variables (λ m. nat_eq m n) env (Some env) (scoped_here variables (λ m. nat_eq m n) env k)
  declared_scope n (Some v) initializer env e k = by_case (v.frame && is_integer v.type) refl
    where
      by_case : (b : Bool) → (v.frame && is_integer v.type) ≡ b →
          EndsScoped variables (λ m. nat_eq m n) env (if b then integer_declared m n (integer_of v.type) initializer env else other_declared m initializer env)
      by_case true q = let both : (v.frame ≡ true) × (is_integer v.type ≡ true) = both_true v.frame (is_integer v.type) q in
          integer_scope n (integer_of v.type) initializer env k (record { variable = v; there = e; frame_is = both.0; integer_is = both.1 })
      by_case false q = other_scope (λ m. nat_eq m n) initializer env k

  -- ## Returns, tests

  returned_scope : (keyword : Span) (a : Option Abstract) (env : Environment) → KnowsNumbers variables env → EndsScoped variables nothing env (range_returned m keyword a env)
  returned_scope keyword None env k = nowhere_scoped variables nothing env
  returned_scope keyword (Some a) env k = record { normal = tt; breaks = tt; continues = tt; returns = scoped_here variables nothing env k }

  value_scope : (keyword : Span) (v : PlainValue) (env : Environment) → KnowsNumbers variables env → EndsScoped variables nothing env (value_returned m keyword v env)
  value_scope keyword v env k = by_case (is_integer (type_of v))
    where
      by_case : (b : Bool) → EndsScoped variables nothing env (if b then range_returned m keyword (abstract_value calls env v) env else record nowhere { returns = Some env })
      by_case true = returned_scope keyword (abstract_value calls env v) env k
      by_case false = record { normal = tt; breaks = tt; continues = tt; returns = scoped_here variables nothing env k }

  where_scoped : (truth : Bool) (v : PlainValue) (env : Environment) → KnowsNumbers variables env → MaybeScoped variables nothing env (known_where truth env (assess calls v env))
  where_scoped truth v env k = maybe_same variables nothing env _ k (assessed_scope calls truth v env)

  pub truth_scoped : (tested : Option PlainValue) (env : Environment) → KnowsNumbers variables env → MaybeScoped variables nothing env (tested_in m tested env).truth
  truth_scoped None env k = scoped_here variables nothing env k
  truth_scoped (Some v) env k = where_scoped true v env k

  pub contrary_scoped : (tested : Option PlainValue) (env : Environment) → KnowsNumbers variables env → MaybeScoped variables nothing env (tested_in m tested env).contrary
  contrary_scoped None env k = tt
  contrary_scoped (Some v) env k = where_scoped false v env k

  pub truth_reached : (tested : Option PlainValue) (env : Environment) (o : Option Environment) → MaybeScoped variables nothing env o → MaybeScoped variables nothing env (tested_reached m tested o).truth
  truth_reached tested env None h = tt
  truth_reached tested env (Some e) h = maybe_trans variables nothing env e _ h (truth_scoped tested e h.knows)

  pub contrary_reached : (tested : Option PlainValue) (env : Environment) (o : Option Environment) → MaybeScoped variables nothing env o → MaybeScoped variables nothing env (tested_reached m tested o).contrary
  contrary_reached tested env None h = tt
  contrary_reached tested env (Some e) h = maybe_trans variables nothing env e _ h (contrary_scoped tested e h.knows)

  -- ## Loops

  -- a round of a loop knows the variables of its head
  pub record RoundScoped (head : Environment) (r : Round) : Type 0 where
    pub enters : MaybeScoped variables nothing head r.enters
    pub back : MaybeScoped variables nothing head r.back
    pub exits : MaybeScoped variables nothing head r.exits
    pub body : EndsScoped variables nothing head r.body

  module _ (tested : Option PlainValue) (third body : Environment → Left) (head : Environment) (k : KnowsNumbers variables head)
      (third_scope : (e : Environment) → Scoped variables nothing head e → EndsScoped variables nothing e (third e))
      (body_scope : (e : Environment) → Scoped variables nothing head e → EndsScoped variables nothing e (body e)) where
    while_scope : RoundScoped head (round_of m While tested third body head)
    while_scope =
        let t = tested_in m tested head in
        let enters : MaybeScoped variables nothing head t.truth = truth_scoped tested head k in
        let b : EndsScoped variables nothing head (where_going t.truth body) = going_scoped variables nothing head t.truth body enters body_scope in
        let on : MaybeScoped variables nothing head (hull_reached (where_going t.truth body).normal (where_going t.truth body).continues) =
        reached_scoped variables nothing head (where_going t.truth body).normal (where_going t.truth body).continues b.normal b.continues in
        let c : EndsScoped variables nothing head (where_going (hull_reached (where_going t.truth body).normal (where_going t.truth body).continues) third) =
        going_scoped variables nothing head (hull_reached (where_going t.truth body).normal (where_going t.truth body).continues) third on third_scope in
        record { enters = enters; back = c.normal; exits = reached_scoped variables nothing head t.contrary (where_going t.truth body).breaks (contrary_scoped tested head k) b.breaks; body = b }

    pub round_scope : (keyword : LoopKeyword) → RoundScoped head (round_of m keyword tested third body head)
    round_scope While = while_scope
    round_scope For = record { enters = while_scope.enters; back = while_scope.back; exits = while_scope.exits; body = while_scope.body }
    round_scope Do =
        let b : EndsScoped variables nothing head (body head) = body_scope head (scoped_here variables nothing head k) in
        let on : MaybeScoped variables nothing head (hull_reached (body head).normal (body head).continues) = reached_scoped variables nothing head (body head).normal (body head).continues b.normal b.continues in
        record {
          enters = scoped_here variables nothing head k;
          back = truth_reached tested head _ on;
          exits = reached_scoped variables nothing head (tested_reached m tested (hull_reached (body head).normal (body head).continues)).contrary (body head).breaks (contrary_reached tested head _ on) b.breaks;
          body = b;
        }

  restored_scope : (assigned : ℕ → Bool) (entry : Environment) (o : Option Environment) → MaybeScoped variables nothing entry o → MaybeScoped variables nothing entry (option_map (offsets_restored assigned entry variables) o)
  restored_scope assigned entry o h = map_scoped variables nothing entry (offsets_restored assigned entry variables) o
      (λ e s. scoped_trans variables nothing entry e _ s (scoped_same variables nothing e _ s.knows (changed_scope variables _ e))) h

  left_loop : (claim : Loop) (head : LoopHead) (assigned : ℕ → Bool) (entry : Environment) (r : Round) → MaybeScoped variables nothing entry r.exits → MaybeScoped variables nothing entry r.body.returns →
      EndsScoped variables nothing entry (loop_left m claim head assigned entry r)
  left_loop claim head assigned entry r h k = record { normal = restored_scope assigned entry r.exits h; breaks = tt; continues = tt; returns = restored_scope assigned entry r.body.returns k }

  -- ## `switch`

  switch_scope : (labels : PlainLabels) (env : Environment) (a : Left) → KnowsNumbers variables env → EndsScoped variables nothing env a → EndsScoped variables nothing env (switch_left labels env a)
  switch_scope labels env a k h = record {
    normal = reached_scoped variables nothing env (hull_reached a.normal a.breaks) (if is_none labels.otherwise then Some env else None)
        (reached_scoped variables nothing env a.normal a.breaks h.normal h.breaks) (if_scoped variables nothing env (is_none labels.otherwise) (Some env) None (scoped_here variables nothing env k) tt);
    breaks = tt;
    continues = h.continues;
    returns = h.returns;
  }

  by_claim_scope : (but : ℕ → Bool) (env : Environment) (o : Option (List Loop)) (trial : Left) (go : List Loop → Left) → EndsScoped variables but env trial → ((ls : List Loop) → EndsScoped variables but env (go ls)) → EndsScoped variables but env (by_claim o trial go)
  by_claim_scope but env None trial go h k = h
  by_claim_scope but env (Some ls) trial go h k = k ls

  -- ## Parts of statements

  -- a statement that is no declaration
  inner_ends : (x : PlainStatement) (env : Environment) → is_declaration x ≡ false → EndsScoped variables (λ n. declares_here n x) env (pass_statement m x env) → EndsScoped variables nothing env (pass_statement m x env)
  inner_ends x env d h = ends_wider variables (λ n. declares_here n x) nothing env (pass_statement m x env) (λ n o. not_here n x d) h

  -- a branch of an `if`
  branch_ends : (x : PlainStatement) (env : Environment) → is_declaration x ≡ false → IsBefore variables (declared_in x) env → (truth : Bool) (v : PlainValue) →
      ((e : Environment) → IsBefore variables (declared_in x) e → EndsScoped variables (λ n. declares_here n x) e (pass_statement m x e)) →
      EndsScoped variables nothing env (where_going (known_where truth env (assess calls v env)) (λ env. pass_statement m x env))
  branch_ends x env d b truth v h = going_scoped variables nothing env (known_where truth env (assess calls v env)) (λ env. pass_statement m x env) (where_scoped truth v env b.knows)
      (λ e s. inner_ends x e d (h e (before_scoped variables nothing (declared_in x) env e b s (λ n o. refl))))

  -- what comes after a statement
  rest_ends : (x : PlainStatement) (rest : PlainStatements) (env : Environment) → IsBefore variables (declared_in x ++ declared_of rest) env → (o : Option Environment) → MaybeScoped variables (λ n. declares_here n x) env o →
      ((e : Environment) → IsBefore variables (declared_of rest) e → EndsScoped variables (λ n. declares_at_top n rest) e (pass_statements m rest e)) →
      EndsScoped variables (λ n. declares_here n x || declares_at_top n rest) env (where_going o (λ env. pass_statements m rest env))
  rest_ends x rest env b None s h = nowhere_scoped variables _ env
  rest_ends x rest env b (Some e) s h =
      let wide : ℕ → Bool = λ n. declares_here n x || declares_at_top n rest in
      ends_trans variables wide env e (pass_statements m rest e) (record { same = λ n o. s.same n (or_false (declares_here n x) (declares_at_top n rest) o).0; knows = s.knows })
      (ends_wider variables (λ n. declares_at_top n rest) wide e (pass_statements m rest e) (λ n o. (or_false (declares_here n x) (declares_at_top n rest) o).1) (h e (before_rest variables x rest env e b s)))

  top_nothing : (xs : PlainStatements) (n : ℕ) → declared_of xs ≡ [] → declares_at_top n xs ≡ false
  top_nothing xs n e = by_case (declares_at_top n xs) refl
    where
      by_case : (t : Bool) → declares_at_top n xs ≡ t → declares_at_top n xs ≡ false
      by_case true q = let p : is_among n (declared_of xs) ≡ true = top_is_declared n xs q in let none : is_among n (declared_of xs) ≡ false = ap (is_among n) e in absurd cc
      by_case false q = q

  if_reached : (env : Environment) (t : Bool) (a : Left) → EndsScoped variables nothing env a → EndsScoped variables nothing env (if t then a else nowhere)
  if_reached env true a h = h
  if_reached env false a h = nowhere_scoped variables nothing env

  -- ## Statements

  mutual
    pub statement_scoped : (r : Region) (x : PlainStatement) → IsWholeStatement r x → (env : Environment) → IsBefore variables (declared_in x) env → EndsScoped variables (λ n. declares_here n x) env (pass_statement m x env)
    statement_scoped r (statement at (set p v)) i env b = calls_scoped variables nothing env (failing_at calls p env ++ failing_in calls v env) _
        (reaches variables nothing env _ (maybe_same variables nothing env _ b.knows (set_scope p (is_integer (type_of v)) (abstract_value calls env v) env (type_of v) refl)))
    statement_scoped r (statement at (update kind op t p v)) i env b = calls_scoped variables nothing env (failing_at calls p env ++ failing_in calls v env) _
        (reaches variables nothing env _ (maybe_same variables nothing env _ b.knows (updated_scope op t p (abstract_value calls env v) env)))
    statement_scoped r (statement at (copy p q)) i env b = calls_scoped variables nothing env (failing_at calls p env ++ failing_at calls q env) _ (reaches variables nothing env (Some env) (scoped_here variables nothing env b.knows))
    statement_scoped r (statement at (evaluate v)) i env b = passed_scope nothing v env b.knows
    statement_scoped r (statement at (asserts call v)) i env b = calls_scoped variables nothing env (failing_in calls v env) _ (reaches variables nothing env _ (where_scoped true v env b.knows))
    statement_scoped r (statement at (declare n initializer)) i env b = declared_scope n (slice_get variables n) initializer env refl b.knows
    statement_scoped r (statement at (declare_static n)) i env b = reaches variables nothing env (Some env) (scoped_here variables nothing env b.knows)
    statement_scoped r (statement at (block xs)) i env b = block_scoped variables xs env (pass_statements m xs env) b (statements_scoped r xs i env b)
    statement_scoped r (statement at (if_then v x)) i env b = calls_scoped variables nothing env (failing_in calls v env) _
        (beside_scoped variables nothing env _ (reached (known_where false env (assess calls v env))) (branch_ends x env i.2 b true v (λ e c. statement_scoped r x i.1 e c)) (reaches variables nothing env _ (where_scoped false v env b.knows)))
    statement_scoped r (statement at (if_else v x z)) i env b = calls_scoped variables nothing env (failing_in calls v env) _
        (beside_scoped variables nothing env _ _ (branch_ends x env i.3 (before_left variables (declared_in x) (declared_in z) env b) true v (λ e c. statement_scoped r x i.1 e c))
        (branch_ends z env i.4 (before_right variables (declared_in x) (declared_in z) env b) false v (λ e c. statement_scoped r z i.2 e c)))
    statement_scoped r (statement at (loop head first tested third body)) i env b =
        by_claim_scope nothing env loops _ _ (reaches variables nothing env _ (scoped_same variables nothing env _ b.knows (changed_scope variables _ env))) (λ ls.
        let claim : Loop = loop_claimed ls head.number in
        let before_first : IsBefore variables (declared_of first) env = before_left variables (declared_of first) (declared_in body) env b in
        let firsts : EndsScoped variables (λ n. declares_at_top n first) env (pass_statements m first env) = statements_scoped r first i.0 env before_first in
        block_scoped variables first env (and_then_pass (pass_statements m first env) _) before_first
        (and_then_scope (λ n. declares_at_top n first) env (pass_statements m first env) _ firsts (λ entry s.
        let at_head : Environment = head_of claim variables entry in
        let same : SameScope entry at_head = changed_scope variables _ entry in
        let scoped : Scoped variables nothing entry at_head = scoped_same variables nothing entry at_head s.knows same in
        let of_body : IsBefore variables (declared_in body) at_head = before_same variables (declared_in body) entry at_head (before_body variables first (declared_in body) env entry b s) same in
        let turn : Round = round_of m head.keyword tested (λ env. pass_statements m third env) (λ env. pass_statement m body env) at_head in
        let round : RoundScoped at_head turn =
        round_scope tested (λ env. pass_statements m third env) (λ env. pass_statement m body env) at_head scoped.knows
        (λ e s. ends_wider variables (λ n. declares_at_top n third) nothing e (pass_statements m third e) (λ n o. top_nothing third n (third_declares head.keyword first tested third i.4))
        (statements_scoped (after_all r first) third i.2 e (before_nothing variables (declared_of third) e (third_declares head.keyword first tested third i.4) s.knows)))
        (λ e s. inner_ends body e i.5 (statement_scoped (record (after_all r first) { in_loop = true }) body i.3 e (before_scoped variables nothing (declared_in body) at_head e of_body s (λ n o. refl)))) head.keyword in
        ends_wider variables nothing (λ n. declares_at_top n first) entry _ (λ n o. refl)
        (left_loop claim head _ entry turn (maybe_trans variables nothing entry at_head turn.exits scoped round.exits) (maybe_trans variables nothing entry at_head turn.body.returns scoped round.body.returns)))))
    statement_scoped r (statement at (switch keyword v labels (statement there (block xs)))) i env b = calls_scoped variables nothing env (failing_in calls v env) _
        (if_reached env (has_value calls v env) _ (switch_scope labels env (as_block xs (pass_from m labels 0 xs env None)) b.knows
        (block_scoped variables xs env (pass_from m labels 0 xs env None) b
        (ends_wider variables nothing (λ n. declares_at_top n xs) env (pass_from m labels 0 xs env None) (λ n o. refl) (from_scoped labels (record r { in_switch = true }) 0 xs i.1 i.0.declares_nothing env b None tt)))))
    statement_scoped r (statement at (switch keyword v labels body)) i env b = calls_scoped variables nothing env (failing_in calls v env) _
        (if_reached env (has_value calls v env) _ (reaches variables nothing env (Some env) (scoped_here variables nothing env b.knows)))
    statement_scoped r (statement at break) i env b = record { normal = tt; breaks = scoped_here variables nothing env b.knows; continues = tt; returns = tt }
    statement_scoped r (statement at continue) i env b = record { normal = tt; breaks = tt; continues = scoped_here variables nothing env b.knows; returns = tt }
    statement_scoped r (statement at (return keyword None)) i env b = record { normal = tt; breaks = tt; continues = tt; returns = scoped_here variables nothing env b.knows }
    statement_scoped r (statement at (return keyword (Some v))) i env b = calls_scoped variables nothing env (failing_in calls v env) _ (value_scope keyword v env b.knows)
    statement_scoped r (statement at empty) i env b = reaches variables nothing env (Some env) (scoped_here variables nothing env b.knows)
    statement_scoped r (statement at (mark kind)) i env b = reaches variables nothing env (Some env) (scoped_here variables nothing env b.knows)

    pub statements_scoped : (r : Region) (xs : PlainStatements) → AreWholeStatements r xs → (env : Environment) → IsBefore variables (declared_of xs) env → EndsScoped variables (λ n. declares_at_top n xs) env (pass_statements m xs env)
    statements_scoped r no_statements i env b = reaches variables (λ n. false) env (Some env) (scoped_here variables (λ n. false) env b.knows)
    statements_scoped r (more_statements x rest) i env b =
        let wide : ℕ → Bool = λ n. declares_here n x || declares_at_top n rest in
        let first : EndsScoped variables (λ n. declares_here n x) env (pass_statement m x env) = statement_scoped r x i.0 env (before_left variables (declared_in x) (declared_of rest) env b) in
        followed_scoped variables wide env (pass_statement m x env) _ (ends_wider variables (λ n. declares_here n x) wide env (pass_statement m x env) (λ n o. (or_false (declares_here n x) (declares_at_top n rest) o).0) first)
        (rest_ends x rest env b (pass_statement m x env).normal first.normal (λ e c. statements_scoped (after r x) rest i.1 e c))

    from_scoped : (labels : PlainLabels) (r : Region) (k : ℕ) (xs : PlainStatements) → AreWholeStatements r xs → All (λ s. is_declaration s ≡ false) (statements_list xs) → (env : Environment) → IsBefore variables (declared_of xs) env → (before : Option Environment) → MaybeScoped variables nothing env before →
        EndsScoped variables nothing env (pass_from m labels k xs env before)
    from_scoped labels r k no_statements i d env b before s = reaches variables nothing env before s
    from_scoped labels r k (more_statements x rest) i d env b before s =
        let plain : is_declaration x ≡ false = All-head (λ s. is_declaration s ≡ false) x (statements_list rest) d in
        let enters : Option Environment = if is_labelled k labels then hull_reached before (Some env) else before in
        let scoped : MaybeScoped variables nothing env enters = if_scoped variables nothing env (is_labelled k labels) (hull_reached before (Some env)) before (reached_scoped variables nothing env before (Some env) s (scoped_here variables nothing env b.knows)) s in
        let first : EndsScoped variables nothing env (where_going enters (λ env. pass_statement m x env)) = going_scoped variables nothing env enters (λ env. pass_statement m x env) scoped
        (λ e s. inner_ends x e plain (statement_scoped r x i.0 e (before_scoped variables nothing (declared_in x) env e (before_left variables (declared_in x) (declared_of rest) env b) s (λ n o. refl)))) in
        followed_scoped variables nothing env (where_going enters (λ env. pass_statement m x env)) _ first
        (from_scoped labels (after r x) (suc k) rest i.1 (All-tail (λ s. is_declaration s ≡ false) x (statements_list rest) d) env (before_right variables (declared_in x) (declared_of rest) env b) (where_going enters (λ env. pass_statement m x env)).normal first.normal)

  -- a turn of a loop, from its head, where its first clause was passed
  pub loop_scoped : (r : Region) (head : LoopHead) (first : PlainStatements) (tested : Option PlainValue) (third : PlainStatements) (body : PlainStatement) → AreWholeStatements r third → (inner : Region) → IsWholeStatement inner body → is_declaration body ≡ false → declared_of third ≡ [] →
      (claim : Loop) (entry : Environment) → IsBefore variables (declared_in body) entry →
      RoundScoped (head_of claim variables entry) (round_of m head.keyword tested (λ env. pass_statements m third env) (λ env. pass_statement m body env) (head_of claim variables entry))
  loop_scoped r head first tested third body third_whole inner body_whole plain none claim entry b =
      let at_head : Environment = head_of claim variables entry in
      let same : SameScope entry at_head = changed_scope variables _ entry in
      let scoped : Scoped variables nothing entry at_head = scoped_same variables nothing entry at_head b.knows same in
      let of_body : IsBefore variables (declared_in body) at_head = before_same variables (declared_in body) entry at_head b same in
      round_scope tested (λ env. pass_statements m third env) (λ env. pass_statement m body env) at_head scoped.knows
      (λ e s. ends_wider variables (λ n. declares_at_top n third) nothing e (pass_statements m third e) (λ n o. top_nothing third n none) (statements_scoped r third third_whole e (before_nothing variables (declared_of third) e none s.knows)))
      (λ e s. inner_ends body e plain (statement_scoped inner body body_whole e (before_scoped variables nothing (declared_in body) at_head e of_body s (λ n o. refl)))) head.keyword

  -- an item of a `switch`, entered from before or by its label
  pub item_scoped : (r : Region) (x : PlainStatement) → IsWholeStatement r x → is_declaration x ≡ false → (env : Environment) → IsBefore variables (declared_in x) env → (o : Option Environment) → MaybeScoped variables nothing env o →
      EndsScoped variables nothing env (where_going o (λ env. pass_statement m x env))
  item_scoped r x i plain env b o h = going_scoped variables nothing env o (λ env. pass_statement m x env) h
      (λ e s. inner_ends x e plain (statement_scoped r x i e (before_scoped variables nothing (declared_in x) env e b s (λ n k. refl))))
