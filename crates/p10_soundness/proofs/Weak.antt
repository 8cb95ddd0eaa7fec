-- The loops that a pass finds weak are those in which one of K8 to K10 fails, so evidence stands for each in an accepted certificate.
use Rattle.std.proofs.Common.{◌≡◌, ℕ, suc, Bool, true, false, List, [], ◌∷◌, ◌++◌, refl, Option, Some, None, slice_get}
use Rattle.std.specs.Prelude.{◌&&◌, not, if◌then◌else◌}
use Rattle.p10_base.specs.declared.span.Span.{Span}
use Rattle.p10_core.specs.Typed.{PlainItem, PlainWritten, one_scalar, scalars_of_text, PlainInitializer, not_initialized, single, copied, listed, PlainLabels, PlainStatement, statement, PlainStatementForm, set, update, copy, evaluate, asserts, declare, declare_static, block, if_then, if_else, loop, switch, break, continue, return, empty, mark, PlainStatements, no_statements, more_statements, PlainVariable}
use Rattle.p10_core.specs.declared.statements.LoopHead.{LoopHead}
use Rattle.p10_core.specs.declared.statements.LoopKeyword.{LoopKeyword}
use Rattle.p10_core.specs.declared.statements.LoopKeyword.TheVariants.{While, Do, For}
use Rattle.p10_core.specs.Rows.{is_integer}
use Rattle.p10_core.specs.Constants.{integer_of}
use Rattle.p10_core.specs.Typed.{PlainValue, type_of}
use Rattle.p10_cert.specs.declared.claims.Rank.{Rank}
use Rattle.p10_cert.specs.declared.claims.Rank.TheVariants.{Up, Down, One, Task}
use Rattle.p10_cert.specs.Claims.{Loop}
use Rattle.p10_absx.specs.Abstract.{Abstract}
use Rattle.p10_absx.specs.Environments.{Environment, hull_reached}
use Rattle.p10_absx.specs.Assessing.{known_where, assess, abstract_value}
use Rattle.p10_pass.specs.Scopes.{form_assigns, assigned_forgotten}
use Rattle.p10_pass.specs.Claiming.{head_of, loop_claimed, rank_in, enters_ranked, goes_back_ranked, is_enough}
use Rattle.p10_pass.specs.Arguments.{has_value}
use Rattle.p10_pass.specs.Passing.{Weakness, Left, Manner, Round, nowhere, reached, where_going, followed, and_then_pass, as_block, items_passed, value_passed, other_declared, integer_declared, declared, range_returned, value_returned, tested_in, round_of, by_claim, failing_if, rank_fails, weakness_of, loop_left, is_labelled, pass_statement, pass_form, pass_statements, pass_switch, pass_switch_form, pass_from}
use Rattle.p10_check.specs.Passes.{places_of, unranked}

-- ## Weak loops

-- one of K8 to K10 fails
pub record Fails (w : Weakness) : Type 0 where
  pub some : places_of 8 w.fails ≡ [] → places_of 9 w.fails ≡ [] → places_of 10 w.fails ≡ [] → ⊥

-- in each of some loops
abbrev pub EachFails : List Weakness → Type 0
EachFails [] = Unit {0}
EachFails (w ∷ rest) = Fails w × EachFails rest

all_fail : (xs ys : List Weakness) → EachFails xs → EachFails ys → EachFails (xs ++ ys)
all_fail [] ys h k = k
all_fail (x ∷ xs) ys h k = (h.0, all_fail xs ys h.1 k)

three : (n : ℕ) (entry : Environment) (at : Span) (a b c : Bool) → EachFails (weakness_of n entry (failing_if a 8 at ++ (failing_if b 9 at ++ failing_if c 10 at)))
three n entry at false false false = tt
three n entry at true b c = (record { some = λ h i j. absurd cc }, tt)
three n entry at false true c = (record { some = λ h i j. absurd cc }, tt)
three n entry at false false true = (record { some = λ h i j. absurd cc }, tt)

rank_fails_so : (claim : Loop) (at : Span) (entry : Environment) (r : Round) (n : ℕ) → EachFails (weakness_of n entry (rank_fails claim at entry r))
rank_fails_so claim at entry r n = case claim.rank refl
  where
    case : (rank : Rank) → claim.rank ≡ rank → EachFails (weakness_of n entry (rank_fails claim at entry r))
    case Task e = rw e tt
    case One e = rw e (three n entry at (not (enters_ranked One r.enters)) (not (goes_back_ranked One r.back)) (not (is_enough claim.turns (rank_in One entry))))
    case (Up v bound) e = rw e (three n entry at (not (enters_ranked (Up v bound) r.enters)) (not (goes_back_ranked (Up v bound) r.back)) (not (is_enough claim.turns (rank_in (Up v bound) entry))))
    case (Down v bound) e = rw e (three n entry at (not (enters_ranked (Down v bound) r.enters)) (not (goes_back_ranked (Down v bound) r.back)) (not (is_enough claim.turns (rank_in (Down v bound) entry))))

-- ## Through the pass

-- what is left has only such loops
abbrev Sound : Left → Type 0
Sound a = EachFails a.weak

going : (o : Option Environment) (go : Environment → Left) → ((env : Environment) → Sound (go env)) → Sound (where_going o go)
going None go h = tt
going (Some env) go h = h env

both : (a b : Left) → Sound a → Sound b → Sound (followed a b)
both a b h k = all_fail a.weak b.weak h k

returned_sound : (m : Manner) (keyword : Span) (a : Option Abstract) (env : Environment) → Sound (range_returned m keyword a env)
returned_sound m keyword None env = tt
returned_sound m keyword (Some a) env = tt

value_returned_sound : (m : Manner) (keyword : Span) (v : PlainValue) (env : Environment) → Sound (value_returned m keyword v env)
value_returned_sound m keyword v env = case (is_integer (type_of v))
  where
    case : (b : Bool) → Sound (if b then range_returned m keyword (abstract_value m.calls env v) env else record nowhere { returns = Some env })
    case true = returned_sound m keyword (abstract_value m.calls env v) env
    case false = tt

items_sound : (m : Manner) (items : List PlainItem) (env : Environment) → Sound (items_passed m items env)
items_sound m [] env = tt
items_sound m (item ∷ items) env = case item.written refl (λ env. items_sound m items env)
  where
    case : (x : PlainWritten) → item.written ≡ x → ((env : Environment) → Sound (items_passed m items env)) → Sound (items_passed m (item ∷ items) env)
    case (one_scalar v) e go = rw e (both (value_passed m v env) (where_going (value_passed m v env).normal (λ env. items_passed m items env)) tt (going (value_passed m v env).normal (λ env. items_passed m items env) go))
    case (scalars_of_text bytes) e go = rw e (both (reached (Some env)) (items_passed m items env) tt (go env))

other_sound : (m : Manner) (i : PlainInitializer) (env : Environment) → Sound (other_declared m i env)
other_sound m not_initialized env = tt
other_sound m (single v) env = tt
other_sound m (copied p) env = tt
other_sound m (listed at items) env = items_sound m items env

integer_sound : (m : Manner) (n : ℕ) (i : PlainInitializer) (v : PlainVariable) (env : Environment) → Sound (integer_declared m n (integer_of v.type) i env)
integer_sound m n not_initialized v env = tt
integer_sound m n (single x) v env = tt
integer_sound m n (copied p) v env = tt
integer_sound m n (listed at items) v env = tt

declared_sound : (m : Manner) (n : ℕ) (v : Option PlainVariable) (i : PlainInitializer) (env : Environment) → Sound (declared m n v i env)
declared_sound m n None i env = tt
declared_sound m n (Some v) i env = case v.frame (is_integer v.type)
  where
    case : (a b : Bool) → Sound (if a && b then integer_declared m n (integer_of v.type) i env else other_declared m i env)
    case true true = integer_sound m n i v env
    case true false = other_sound m i env
    case false b = other_sound m i env

round_sound : (m : Manner) (keyword : LoopKeyword) (v : Option PlainValue) (third body : Environment → Left) (head : Environment) → ((env : Environment) → Sound (body env)) → Sound (round_of m keyword v third body head).body
round_sound m Do v third body head h = h head
round_sound m While v third body head h = going (tested_in m v head).truth body h
round_sound m For v third body head h = going (tested_in m v head).truth body h

switched : (m : Manner) (v : PlainValue) (labels : PlainLabels) (body : PlainStatement) (env : Environment) → Sound (pass_switch m labels body env) → (b : Bool) → Sound (if b then pass_switch m labels body env else nowhere)
switched m v labels body env h true = h
switched m v labels body env h false = tt

by_claim_sound : (o : Option (List Loop)) (trial : Left) (go : List Loop → Left) → Sound trial → ((loops : List Loop) → Sound (go loops)) → Sound (by_claim o trial go)
by_claim_sound None trial go h k = h
by_claim_sound (Some loops) trial go h k = k loops

loop_sound : (m : Manner) (head : LoopHead) (first : PlainStatements) (tested : Option PlainValue) (third : PlainStatements) (body : PlainStatement) (env : Environment) → EachFails (pass_statements m first env).weak → ((env : Environment) → EachFails (pass_statement m body env).weak) →
    Sound (pass_form m (loop head first tested third body) env)
loop_sound m head first tested third body env h k =
    by_claim_sound m.loops (reached (Some (assigned_forgotten assigned m.variables env))) (λ loops. as_block first (and_then_pass (pass_statements m first env) (λ entry. left loops entry))) tt
    (λ loops. both (pass_statements m first env) (where_going (pass_statements m first env).normal (λ entry. left loops entry)) h (going (pass_statements m first env).normal (λ entry. left loops entry) (λ entry. left_sound loops entry)))
  where
    assigned : ℕ → Bool
    assigned n = form_assigns n (loop head first tested third body)

    round_at : List Loop → Environment → Round
    round_at loops entry = round_of m head.keyword tested (λ env. pass_statements m third env) (λ env. pass_statement m body env) (head_of (loop_claimed loops head.number) m.variables entry)

    left : List Loop → Environment → Left
    left loops entry = loop_left m (loop_claimed loops head.number) head assigned entry (round_at loops entry)

    left_sound : (loops : List Loop) (entry : Environment) → Sound (left loops entry)
    left_sound loops entry = all_fail (weakness_of head.number entry (rank_fails (loop_claimed loops head.number) head.span entry (round_at loops entry))) (round_at loops entry).body.weak
        (rank_fails_so (loop_claimed loops head.number) head.span entry (round_at loops entry) head.number)
        (round_sound m head.keyword tested (λ env. pass_statements m third env) (λ env. pass_statement m body env) (head_of (loop_claimed loops head.number) m.variables entry) k)

mutual
  pub statement_sound : (m : Manner) (x : PlainStatement) (env : Environment) → EachFails (pass_statement m x env).weak
  statement_sound m (statement at form) env = form_sound m form env

  form_sound : (m : Manner) (form : PlainStatementForm) (env : Environment) → Sound (pass_form m form env)
  form_sound m (set p v) env = tt
  form_sound m (update kind op t p v) env = tt
  form_sound m (copy p q) env = tt
  form_sound m (evaluate v) env = tt
  form_sound m (asserts call v) env = tt
  form_sound m (declare n i) env = declared_sound m n (slice_get m.variables n) i env
  form_sound m (declare_static n) env = tt
  form_sound m (block ss) env = statements_sound m ss env
  form_sound m (if_then v s) env =
      both (where_going (known_where true env (assess m.calls v env)) (λ env. pass_statement m s env)) (reached (known_where false env (assess m.calls v env)))
      (going (known_where true env (assess m.calls v env)) (λ env. pass_statement m s env) (λ env. statement_sound m s env)) tt
  form_sound m (if_else v s t) env =
      both (where_going (known_where true env (assess m.calls v env)) (λ env. pass_statement m s env)) (where_going (known_where false env (assess m.calls v env)) (λ env. pass_statement m t env))
      (going (known_where true env (assess m.calls v env)) (λ env. pass_statement m s env) (λ env. statement_sound m s env))
      (going (known_where false env (assess m.calls v env)) (λ env. pass_statement m t env) (λ env. statement_sound m t env))
  form_sound m (loop head first tested third body) env = loop_sound m head first tested third body env (statements_sound m first env) (λ env. statement_sound m body env)
  form_sound m (switch keyword v labels body) env = switched m v labels body env (switch_sound m labels body env) (has_value m.calls v env)
  form_sound m break env = tt
  form_sound m continue env = tt
  form_sound m (return keyword None) env = tt
  form_sound m (return keyword (Some v)) env = value_returned_sound m keyword v env
  form_sound m empty env = tt
  form_sound m (mark kind) env = tt

  pub statements_sound : (m : Manner) (ss : PlainStatements) (env : Environment) → EachFails (pass_statements m ss env).weak
  statements_sound m no_statements env = tt
  statements_sound m (more_statements s rest) env =
      both (pass_statement m s env) (where_going (pass_statement m s env).normal (λ env. pass_statements m rest env)) (statement_sound m s env)
      (going (pass_statement m s env).normal (λ env. pass_statements m rest env) (λ env. statements_sound m rest env))

  switch_sound : (m : Manner) (labels : PlainLabels) (x : PlainStatement) (env : Environment) → Sound (pass_switch m labels x env)
  switch_sound m labels (statement at form) env = switch_form_sound m labels form env

  switch_form_sound : (m : Manner) (labels : PlainLabels) (form : PlainStatementForm) (env : Environment) → Sound (pass_switch_form m labels form env)
  switch_form_sound m labels (block ss) env = from_sound m labels 0 ss env None
  switch_form_sound m labels (set p v) env = tt
  switch_form_sound m labels (update kind op t p v) env = tt
  switch_form_sound m labels (copy p q) env = tt
  switch_form_sound m labels (evaluate v) env = tt
  switch_form_sound m labels (asserts call v) env = tt
  switch_form_sound m labels (declare n i) env = tt
  switch_form_sound m labels (declare_static n) env = tt
  switch_form_sound m labels (if_then v s) env = tt
  switch_form_sound m labels (if_else v s t) env = tt
  switch_form_sound m labels (loop head first tested third body) env = tt
  switch_form_sound m labels (switch keyword v others body) env = tt
  switch_form_sound m labels break env = tt
  switch_form_sound m labels continue env = tt
  switch_form_sound m labels (return keyword v) env = tt
  switch_form_sound m labels empty env = tt
  switch_form_sound m labels (mark kind) env = tt

  from_sound : (m : Manner) (labels : PlainLabels) (k : ℕ) (ss : PlainStatements) (env : Environment) (before : Option Environment) → Sound (pass_from m labels k ss env before)
  from_sound m labels k no_statements env before = tt
  from_sound m labels k (more_statements s rest) env before =
      let o : Option Environment = if is_labelled k labels then hull_reached before (Some env) else before in
      let a : Left = where_going o (λ env. pass_statement m s env) in
      both a (pass_from m labels (suc k) rest env a.normal) (going o (λ env. pass_statement m s env) (λ env. statement_sound m s env)) (from_sound m labels (suc k) rest env a.normal)

-- ## Evidence

-- evidence stands for each of some loops
abbrev pub EachStands : (Weakness → Bool) → List Weakness → Type 0
EachStands stands [] = Unit {0}
EachStands stands (w ∷ rest) = (stands w ≡ true) × EachStands stands rest

none_left : {A : Type 0} (xs ys : List A) → xs ++ ys ≡ [] → xs ≡ []
none_left [] ys e = refl
none_left (x ∷ xs) ys e = absurd cc

none_right : {A : Type 0} (xs ys : List A) → xs ++ ys ≡ [] → ys ≡ []
none_right [] ys e = e
none_right (x ∷ xs) ys e = absurd cc

one_stands : (b : Bool) (w : Weakness) → Fails w → (if b then [] else places_of 8 w.fails) ≡ [] → (if b then [] else places_of 9 w.fails) ≡ [] → (if b then [] else places_of 10 w.fails) ≡ [] → b ≡ true
one_stands true w f h i j = refl
one_stands false w f h i j = absurd (f.some h i j)

pub each_stands : (stands : Weakness → Bool) (weak : List Weakness) → EachFails weak → unranked 8 stands weak ≡ [] → unranked 9 stands weak ≡ [] → unranked 10 stands weak ≡ [] → EachStands stands weak
each_stands stands [] f h i j = tt
each_stands stands (w ∷ rest) f h i j = (
  one_stands (stands w) w f.0 (none_left (if stands w then [] else places_of 8 w.fails) (unranked 8 stands rest) h) (none_left (if stands w then [] else places_of 9 w.fails) (unranked 9 stands rest) i)
      (none_left (if stands w then [] else places_of 10 w.fails) (unranked 10 stands rest) j),
  each_stands stands rest f.1 (none_right (if stands w then [] else places_of 8 w.fails) (unranked 8 stands rest) h) (none_right (if stands w then [] else places_of 9 w.fails) (unranked 9 stands rest) i)
      (none_right (if stands w then [] else places_of 10 w.fails) (unranked 10 stands rest) j),
)
