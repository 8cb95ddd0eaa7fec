-- A trial pass finds no more of a variable that a part neither assigns nor declares than before the part.
use Rattle.std.proofs.Common.{◌≡◌, ℕ, zero, suc, ◌+◌, Bool, true, false, List, [], ◌∷◌, Option, Some, None, refl, ap, sym, ◌∙◌, subst, arith}
use Rattle.std.specs.Prelude.{slice_get, if◌then◌else◌, is_some, is_none, ◌&&◌, ◌++◌, nat_eq, IfSome}
use Rattle.std.specs.Option.{option_map, option_and_then}
use Rattle.std.proofs.lemmas.Bool.{eqb-true, eqb-false}
use Rattle.p10_base.specs.declared.span.Span.{Span}
use Rattle.p10_int.specs.declared.types.IntType.{IntType}
use Rattle.p10_int.specs.declared.operators.BinOp.{BinOp}
use Rattle.p10_int.specs.declared.operators.BinOp.TheVariants.{Ne}
use Rattle.p10_int.specs.declared.operators.UnOp.{UnOp}
use Rattle.p10_int.specs.declared.operators.UnOp.TheVariants.{Plus, Neg, Not, Com}
use Rattle.p10_range.specs.Ranges.{Interval, IsInhabited, IsWithin, meet_of}
use Rattle.p10_core.specs.declared.typed.Library.{Library}
use Rattle.p10_core.specs.declared.typed.Library.TheVariants.{Assert, CAssert, Getchar, Putchar, Malloc, Calloc, Free}
use Rattle.p10_core.specs.declared.typed.LogicOp.{LogicOp}
use Rattle.p10_core.specs.declared.typed.LogicOp.TheVariants.{And, Or}
use Rattle.p10_core.specs.declared.statements.LoopKeyword.{LoopKeyword}
use Rattle.p10_core.specs.declared.statements.LoopKeyword.TheVariants.{While, Do, For}
use Rattle.p10_core.specs.Types.{PlainType, void, integer, pointer, array, structure}
use Rattle.p10_core.specs.Constants.{integer_of}
use Rattle.p10_core.specs.Rows.{is_integer}
use Rattle.p10_core.specs.Typed.{PlainValue, value, PlainForm, constant, read, sense, address, decay, convert, cast, unary, binary, logic, conditional, call, built_in, PlainPlace, place, place_type, variable, global, literal, index, member, dereference, PlainValues, no_values, more_values, type_of, PlainItem, PlainWritten, one_scalar, scalars_of_text, PlainInitializer, not_initialized, single, copied, listed, PlainLabels, PlainStatement, statement, set, update, copy, evaluate, asserts, declare, declare_static, block, if_then, if_else, loop, switch, break, continue, return, empty, mark, PlainStatements, no_statements, more_statements, PlainVariable}
use Rattle.p10_core.specs.WholePrograms.{is_among, declared_in, declared_of}
use Rattle.p10_cert.specs.Claims.{Claims}
use Rattle.p10_absx.specs.Abstract.{Abstract, whole_type}
use Rattle.p10_absx.specs.Environments.{Environment, known, learned, hull_entry, hull_reached}
use Rattle.p10_absx.specs.Operators.{converted_abstract, binary_abstract}
use Rattle.p10_absx.specs.Comparing.{is_comparison, contrary, allowed, turned, Side, met_with, side_met, compared}
use Rattle.p10_absx.specs.Assessing.{Assessed, a_scalar, a_test, as_side, zero_side, known_where, variable_read, place_read, converted_found, comparison_found, are_integers, binary_found, arithmetic_found, any_of, logic_found, unary_assessed, library_assessed, assess, assess_form, assess_only, abstract_value}
use Rattle.p10_pass.specs.Scopes.{is_target, assigns, form_assigns, any_assigns, left_scope, changed_each, assigned_forgotten}
use Rattle.p10_pass.specs.Arguments.{has_value}
use Rattle.p10_pass.specs.Passing.{Left, nowhere, reached, where_going, followed, beside, with_calls, as_block, Manner, stored, before_update, set_value, updated_value, value_passed, items_passed, integer_declared, other_declared, declared, range_returned, value_returned, tested_in, tested_reached, round_of, is_labelled, switch_left, pass_statement, pass_statements, pass_from, trial_manner}
use Rattle.p10_execution.proofs.Numbers.{or_false, among_append}
use Rattle.p10_execution.proofs.Entries.{known_hull, learned_other, learned_here}
use Rattle.p10_execution.proofs.TopDeclarations.{left_known}
use Rattle.p10_acceptance.proofs.Narrowing.{within_itself, within_trans, hull_within}
use Rattle.p10_acceptance.proofs.Comparing.{meet_part}

-- ## One variable

-- no more is known of a variable than before
abbrev pub Under : Option Abstract → Option Abstract → Type 0
Under None a = Unit {0}
Under (Some x) None = ⊥
Under (Some x) (Some a) = IsWithin x.range a.range

under_itself : (a : Option Abstract) → Under a a
under_itself None = tt
under_itself (Some a) = within_itself a.range

under_trans : (a b c : Option Abstract) → Under a b → Under b c → Under a c
under_trans None b c h k = tt
under_trans (Some a) None c h k = absurd h
under_trans (Some a) (Some b) None h k = absurd k
under_trans (Some a) (Some b) (Some c) h k = within_trans a.range b.range c.range h k

under_same : (a b : Option Abstract) → a ≡ b → Under a b
under_same a b e = subst (Under a) e (under_itself a)

hull_under : (a b c : Option Abstract) → Under a c → Under b c → Under (hull_entry a b) c
hull_under None b c h k = tt
hull_under (Some a) None c h k = tt
hull_under (Some a) (Some b) None h k = absurd h
hull_under (Some a) (Some b) (Some c) h k = hull_within a.range b.range c.range h k

module _ (n : ℕ) where
  -- the same for an environment that may be lacking
  abbrev pub MaybeUnder : Option Environment → Option Abstract → Type 0
  MaybeUnder None a = Unit {0}
  MaybeUnder (Some e) a = Under (known e n) a

  here : (env : Environment) → MaybeUnder (Some env) (known env n)
  here env = under_itself (known env n)

  maybe_trans : (o : Option Environment) (e : Environment) (a : Option Abstract) → MaybeUnder o (known e n) → MaybeUnder (Some e) a → MaybeUnder o a
  maybe_trans None e a h k = tt
  maybe_trans (Some d) e a h k = under_trans (known d n) (known e n) a h k

  reached_under : (a b : Option Environment) (c : Option Abstract) → MaybeUnder a c → MaybeUnder b c → MaybeUnder (hull_reached a b) c
  reached_under None b c h k = k
  reached_under (Some a) None c h k = h
  reached_under (Some a) (Some b) c h k = subst (λ (x : Option Abstract). Under x c) (sym (known_hull a b n)) (hull_under (known a n) (known b n) c h k)

  learned_apart : (env : Environment) (m : ℕ) (a : Abstract) → nat_eq n m ≡ false → Under (known (learned env m a) n) (known env n)
  learned_apart env m a e = under_same _ _ (learned_other env m n a (eqb-false n m e))

  -- ## Comparisons

  met_under : (env : Environment) (m : ℕ) (r : Interval) (o : Option Abstract) → known env m ≡ o → MaybeUnder (met_with env m r o) (known env n)
  met_under env m r None e = here env
  met_under env m r (Some a) e = at (meet_of a.range r) (meet_part a.range r)
    where
      at : (q : Option Interval) → IfSome q (λ s. IsInhabited s × IsWithin s a.range) → MaybeUnder (option_map (λ s. learned env m (record { range = s; offset = a.offset })) q) (known env n)
      at None h = tt
      at (Some s) h = by_number (nat_eq n m) refl
        where
          by_number : (b : Bool) → nat_eq n m ≡ b → Under (known (learned env m (record { range = s; offset = a.offset })) n) (known env n)
          by_number false q = learned_apart env m (record { range = s; offset = a.offset }) q
          by_number true q =
              let p : n ≡ m = eqb-true n m q in
              subst (λ (k : ℕ). Under (known (learned env m (record { range = s; offset = a.offset })) k) (known env k)) (sym p)
              (subst (λ (x : Option Abstract). Under x (known env m)) (sym (learned_here env m (record { range = s; offset = a.offset }) (ap is_some e)))
              (subst (Under (Some (record { range = s; offset = a.offset }))) (sym e) h.1))

  side_under : (m : Option ℕ) (r : Interval) (env : Environment) → MaybeUnder (side_met m r env) (known env n)
  side_under None r env = here env
  side_under (Some m) r env = met_under env m r (known env m) refl

  then_under : {A : Type 0} (o : Option A) (go : A → Option Environment) (a : Option Abstract) → ((x : A) → MaybeUnder (go x) a) → MaybeUnder (option_and_then go o) a
  then_under None go a h = tt
  then_under (Some x) go a h = h x

  maybe_then : (o : Option Environment) (go : Environment → Option Environment) (a : Option Abstract) → MaybeUnder o a → ((e : Environment) → MaybeUnder (go e) (known e n)) → MaybeUnder (option_and_then go o) a
  maybe_then None go a h k = tt
  maybe_then (Some e) go a h k = maybe_trans (go e) e a (k e) h

  compared_under : (op : BinOp) (left right : Side) (env : Environment) → MaybeUnder (compared op left right env) (known env n)
  compared_under op left right env = at left.value right.value
    where
      at : (a b : Option Abstract) → MaybeUnder (compared op (record left { value = a }) (record right { value = b }) env) (known env n)
      at None b = tt
      at (Some a) None = tt
      at (Some a) (Some b) =
          then_under (allowed op a.range b.range) _ (known env n) (λ r. then_under (allowed (turned op) b.range a.range) _ (known env n) (λ s.
          maybe_then (side_met left.variable r env) (side_met right.variable s) (known env n) (side_under left.variable r env) (λ e. side_under right.variable s e)))

  -- ## Values

  abbrev AssessedUnder : Environment → Assessed → Type 0
  AssessedUnder env (a_scalar i side) = Unit {0}
  AssessedUnder env (a_test first second) = MaybeUnder first (known env n) × MaybeUnder second (known env n)

  where_under : (truth : Bool) (env : Environment) (a : Assessed) → AssessedUnder env a → MaybeUnder (known_where truth env a) (known env n)
  where_under truth env (a_scalar true side) h = truly truth
    where
      truly : (b : Bool) → MaybeUnder (compared (if b then Ne else contrary Ne) side zero_side env) (known env n)
      truly true = compared_under Ne side zero_side env
      truly false = compared_under (contrary Ne) side zero_side env
  where_under truth env (a_scalar false side) h = here env
  where_under true env (a_test first second) h = h.0
  where_under false env (a_test first second) h = h.1

  if_under : (env : Environment) (b : Bool) (x y : Assessed) → AssessedUnder env x → AssessedUnder env y → AssessedUnder env (if b then x else y)
  if_under env true x y h k = h
  if_under env false x y h k = k

  read_under : (t : PlainType) (m : ℕ) (env : Environment) (o : Option Abstract) → AssessedUnder env (variable_read t m o)
  read_under t m env None = tt
  read_under t m env (Some a) = tt

  place_under : (t : PlainType) (p : PlainPlace) (env : Environment) → AssessedUnder env (place_read t p env)
  place_under t (place at u (variable m)) env = read_under t m env (known env m)
  place_under t (place at u (global m)) env = tt
  place_under t (place at u (literal m bytes)) env = tt
  place_under t (place at u (index a i)) env = tt
  place_under t (place at u (member p m)) env = tt
  place_under t (place at u (dereference v)) env = tt

  converted_under : (t : PlainType) (side : Side) (env : Environment) → AssessedUnder env (converted_found t side)
  converted_under (integer c i) side env = tt
  converted_under (void c) side env = tt
  converted_under (pointer c t) side env = tt
  converted_under (array c t k) side env = tt
  converted_under (structure c k) side env = tt

  comparison_under : (op : BinOp) (integers : Bool) (left right : Side) (env : Environment) → AssessedUnder env (comparison_found op integers left right env)
  comparison_under op true left right env = (compared_under op left right env, compared_under (contrary op) left right env)
  comparison_under op false left right env = (here env, here env)

  binary_under : (op : BinOp) (t : PlainType) (integers : Bool) (a b : Assessed) (env : Environment) → AssessedUnder env (binary_found op t integers a b env)
  binary_under op t integers a b env = if_under env (is_comparison op) _ _ (comparison_under op integers (as_side a) (as_side b) env) (if_under env integers (arithmetic_found op t _ _) (any_of t) tt tt)

  logic_under : (op : LogicOp) (env : Environment) (left : Assessed) (right : Environment → Assessed) → AssessedUnder env left → ((e : Environment) → AssessedUnder e (right e)) → AssessedUnder env (logic_found op env left right)
  logic_under And env left right h k =
      let after : MaybeUnder (known_where true env left) (known env n) = where_under true env left h in (
        maybe_then (known_where true env left) _ (known env n) after (λ e. where_under true e (right e) (k e)),
        reached_under (known_where false env left) _ (known env n) (where_under false env left h) (maybe_then (known_where true env left) _ (known env n) after (λ e. where_under false e (right e) (k e))),
      )
  logic_under Or env left right h k =
      let after : MaybeUnder (known_where false env left) (known env n) = where_under false env left h in (
        reached_under (known_where true env left) _ (known env n) (where_under true env left h) (maybe_then (known_where false env left) _ (known env n) after (λ e. where_under true e (right e) (k e))),
        maybe_then (known_where false env left) _ (known env n) after (λ e. where_under false e (right e) (k e)),
      )

  unary_under : (op : UnOp) (t : PlainType) (env : Environment) (a : Assessed) → AssessedUnder env a → AssessedUnder env (unary_assessed op t env a)
  unary_under Not t env a h = (where_under false env a h, where_under true env a h)
  unary_under Plus t env a h = tt
  unary_under Neg t env a h = tt
  unary_under Com t env a h = tt

  library_under : (f : Library) (t : PlainType) (env : Environment) (a : Option Assessed) → ((x : Assessed) → a ≡ Some x → AssessedUnder env x) → AssessedUnder env (library_assessed f t env a)
  library_under CAssert t env (Some a) h = (where_under true env a (h a refl), where_under false env a (h a refl))
  library_under CAssert t env None h = tt
  library_under Assert t env a h = tt
  library_under Getchar t env a h = tt
  library_under Putchar t env a h = tt
  library_under Malloc t env a h = tt
  library_under Calloc t env a h = tt
  library_under Free t env a h = tt

  abbrev OnlyUnder : Environment → Option Assessed → Type 0
  OnlyUnder env None = Unit {0}
  OnlyUnder env (Some a) = AssessedUnder env a

  only_of : (env : Environment) (o : Option Assessed) → OnlyUnder env o → (x : Assessed) → o ≡ Some x → AssessedUnder env x
  only_of env None h x e = absurd cc
  only_of env (Some a) h x e = let p : a ≡ x = cc in subst (λ y. AssessedUnder env y) p h

  module _ (c : Option Claims) where
    mutual
      assess_under : (v : PlainValue) (env : Environment) → AssessedUnder env (assess c v env)
      assess_under (value at t form) env = form_under t form env

      form_under : (t : PlainType) (form : PlainForm) (env : Environment) → AssessedUnder env (assess_form c t form env)
      form_under t (constant z) env = tt
      form_under t (read p) env = place_under t p env
      form_under t (sense k) env = tt
      form_under t (address p) env = tt
      form_under t (decay p) env = tt
      form_under t (convert v) env = converted_under t (as_side (assess c v env)) env
      form_under t (cast v) env = converted_under t (as_side (assess c v env)) env
      form_under t (unary op v) env = unary_under op t env (assess c v env) (assess_under v env)
      form_under t (binary op a b) env = binary_under op t (are_integers a b) (assess c a env) (assess c b env) env
      form_under t (logic op a b) env = logic_under op env (assess c a env) (λ env. assess c b env) (assess_under a env) (λ e. assess_under b e)
      form_under t (conditional v a b) env = tt
      form_under t (call s k arguments) env = tt
      form_under t (built_in s f arguments) env = library_under f t env (assess_only c arguments env) (only_of env (assess_only c arguments env) (only_under arguments env))

      only_under : (arguments : PlainValues) (env : Environment) → OnlyUnder env (assess_only c arguments env)
      only_under no_values env = tt
      only_under (more_values v no_values) env = assess_under v env
      only_under (more_values v (more_values u rest)) env = tt

  -- what is known where a value is true or false
  truth_under : (c : Option Claims) (truth : Bool) (v : PlainValue) (env : Environment) → MaybeUnder (known_where truth env (assess c v env)) (known env n)
  truth_under c truth v env = where_under truth env (assess c v env) (assess_under c v env)

  -- ## Ends

  -- no more is known at any end
  pub record EndsUnder (a : Option Abstract) (l : Left) : Type 0 where
    pub normal : MaybeUnder l.normal a
    pub breaks : MaybeUnder l.breaks a
    pub continues : MaybeUnder l.continues a

  nowhere_under : (a : Option Abstract) → EndsUnder a nowhere
  nowhere_under a = record { normal = tt; breaks = tt; continues = tt }

  reaches_under : (a : Option Abstract) (o : Option Environment) → MaybeUnder o a → EndsUnder a (reached o)
  reaches_under a o h = record { normal = h; breaks = tt; continues = tt }

  calls_under : (a : Option Abstract) (names : List Span) (l : Left) → EndsUnder a l → EndsUnder a (with_calls names l)
  calls_under a names l h = record { normal = h.normal; breaks = h.breaks; continues = h.continues }

  followed_under : (a : Option Abstract) (l k : Left) → EndsUnder a l → EndsUnder a k → EndsUnder a (followed l k)
  followed_under a l k h g = record { normal = g.normal; breaks = reached_under l.breaks k.breaks a h.breaks g.breaks; continues = reached_under l.continues k.continues a h.continues g.continues }

  beside_under : (a : Option Abstract) (l k : Left) → EndsUnder a l → EndsUnder a k → EndsUnder a (beside l k)
  beside_under a l k h g = record { normal = reached_under l.normal k.normal a h.normal g.normal; breaks = reached_under l.breaks k.breaks a h.breaks g.breaks; continues = reached_under l.continues k.continues a h.continues g.continues }

  ends_trans : (a b : Option Abstract) (l : Left) → Under a b → EndsUnder a l → EndsUnder b l
  ends_trans a b l u h = record { normal = at l.normal h.normal; breaks = at l.breaks h.breaks; continues = at l.continues h.continues }
    where
      at : (o : Option Environment) → MaybeUnder o a → MaybeUnder o b
      at None k = tt
      at (Some e) k = under_trans (known e n) a b k u

  going_under : (a : Option Abstract) (o : Option Environment) (go : Environment → Left) → MaybeUnder o a → ((e : Environment) → EndsUnder (known e n) (go e)) → EndsUnder a (where_going o go)
  going_under a None go h k = nowhere_under a
  going_under a (Some e) go h k = ends_trans (known e n) a (go e) h (k e)

  block_under : (xs : PlainStatements) (a : Option Abstract) (l : Left) → EndsUnder a l → EndsUnder a (as_block xs l)
  block_under xs a l h = record { normal = at l.normal h.normal; breaks = at l.breaks h.breaks; continues = at l.continues h.continues }
    where
      of : (e : Environment) (o : Option Abstract) → known (left_scope xs e) n ≡ o → Under (known e n) a → Under o a
      of e None q k = tt
      of e (Some x) q k = subst (λ (y : Option Abstract). Under y a) (left_known xs e n x q).1 k

      at : (o : Option Environment) → MaybeUnder o a → MaybeUnder (option_map (left_scope xs) o) a
      at None k = tt
      at (Some e) k = of e (known (left_scope xs e) n) refl k

  if_reached : (a : Option Abstract) (b : Bool) (l : Left) → EndsUnder a l → EndsUnder a (if b then l else nowhere)
  if_reached a true l h = h
  if_reached a false l h = nowhere_under a

  if_maybe : (a : Option Abstract) (b : Bool) (x y : Option Environment) → MaybeUnder x a → MaybeUnder y a → MaybeUnder (if b then x else y) a
  if_maybe a true x y h k = h
  if_maybe a false x y h k = k

  -- ## Parts of statements

  turned_eq : (m : ℕ) → nat_eq m n ≡ false → nat_eq n m ≡ false
  turned_eq m e = by_case (nat_eq n m) refl
    where
      by_case : (b : Bool) → nat_eq n m ≡ b → nat_eq n m ≡ false
      by_case true q = let p : n ≡ m = eqb-true n m q in absurd (eqb-false m n e (sym p))
      by_case false q = q

  stored_under : (p : PlainPlace) (a : Abstract) (env : Environment) → is_target n p ≡ false → Under (known (stored p a env) n) (known env n)
  stored_under (place at t (variable m)) a env e = by_case (is_some (known env m))
    where
      by_case : (b : Bool) → Under (known (if b then learned env m a else env) n) (known env n)
      by_case true = learned_apart env m a (turned_eq m e)
      by_case false = under_itself (known env n)
  stored_under (place at t (global m)) a env e = under_itself (known env n)
  stored_under (place at t (literal m bytes)) a env e = under_itself (known env n)
  stored_under (place at t (index x i)) a env e = under_itself (known env n)
  stored_under (place at t (member p m)) a env e = under_itself (known env n)
  stored_under (place at t (dereference v)) a env e = under_itself (known env n)

  set_under : (p : PlainPlace) (t : PlainType) (a : Option Abstract) (env : Environment) → is_target n p ≡ false → MaybeUnder (set_value p t a env) (known env n)
  set_under p t None env e = if_maybe (known env n) (is_integer t) None (Some env) tt (here env)
  set_under p t (Some a) env e = if_maybe (known env n) (is_integer t) (Some (stored p a env)) (Some env) (stored_under p a env e) (here env)

  updated_under : (op : BinOp) (t : PlainType) (p : PlainPlace) (b : Option Abstract) (env : Environment) → is_target n p ≡ false → MaybeUnder (updated_value op t p b env) (known env n)
  updated_under op t p b env e = if_maybe (known env n) (is_integer (place_type p)) _ (Some env) (stored_in (option_and_then (λ b. binary_abstract op (integer_of t) (converted_abstract (integer_of t) (before_update p env)) b) b)) (here env)
    where
      stored_in : (o : Option Abstract) → MaybeUnder (option_map (λ r. stored p (converted_abstract (integer_of (place_type p)) r) env) o) (known env n)
      stored_in None = tt
      stored_in (Some r) = stored_under p (converted_abstract (integer_of (place_type p)) r) env e

  forgotten_at : (f : ℕ → PlainVariable → Abstract → Abstract) (i : ℕ) (variables : List PlainVariable) (env : Environment) (k j : ℕ) → i + k ≡ j → ((v : PlainVariable) (a : Abstract) → IsWithin (f j v a).range a.range) →
      Under (known (changed_each f i variables env) k) (known env k)
  forgotten_at f i [] env k j s h = under_itself (known env k)
  forgotten_at f i (u ∷ variables) [] k j s h = tt
  forgotten_at f i (u ∷ variables) (Some a ∷ env) zero j s h = let q : j ≡ i = omega (arith, s) in subst (λ (m : ℕ). IsWithin (f m u a).range a.range) q (h u a)
  forgotten_at f i (u ∷ variables) (None ∷ env) zero j s h = tt
  forgotten_at f i (u ∷ variables) (Some a ∷ env) (suc k) j s h = forgotten_at f (suc i) variables env k j (omega (arith, s)) h
  forgotten_at f i (u ∷ variables) (None ∷ env) (suc k) j s h = forgotten_at f (suc i) variables env k j (omega (arith, s)) h

  module _ (variables : List PlainVariable) where
    abbrev pub m : Manner
    m = trial_manner variables

    forgotten_under : (assigned : ℕ → Bool) (env : Environment) → assigned n ≡ false → Under (known (assigned_forgotten assigned variables env) n) (known env n)
    forgotten_under assigned env e = forgotten_at _ 0 variables env n n (omega arith) (λ v a. subst (λ (b : Bool). IsWithin (if b then whole_type (integer_of v.type) else a).range a.range) (sym e) (within_itself a.range))

    passed_under : (v : PlainValue) (env : Environment) → EndsUnder (known env n) (value_passed m v env)
    passed_under v env = reaches_under (known env n) _ (if_maybe (known env n) (has_value None v env) (Some env) None (here env) tt)

    items_under : (items : List PlainItem) (env : Environment) → EndsUnder (known env n) (items_passed m items env)
    items_under [] env = reaches_under (known env n) (Some env) (here env)
    items_under (item ∷ items) env = first item.written (λ e. items_under items e)
      where
        first : (written : PlainWritten) → ((e : Environment) → EndsUnder (known e n) (items_passed m items e)) → EndsUnder (known env n) (items_passed m (record item { written = written } ∷ items) env)
        first (one_scalar v) rest = followed_under (known env n) (value_passed m v env) _ (passed_under v env) (going_under (known env n) (value_passed m v env).normal _ (passed_under v env).normal rest)
        first (scalars_of_text bytes) rest = followed_under (known env n) (reached (Some env)) _ (reaches_under (known env n) (Some env) (here env)) (rest env)

    integer_under : (k : ℕ) (kind : IntType) (initializer : PlainInitializer) (env : Environment) → nat_eq n k ≡ false → EndsUnder (known env n) (integer_declared m k kind initializer env)
    integer_under k kind (single v) env e = reaches_under (known env n) _ (again (abstract_value None (learned env k (whole_type kind)) v))
      where
        again : (o : Option Abstract) → MaybeUnder (option_map (learned (learned env k (whole_type kind)) k) o) (known env n)
        again None = tt
        again (Some a) = under_trans _ _ (known env n) (learned_apart (learned env k (whole_type kind)) k a e) (learned_apart env k (whole_type kind) e)
    integer_under k kind not_initialized env e = reaches_under (known env n) _ (learned_apart env k (whole_type kind) e)
    integer_under k kind (copied p) env e = reaches_under (known env n) _ (learned_apart env k (whole_type kind) e)
    integer_under k kind (listed at items) env e = reaches_under (known env n) _ (learned_apart env k (whole_type kind) e)

    other_under : (initializer : PlainInitializer) (env : Environment) → EndsUnder (known env n) (other_declared m initializer env)
    other_under not_initialized env = reaches_under (known env n) (Some env) (here env)
    other_under (single v) env = passed_under v env
    other_under (copied p) env = reaches_under (known env n) (Some env) (here env)
    other_under (listed at items) env = items_under items env

    declared_under : (k : ℕ) (v : Option PlainVariable) (initializer : PlainInitializer) (env : Environment) → nat_eq n k ≡ false → EndsUnder (known env n) (declared m k v initializer env)
    declared_under k None initializer env e = reaches_under (known env n) (Some env) (here env)
    declared_under k (Some v) initializer env e = by_case (v.frame && is_integer v.type)
      where
        by_case : (b : Bool) → EndsUnder (known env n) (if b then integer_declared m k (integer_of v.type) initializer env else other_declared m initializer env)
        by_case true = integer_under k (integer_of v.type) initializer env e
        by_case false = other_under initializer env

    returned_under : (keyword : Span) (v : PlainValue) (env : Environment) → EndsUnder (known env n) (value_returned m keyword v env)
    returned_under keyword v env = by_case (is_integer (type_of v)) (abstract_value None env v)
      where
        by_range : (o : Option Abstract) → EndsUnder (known env n) (range_returned m keyword o env)
        by_range None = nowhere_under (known env n)
        by_range (Some a) = record { normal = tt; breaks = tt; continues = tt }

        by_case : (b : Bool) (o : Option Abstract) → EndsUnder (known env n) (if b then range_returned m keyword o env else record nowhere { returns = Some env })
        by_case true o = by_range o
        by_case false o = record { normal = tt; breaks = tt; continues = tt }

    not_among : (xs ys : List ℕ) → is_among n (xs ++ ys) ≡ false → (is_among n xs ≡ false) × (is_among n ys ≡ false)
    not_among xs ys e = or_false (is_among n xs) (is_among n ys) (sym (among_append n xs ys) ∙ e)

    -- ## Statements

    switch_under : (labels : PlainLabels) (env : Environment) (l : Left) → EndsUnder (known env n) l → EndsUnder (known env n) (switch_left labels env l)
    switch_under labels env l h = record {
      normal = reached_under (hull_reached l.normal l.breaks) _ (known env n) (reached_under l.normal l.breaks (known env n) h.normal h.breaks) (if_maybe (known env n) (is_none labels.otherwise) (Some env) None (here env) tt);
      breaks = tt;
      continues = h.continues;
    }

    mutual
      pub statement_under : (x : PlainStatement) → assigns n x ≡ false → is_among n (declared_in x) ≡ false → (env : Environment) → EndsUnder (known env n) (pass_statement m x env)
      statement_under (statement at (set p v)) a d env = reaches_under (known env n) _ (set_under p (type_of v) (abstract_value None env v) env a)
      statement_under (statement at (update kind op t p v)) a d env = reaches_under (known env n) _ (updated_under op t p (abstract_value None env v) env a)
      statement_under (statement at (copy p q)) a d env = reaches_under (known env n) (Some env) (here env)
      statement_under (statement at (evaluate v)) a d env = passed_under v env
      statement_under (statement at (asserts there v)) a d env = reaches_under (known env n) _ (truth_under None true v env)
      statement_under (statement at (declare k initializer)) a d env = declared_under k (slice_get variables k) initializer env (or_false (nat_eq n k) false d).0
      statement_under (statement at (declare_static k)) a d env = reaches_under (known env n) (Some env) (here env)
      statement_under (statement at (block xs)) a d env = block_under xs (known env n) (pass_statements m xs env) (statements_under xs a d env)
      statement_under (statement at (if_then v x)) a d env =
          beside_under (known env n) _ (reached (known_where false env (assess None v env)))
          (going_under (known env n) (known_where true env (assess None v env)) (λ env. pass_statement m x env) (truth_under None true v env) (λ e. statement_under x a d e))
          (reaches_under (known env n) _ (truth_under None false v env))
      statement_under (statement at (if_else v x z)) a d env =
          let both = or_false (assigns n x) (assigns n z) a in
          let apart = not_among (declared_in x) (declared_in z) d in
          beside_under (known env n) _ _
          (going_under (known env n) (known_where true env (assess None v env)) (λ env. pass_statement m x env) (truth_under None true v env) (λ e. statement_under x both.0 apart.0 e))
          (going_under (known env n) (known_where false env (assess None v env)) (λ env. pass_statement m z env) (truth_under None false v env) (λ e. statement_under z both.1 apart.1 e))
      statement_under (statement at (loop head first tested third body)) a d env = reaches_under (known env n) _ (forgotten_under (λ k. form_assigns k (loop head first tested third body)) env a)
      statement_under (statement at (switch keyword v labels (statement there (block xs)))) a d env =
          if_reached (known env n) (has_value None v env) _ (switch_under labels env (as_block xs (pass_from m labels 0 xs env None)) (block_under xs (known env n) (pass_from m labels 0 xs env None) (from_under labels 0 xs a d env None tt)))
      statement_under (statement at (switch keyword v labels body)) a d env = if_reached (known env n) (has_value None v env) (reached (Some env)) (reaches_under (known env n) (Some env) (here env))
      statement_under (statement at break) a d env = record { normal = tt; breaks = here env; continues = tt }
      statement_under (statement at continue) a d env = record { normal = tt; breaks = tt; continues = here env }
      statement_under (statement at (return keyword None)) a d env = record { normal = tt; breaks = tt; continues = tt }
      statement_under (statement at (return keyword (Some v))) a d env = returned_under keyword v env
      statement_under (statement at empty) a d env = reaches_under (known env n) (Some env) (here env)
      statement_under (statement at (mark kind)) a d env = reaches_under (known env n) (Some env) (here env)

      pub statements_under : (xs : PlainStatements) → any_assigns n xs ≡ false → is_among n (declared_of xs) ≡ false → (env : Environment) → EndsUnder (known env n) (pass_statements m xs env)
      statements_under no_statements a d env = reaches_under (known env n) (Some env) (here env)
      statements_under (more_statements x rest) a d env =
          let both = or_false (assigns n x) (any_assigns n rest) a in
          let apart = not_among (declared_in x) (declared_of rest) d in
          let one = statement_under x both.0 apart.0 env in
          followed_under (known env n) (pass_statement m x env) _ one (going_under (known env n) (pass_statement m x env).normal (λ env. pass_statements m rest env) one.normal (λ e. statements_under rest both.1 apart.1 e))

      from_under : (labels : PlainLabels) (k : ℕ) (xs : PlainStatements) → any_assigns n xs ≡ false → is_among n (declared_of xs) ≡ false → (env : Environment) (before : Option Environment) → MaybeUnder before (known env n) → EndsUnder (known env n) (pass_from m labels k xs env before)
      from_under labels k no_statements a d env before h = reaches_under (known env n) before h
      from_under labels k (more_statements x rest) a d env before h =
          let both = or_false (assigns n x) (any_assigns n rest) a in
          let apart = not_among (declared_in x) (declared_of rest) d in
          let enters : Option Environment = if is_labelled k labels then hull_reached before (Some env) else before in
          let entered : MaybeUnder enters (known env n) = if_maybe (known env n) (is_labelled k labels) (hull_reached before (Some env)) before (reached_under before (Some env) (known env n) h (here env)) h in
          let one = going_under (known env n) enters (λ env. pass_statement m x env) entered (λ e. statement_under x both.0 apart.0 e) in
          followed_under (known env n) (where_going enters (λ env. pass_statement m x env)) _ one (from_under labels (suc k) rest both.1 apart.1 env (where_going enters (λ env. pass_statement m x env)).normal one.normal)

    -- ## Rounds

    tested_truth : (tested : Option PlainValue) (env : Environment) → MaybeUnder (tested_in m tested env).truth (known env n)
    tested_truth None env = here env
    tested_truth (Some v) env = truth_under None true v env

    tested_contrary : (tested : Option PlainValue) (env : Environment) → MaybeUnder (tested_in m tested env).contrary (known env n)
    tested_contrary None env = tt
    tested_contrary (Some v) env = truth_under None false v env

    late_contrary : (tested : Option PlainValue) (o : Option Environment) (a : Option Abstract) → MaybeUnder o a → MaybeUnder (tested_reached m tested o).contrary a
    late_contrary tested None a h = tt
    late_contrary tested (Some e) a h = maybe_trans (tested_in m tested e).contrary e a (tested_contrary tested e) h

    -- where a round of a loop ends, no more is known of a variable that its parts don't assign
    pub exits_under : (keyword : LoopKeyword) (tested : Option PlainValue) (third : PlainStatements) (body : PlainStatement) → assigns n body ≡ false → is_among n (declared_in body) ≡ false → (head : Environment) →
        MaybeUnder (round_of m keyword tested (λ env. pass_statements m third env) (λ env. pass_statement m body env) head).exits (known head n)
    exits_under Do tested third body a d head =
        let b = statement_under body a d head in
        let l : Left = pass_statement m body head in
        reached_under _ l.breaks (known head n) (late_contrary tested (hull_reached l.normal l.continues) (known head n) (reached_under l.normal l.continues (known head n) b.normal b.continues)) b.breaks
    exits_under While tested third body a d head =
        let b = going_under (known head n) (tested_in m tested head).truth (λ env. pass_statement m body env) (tested_truth tested head) (λ e. statement_under body a d e) in
        reached_under (tested_in m tested head).contrary (where_going (tested_in m tested head).truth (λ env. pass_statement m body env)).breaks (known head n) (tested_contrary tested head) b.breaks
    exits_under For tested third body a d head =
        let b = going_under (known head n) (tested_in m tested head).truth (λ env. pass_statement m body env) (tested_truth tested head) (λ e. statement_under body a d e) in
        reached_under (tested_in m tested head).contrary (where_going (tested_in m tested head).truth (λ env. pass_statement m body env)).breaks (known head n) (tested_contrary tested head) b.breaks

    late_truth : (tested : Option PlainValue) (o : Option Environment) (a : Option Abstract) → MaybeUnder o a → MaybeUnder (tested_reached m tested o).truth a
    late_truth tested None a h = tt
    late_truth tested (Some e) a h = maybe_trans (tested_in m tested e).truth e a (tested_truth tested e) h

    -- where a round goes back, no more is known of it either
    pub back_under : (keyword : LoopKeyword) (tested : Option PlainValue) (third : PlainStatements) (body : PlainStatement) → any_assigns n third ≡ false → is_among n (declared_of third) ≡ false → assigns n body ≡ false → is_among n (declared_in body) ≡ false → (head : Environment) →
        MaybeUnder (round_of m keyword tested (λ env. pass_statements m third env) (λ env. pass_statement m body env) head).back (known head n)
    back_under Do tested third body e f a d head =
        let b = statement_under body a d head in
        let l : Left = pass_statement m body head in
        late_truth tested (hull_reached l.normal l.continues) (known head n) (reached_under l.normal l.continues (known head n) b.normal b.continues)
    back_under While tested third body e f a d head =
        let l : Left = where_going (tested_in m tested head).truth (λ env. pass_statement m body env) in
        let b = going_under (known head n) (tested_in m tested head).truth (λ env. pass_statement m body env) (tested_truth tested head) (λ e. statement_under body a d e) in
        (going_under (known head n) (hull_reached l.normal l.continues) (λ env. pass_statements m third env) (reached_under l.normal l.continues (known head n) b.normal b.continues) (λ x. statements_under third e f x)).normal
    back_under For tested third body e f a d head =
        let l : Left = where_going (tested_in m tested head).truth (λ env. pass_statement m body env) in
        let b = going_under (known head n) (tested_in m tested head).truth (λ env. pass_statement m body env) (tested_truth tested head) (λ e. statement_under body a d e) in
        (going_under (known head n) (hull_reached l.normal l.continues) (λ env. pass_statements m third env) (reached_under l.normal l.continues (known head n) b.normal b.continues) (λ x. statements_under third e f x)).normal
