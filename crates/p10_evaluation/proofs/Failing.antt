-- Where no call in a value fails, none in its parts does where they are reached.
use Rattle.std.proofs.Common.{◌≡◌, ℕ, Bool, true, false, List, [], ◌∷◌, ◌++◌, Option, Some, None, refl, subst, slice_get}
use Rattle.std.specs.Prelude.{◌&&◌, not, if◌then◌else◌}
use Rattle.p10_base.specs.declared.span.Span.{Span}
use Rattle.p10_base.specs.declared.at.At.{At}
use Rattle.p10_int.specs.declared.operators.BinOp.{BinOp}
use Rattle.p10_int.specs.declared.operators.UnOp.{UnOp}
use Rattle.p10_core.specs.declared.typed.Library.{Library}
use Rattle.p10_core.specs.declared.typed.LogicOp.{LogicOp}
use Rattle.p10_core.specs.Types.{PlainType}
use Rattle.p10_core.specs.Typed.{PlainValue, value, read, address, decay, convert, cast, unary, binary, logic, conditional, call, built_in, PlainPlace, place, index, member, dereference, PlainValues, more_values}
use Rattle.p10_cert.specs.Claims.{Claims}
use Rattle.p10_absx.specs.Environments.{Environment}
use Rattle.p10_absx.specs.Assessing.{assess, known_where}
use Rattle.p10_absx.specs.Entering.{claims_on}
use Rattle.p10_pass.specs.Arguments.{has_value, all_have_values, arguments_lie, where_reached, goes_on_where, failing_calls, failing_in_values, failing_in, failing_at}
use Rattle.p10_evaluation.specs.Claimed.{parameters_claimed}

-- ## Lists that are empty

parts_empty : {A : Type 0} (xs ys : List A) → xs ++ ys ≡ [] → (xs ≡ []) × (ys ≡ [])
parts_empty [] ys e = (refl, e)
parts_empty (x ∷ xs) ys e = absurd cc

chosen_empty : {A : Type 0} (b : Bool) (xs : List A) → (if b then xs else []) ≡ [] → b ≡ true → xs ≡ []
chosen_empty true xs e f = e
chosen_empty false xs e f = absurd cc

reached_empty : {A : Type 0} (o : Option Environment) (go : Environment → List A) (env : Environment) → where_reached o go ≡ [] → o ≡ Some env → go env ≡ []
reached_empty o go env e f = subst (λ o. where_reached o go ≡ []) f e

-- ## Values

-- the names of calls in values that fail
abbrev pub failing_among : Option Claims → PlainValues → Environment → List Span
failing_among None vs env = []
failing_among (Some c) vs env = failing_in_values c vs env

pub in_read : (c : Option Claims) (at : At) (t : PlainType) (q : PlainPlace) (env : Environment) → failing_in c (value at t (read q)) env ≡ [] → failing_at c q env ≡ []
in_read None at t q env e = refl
in_read (Some c) at t q env e = e

pub in_address : (c : Option Claims) (at : At) (t : PlainType) (q : PlainPlace) (env : Environment) → failing_in c (value at t (address q)) env ≡ [] → failing_at c q env ≡ []
in_address None at t q env e = refl
in_address (Some c) at t q env e = e

pub in_decay : (c : Option Claims) (at : At) (t : PlainType) (q : PlainPlace) (env : Environment) → failing_in c (value at t (decay q)) env ≡ [] → failing_at c q env ≡ []
in_decay None at t q env e = refl
in_decay (Some c) at t q env e = e

pub in_convert : (c : Option Claims) (at : At) (t : PlainType) (v : PlainValue) (env : Environment) → failing_in c (value at t (convert v)) env ≡ [] → failing_in c v env ≡ []
in_convert None at t v env e = refl
in_convert (Some c) at t v env e = e

pub in_cast : (c : Option Claims) (at : At) (t : PlainType) (v : PlainValue) (env : Environment) → failing_in c (value at t (cast v)) env ≡ [] → failing_in c v env ≡ []
in_cast None at t v env e = refl
in_cast (Some c) at t v env e = e

pub in_unary : (c : Option Claims) (at : At) (t : PlainType) (op : UnOp) (v : PlainValue) (env : Environment) → failing_in c (value at t (unary op v)) env ≡ [] → failing_in c v env ≡ []
in_unary None at t op v env e = refl
in_unary (Some c) at t op v env e = e

-- two values of which the second one is reached where the first one has a value
two_parts : (c : Claims) (a b : PlainValue) (env : Environment) → failing_calls c a env ++ (if has_value (Some c) a env then failing_calls c b env else []) ≡ [] →
    (failing_calls c a env ≡ []) × (has_value (Some c) a env ≡ true → failing_calls c b env ≡ [])
two_parts c a b env e =
    let p : (failing_calls c a env ≡ []) × ((if has_value (Some c) a env then failing_calls c b env else []) ≡ []) = parts_empty (failing_calls c a env) _ e in
    (p.0, chosen_empty (has_value (Some c) a env) (failing_calls c b env) p.1)

pub in_binary : (c : Option Claims) (at : At) (t : PlainType) (op : BinOp) (a b : PlainValue) (env : Environment) → failing_in c (value at t (binary op a b)) env ≡ [] → (failing_in c a env ≡ []) × (has_value c a env ≡ true → failing_in c b env ≡ [])
in_binary None at t op a b env e = (refl, λ f. refl)
in_binary (Some c) at t op a b env e = two_parts c a b env e

pub in_logic : (c : Option Claims) (at : At) (t : PlainType) (op : LogicOp) (a b : PlainValue) (env : Environment) → failing_in c (value at t (logic op a b)) env ≡ [] →
    (failing_in c a env ≡ []) × ((e : Environment) → known_where (goes_on_where op) env (assess c a env) ≡ Some e → failing_in c b e ≡ [])
in_logic None at t op a b env e = (refl, λ x f. refl)
in_logic (Some c) at t op a b env e =
    let o : Option Environment = known_where (goes_on_where op) env (assess (Some c) a env) in
    let p : (failing_calls c a env ≡ []) × (where_reached o (λ env. failing_calls c b env) ≡ []) = parts_empty (failing_calls c a env) _ e in
    (p.0, λ x f. reached_empty (known_where (goes_on_where op) env (assess (Some c) a env)) (λ env. failing_calls c b env) x p.1 f)

-- what holds of the operands of `?:`
pub record InConditional (c : Option Claims) (v a b : PlainValue) (env : Environment) : Type 0 where
  pub condition : failing_in c v env ≡ []
  pub first : (e : Environment) → known_where true env (assess c v env) ≡ Some e → failing_in c a e ≡ []
  pub second : (e : Environment) → known_where false env (assess c v env) ≡ Some e → failing_in c b e ≡ []

pub in_conditional : (c : Option Claims) (at : At) (t : PlainType) (v a b : PlainValue) (env : Environment) → failing_in c (value at t (conditional v a b)) env ≡ [] → InConditional c v a b env
in_conditional None at t v a b env e = record { condition = refl; first = λ x f. refl; second = λ x f. refl }
in_conditional (Some c) at t v a b env e =
    let first : List Span = where_reached (known_where true env (assess (Some c) v env)) (λ env. failing_calls c a env) in
    let second : List Span = where_reached (known_where false env (assess (Some c) v env)) (λ env. failing_calls c b env) in
    let p : (failing_calls c v env ≡ []) × (first ++ second ≡ []) = parts_empty (failing_calls c v env) _ e in
    let q : (first ≡ []) × (second ≡ []) = parts_empty first second p.1 in
    record {
      condition = p.0;
      first = λ x f. reached_empty (known_where true env (assess (Some c) v env)) (λ env. failing_calls c a env) x q.0 f;
      second = λ x f. reached_empty (known_where false env (assess (Some c) v env)) (λ env. failing_calls c b env) x q.1 f;
    }

-- what holds of the arguments of a call
pub record InCall (c : Option Claims) (g : ℕ) (arguments : PlainValues) (env : Environment) : Type 0 where
  pub lie : all_have_values c arguments env ≡ true → arguments_lie c (parameters_claimed c g) arguments env ≡ true
  pub parts : failing_among c arguments env ≡ []

pub in_call : (c : Option Claims) (at : At) (t : PlainType) (name : Span) (g : ℕ) (arguments : PlainValues) (env : Environment) → failing_in c (value at t (call name g arguments)) env ≡ [] → InCall c g arguments env
in_call None at t name g arguments env e = record { lie = λ f. refl; parts = refl }
in_call (Some c) at t name g arguments env e = record { lie = lies (all_have_values (Some c) arguments env) (arguments_lie (Some c) (claims_on (slice_get c.funcs g)) arguments env) p.0; parts = p.1 }
  where
    all : Bool
    all = all_have_values (Some c) arguments env && not (arguments_lie (Some c) (claims_on (slice_get c.funcs g)) arguments env)

    p : ((if all then name ∷ [] else []) ≡ []) × (failing_in_values c arguments env ≡ [])
    p = parts_empty (if all then name ∷ [] else []) (failing_in_values c arguments env) e

    lies : (a b : Bool) → (if a && not b then name ∷ [] else []) ≡ [] → a ≡ true → b ≡ true
    lies true true e f = refl
    lies true false e f = absurd cc
    lies false b e f = absurd cc

pub in_built_in : (c : Option Claims) (at : At) (t : PlainType) (name : Span) (f : Library) (arguments : PlainValues) (env : Environment) → failing_in c (value at t (built_in name f arguments)) env ≡ [] → failing_among c arguments env ≡ []
in_built_in None at t name f arguments env e = refl
in_built_in (Some c) at t name f arguments env e = e

pub in_values : (c : Option Claims) (v : PlainValue) (vs : PlainValues) (env : Environment) → failing_among c (more_values v vs) env ≡ [] → (failing_in c v env ≡ []) × (has_value c v env ≡ true → failing_among c vs env ≡ [])
in_values None v vs env e = (refl, λ f. refl)
in_values (Some c) v vs env e =
    let p : (failing_calls c v env ≡ []) × ((if has_value (Some c) v env then failing_in_values c vs env else []) ≡ []) = parts_empty (failing_calls c v env) _ e in
    (p.0, chosen_empty (has_value (Some c) v env) (failing_in_values c vs env) p.1)

-- ## Places

pub in_index : (c : Option Claims) (at : At) (t : PlainType) (a i : PlainValue) (env : Environment) → failing_at c (place at t (index a i)) env ≡ [] → (failing_in c a env ≡ []) × (has_value c a env ≡ true → failing_in c i env ≡ [])
in_index None at t a i env e = (refl, λ f. refl)
in_index (Some c) at t a i env e = two_parts c a i env e

pub in_member : (c : Option Claims) (at : At) (t : PlainType) (q : PlainPlace) (m : ℕ) (env : Environment) → failing_at c (place at t (member q m)) env ≡ [] → failing_at c q env ≡ []
in_member None at t q m env e = refl
in_member (Some c) at t q m env e = e

pub in_dereference : (c : Option Claims) (at : At) (t : PlainType) (v : PlainValue) (env : Environment) → failing_at c (place at t (dereference v)) env ≡ [] → failing_in c v env ≡ []
in_dereference None at t v env e = refl
in_dereference (Some c) at t v env e = e
