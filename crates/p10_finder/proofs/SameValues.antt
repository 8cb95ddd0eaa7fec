-- What is found of values depends only on what is claimed of the functions that they call.
use Rattle.std.proofs.Common.{◌≡◌, ℕ, true, false, List, [], ◌∷◌, ◌++◌, Option, Some, refl, ap, ◌∙◌}
use Rattle.std.specs.Prelude.{◌&&◌, ◌||◌, not, is_some, slice_get, if◌then◌else◌}
use Rattle.p10_base.specs.declared.at.At.{At}
use Rattle.p10_int.specs.declared.types.IntType.{IntType}
use Rattle.p10_core.specs.Types.{PlainType}
use Rattle.p10_core.specs.Typed.{PlainValue, value, PlainForm, constant, read, sense, address, decay, convert, cast, unary, binary, logic, conditional, call, built_in, PlainPlace, place, PlainPlaceForm, variable, global, literal, index, member, dereference, PlainValues, no_values, more_values, type_of}
use Rattle.p10_core.specs.Rows.{is_pointer}
use Rattle.p10_core.specs.Constants.{integer_of}
use Rattle.p10_core.specs.Nodes.{a_value, nodes_of_value, nodes_in_form, nodes_of_place, nodes_in_place_form, nodes_of_values}
use Rattle.p10_cert.specs.Claims.{Value, Number, Address, Nothing, Func, Claims}
use Rattle.p10_absx.specs.Abstract.{only_range}
use Rattle.p10_absx.specs.Environments.{Environment}
use Rattle.p10_absx.specs.Assessing.{value_found, as_side, known_where, found_of, converted_found, are_integers, binary_found, logic_found, conditional_found, unary_assessed, library_assessed, result_claimed, assess, assess_form, assess_only}
use Rattle.p10_absx.specs.Entering.{claims_on}
use Rattle.p10_pass.specs.Arguments.{has_value, all_have_values, lies_in, arguments_lie, where_reached, goes_on_where, failing_calls, failing_in_form, failing_in_values, failing_in_place, failing_in_place_form}
use Rattle.p10_finder.proofs.Called.{EachCalled, first_called, last_called}

-- two claims, of which each may be lacking, say the same for a function's parameters and result
pub record SayTheSame (x y : Option Func) : Type 0 where
  pub params : claims_on x ≡ claims_on y
  pub result : (kind : IntType) → result_claimed kind x ≡ result_claimed kind y

-- the same for the function with a number
abbrev pub Same : Claims → Claims → ℕ → Type 0
Same c d n = SayTheSame (slice_get c.funcs n) (slice_get d.funcs n)

module _ (c d : Claims) where
  -- ## Values

  mutual
    pub value_same : (v : PlainValue) → EachCalled (Same c d) (nodes_of_value v) → (env : Environment) → assess (Some c) v env ≡ assess (Some d) v env
    value_same (value at t form) h env = form_same at t form h env

    pub form_same : (at : At) (t : PlainType) (form : PlainForm) → EachCalled (Same c d) (a_value (value at t form) ∷ nodes_in_form form) → (env : Environment) → assess_form (Some c) t form env ≡ assess_form (Some d) t form env
    form_same at t (constant z) h env = refl
    form_same at t (read p) h env = refl
    form_same at t (sense n) h env = refl
    form_same at t (address p) h env = refl
    form_same at t (decay p) h env = refl
    form_same at t (convert v) h env = λ i. converted_found t (as_side (value_same v h.1 env i))
    form_same at t (cast v) h env = λ i. converted_found t (as_side (value_same v h.1 env i))
    form_same at t (unary op v) h env = λ i. unary_assessed op t env (value_same v h.1 env i)
    form_same at t (binary op a b) h env =
        let left = value_same a (first_called (Same c d) (nodes_of_value a) (nodes_of_value b) h.1) env in
        let right = value_same b (last_called (Same c d) (nodes_of_value a) (nodes_of_value b) h.1) env in
        λ i. binary_found op t (are_integers a b) (left i) (right i) env
    form_same at t (logic op a b) h env =
        let left = value_same a (first_called (Same c d) (nodes_of_value a) (nodes_of_value b) h.1) env in
        let right = value_same b (last_called (Same c d) (nodes_of_value a) (nodes_of_value b) h.1) in
        λ i. logic_found op env (left i) (λ e. right e i)
    form_same at t (conditional v a b) h env =
        let rest = last_called (Same c d) (nodes_of_value v) (nodes_of_value a ++ nodes_of_value b) h.1 in
        let test = value_same v (first_called (Same c d) (nodes_of_value v) (nodes_of_value a ++ nodes_of_value b) h.1) env in
        let left = value_same a (first_called (Same c d) (nodes_of_value a) (nodes_of_value b) rest) in
        let right = value_same b (last_called (Same c d) (nodes_of_value a) (nodes_of_value b) rest) in
        λ i. conditional_found t env (test i) (λ e. left e i) (λ e. right e i)
    form_same at t (call s n arguments) h env = λ i. found_of t (Some (only_range (h.0.result (integer_of t) i)))
    form_same at t (built_in s f arguments) h env = λ i. library_assessed f t env (only_same arguments h.1 env i)

    pub only_same : (vs : PlainValues) → EachCalled (Same c d) (nodes_of_values vs) → (env : Environment) → assess_only (Some c) vs env ≡ assess_only (Some d) vs env
    only_same no_values h env = refl
    only_same (more_values v no_values) h env = λ i. Some (value_same v (first_called (Same c d) (nodes_of_value v) [] h) env i)
    only_same (more_values v (more_values w ws)) h env = refl

  -- ## Failing calls

  pub has_same : (v : PlainValue) → EachCalled (Same c d) (nodes_of_value v) → (env : Environment) → has_value (Some c) v env ≡ has_value (Some d) v env
  has_same v h env = λ i. is_pointer (type_of v) || is_some (value_found (value_same v h env i))

  all_same : (vs : PlainValues) → EachCalled (Same c d) (nodes_of_values vs) → (env : Environment) → all_have_values (Some c) vs env ≡ all_have_values (Some d) vs env
  all_same no_values h env = refl
  all_same (more_values v vs) h env =
      let one = has_same v (first_called (Same c d) (nodes_of_value v) (nodes_of_values vs) h) env in
      let rest = all_same vs (last_called (Same c d) (nodes_of_value v) (nodes_of_values vs) h) env in
      λ i. one i && rest i

  lie_same : (claims : List Value) (vs : PlainValues) → EachCalled (Same c d) (nodes_of_values vs) → (env : Environment) → arguments_lie (Some c) claims vs env ≡ arguments_lie (Some d) claims vs env
  lie_same (Number r ∷ claims) (more_values v vs) h env =
      let one = value_same v (first_called (Same c d) (nodes_of_value v) (nodes_of_values vs) h) env in
      let rest = lie_same claims vs (last_called (Same c d) (nodes_of_value v) (nodes_of_values vs) h) env in
      λ i. lies_in (value_found (one i)) r && rest i
  lie_same (Address ∷ claims) (more_values v vs) h env = lie_same claims vs (last_called (Same c d) (nodes_of_value v) (nodes_of_values vs) h) env
  lie_same (Nothing ∷ claims) (more_values v vs) h env = lie_same claims vs (last_called (Same c d) (nodes_of_value v) (nodes_of_values vs) h) env
  lie_same claims vs h env = refl

  mutual
    pub failing_same : (v : PlainValue) → EachCalled (Same c d) (nodes_of_value v) → (env : Environment) → failing_calls c v env ≡ failing_calls d v env
    failing_same (value at t form) h env = failing_form at t form h env

    failing_form : (at : At) (t : PlainType) (form : PlainForm) → EachCalled (Same c d) (a_value (value at t form) ∷ nodes_in_form form) → (env : Environment) → failing_in_form c form env ≡ failing_in_form d form env
    failing_form at t (constant z) h env = refl
    failing_form at t (read p) h env = place_same p h.1 env
    failing_form at t (sense n) h env = refl
    failing_form at t (address p) h env = place_same p h.1 env
    failing_form at t (decay p) h env = place_same p h.1 env
    failing_form at t (convert v) h env = failing_same v h.1 env
    failing_form at t (cast v) h env = failing_same v h.1 env
    failing_form at t (unary op v) h env = failing_same v h.1 env
    failing_form at t (binary op a b) h env =
        let first = first_called (Same c d) (nodes_of_value a) (nodes_of_value b) h.1 in
        let left = failing_same a first env in
        let goes = has_same a first env in
        let right = failing_same b (last_called (Same c d) (nodes_of_value a) (nodes_of_value b) h.1) env in
        λ i. left i ++ (if goes i then right i else [])
    failing_form at t (logic op a b) h env =
        let first = first_called (Same c d) (nodes_of_value a) (nodes_of_value b) h.1 in
        let left = failing_same a first env in
        let found = value_same a first env in
        let right = failing_same b (last_called (Same c d) (nodes_of_value a) (nodes_of_value b) h.1) in
        λ i. left i ++ where_reached (known_where (goes_on_where op) env (found i)) (λ e. right e i)
    failing_form at t (conditional v a b) h env =
        let first = first_called (Same c d) (nodes_of_value v) (nodes_of_value a ++ nodes_of_value b) h.1 in
        let rest = last_called (Same c d) (nodes_of_value v) (nodes_of_value a ++ nodes_of_value b) h.1 in
        let test = failing_same v first env in
        let found = value_same v first env in
        let left = failing_same a (first_called (Same c d) (nodes_of_value a) (nodes_of_value b) rest) in
        let right = failing_same b (last_called (Same c d) (nodes_of_value a) (nodes_of_value b) rest) in
        λ i. test i ++ (where_reached (known_where true env (found i)) (λ e. left e i) ++ where_reached (known_where false env (found i)) (λ e. right e i))
    failing_form at t (call name n arguments) h env =
        let have = all_same arguments h.1 env in
        let lie = ap (λ claims. arguments_lie (Some c) claims arguments env) h.0.params ∙ lie_same (claims_on (slice_get d.funcs n)) arguments h.1 env in
        let rest = failing_values arguments h.1 env in
        λ i. (if have i && not (lie i) then name ∷ [] else []) ++ rest i
    failing_form at t (built_in name f arguments) h env = failing_values arguments h.1 env

    failing_values : (vs : PlainValues) → EachCalled (Same c d) (nodes_of_values vs) → (env : Environment) → failing_in_values c vs env ≡ failing_in_values d vs env
    failing_values no_values h env = refl
    failing_values (more_values v vs) h env =
        let first = first_called (Same c d) (nodes_of_value v) (nodes_of_values vs) h in
        let left = failing_same v first env in
        let goes = has_same v first env in
        let rest = failing_values vs (last_called (Same c d) (nodes_of_value v) (nodes_of_values vs) h) env in
        λ i. left i ++ (if goes i then rest i else [])

    pub place_same : (p : PlainPlace) → EachCalled (Same c d) (nodes_of_place p) → (env : Environment) → failing_in_place c p env ≡ failing_in_place d p env
    place_same (place at t form) h env = place_form form h.1 env

    place_form : (form : PlainPlaceForm) → EachCalled (Same c d) (nodes_in_place_form form) → (env : Environment) → failing_in_place_form c form env ≡ failing_in_place_form d form env
    place_form (variable n) h env = refl
    place_form (global n) h env = refl
    place_form (literal n bytes) h env = refl
    place_form (index a j) h env =
        let first = first_called (Same c d) (nodes_of_value a) (nodes_of_value j) h in
        let left = failing_same a first env in
        let goes = has_same a first env in
        let right = failing_same j (last_called (Same c d) (nodes_of_value a) (nodes_of_value j) h) env in
        λ i. left i ++ (if goes i then right i else [])
    place_form (member p m) h env = place_same p h env
    place_form (dereference v) h env = failing_same v h env
