-- What values cost depends only on what is claimed of the functions that they call.
use Rattle.std.proofs.Common.{◌≡◌, ℕ, ◌+◌, ◌≤◌, max, List, ◌∷◌, ◌++◌, refl, arith}
use Rattle.std.specs.Prelude.{slice_get}
use Rattle.p10_base.specs.declared.at.At.{At}
use Rattle.p10_core.specs.Types.{PlainType}
use Rattle.p10_core.specs.Typed.{PlainValue, value, PlainForm, constant, read, sense, address, decay, convert, cast, unary, binary, logic, conditional, call, built_in, PlainPlace, place, PlainPlaceForm, variable, global, literal, index, member, dereference, PlainValues, no_values, more_values, PlainVariable, PlainProgram}
use Rattle.p10_core.specs.Nodes.{a_value, nodes_of_value, nodes_in_form, nodes_of_place, nodes_in_place_form, nodes_of_values}
use Rattle.p10_cert.specs.Claims.{Func, Loop}
use Rattle.p10_sums.specs.Counting.{Counting, steps_claimed}
use Rattle.p10_sums.specs.Costs.{value_cost, form_cost, place_cost, place_form_cost, values_cost}
use Rattle.p10_finder.proofs.Called.{EachCalled, first_called, last_called}

-- the claims of the function with a number are one
abbrev pub OneClaim : List Func → List Func → ℕ → Type 0
OneClaim fs gs n = slice_get fs n ≡ slice_get gs n

-- what trees are counted under
abbrev pub counting_under : PlainProgram → List PlainVariable → List Func → List Loop → Counting
counting_under p variables functions loops = record { program = p; variables = variables; functions = functions; loops = loops }

module _ (p : PlainProgram) (variables : List PlainVariable) (fs gs : List Func) (ls ks : List Loop) where
  mutual
    pub value_costs : (v : PlainValue) → EachCalled (OneClaim fs gs) (nodes_of_value v) → value_cost (counting_under p variables fs ls) v ≡ value_cost (counting_under p variables gs ks) v
    value_costs (value at t form) h = form_costs at t form h

    form_costs : (at : At) (t : PlainType) (form : PlainForm) → EachCalled (OneClaim fs gs) (a_value (value at t form) ∷ nodes_in_form form) → form_cost (counting_under p variables fs ls) form ≡ form_cost (counting_under p variables gs ks) form
    form_costs at t (constant z) h = refl
    form_costs at t (read q) h = let inner = place_costs q h.1 in λ i. 1 + inner i
    form_costs at t (sense n) h = refl
    form_costs at t (address q) h = let inner = place_costs q h.1 in λ i. 1 + inner i
    form_costs at t (decay q) h = let inner = place_costs q h.1 in λ i. 1 + inner i
    form_costs at t (convert v) h = value_costs v h.1
    form_costs at t (cast v) h = let inner = value_costs v h.1 in λ i. 1 + inner i
    form_costs at t (unary op v) h = let inner = value_costs v h.1 in λ i. 1 + inner i
    form_costs at t (binary op a b) h =
        let left = value_costs a (first_called (OneClaim fs gs) (nodes_of_value a) (nodes_of_value b) h.1) in
        let right = value_costs b (last_called (OneClaim fs gs) (nodes_of_value a) (nodes_of_value b) h.1) in
        λ i. 1 + (left i + right i)
    form_costs at t (logic op a b) h =
        let left = value_costs a (first_called (OneClaim fs gs) (nodes_of_value a) (nodes_of_value b) h.1) in
        let right = value_costs b (last_called (OneClaim fs gs) (nodes_of_value a) (nodes_of_value b) h.1) in
        λ i. 1 + (left i + right i)
    form_costs at t (conditional v a b) h =
        let rest = last_called (OneClaim fs gs) (nodes_of_value v) (nodes_of_value a ++ nodes_of_value b) h.1 in
        let test = value_costs v (first_called (OneClaim fs gs) (nodes_of_value v) (nodes_of_value a ++ nodes_of_value b) h.1) in
        let left = value_costs a (first_called (OneClaim fs gs) (nodes_of_value a) (nodes_of_value b) rest) in
        let right = value_costs b (last_called (OneClaim fs gs) (nodes_of_value a) (nodes_of_value b) rest) in
        λ i. 1 + (test i + max (left i) (right i))
    form_costs at t (call name n arguments) h = let inner = values_costs arguments h.1 in λ i. 1 + (inner i + steps_claimed (h.0 i))
    form_costs at t (built_in name f arguments) h = let inner = values_costs arguments h.1 in λ i. 1 + inner i

    pub place_costs : (q : PlainPlace) → EachCalled (OneClaim fs gs) (nodes_of_place q) → place_cost (counting_under p variables fs ls) q ≡ place_cost (counting_under p variables gs ks) q
    place_costs (place at t form) h = place_form_costs form h.1

    place_form_costs : (form : PlainPlaceForm) → EachCalled (OneClaim fs gs) (nodes_in_place_form form) → place_form_cost (counting_under p variables fs ls) form ≡ place_form_cost (counting_under p variables gs ks) form
    place_form_costs (variable n) h = refl
    place_form_costs (global n) h = refl
    place_form_costs (literal n bytes) h = refl
    place_form_costs (index a j) h =
        let left = value_costs a (first_called (OneClaim fs gs) (nodes_of_value a) (nodes_of_value j) h) in
        let right = value_costs j (last_called (OneClaim fs gs) (nodes_of_value a) (nodes_of_value j) h) in
        λ i. 1 + (left i + right i)
    place_form_costs (member q m) h = let inner = place_costs q h in λ i. 1 + inner i
    place_form_costs (dereference v) h = let inner = value_costs v h in λ i. 1 + inner i

    values_costs : (vs : PlainValues) → EachCalled (OneClaim fs gs) (nodes_of_values vs) → values_cost (counting_under p variables fs ls) vs ≡ values_cost (counting_under p variables gs ks) vs
    values_costs no_values h = refl
    values_costs (more_values v vs) h =
        let first = value_costs v (first_called (OneClaim fs gs) (nodes_of_value v) (nodes_of_values vs) h) in
        let rest = values_costs vs (last_called (OneClaim fs gs) (nodes_of_value v) (nodes_of_values vs) h) in
        λ i. first i + rest i

-- each value costs a step
mutual
  pub value_positive : (c : Counting) (v : PlainValue) → 1 ≤ value_cost c v
  value_positive c (value at t form) = form_positive c form

  form_positive : (c : Counting) (form : PlainForm) → 1 ≤ form_cost c form
  form_positive c (convert v) = value_positive c v
  form_positive c form = omega arith
