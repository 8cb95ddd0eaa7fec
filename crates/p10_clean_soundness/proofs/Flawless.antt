-- Where a value or a place has no flaws, its parts have none where they are reached.
use Rattle.std.proofs.Common.{◌≡◌, ℕ, Bool, true, false, List, [], ◌∷◌, ◌++◌, Option, Some, refl, subst}
use Rattle.std.specs.Prelude.{not, if◌then◌else◌}
use Rattle.p10_base.specs.declared.span.Span.{Span}
use Rattle.p10_base.specs.declared.at.At.{At}
use Rattle.p10_int.specs.declared.types.IntType.{IntType}
use Rattle.p10_int.specs.declared.operators.BinOp.{BinOp}
use Rattle.p10_int.specs.declared.operators.UnOp.{UnOp}
use Rattle.p10_range.specs.Ranges.{Interval}
use Rattle.p10_core.specs.declared.typed.Library.{Library}
use Rattle.p10_core.specs.declared.typed.LogicOp.{LogicOp}
use Rattle.p10_core.specs.Types.{PlainType}
use Rattle.p10_core.specs.Typed.{PlainValue, value, read, unary, binary, logic, conditional, built_in, PlainPlace, place, place_type, index, decay, PlainValues, more_values}
use Rattle.p10_core.specs.Constants.{integer_of}
use Rattle.p10_core.specs.Uses.{manages_memory}
use Rattle.p10_meaning.specs.Values.{element_count}
use Rattle.p10_absx.specs.Environments.{Environment}
use Rattle.p10_absx.specs.Assessing.{assess, known_where, abstract_value}
use Rattle.p10_pass.specs.Arguments.{has_value, where_reached, goes_on_where}
use Rattle.p10_pass.specs.Passing.{Manner}
use Rattle.p10_clean.specs.declared.flaw.Flaw.{Flaw}
use Rattle.p10_clean.specs.Settings.{Settings}
use Rattle.p10_clean.specs.Operations.{overflows, misdivides, misshifts}
use Rattle.p10_clean.specs.Values.{flaw_if, operation_flaws, binary_flaws, unary_flaws, read_flaws, index_lies, flaws_in_value, flaws_in_values, flaws_in_place}

-- ## Lists that are empty

pub parts_empty : {A : Type 0} (xs ys : List A) → xs ++ ys ≡ [] → (xs ≡ []) × (ys ≡ [])
parts_empty [] ys e = (refl, e)
parts_empty (x ∷ xs) ys e = absurd cc

chosen_empty : {A : Type 0} (b : Bool) (xs : List A) → (if b then xs else []) ≡ [] → b ≡ true → xs ≡ []
chosen_empty true xs e f = e
chosen_empty false xs e f = absurd cc

reached_empty : {A : Type 0} (o : Option Environment) (go : Environment → List A) (env : Environment) → where_reached o go ≡ [] → o ≡ Some env → go env ≡ []
reached_empty o go env e f = subst (λ o. where_reached o go ≡ []) f e

-- a condition holds
pub no_flaw : (b : Bool) (c : ℕ) (at : Span) → flaw_if b c at ≡ [] → b ≡ false
no_flaw true c at e = absurd cc
no_flaw false c at e = refl

-- ## Values

-- C1 to C3 hold of an operator
pub record IsCleanOperation (op : BinOp) (t : IntType) (a b : Interval) : Type 0 where
  pub fits : overflows op t a b ≡ false
  pub divides : misdivides op t a b ≡ false
  pub shifts : misshifts op t a b ≡ false

pub clean_operation : (at : Span) (op : BinOp) (t : IntType) (a b : Interval) → operation_flaws at op t a b ≡ [] → IsCleanOperation op t a b
clean_operation at op t a b e =
    let p = parts_empty (flaw_if (overflows op t a b) 1 at) (flaw_if (misdivides op t a b) 2 at ++ flaw_if (misshifts op t a b) 3 at) e in
    let q = parts_empty (flaw_if (misdivides op t a b) 2 at) (flaw_if (misshifts op t a b) 3 at) p.1 in
    record { fits = no_flaw (overflows op t a b) 1 at p.0; divides = no_flaw (misdivides op t a b) 2 at q.0; shifts = no_flaw (misshifts op t a b) 3 at q.1 }

module _ (m : Manner) (set : Settings) where
  pub in_read : (at : At) (t : PlainType) (q : PlainPlace) (env : Environment) → flaws_in_value m set (value at t (read q)) env ≡ [] → (read_flaws m set q ≡ []) × (flaws_in_place m set q env ≡ [])
  in_read at t q env e = parts_empty (read_flaws m set q) (flaws_in_place m set q env) e

  pub in_unary : (at : At) (t : PlainType) (op : UnOp) (v : PlainValue) (env : Environment) → flaws_in_value m set (value at t (unary op v)) env ≡ [] →
      (unary_flaws at.span op (integer_of t) (abstract_value m.calls env v) ≡ []) × (flaws_in_value m set v env ≡ [])
  in_unary at t op v env e = parts_empty (unary_flaws at.span op (integer_of t) (abstract_value m.calls env v)) (flaws_in_value m set v env) e

  -- two values of which the second one is reached where the first one has a value
  two_parts : (a b : PlainValue) (env : Environment) → flaws_in_value m set a env ++ (if has_value m.calls a env then flaws_in_value m set b env else []) ≡ [] →
      (flaws_in_value m set a env ≡ []) × (has_value m.calls a env ≡ true → flaws_in_value m set b env ≡ [])
  two_parts a b env e =
      let p = parts_empty (flaws_in_value m set a env) (if has_value m.calls a env then flaws_in_value m set b env else []) e in
      (p.0, chosen_empty (has_value m.calls a env) (flaws_in_value m set b env) p.1)

  pub record InBinary (at : At) (t : PlainType) (op : BinOp) (a b : PlainValue) (env : Environment) : Type 0 where
    pub own : binary_flaws m at.span op (integer_of t) a b env ≡ []
    pub left : flaws_in_value m set a env ≡ []
    pub right : has_value m.calls a env ≡ true → flaws_in_value m set b env ≡ []

  pub in_binary : (at : At) (t : PlainType) (op : BinOp) (a b : PlainValue) (env : Environment) → flaws_in_value m set (value at t (binary op a b)) env ≡ [] → InBinary at t op a b env
  in_binary at t op a b env e =
      let p = parts_empty (binary_flaws m at.span op (integer_of t) a b env) (flaws_in_value m set a env ++ (if has_value m.calls a env then flaws_in_value m set b env else [])) e in
      let q = two_parts a b env p.1 in
      record { own = p.0; left = q.0; right = q.1 }

  pub in_logic : (at : At) (t : PlainType) (op : LogicOp) (a b : PlainValue) (env : Environment) → flaws_in_value m set (value at t (logic op a b)) env ≡ [] →
      (flaws_in_value m set a env ≡ []) × ((e : Environment) → known_where (goes_on_where op) env (assess m.calls a env) ≡ Some e → flaws_in_value m set b e ≡ [])
  in_logic at t op a b env e =
      let o : Option Environment = known_where (goes_on_where op) env (assess m.calls a env) in
      let p = parts_empty (flaws_in_value m set a env) (where_reached o (λ env. flaws_in_value m set b env)) e in
      (p.0, λ x f. reached_empty (known_where (goes_on_where op) env (assess m.calls a env)) (λ env. flaws_in_value m set b env) x p.1 f)

  pub record InConditional (v a b : PlainValue) (env : Environment) : Type 0 where
    pub condition : flaws_in_value m set v env ≡ []
    pub first : (e : Environment) → known_where true env (assess m.calls v env) ≡ Some e → flaws_in_value m set a e ≡ []
    pub second : (e : Environment) → known_where false env (assess m.calls v env) ≡ Some e → flaws_in_value m set b e ≡ []

  pub in_conditional : (at : At) (t : PlainType) (v a b : PlainValue) (env : Environment) → flaws_in_value m set (value at t (conditional v a b)) env ≡ [] → InConditional v a b env
  in_conditional at t v a b env e =
      let first : List Flaw = where_reached (known_where true env (assess m.calls v env)) (λ env. flaws_in_value m set a env) in
      let second : List Flaw = where_reached (known_where false env (assess m.calls v env)) (λ env. flaws_in_value m set b env) in
      let p = parts_empty (flaws_in_value m set v env) (first ++ second) e in
      let q = parts_empty first second p.1 in
      record {
        condition = p.0;
        first = λ x f. reached_empty (known_where true env (assess m.calls v env)) (λ env. flaws_in_value m set a env) x q.0 f;
        second = λ x f. reached_empty (known_where false env (assess m.calls v env)) (λ env. flaws_in_value m set b env) x q.1 f;
      }

  pub in_built_in : (at : At) (t : PlainType) (name : Span) (f : Library) (arguments : PlainValues) (env : Environment) → flaws_in_value m set (value at t (built_in name f arguments)) env ≡ [] →
      (manages_memory f ≡ false) × (flaws_in_values m set arguments env ≡ [])
  in_built_in at t name f arguments env e =
      let p = parts_empty (flaw_if (manages_memory f) 5 at.span) (flaws_in_values m set arguments env) e in (no_flaw (manages_memory f) 5 at.span p.0, p.1)

  pub in_values : (v : PlainValue) (vs : PlainValues) (env : Environment) → flaws_in_values m set (more_values v vs) env ≡ [] → (flaws_in_value m set v env ≡ []) × (has_value m.calls v env ≡ true → flaws_in_values m set vs env ≡ [])
  in_values v vs env e =
      let p = parts_empty (flaws_in_value m set v env) (if has_value m.calls v env then flaws_in_values m set vs env else []) e in
      (p.0, chosen_empty (has_value m.calls v env) (flaws_in_values m set vs env) p.1)

  -- ## Places

  pub record InIndex (q : PlainPlace) (a i : PlainValue) (env : Environment) : Type 0 where
    pub lies : index_lies (element_count (place_type q)) (abstract_value m.calls env i) ≡ true
    pub array : flaws_in_value m set a env ≡ []
    pub number : has_value m.calls a env ≡ true → flaws_in_value m set i env ≡ []

  pub in_index : (at at_a : At) (t t_a : PlainType) (q : PlainPlace) (i : PlainValue) (env : Environment) → flaws_in_place m set (place at t (index (value at_a t_a (decay q)) i)) env ≡ [] → InIndex q (value at_a t_a (decay q)) i env
  in_index at at_a t t_a q i env e =
      let lies : Bool = index_lies (element_count (place_type q)) (abstract_value m.calls env i) in
      let a : PlainValue = value at_a t_a (decay q) in
      let p = parts_empty (flaw_if (not lies) 4 at.span) (flaws_in_value m set a env ++ (if has_value m.calls a env then flaws_in_value m set i env else [])) e in
      let r = two_parts a i env p.1 in
      record { lies = so lies (no_flaw (not lies) 4 at.span p.0); array = r.0; number = r.1 }
    where
      so : (b : Bool) → not b ≡ false → b ≡ true
      so true h = refl
      so false h = absurd cc
