-- What is found of a value is found of the erased one.
use Rattle.std.proofs.Common.{◌≡◌, ◌∙◌, ℕ, ◌&&◌, ◌||◌, Bool, true, false, is_some, List, [], ◌∷◌, Option, Some, None, refl, sym, ap}
use Rattle.std.specs.Prelude.{pos, neg_ℤ, if◌then◌else◌}
use Rattle.std.specs.Option.{option_and_then}
use Rattle.p10_int.specs.declared.operators.BinOp.{BinOp}
use Rattle.p10_int.specs.declared.operators.UnOp.{UnOp}
use Rattle.p10_int.specs.declared.operators.UnOp.TheVariants.{Plus, Neg, Not, Com}
use Rattle.p10_range.specs.Ranges.{from_to}
use Rattle.p10_core.specs.declared.typed.Library.{Library}
use Rattle.p10_core.specs.declared.typed.Library.TheVariants.{Assert, CAssert, Getchar, Putchar, Malloc, Calloc, Free}
use Rattle.p10_core.specs.Types.{PlainType, void, integer, pointer, array, structure}
use Rattle.p10_core.specs.Typed.{PlainValue, value, PlainForm, constant, read, sense, address, decay, convert, cast, unary, binary, logic, conditional, call, built_in, PlainPlace, place, variable, global, literal, index, member, dereference, PlainValues, no_values, more_values, PlainProgram}
use Rattle.p10_core.specs.Constants.{integer_of}
use Rattle.p10_cert.specs.Claims.{Value, Number, Address, Nothing, Claims}
use Rattle.p10_absx.specs.Abstract.{Abstract, only_range, whole_type}
use Rattle.p10_absx.specs.Environments.{Environment, known}
use Rattle.p10_absx.specs.Operators.{unary_abstract, binary_abstract}
use Rattle.p10_absx.specs.Comparing.{is_comparison, Side}
use Rattle.p10_absx.specs.Assessing.{Assessed, a_scalar, known_where, as_side, any_of, found_of, variable_read, place_read, value_found, are_integers, unary_found, unary_assessed, arithmetic_found, comparison_found, binary_found, logic_found, conditional_found, without_offset, hull_found, converted_found, call_claimed, call_found, library_assessed, assess, assess_form, assess_only}
use Rattle.p10_pass.specs.Arguments.{has_value, all_have_values, lies_in, arguments_lie}
use Rattle.p10_views.specs.Erased.{erased_type, erased_value, erased_form, erased_place, erased_values}
use Rattle.p10_views.proofs.Types.{integer_erased, kind_erased, integer_value_erased, pointer_value_erased}
use Rattle.p10_views.proofs.Called.{ValueCalls, FormCalls, ValuesCall}
use Rattle.p10_views.proofs.Agreeing.{Agree, same_result}

-- ---- rows

any_erased : (p : PlainProgram) (t : PlainType) → any_of (erased_type p t) ≡ any_of t
any_erased p t = λ i. a_scalar (integer_erased p t i) (record { variable = None; value = Some (whole_type (kind_erased p t i)) })

found_erased : (p : PlainProgram) (t : PlainType) (a : Option Abstract) → found_of (erased_type p t) a ≡ found_of t a
found_erased p t a = λ i. a_scalar (integer_erased p t i) (record { variable = None; value = a })

variable_read_erased : (p : PlainProgram) (t : PlainType) (n : ℕ) (o : Option Abstract) → variable_read (erased_type p t) n o ≡ variable_read t n o
variable_read_erased p t n None = any_erased p t
variable_read_erased p t n (Some a) = λ i. a_scalar (integer_erased p t i) (record { variable = Some n; value = Some a })

read_erased : (p : PlainProgram) (t : PlainType) (q : PlainPlace) (env : Environment) → place_read (erased_type p t) (erased_place p q) env ≡ place_read t q env
read_erased p t (place at u (variable n)) env = variable_read_erased p t n (known env n)
read_erased p t (place at u (global n)) env = any_erased p t
read_erased p t (place at u (literal n bytes)) env = any_erased p t
read_erased p t (place at u (index a k)) env = any_erased p t
read_erased p t (place at u (member q m)) env = any_erased p t
read_erased p t (place at u (dereference v)) env = any_erased p t

converted_erased : (p : PlainProgram) (t : PlainType) (side : Side) → converted_found (erased_type p t) side ≡ converted_found t side
converted_erased p (void c) side = refl
converted_erased p (integer c kind) side = refl
converted_erased p (pointer c t) side = refl
converted_erased p (array c t n) side = refl
converted_erased p (structure c n) side = refl

unary_found_erased : (p : PlainProgram) (op : UnOp) (t : PlainType) (a : Option Abstract) → unary_found op (erased_type p t) a ≡ unary_found op t a
unary_found_erased p op t a = λ i. a_scalar (integer_erased p t i) (record { variable = None; value = option_and_then (unary_abstract op (kind_erased p t i)) a })

unary_erased : (p : PlainProgram) (op : UnOp) (t : PlainType) (env : Environment) (a : Assessed) → unary_assessed op (erased_type p t) env a ≡ unary_assessed op t env a
unary_erased p Plus t env a = unary_found_erased p Plus t (value_found a)
unary_erased p Neg t env a = unary_found_erased p Neg t (value_found a)
unary_erased p Not t env a = refl
unary_erased p Com t env a = unary_found_erased p Com t (value_found a)

arithmetic_erased : (p : PlainProgram) (op : BinOp) (t : PlainType) (a b : Option Abstract) → arithmetic_found op (erased_type p t) a b ≡ arithmetic_found op t a b
arithmetic_erased p op t a b =
    λ i. a_scalar (integer_erased p t i) (record { variable = None; value = option_and_then (λ a. option_and_then (λ b. binary_abstract op (kind_erased p t i) a b) b) a })

binary_erased : (p : PlainProgram) (op : BinOp) (t : PlainType) (integers : Bool) (a b : Assessed) (env : Environment) → binary_found op (erased_type p t) integers a b env ≡ binary_found op t integers a b env
binary_erased p op t integers a b env =
    λ i. if is_comparison op then comparison_found op integers (as_side a) (as_side b) env else (if integers then arithmetic_erased p op t (value_found a) (value_found b) i else any_erased p t i)

conditional_erased : (p : PlainProgram) (t : PlainType) (env : Environment) (condition : Assessed) (first second : Environment → Assessed) → conditional_found (erased_type p t) env condition first second ≡ conditional_found t env condition first second
conditional_erased p t env condition first second =
    found_erased p t (without_offset (hull_found (option_and_then (λ e. value_found (first e)) (known_where true env condition)) (option_and_then (λ e. value_found (second e)) (known_where false env condition))))

call_erased : (p : PlainProgram) (c d : Option Claims) (n : ℕ) (t : PlainType) → Agree c d n → call_found d n (erased_type p t) ≡ call_found c n t
call_erased p c d n t same =
    (λ i. a_scalar (integer_erased p t i) (record { variable = None; value = Some (only_range (call_claimed d n (kind_erased p t i))) }))
    ∙ ap (λ r. found_of t (Some (only_range r))) (sym (same_result c d n (integer_of t) same))

library_erased : (p : PlainProgram) (f : Library) (t : PlainType) (env : Environment) (o : Option Assessed) → library_assessed f (erased_type p t) env o ≡ library_assessed f t env o
library_erased p CAssert t env (Some a) = refl
library_erased p CAssert t env None = any_erased p t
library_erased p Assert t env o = any_erased p t
library_erased p Getchar t env o = found_erased p t (Some (only_range (from_to (neg_ℤ (pos 1)) (pos 255))))
library_erased p Putchar t env o = found_erased p t (Some (only_range (from_to (pos 0) (pos 255))))
library_erased p Malloc t env o = any_erased p t
library_erased p Calloc t env o = any_erased p t
library_erased p Free t env o = any_erased p t

-- ---- values

pub integers_erased : (p : PlainProgram) (a b : PlainValue) → are_integers (erased_value p a) (erased_value p b) ≡ are_integers a b
integers_erased p a b = λ i. integer_value_erased p a i && integer_value_erased p b i

mutual
  pub value_erased : (p : PlainProgram) (c d : Option Claims) (v : PlainValue) → ValueCalls (Agree c d) v → (env : Environment) → assess d (erased_value p v) env ≡ assess c v env
  value_erased p c d (value at t form) h env = form_erased p c d t form h env

  form_erased : (p : PlainProgram) (c d : Option Claims) (t : PlainType) (form : PlainForm) → FormCalls (Agree c d) form → (env : Environment)
      → assess_form d (erased_type p t) (erased_form p form) env ≡ assess_form c t form env
  form_erased p c d t (constant z) h env = found_erased p t (Some (only_range (from_to z z)))
  form_erased p c d t (read q) h env = read_erased p t q env
  form_erased p c d t (sense n) h env = any_erased p t
  form_erased p c d t (address q) h env = any_erased p t
  form_erased p c d t (decay q) h env = any_erased p t
  form_erased p c d t (convert v) h env = (λ i. converted_found (erased_type p t) (as_side (value_erased p c d v h env i))) ∙ converted_erased p t (as_side (assess c v env))
  form_erased p c d t (cast v) h env = (λ i. converted_found (erased_type p t) (as_side (value_erased p c d v h env i))) ∙ converted_erased p t (as_side (assess c v env))
  form_erased p c d t (unary op v) h env = (λ i. unary_assessed op (erased_type p t) env (value_erased p c d v h env i)) ∙ unary_erased p op t env (assess c v env)
  form_erased p c d t (binary op a b) h env =
      (λ i. binary_found op (erased_type p t) (integers_erased p a b i) (value_erased p c d a h.0 env i) (value_erased p c d b h.1 env i) env)
      ∙ binary_erased p op t (are_integers a b) (assess c a env) (assess c b env) env
  form_erased p c d t (logic op a b) h env = λ i. logic_found op env (value_erased p c d a h.0 env i) (λ e. value_erased p c d b h.1 e i)
  form_erased p c d t (conditional v a b) h env =
      (λ i. conditional_found (erased_type p t) env (value_erased p c d v h.0 env i) (λ e. value_erased p c d a h.1 e i) (λ e. value_erased p c d b h.2 e i))
      ∙ conditional_erased p t env (assess c v env) (λ e. assess c a e) (λ e. assess c b e)
  form_erased p c d t (call name n arguments) h env = call_erased p c d n t h.0
  form_erased p c d t (built_in name f arguments) h env = (λ i. library_assessed f (erased_type p t) env (only_erased p c d arguments h env i)) ∙ library_erased p f t env (assess_only c arguments env)

  only_erased : (p : PlainProgram) (c d : Option Claims) (vs : PlainValues) → ValuesCall (Agree c d) vs → (env : Environment) → assess_only d (erased_values p vs) env ≡ assess_only c vs env
  only_erased p c d no_values h env = refl
  only_erased p c d (more_values v no_values) h env = λ i. Some (value_erased p c d v h.0 env i)
  only_erased p c d (more_values v (more_values w rest)) h env = refl

pub presence_erased : (p : PlainProgram) (c d : Option Claims) (v : PlainValue) → ValueCalls (Agree c d) v → (env : Environment) → has_value d (erased_value p v) env ≡ has_value c v env
presence_erased p c d v h env = λ i. pointer_value_erased p v i || is_some (value_found (value_erased p c d v h env i))

pub presences_erased : (p : PlainProgram) (c d : Option Claims) (vs : PlainValues) → ValuesCall (Agree c d) vs → (env : Environment) → all_have_values d (erased_values p vs) env ≡ all_have_values c vs env
presences_erased p c d no_values h env = refl
presences_erased p c d (more_values v vs) h env = λ i. presence_erased p c d v h.0 env i && presences_erased p c d vs h.1 env i

pub lying_erased : (p : PlainProgram) (c d : Option Claims) (claims : List Value) (vs : PlainValues) → ValuesCall (Agree c d) vs → (env : Environment) → arguments_lie d claims (erased_values p vs) env ≡ arguments_lie c claims vs env
lying_erased p c d [] no_values h env = refl
lying_erased p c d [] (more_values v vs) h env = refl
lying_erased p c d (Number r ∷ claims) no_values h env = refl
lying_erased p c d (Number r ∷ claims) (more_values v vs) h env = λ i. lies_in (value_found (value_erased p c d v h.0 env i)) r && lying_erased p c d claims vs h.1 env i
lying_erased p c d (Address ∷ claims) no_values h env = refl
lying_erased p c d (Address ∷ claims) (more_values v vs) h env = lying_erased p c d claims vs h.1 env
lying_erased p c d (Nothing ∷ claims) no_values h env = refl
lying_erased p c d (Nothing ∷ claims) (more_values v vs) h env = lying_erased p c d claims vs h.1 env
