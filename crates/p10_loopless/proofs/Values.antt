-- What is found of values is the same where claims are the same but for loops: each path goes through the row of the value's form.
use Rattle.std.proofs.Common.{◌≡◌, ℕ, ◌&&◌, ◌||◌, Bool, is_some, List, [], ◌∷◌, Option, Some, None, refl, ap, ◌∙◌}
use Rattle.p10_core.specs.Types.{PlainType}
use Rattle.p10_core.specs.Typed.{PlainValue, value, PlainForm, constant, read, sense, address, decay, convert, cast, unary, binary, logic, conditional, call, built_in, PlainValues, no_values, more_values, type_of}
use Rattle.p10_core.specs.Constants.{integer_of}
use Rattle.p10_core.specs.Rows.{is_pointer}
use Rattle.p10_cert.specs.Claims.{Value, Number, Address, Nothing, Claims}
use Rattle.p10_absx.specs.Abstract.{only_range}
use Rattle.p10_absx.specs.Environments.{Environment}
use Rattle.p10_absx.specs.Assessing.{as_side, found_of, value_found, are_integers, unary_assessed, binary_found, logic_found, conditional_found, converted_found, library_assessed, assess, assess_form, assess_only}
use Rattle.p10_pass.specs.Arguments.{has_value, all_have_values, lies_in, arguments_lie}
use Rattle.p10_loopless.proofs.Faces.{AreAlike, same_result}

mutual
  pub same_value : (c d : Claims) → AreAlike c.funcs d.funcs → (v : PlainValue) (env : Environment) → assess (Some c) v env ≡ assess (Some d) v env
  same_value c d alike (value at t form) env = same_form c d alike t form env

  same_form : (c d : Claims) → AreAlike c.funcs d.funcs → (t : PlainType) (form : PlainForm) (env : Environment) → assess_form (Some c) t form env ≡ assess_form (Some d) t form env
  same_form c d alike t (constant z) env = refl
  same_form c d alike t (read p) env = refl
  same_form c d alike t (sense n) env = refl
  same_form c d alike t (address p) env = refl
  same_form c d alike t (decay p) env = refl
  same_form c d alike t (convert v) env = λ i. converted_found t (as_side (same_value c d alike v env i))
  same_form c d alike t (cast v) env = λ i. converted_found t (as_side (same_value c d alike v env i))
  same_form c d alike t (unary op v) env = λ i. unary_assessed op t env (same_value c d alike v env i)
  same_form c d alike t (binary op a b) env = λ i. binary_found op t (are_integers a b) (same_value c d alike a env i) (same_value c d alike b env i) env
  same_form c d alike t (logic op a b) env = λ i. logic_found op env (same_value c d alike a env i) (λ e. same_value c d alike b e i)
  same_form c d alike t (conditional v a b) env = λ i. conditional_found t env (same_value c d alike v env i) (λ e. same_value c d alike a e i) (λ e. same_value c d alike b e i)
  same_form c d alike t (call s n arguments) env = λ i. found_of t (Some (only_range (same_result (integer_of t) c.funcs d.funcs n alike i)))
  same_form c d alike t (built_in s f arguments) env = λ i. library_assessed f t env (same_only c d alike arguments env i)

  same_only : (c d : Claims) → AreAlike c.funcs d.funcs → (arguments : PlainValues) (env : Environment) → assess_only (Some c) arguments env ≡ assess_only (Some d) arguments env
  same_only c d alike no_values env = refl
  same_only c d alike (more_values v no_values) env = λ i. Some (same_value c d alike v env i)
  same_only c d alike (more_values v (more_values w rest)) env = refl

pub same_presence : (c d : Claims) → AreAlike c.funcs d.funcs → (v : PlainValue) (env : Environment) → has_value (Some c) v env ≡ has_value (Some d) v env
same_presence c d alike v env = λ i. is_pointer (type_of v) || is_some (value_found (same_value c d alike v env i))

pub same_presences : (c d : Claims) → AreAlike c.funcs d.funcs → (vs : PlainValues) (env : Environment) → all_have_values (Some c) vs env ≡ all_have_values (Some d) vs env
same_presences c d alike no_values env = refl
same_presences c d alike (more_values v vs) env = λ i. same_presence c d alike v env i && same_presences c d alike vs env i

pub same_lying : (c d : Claims) → AreAlike c.funcs d.funcs → (claims : List Value) (vs : PlainValues) (env : Environment) → arguments_lie (Some c) claims vs env ≡ arguments_lie (Some d) claims vs env
same_lying c d alike [] no_values env = refl
same_lying c d alike [] (more_values v vs) env = refl
same_lying c d alike (Number r ∷ claims) no_values env = refl
same_lying c d alike (Number r ∷ claims) (more_values v vs) env = λ i. lies_in (value_found (same_value c d alike v env i)) r && same_lying c d alike claims vs env i
same_lying c d alike (Address ∷ claims) no_values env = refl
same_lying c d alike (Address ∷ claims) (more_values v vs) env = same_lying c d alike claims vs env
same_lying c d alike (Nothing ∷ claims) no_values env = refl
same_lying c d alike (Nothing ∷ claims) (more_values v vs) env = same_lying c d alike claims vs env
