-- The calls in values that fail are the same where claims are the same but for loops.
use Rattle.std.proofs.Common.{◌≡◌, ℕ, ◌&&◌, not, true, false, cond, List, [], ◌∷◌, ◌++◌, Option, Some, None, refl, ap, ◌∙◌}
use Rattle.std.specs.Prelude.{slice_get, if◌then◌else◌}
use Rattle.p10_base.specs.declared.span.Span.{Span}
use Rattle.p10_core.specs.Typed.{PlainValue, value, PlainForm, constant, read, sense, address, decay, convert, cast, unary, binary, logic, conditional, call, built_in, PlainPlace, place, PlainPlaceForm, variable, global, literal, index, member, dereference, PlainValues, no_values, more_values}
use Rattle.p10_cert.specs.Claims.{Claims}
use Rattle.p10_absx.specs.Environments.{Environment}
use Rattle.p10_absx.specs.Assessing.{known_where}
use Rattle.p10_absx.specs.Entering.{claims_on}
use Rattle.p10_pass.specs.Arguments.{arguments_lie, where_reached, goes_on_where, failing_calls, failing_in_form, failing_in_values, failing_in_place, failing_in_place_form}
use Rattle.p10_loopless.proofs.Faces.{AreAlike, same_parameters}
use Rattle.p10_loopless.proofs.Values.{same_value, same_presence, same_presences, same_lying}

same_arguments : (c d : Claims) → AreAlike c.funcs d.funcs → (n : ℕ) (vs : PlainValues) (env : Environment)
    → arguments_lie (Some c) (claims_on (slice_get c.funcs n)) vs env ≡ arguments_lie (Some d) (claims_on (slice_get d.funcs n)) vs env
same_arguments c d alike n vs env = λ i. same_lying c d alike (same_parameters c.funcs d.funcs n alike i) vs env i

mutual
  pub same_failing : (c d : Claims) → AreAlike c.funcs d.funcs → (v : PlainValue) (env : Environment) → failing_calls c v env ≡ failing_calls d v env
  same_failing c d alike (value at t form) env = same_in_form c d alike form env

  same_in_form : (c d : Claims) → AreAlike c.funcs d.funcs → (form : PlainForm) (env : Environment) → failing_in_form c form env ≡ failing_in_form d form env
  same_in_form c d alike (constant z) env = refl
  same_in_form c d alike (read p) env = same_in_place c d alike p env
  same_in_form c d alike (sense n) env = refl
  same_in_form c d alike (address p) env = same_in_place c d alike p env
  same_in_form c d alike (decay p) env = same_in_place c d alike p env
  same_in_form c d alike (convert v) env = same_failing c d alike v env
  same_in_form c d alike (cast v) env = same_failing c d alike v env
  same_in_form c d alike (unary op v) env = same_failing c d alike v env
  same_in_form c d alike (binary op a b) env = λ i. same_failing c d alike a env i ++ (if same_presence c d alike a env i then same_failing c d alike b env i else [])
  same_in_form c d alike (logic op a b) env =
      λ i. same_failing c d alike a env i ++ where_reached (known_where (goes_on_where op) env (same_value c d alike a env i)) (λ e. same_failing c d alike b e i)
  same_in_form c d alike (conditional v a b) env =
      λ i. same_failing c d alike v env i ++ (where_reached (known_where true env (same_value c d alike v env i)) (λ e. same_failing c d alike a e i)
      ++ where_reached (known_where false env (same_value c d alike v env i)) (λ e. same_failing c d alike b e i))
  same_in_form c d alike (call name n arguments) env =
      λ i. (if same_presences c d alike arguments env i && not (same_arguments c d alike n arguments env i) then name ∷ [] else []) ++ same_in_values c d alike arguments env i
  same_in_form c d alike (built_in name f arguments) env = same_in_values c d alike arguments env

  same_in_values : (c d : Claims) → AreAlike c.funcs d.funcs → (vs : PlainValues) (env : Environment) → failing_in_values c vs env ≡ failing_in_values d vs env
  same_in_values c d alike no_values env = refl
  same_in_values c d alike (more_values v vs) env = λ i. same_failing c d alike v env i ++ (if same_presence c d alike v env i then same_in_values c d alike vs env i else [])

  pub same_in_place : (c d : Claims) → AreAlike c.funcs d.funcs → (p : PlainPlace) (env : Environment) → failing_in_place c p env ≡ failing_in_place d p env
  same_in_place c d alike (place at t form) env = same_in_place_form c d alike form env

  same_in_place_form : (c d : Claims) → AreAlike c.funcs d.funcs → (form : PlainPlaceForm) (env : Environment) → failing_in_place_form c form env ≡ failing_in_place_form d form env
  same_in_place_form c d alike (variable n) env = refl
  same_in_place_form c d alike (global n) env = refl
  same_in_place_form c d alike (literal n bytes) env = refl
  same_in_place_form c d alike (index a k) env = λ i. same_failing c d alike a env i ++ (if same_presence c d alike a env i then same_failing c d alike k env i else [])
  same_in_place_form c d alike (member p m) env = same_in_place c d alike p env
  same_in_place_form c d alike (dereference v) env = same_failing c d alike v env
