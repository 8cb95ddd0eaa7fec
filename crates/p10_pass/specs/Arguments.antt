-- Which calls in values fail to have arguments in the ranges that are claimed of the callee's parameters (condition K3).
use Rattle.std.specs.Prelude.{◌&&◌, ◌||◌, not, Bool, true, false, is_some, if◌then◌else◌, List, [], ◌∷◌, ◌++◌, slice_get, Option, Some, None}
use Rattle.p10_base.specs.declared.span.Span.{Span}
use Rattle.p10_range.specs.Ranges.{Interval, is_within}
use Rattle.p10_core.specs.declared.typed.LogicOp.{LogicOp}
use Rattle.p10_core.specs.declared.typed.LogicOp.TheVariants.{And, Or}
use Rattle.p10_core.specs.Typed.{PlainValue, value, PlainForm, constant, read, sense, address, decay, convert, cast, unary, binary, logic, conditional, call, built_in, PlainPlace, place, PlainPlaceForm, variable, global, literal, index, member, dereference, PlainValues, no_values, more_values, type_of}
use Rattle.p10_core.specs.Rows.{is_pointer}
use Rattle.p10_cert.specs.Claims.{Value, Number, Claims}
use Rattle.p10_absx.specs.Abstract.{Abstract}
use Rattle.p10_absx.specs.Environments.{Environment}
use Rattle.p10_absx.specs.Assessing.{value_found, assess, known_where, abstract_value}
use Rattle.p10_absx.specs.Entering.{claims_on}

-- whether a value leaves a state: a pointer does, and an integer, or a cast to `void`, where it has a value
abbrev pub has_value : Option Claims → PlainValue → Environment → Bool
has_value c v env = is_pointer (type_of v) || is_some (value_found (assess c v env))

-- whether all values do, one after the other
abbrev pub all_have_values : Option Claims → PlainValues → Environment → Bool
all_have_values c no_values env = true
all_have_values c (more_values v vs) env = has_value c v env && all_have_values c vs env

-- whether a number lies in a range that is claimed
abbrev pub lies_in : Option Abstract → Interval → Bool
lies_in None r = true
lies_in (Some a) r = is_within a.range r

-- whether arguments lie in the ranges that are claimed of parameters
abbrev pub arguments_lie : Option Claims → List Value → PlainValues → Environment → Bool
arguments_lie c (Number r ∷ claims) (more_values v vs) env = lies_in (abstract_value c env v) r && arguments_lie c claims vs env
arguments_lie c (claim ∷ claims) (more_values v vs) env = arguments_lie c claims vs env
arguments_lie c claims vs env = true

-- what follows something that is reached
abbrev pub where_reached : {A : Type 0} → Option Environment → (Environment → List A) → List A
where_reached None go = []
where_reached (Some env) go = go env

-- the truth of its left operand with which `&&` and `||` go on to the right one
abbrev pub goes_on_where : LogicOp → Bool
goes_on_where And = true
goes_on_where Or = false

abbrev mutual
  -- the names of the calls in a value that fail, in text order; a call is reached where all its arguments have values, and what
  -- stands after a part without a value isn't reached
  pub failing_calls : Claims → PlainValue → Environment → List Span
  failing_calls c (value at t form) env = failing_in_form c form env

  -- the same for a form of value
  pub failing_in_form : Claims → PlainForm → Environment → List Span
  failing_in_form c (constant z) env = []
  failing_in_form c (read p) env = failing_in_place c p env
  failing_in_form c (sense n) env = []
  failing_in_form c (address p) env = failing_in_place c p env
  failing_in_form c (decay p) env = failing_in_place c p env
  failing_in_form c (convert v) env = failing_calls c v env
  failing_in_form c (cast v) env = failing_calls c v env
  failing_in_form c (unary op v) env = failing_calls c v env
  failing_in_form c (binary op a b) env = failing_calls c a env ++ (if has_value (Some c) a env then failing_calls c b env else [])
  failing_in_form c (logic op a b) env =
      failing_calls c a env ++ where_reached (known_where (goes_on_where op) env (assess (Some c) a env)) (λ env. failing_calls c b env)
  failing_in_form c (conditional v a b) env =
      failing_calls c v env ++ (where_reached (known_where true env (assess (Some c) v env)) (λ env. failing_calls c a env)
      ++ where_reached (known_where false env (assess (Some c) v env)) (λ env. failing_calls c b env))
  failing_in_form c (call name n arguments) env =
      (if all_have_values (Some c) arguments env && not (arguments_lie (Some c) (claims_on (slice_get c.funcs n)) arguments env) then name ∷ [] else [])
      ++ failing_in_values c arguments env
  failing_in_form c (built_in name f arguments) env = failing_in_values c arguments env

  -- the same for values, one after the other
  pub failing_in_values : Claims → PlainValues → Environment → List Span
  failing_in_values c no_values env = []
  failing_in_values c (more_values v vs) env = failing_calls c v env ++ (if has_value (Some c) v env then failing_in_values c vs env else [])

  -- the same for a place
  pub failing_in_place : Claims → PlainPlace → Environment → List Span
  failing_in_place c (place at t form) env = failing_in_place_form c form env

  -- the same for a form of place
  pub failing_in_place_form : Claims → PlainPlaceForm → Environment → List Span
  failing_in_place_form c (variable n) env = []
  failing_in_place_form c (global n) env = []
  failing_in_place_form c (literal n bytes) env = []
  failing_in_place_form c (index a i) env = failing_calls c a env ++ (if has_value (Some c) a env then failing_calls c i env else [])
  failing_in_place_form c (member p m) env = failing_in_place c p env
  failing_in_place_form c (dereference v) env = failing_calls c v env

-- the same where a certificate may not stand: then no call fails
abbrev pub failing_in : Option Claims → PlainValue → Environment → List Span
failing_in None v env = []
failing_in (Some c) v env = failing_calls c v env

-- the same for a place
abbrev pub failing_at : Option Claims → PlainPlace → Environment → List Span
failing_at None p env = []
failing_at (Some c) p env = failing_in_place c p env
