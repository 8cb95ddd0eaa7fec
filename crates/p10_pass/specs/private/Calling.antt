-- Whether something is called in a value.
use Rattle.std.specs.Prelude.{◌||◌, Bool, true, false}
use Rattle.p10_core.specs.Typed.{PlainValue, value, PlainForm, constant, read, sense, address, decay, convert, cast, unary, binary, logic, conditional, call, built_in, PlainPlace, place, PlainPlaceForm, variable, global, literal, index, member, dereference, PlainValues, no_values, more_values}

abbrev mutual
  pub has_call : PlainValue → Bool
  has_call (value at t form) = has_call_in form

  -- in a form of value
  pub has_call_in : PlainForm → Bool
  has_call_in (constant z) = false
  has_call_in (read p) = has_call_at p
  has_call_in (sense n) = false
  has_call_in (address p) = has_call_at p
  has_call_in (decay p) = has_call_at p
  has_call_in (convert v) = has_call v
  has_call_in (cast v) = has_call v
  has_call_in (unary op v) = has_call v
  has_call_in (binary op a b) = has_call a || has_call b
  has_call_in (logic op a b) = has_call a || has_call b
  has_call_in (conditional v a b) = has_call v || (has_call a || has_call b)
  has_call_in (call name n arguments) = true
  has_call_in (built_in name f arguments) = has_call_among arguments

  -- in values
  pub has_call_among : PlainValues → Bool
  has_call_among no_values = false
  has_call_among (more_values v vs) = has_call v || has_call_among vs

  -- in a place
  pub has_call_at : PlainPlace → Bool
  has_call_at (place at t form) = has_call_at_form form

  -- in a form of place
  pub has_call_at_form : PlainPlaceForm → Bool
  has_call_at_form (variable n) = false
  has_call_at_form (global n) = false
  has_call_at_form (literal n bytes) = false
  has_call_at_form (index a i) = has_call a || has_call i
  has_call_at_form (member p m) = has_call_at p
  has_call_at_form (dereference v) = has_call v
