-- Trees that are the same stay so where more structures are paired.
use Rattle.std.proofs.Common.{List, Option}
use Rattle.p10_core.specs.Types.{PlainType}
use Rattle.p10_core.specs.Typed.{PlainValue, PlainForm, PlainPlace, PlainPlaceForm, PlainValues, PlainWritten, PlainItem, PlainInitializer, PlainStatement, PlainStatementForm, PlainStatements, PlainVariable}
use Rattle.p10_renaming.specs.Renaming.{Pairing, passing, SameParameterType, same_integer_passed, same_pointer_passed, SameArgument, same_as_value, same_as_parameter, SameType, same_void, same_integer, same_pointer, same_array, same_structure, SameValue, same_value, SameForm, same_constant, same_read, same_sense, same_address, same_decay, same_convert, same_cast, same_unary, same_binary, same_logic, same_conditional, same_call, same_built_in, SamePlace, same_place, SamePlaceForm, same_variable, same_global, same_literal, same_index, same_member, same_dereference, SameArguments, same_no_arguments, same_more_arguments}
use Rattle.p10_renaming.specs.Renaming.{SameMaybe, same_none, same_some, SameWritten, same_scalar, same_text, SameItems, same_no_items, same_more_items, SameInitializer, same_not_initialized, same_single, same_copied, same_listed, SameStatement, same_statement, SameStatementForm, same_set, same_update, same_copy, same_evaluate, same_asserts, same_declare, same_declare_static, same_block, same_if_then, same_if_else, same_loop, same_switch, same_break, same_continue, same_return, same_empty, same_mark, SameStatements, same_no_statements, same_more_statements, SameVariables, same_no_variables, same_more_variables}
use Rattle.p10_pairing_laws.specs.Laws.{IsWithin, FunctionsStaySame}

pub type_stays : (R Q : Pairing) → IsWithin R Q → {t u : PlainType} → SameType R t u → SameType Q t u
type_stays R Q more same_void = same_void
type_stays R Q more same_integer = same_integer
type_stays R Q more (same_pointer h) = same_pointer (type_stays R Q more h)
type_stays R Q more (same_array h) = same_array (type_stays R Q more h)
type_stays R Q more (same_structure {n = n} {m = m} paired) = same_structure (more.used n m paired)

-- so it is among types of parameters
pub within_passing : (R Q : Pairing) → IsWithin R Q → IsWithin (passing R) (passing Q)
within_passing R Q more = record { used = more.passed; passed = more.passed }

pub parameter_type_stays : (R Q : Pairing) → IsWithin R Q → {t u : PlainType} → SameParameterType R t u → SameParameterType Q t u
parameter_type_stays R Q more same_integer_passed = same_integer_passed
parameter_type_stays R Q more (same_pointer_passed h) = same_pointer_passed (type_stays R Q more h)

mutual
  value_stays : (R Q : Pairing) → IsWithin R Q → {v w : PlainValue} → SameValue R v w → SameValue Q v w
  value_stays R Q more (same_value h f) = same_value (type_stays R Q more h) (form_stays R Q more f)

  form_stays : (R Q : Pairing) → IsWithin R Q → {f g : PlainForm} → SameForm R f g → SameForm Q f g
  form_stays R Q more same_constant = same_constant
  form_stays R Q more (same_read h) = same_read (place_stays R Q more h)
  form_stays R Q more same_sense = same_sense
  form_stays R Q more (same_address h) = same_address (place_stays R Q more h)
  form_stays R Q more (same_decay h) = same_decay (place_stays R Q more h)
  form_stays R Q more (same_convert h) = same_convert (value_stays R Q more h)
  form_stays R Q more (same_cast h) = same_cast (value_stays R Q more h)
  form_stays R Q more (same_unary h) = same_unary (value_stays R Q more h)
  form_stays R Q more (same_binary h k) = same_binary (value_stays R Q more h) (value_stays R Q more k)
  form_stays R Q more (same_logic h k) = same_logic (value_stays R Q more h) (value_stays R Q more k)
  form_stays R Q more (same_conditional h j k) = same_conditional (value_stays R Q more h) (value_stays R Q more j) (value_stays R Q more k)
  form_stays R Q more (same_call h) = same_call (arguments_stay R Q more h)
  form_stays R Q more (same_built_in h) = same_built_in (arguments_stay R Q more h)

  place_stays : (R Q : Pairing) → IsWithin R Q → {p q : PlainPlace} → SamePlace R p q → SamePlace Q p q
  place_stays R Q more (same_place h f) = same_place (type_stays R Q more h) (place_form_stays R Q more f)

  place_form_stays : (R Q : Pairing) → IsWithin R Q → {f g : PlainPlaceForm} → SamePlaceForm R f g → SamePlaceForm Q f g
  place_form_stays R Q more same_variable = same_variable
  place_form_stays R Q more same_global = same_global
  place_form_stays R Q more same_literal = same_literal
  place_form_stays R Q more (same_index h k) = same_index (value_stays R Q more h) (value_stays R Q more k)
  place_form_stays R Q more (same_member h) = same_member (place_stays R Q more h)
  place_form_stays R Q more (same_dereference h) = same_dereference (value_stays R Q more h)

  argument_stays : (R Q : Pairing) → IsWithin R Q → {v w : PlainValue} → SameArgument R v w → SameArgument Q v w
  argument_stays R Q more (same_as_value h) = same_as_value (value_stays R Q more h)
  argument_stays R Q more (same_as_parameter h f) = same_as_parameter (parameter_type_stays (passing R) (passing Q) (within_passing R Q more) h) (form_stays R Q more f)

  arguments_stay : (R Q : Pairing) → IsWithin R Q → {vs ws : PlainValues} → SameArguments R vs ws → SameArguments Q vs ws
  arguments_stay R Q more same_no_arguments = same_no_arguments
  arguments_stay R Q more (same_more_arguments h rest) = same_more_arguments (argument_stays R Q more h) (arguments_stay R Q more rest)

maybe_stays : (R Q : Pairing) → IsWithin R Q → {o p : Option PlainValue} → SameMaybe R o p → SameMaybe Q o p
maybe_stays R Q more same_none = same_none
maybe_stays R Q more (same_some h) = same_some (value_stays R Q more h)

-- ## Initialisers

written_stays : (R Q : Pairing) → IsWithin R Q → {a b : PlainWritten} → SameWritten R a b → SameWritten Q a b
written_stays R Q more (same_scalar h) = same_scalar (value_stays R Q more h)
written_stays R Q more same_text = same_text

items_stay : (R Q : Pairing) → IsWithin R Q → {xs ys : List PlainItem} → SameItems R xs ys → SameItems Q xs ys
items_stay R Q more same_no_items = same_no_items
items_stay R Q more (same_more_items h rest) = same_more_items (written_stays R Q more h) (items_stay R Q more rest)

initializer_stays : (R Q : Pairing) → IsWithin R Q → {a b : PlainInitializer} → SameInitializer R a b → SameInitializer Q a b
initializer_stays R Q more same_not_initialized = same_not_initialized
initializer_stays R Q more (same_single h) = same_single (value_stays R Q more h)
initializer_stays R Q more (same_copied h) = same_copied (place_stays R Q more h)
initializer_stays R Q more (same_listed h) = same_listed (items_stay R Q more h)

-- ## Statements

mutual
  statement_stays : (R Q : Pairing) → IsWithin R Q → {s t : PlainStatement} → SameStatement R s t → SameStatement Q s t
  statement_stays R Q more (same_statement f) = same_statement (statement_form_stays R Q more f)

  statement_form_stays : (R Q : Pairing) → IsWithin R Q → {f g : PlainStatementForm} → SameStatementForm R f g → SameStatementForm Q f g
  statement_form_stays R Q more (same_set h k) = same_set (place_stays R Q more h) (value_stays R Q more k)
  statement_form_stays R Q more (same_update h j k) = same_update (type_stays R Q more h) (place_stays R Q more j) (value_stays R Q more k)
  statement_form_stays R Q more (same_copy h k) = same_copy (place_stays R Q more h) (place_stays R Q more k)
  statement_form_stays R Q more (same_evaluate h) = same_evaluate (value_stays R Q more h)
  statement_form_stays R Q more (same_asserts h) = same_asserts (argument_stays R Q more h)
  statement_form_stays R Q more (same_declare h) = same_declare (initializer_stays R Q more h)
  statement_form_stays R Q more same_declare_static = same_declare_static
  statement_form_stays R Q more (same_block all) = same_block (statements_stay R Q more all)
  statement_form_stays R Q more (same_if_then h s) = same_if_then (value_stays R Q more h) (statement_stays R Q more s)
  statement_form_stays R Q more (same_if_else h s t) = same_if_else (value_stays R Q more h) (statement_stays R Q more s) (statement_stays R Q more t)
  statement_form_stays R Q more (same_loop first test third s) = same_loop (statements_stay R Q more first) (maybe_stays R Q more test) (statements_stay R Q more third) (statement_stays R Q more s)
  statement_form_stays R Q more (same_switch h s) = same_switch (value_stays R Q more h) (statement_stays R Q more s)
  statement_form_stays R Q more same_break = same_break
  statement_form_stays R Q more same_continue = same_continue
  statement_form_stays R Q more (same_return h) = same_return (maybe_stays R Q more h)
  statement_form_stays R Q more same_empty = same_empty
  statement_form_stays R Q more same_mark = same_mark

  statements_stay : (R Q : Pairing) → IsWithin R Q → {ss tt : PlainStatements} → SameStatements R ss tt → SameStatements Q ss tt
  statements_stay R Q more same_no_statements = same_no_statements
  statements_stay R Q more (same_more_statements s rest) = same_more_statements (statement_stays R Q more s) (statements_stay R Q more rest)

-- ## Functions

variables_stay : (R Q : Pairing) → IsWithin R Q → {vs ws : List PlainVariable} → SameVariables R vs ws → SameVariables Q vs ws
variables_stay R Q more same_no_variables = same_no_variables
variables_stay R Q more (same_more_variables h rest) = same_more_variables (type_stays R Q more h) (variables_stay R Q more rest)

pub functions_stay_same : FunctionsStaySame
functions_stay_same R Q more f g h = record {
  name = h.name;
  static = h.static;
  parameters = h.parameters;
  result = type_stays R Q more h.result;
  variables = variables_stay R Q more h.variables;
  body = statements_stay R Q more h.body;
}
