-- Trees that are the same are erased to one tree.
use Rattle.std.proofs.Common.{◌≡◌, List, ◌∷◌, map, Option, Some, option_map, refl}
use Rattle.p10_core.specs.Typed.{PlainValue, value, PlainForm, read, address, decay, convert, cast, unary, binary, logic, conditional, call, built_in, PlainPlace, place, PlainPlaceForm, index, member, dereference, PlainValues, more_values}
use Rattle.p10_core.specs.Typed.{PlainWritten, one_scalar, PlainItem, PlainInitializer, single, copied, listed, PlainStatement, statement, PlainStatementForm, set, update, copy, evaluate, asserts, declare, block, if_then, if_else, loop, switch, return, PlainStatements, more_statements, PlainVariable, PlainProgram}
use Rattle.p10_views.specs.Erased.{no_span, no_place, erased_value, erased_form, erased_place, erased_place_form, erased_values, erased_written, erased_item, erased_initializer, erased_statement, erased_statement_form, erased_statements, erased_variable}
use Rattle.p10_renaming.specs.Renaming.{Pairing, SameValue, same_value, SameForm, same_constant, same_read, same_sense, same_address, same_decay, same_convert, same_cast, same_unary, same_binary, same_logic, same_conditional, same_call, same_built_in, SamePlace, same_place, SamePlaceForm, same_variable, same_global, same_literal, same_index, same_member, same_dereference, SameArgument, same_as_value, same_as_parameter, SameArguments, same_no_arguments, same_more_arguments, passing, SameMaybe, same_none, same_some}
use Rattle.p10_renaming.specs.Renaming.{SameWritten, same_scalar, same_text, SameItems, same_no_items, same_more_items, SameInitializer, same_not_initialized, same_single, same_copied, same_listed, SameStatement, same_statement, SameStatementForm, same_set, same_update, same_copy, same_evaluate, same_asserts, same_declare, same_declare_static, same_block, same_if_then, same_if_else, same_loop, same_switch, same_break, same_continue, same_return, same_empty, same_mark, SameStatements, same_no_statements, same_more_statements, SameVariables, same_no_variables, same_more_variables}
use Rattle.p10_renaming.specs.Laws.{HasWidths, RenamedHaveOneView}
use Rattle.p10_renaming.proofs.Widths.{type_same, parameter_type_same}

mutual
  value_one : (R : Pairing) (p q : PlainProgram) → HasWidths R p q → {a b : PlainValue} → SameValue R a b → erased_value p a ≡ erased_value q b
  value_one R p q widths (same_value t f) = λ i. value no_place (type_same R p q widths t i) (form_one R p q widths f i)

  form_one : (R : Pairing) (p q : PlainProgram) → HasWidths R p q → {a b : PlainForm} → SameForm R a b → erased_form p a ≡ erased_form q b
  form_one R p q widths same_constant = refl
  form_one R p q widths (same_read h) = λ i. read (place_one R p q widths h i)
  form_one R p q widths same_sense = refl
  form_one R p q widths (same_address h) = λ i. address (place_one R p q widths h i)
  form_one R p q widths (same_decay h) = λ i. decay (place_one R p q widths h i)
  form_one R p q widths (same_convert h) = λ i. convert (value_one R p q widths h i)
  form_one R p q widths (same_cast h) = λ i. cast (value_one R p q widths h i)
  form_one R p q widths (same_unary {op = op} h) = λ i. unary op (value_one R p q widths h i)
  form_one R p q widths (same_binary {op = op} h k) = λ i. binary op (value_one R p q widths h i) (value_one R p q widths k i)
  form_one R p q widths (same_logic {op = op} h k) = λ i. logic op (value_one R p q widths h i) (value_one R p q widths k i)
  form_one R p q widths (same_conditional g h k) = λ i. conditional (value_one R p q widths g i) (value_one R p q widths h i) (value_one R p q widths k i)
  form_one R p q widths (same_call {n = n} h) = λ i. call no_span n (values_one R p q widths h i)
  form_one R p q widths (same_built_in {f = f} h) = λ i. built_in no_span f (values_one R p q widths h i)

  place_one : (R : Pairing) (p q : PlainProgram) → HasWidths R p q → {a b : PlainPlace} → SamePlace R a b → erased_place p a ≡ erased_place q b
  place_one R p q widths (same_place t f) = λ i. place no_place (type_same R p q widths t i) (place_form_one R p q widths f i)

  place_form_one : (R : Pairing) (p q : PlainProgram) → HasWidths R p q → {a b : PlainPlaceForm} → SamePlaceForm R a b → erased_place_form p a ≡ erased_place_form q b
  place_form_one R p q widths same_variable = refl
  place_form_one R p q widths same_global = refl
  place_form_one R p q widths same_literal = refl
  place_form_one R p q widths (same_index h k) = λ i. index (value_one R p q widths h i) (value_one R p q widths k i)
  place_form_one R p q widths (same_member {m = m} h) = λ i. member (place_one R p q widths h i) m
  place_form_one R p q widths (same_dereference h) = λ i. dereference (value_one R p q widths h i)

  argument_one : (R : Pairing) (p q : PlainProgram) → HasWidths R p q → {a b : PlainValue} → SameArgument R a b → erased_value p a ≡ erased_value q b
  argument_one R p q widths (same_as_value h) = value_one R p q widths h
  argument_one R p q widths (same_as_parameter t f) = λ i. value no_place (parameter_type_same (passing R) p q t i) (form_one R p q widths f i)

  values_one : (R : Pairing) (p q : PlainProgram) → HasWidths R p q → {a b : PlainValues} → SameArguments R a b → erased_values p a ≡ erased_values q b
  values_one R p q widths same_no_arguments = refl
  values_one R p q widths (same_more_arguments h k) = λ i. more_values (argument_one R p q widths h i) (values_one R p q widths k i)

maybe_one : (R : Pairing) (p q : PlainProgram) → HasWidths R p q → {a b : Option PlainValue} → SameMaybe R a b → option_map (erased_value p) a ≡ option_map (erased_value q) b
maybe_one R p q widths same_none = refl
maybe_one R p q widths (same_some h) = λ i. Some (value_one R p q widths h i)

written_one : (R : Pairing) (p q : PlainProgram) → HasWidths R p q → {a b : PlainWritten} → SameWritten R a b → erased_written p a ≡ erased_written q b
written_one R p q widths (same_scalar h) = λ i. one_scalar (value_one R p q widths h i)
written_one R p q widths same_text = refl

items_one : (R : Pairing) (p q : PlainProgram) → HasWidths R p q → {a b : List PlainItem} → SameItems R a b → map (erased_item p) a ≡ map (erased_item q) b
items_one R p q widths same_no_items = refl
items_one R p q widths (same_more_items {n = n} h k) = λ i. record { scalar = n; written = written_one R p q widths h i } ∷ items_one R p q widths k i

initializer_one : (R : Pairing) (p q : PlainProgram) → HasWidths R p q → {a b : PlainInitializer} → SameInitializer R a b → erased_initializer p a ≡ erased_initializer q b
initializer_one R p q widths same_not_initialized = refl
initializer_one R p q widths (same_single h) = λ i. single (value_one R p q widths h i)
initializer_one R p q widths (same_copied h) = λ i. copied (place_one R p q widths h i)
initializer_one R p q widths (same_listed h) = λ i. listed no_place (items_one R p q widths h i)

mutual
  statement_one : (R : Pairing) (p q : PlainProgram) → HasWidths R p q → {a b : PlainStatement} → SameStatement R a b → erased_statement p a ≡ erased_statement q b
  statement_one R p q widths (same_statement f) = λ i. statement no_place (statement_form_one R p q widths f i)

  statement_form_one : (R : Pairing) (p q : PlainProgram) → HasWidths R p q → {a b : PlainStatementForm} → SameStatementForm R a b → erased_statement_form p a ≡ erased_statement_form q b
  statement_form_one R p q widths (same_set h k) = λ i. set (place_one R p q widths h i) (value_one R p q widths k i)
  statement_form_one R p q widths (same_update {kind = kind} {op = op} t h k) = λ i. update kind op (type_same R p q widths t i) (place_one R p q widths h i) (value_one R p q widths k i)
  statement_form_one R p q widths (same_copy h k) = λ i. copy (place_one R p q widths h i) (place_one R p q widths k i)
  statement_form_one R p q widths (same_evaluate h) = λ i. evaluate (value_one R p q widths h i)
  statement_form_one R p q widths (same_asserts h) = λ i. asserts no_place (argument_one R p q widths h i)
  statement_form_one R p q widths (same_declare {n = n} h) = λ i. declare n (initializer_one R p q widths h i)
  statement_form_one R p q widths same_declare_static = refl
  statement_form_one R p q widths (same_block h) = λ i. block (statements_one R p q widths h i)
  statement_form_one R p q widths (same_if_then h k) = λ i. if_then (value_one R p q widths h i) (statement_one R p q widths k i)
  statement_form_one R p q widths (same_if_else g h k) = λ i. if_else (value_one R p q widths g i) (statement_one R p q widths h i) (statement_one R p q widths k i)
  statement_form_one R p q widths (same_loop {n = n} {keyword = keyword} first test third body) = λ i. loop (record { number = n; keyword = keyword; span = no_span }) (statements_one R p q widths first i) (maybe_one R p q widths test i) (statements_one R p q widths third i) (statement_one R p q widths body i)
  statement_form_one R p q widths (same_switch {labels = labels} h k) = λ i. switch no_span (value_one R p q widths h i) labels (statement_one R p q widths k i)
  statement_form_one R p q widths same_break = refl
  statement_form_one R p q widths same_continue = refl
  statement_form_one R p q widths (same_return h) = λ i. return no_span (maybe_one R p q widths h i)
  statement_form_one R p q widths same_empty = refl
  statement_form_one R p q widths same_mark = refl

  pub statements_one : (R : Pairing) (p q : PlainProgram) → HasWidths R p q → {a b : PlainStatements} → SameStatements R a b → erased_statements p a ≡ erased_statements q b
  statements_one R p q widths same_no_statements = refl
  statements_one R p q widths (same_more_statements h k) = λ i. more_statements (statement_one R p q widths h i) (statements_one R p q widths k i)

variables_one : (R : Pairing) (p q : PlainProgram) → HasWidths R p q → {a b : List PlainVariable} → SameVariables R a b → map (erased_variable p) a ≡ map (erased_variable q) b
variables_one R p q widths same_no_variables = refl
variables_one R p q widths (same_more_variables {name = name} {bytes = bytes} {frame = frame} h k) = λ i. record { name = name; type = type_same R p q widths h i; bytes = bytes; frame = frame; span = no_span } ∷ variables_one R p q widths k i

pub renamed_have_one_view : RenamedHaveOneView
renamed_have_one_view R p q widths n f g same task = λ i. record {
  function = record {
    name = same.name i;
    span = no_span;
    static = same.static i;
    parameters = same.parameters i;
    result = type_same R p q widths same.result i;
    variables = variables_one R p q widths same.variables i;
    body = statements_one R p q widths same.body i;
  };
  task = task i;
}
