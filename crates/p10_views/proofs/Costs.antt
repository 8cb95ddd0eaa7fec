-- Erased trees cost the same, in each program.
use Rattle.std.proofs.Common.{◌≡◌, ◌∙◌, ℕ, ◌+◌, List, [], ◌∷◌, map, Option, Some, None, option_map, refl, sym, ap}
use Rattle.std.specs.Prelude.{max, slice_get}
use Rattle.std.proofs.lemmas.Option.{slice_get-map}
use Rattle.p10_core.specs.Typed.{PlainValue, value, PlainForm, constant, read, sense, address, decay, convert, cast, unary, binary, logic, conditional, call, built_in, PlainPlace, place, PlainPlaceForm, variable, global, literal, index, member, dereference, PlainValues, no_values, more_values, place_type}
use Rattle.p10_core.specs.Typed.{PlainWritten, one_scalar, scalars_of_text, PlainItem, PlainInitializer, not_initialized, single, copied, listed, PlainStatement, statement, PlainStatementForm, set, update, copy, evaluate, asserts, declare, declare_static, block, if_then, if_else, loop, switch, break, continue, return, empty, mark, PlainStatements, no_statements, more_statements, PlainVariable, PlainProgram}
use Rattle.p10_core.specs.WholePrograms.{IsObjectType, AreWholeStructures}
use Rattle.p10_meaning.specs.Values.{width}
use Rattle.p10_cert.specs.Claims.{Loop, Func}
use Rattle.p10_sums.specs.Counting.{Counting, steps_claimed, turns_claimed}
use Rattle.p10_sums.specs.Costs.{value_cost, form_cost, place_cost, place_form_cost, values_cost, written_cost, items_cost, variable_width, initializer_cost, test_cost, loop_cost, return_cost, statement_cost, statement_form_cost, statements_cost}
use Rattle.p10_views.specs.Erased.{erased_value, erased_form, erased_place, erased_place_form, erased_values, erased_written, erased_item, erased_initializer, erased_statement, erased_statement_form, erased_statements, erased_variable}
use Rattle.p10_views.specs.Views.{SayTheSame}
use Rattle.p10_views.proofs.Types.{place_type_erased, width_erased}
use Rattle.p10_views.proofs.Copied.{CopiesObjects, FormCopiesObjects, CopyObjects}
use Rattle.p10_views.proofs.Called.{ValueCalls, FormCalls, PlaceCalls, PlaceFormCalls, ValuesCall, MaybeCalls, WrittenCalls, ItemsCall, InitializerCalls, StatementCalls, StatementFormCalls, StatementsCall}

-- two ways of counting: of a function in its program, whose variables are objects, and of its view in any program
pub record Count : Type 0 where
  pub program : PlainProgram
  pub any : PlainProgram
  pub variables : List PlainVariable
  pub these : List Func
  pub others : List Func
  pub loops : List Loop
  pub whole : AreWholeStructures program.structures
  pub objects : (n : ℕ) (v : PlainVariable) → slice_get variables n ≡ Some v → IsObjectType program.structures v.type

abbrev pub first_of : Count → Counting
first_of t = record { program = t.program; variables = t.variables; functions = t.these; loops = t.loops }

abbrev pub second_of : Count → Counting
second_of t = record { program = t.any; variables = map (erased_variable t.program) t.variables; functions = t.others; loops = t.loops }

-- the claims agree on a function
abbrev pub Shared : Count → ℕ → Type 0
Shared t = SayTheSame t.these t.others

-- ---- values and places

mutual
  pub value_same : (t : Count) (v : PlainValue) → ValueCalls (Shared t) v → value_cost (second_of t) (erased_value t.program v) ≡ value_cost (first_of t) v
  value_same t (value at type form) h = form_same t form h

  form_same : (t : Count) (form : PlainForm) → FormCalls (Shared t) form → form_cost (second_of t) (erased_form t.program form) ≡ form_cost (first_of t) form
  form_same t (constant z) h = refl
  form_same t (read q) h = λ i. 1 + place_same t q h i
  form_same t (sense n) h = refl
  form_same t (address q) h = λ i. 1 + place_same t q h i
  form_same t (decay q) h = λ i. 1 + place_same t q h i
  form_same t (convert v) h = value_same t v h
  form_same t (cast v) h = λ i. 1 + value_same t v h i
  form_same t (unary op v) h = λ i. 1 + value_same t v h i
  form_same t (binary op a b) h = λ i. 1 + (value_same t a h.0 i + value_same t b h.1 i)
  form_same t (logic op a b) h = λ i. 1 + (value_same t a h.0 i + value_same t b h.1 i)
  form_same t (conditional v a b) h = λ i. 1 + (value_same t v h.0 i + max (value_same t a h.1 i) (value_same t b h.2 i))
  form_same t (call name n arguments) h = λ i. 1 + (values_same t arguments h.1 i + steps_claimed (sym h.0 i))
  form_same t (built_in name f arguments) h = λ i. 1 + values_same t arguments h i

  pub place_same : (t : Count) (q : PlainPlace) → PlaceCalls (Shared t) q → place_cost (second_of t) (erased_place t.program q) ≡ place_cost (first_of t) q
  place_same t (place at type form) h = place_form_same t form h

  place_form_same : (t : Count) (form : PlainPlaceForm) → PlaceFormCalls (Shared t) form → place_form_cost (second_of t) (erased_place_form t.program form) ≡ place_form_cost (first_of t) form
  place_form_same t (variable n) h = refl
  place_form_same t (global n) h = refl
  place_form_same t (literal n bytes) h = refl
  place_form_same t (index a k) h = λ i. 1 + (value_same t a h.0 i + value_same t k h.1 i)
  place_form_same t (member q m) h = λ i. 1 + place_same t q h i
  place_form_same t (dereference v) h = λ i. 1 + value_same t v h i

  values_same : (t : Count) (vs : PlainValues) → ValuesCall (Shared t) vs → values_cost (second_of t) (erased_values t.program vs) ≡ values_cost (first_of t) vs
  values_same t no_values h = refl
  values_same t (more_values v vs) h = λ i. value_same t v h.0 i + values_same t vs h.1 i

-- ---- parts of statements

written_same : (t : Count) (w : PlainWritten) → WrittenCalls (Shared t) w → written_cost (second_of t) (erased_written t.program w) ≡ written_cost (first_of t) w
written_same t (one_scalar v) h = value_same t v h
written_same t (scalars_of_text bytes) h = refl

items_same : (t : Count) (items : List PlainItem) → ItemsCall (Shared t) items → items_cost (second_of t) (map (erased_item t.program) items) ≡ items_cost (first_of t) items
items_same t [] h = refl
items_same t (item ∷ items) h = λ i. written_same t item.written h.0 i + items_same t items h.1 i

width_same : (t : Count) (n : ℕ) (v : Option PlainVariable) → slice_get t.variables n ≡ v → variable_width (second_of t) (option_map (erased_variable t.program) v) ≡ variable_width (first_of t) v
width_same t n None e = refl
width_same t n (Some v) e = width_erased t.any t.program v.type t.whole (t.objects n v e)

initializer_same : (t : Count) (scalars : ℕ) (init : PlainInitializer) → InitializerCalls (Shared t) init → initializer_cost (second_of t) scalars (erased_initializer t.program init) ≡ initializer_cost (first_of t) scalars init
initializer_same t scalars not_initialized h = refl
initializer_same t scalars (single v) h = value_same t v h
initializer_same t scalars (copied q) h = λ i. 1 + (place_same t q h i + scalars)
initializer_same t scalars (listed at items) h = λ i. items_same t items h i + scalars

pub test_same : (t : Count) (v : Option PlainValue) → MaybeCalls (Shared t) v → test_cost (second_of t) (option_map (erased_value t.program) v) ≡ test_cost (first_of t) v
test_same t None h = refl
test_same t (Some v) h = value_same t v h

return_same : (t : Count) (v : Option PlainValue) → MaybeCalls (Shared t) v → return_cost (second_of t) (option_map (erased_value t.program) v) ≡ return_cost (first_of t) v
return_same t None h = refl
return_same t (Some v) h = λ i. 1 + value_same t v h i

copied_same : (t : Count) (q : PlainPlace) → IsObjectType t.program.structures (place_type q) → width t.any (place_type (erased_place t.program q)) ≡ width t.program (place_type q)
copied_same t q object = ap (width t.any) (place_type_erased t.program q) ∙ width_erased t.any t.program (place_type q) t.whole object

-- ---- statements

mutual
  pub statement_same : (t : Count) (s : PlainStatement) → StatementCalls (Shared t) s → CopiesObjects t.program.structures s → statement_cost (second_of t) (erased_statement t.program s) ≡ statement_cost (first_of t) s
  statement_same t (statement at form) h w = statement_form_same t form h w

  statement_form_same : (t : Count) (form : PlainStatementForm) → StatementFormCalls (Shared t) form → FormCopiesObjects t.program.structures form → statement_form_cost (second_of t) (erased_statement_form t.program form) ≡ statement_form_cost (first_of t) form
  statement_form_same t (set q v) h w = λ i. 1 + (place_same t q h.0 i + value_same t v h.1 i)
  statement_form_same t (update kind op type q v) h w = λ i. 1 + (place_same t q h.0 i + (1 + (value_same t v h.1 i + 1)))
  statement_form_same t (copy q r) h w = λ i. 1 + (place_same t q h.0 i + (place_same t r h.1 i + copied_same t q w i))
  statement_form_same t (evaluate v) h w = λ i. 1 + value_same t v h i
  statement_form_same t (asserts at v) h w = λ i. 1 + value_same t v h i
  statement_form_same t (declare n init) h w =
      λ i. 1 + initializer_same t (((λ k. variable_width (second_of t) (slice_get-map (erased_variable t.program) t.variables n k)) ∙ width_same t n (slice_get t.variables n) refl) i) init h i
  statement_form_same t (declare_static n) h w = refl
  statement_form_same t (block ss) h w = statements_same t ss h w
  statement_form_same t (if_then v s) h w = λ i. 1 + (value_same t v h.0 i + statement_same t s h.1 w i)
  statement_form_same t (if_else v s u) h w = λ i. 1 + (value_same t v h.0 i + max (statement_same t s h.1 w.0 i) (statement_same t u h.2 w.1 i))
  statement_form_same t (loop head first test third body) h w =
      λ i. loop_cost head.keyword (turns_claimed (slice_get t.loops head.number)) (statements_same t first h.0.0 w.0.0 i) (test_same t test h.0.1 i) (statements_same t third h.1.0 w.0.1 i) (statement_same t body h.1.1 w.1 i)
  statement_form_same t (switch span v labels body) h w = λ i. 1 + (value_same t v h.0 i + statement_same t body h.1 w i)
  statement_form_same t break h w = refl
  statement_form_same t continue h w = refl
  statement_form_same t (return span v) h w = return_same t v h
  statement_form_same t empty h w = refl
  statement_form_same t (mark kind) h w = refl

  pub statements_same : (t : Count) (ss : PlainStatements) → StatementsCall (Shared t) ss → CopyObjects t.program.structures ss → statements_cost (second_of t) (erased_statements t.program ss) ≡ statements_cost (first_of t) ss
  statements_same t no_statements h w = refl
  statements_same t (more_statements s rest) h w = λ i. statement_same t s h.0 w.0 i + statements_same t rest h.1 w.1 i
