-- What trees cost is the same where claims are the same but for loops.
use Rattle.std.proofs.Common.{◌≡◌, ℕ, ◌+◌, ◌*◌, List, [], ◌∷◌, Option, Some, None, refl}
use Rattle.std.specs.Prelude.{max, slice_get}
use Rattle.p10_core.specs.Typed.{PlainValue, value, PlainForm, constant, read, sense, address, decay, convert, cast, unary, binary, logic, conditional, call, built_in, PlainPlace, place, PlainPlaceForm, variable, global, literal, index, member, dereference, PlainValues, no_values, more_values, place_type, PlainItem, PlainWritten, one_scalar, scalars_of_text, PlainInitializer, not_initialized, single, copied, listed, PlainStatement, statement, PlainStatementForm, set, update, copy, evaluate, asserts, declare, declare_static, block, if_then, if_else, loop, switch, break, continue, return, empty, mark, PlainStatements, no_statements, more_statements, PlainVariable, PlainProgram}
use Rattle.p10_meaning.specs.Values.{width}
use Rattle.p10_cert.specs.Claims.{Loop, Func}
use Rattle.p10_sums.specs.Counting.{Counting, turns_claimed}
use Rattle.p10_sums.specs.Costs.{value_cost, form_cost, place_cost, place_form_cost, values_cost, written_cost, items_cost, variable_width, initializer_cost, test_cost, loop_cost, return_cost, statement_cost, statement_form_cost, statements_cost}
use Rattle.p10_loopless.proofs.Faces.{AreAlike, same_steps}

-- two ways of counting, which differ in the loops of other functions alone
pub record Twin : Type 0 where
  pub program : PlainProgram
  pub variables : List PlainVariable
  pub these : List Func
  pub others : List Func
  pub alike : AreAlike these others
  pub loops : List Loop

abbrev pub first_of : Twin → Counting
first_of t = record { program = t.program; variables = t.variables; functions = t.these; loops = t.loops }

abbrev pub second_of : Twin → Counting
second_of t = record { program = t.program; variables = t.variables; functions = t.others; loops = t.loops }

-- ---- values and places

mutual
  pub same_value : (t : Twin) (v : PlainValue) → value_cost (first_of t) v ≡ value_cost (second_of t) v
  same_value t (value at type form) = same_form t form

  same_form : (t : Twin) (form : PlainForm) → form_cost (first_of t) form ≡ form_cost (second_of t) form
  same_form t (constant z) = refl
  same_form t (read p) = λ i. 1 + same_place t p i
  same_form t (sense n) = refl
  same_form t (address p) = λ i. 1 + same_place t p i
  same_form t (decay p) = λ i. 1 + same_place t p i
  same_form t (convert v) = same_value t v
  same_form t (cast v) = λ i. 1 + same_value t v i
  same_form t (unary op v) = λ i. 1 + same_value t v i
  same_form t (binary op a b) = λ i. 1 + (same_value t a i + same_value t b i)
  same_form t (logic op a b) = λ i. 1 + (same_value t a i + same_value t b i)
  same_form t (conditional v a b) = λ i. 1 + (same_value t v i + max (same_value t a i) (same_value t b i))
  same_form t (call name f arguments) = λ i. 1 + (same_values t arguments i + same_steps t.these t.others f t.alike i)
  same_form t (built_in name f arguments) = λ i. 1 + same_values t arguments i

  pub same_place : (t : Twin) (p : PlainPlace) → place_cost (first_of t) p ≡ place_cost (second_of t) p
  same_place t (place at type form) = same_place_form t form

  same_place_form : (t : Twin) (form : PlainPlaceForm) → place_form_cost (first_of t) form ≡ place_form_cost (second_of t) form
  same_place_form t (variable n) = refl
  same_place_form t (global n) = refl
  same_place_form t (literal n bytes) = refl
  same_place_form t (index a k) = λ i. 1 + (same_value t a i + same_value t k i)
  same_place_form t (member p m) = λ i. 1 + same_place t p i
  same_place_form t (dereference v) = λ i. 1 + same_value t v i

  same_values : (t : Twin) (vs : PlainValues) → values_cost (first_of t) vs ≡ values_cost (second_of t) vs
  same_values t no_values = refl
  same_values t (more_values v vs) = λ i. same_value t v i + same_values t vs i

-- ---- parts of statements

same_written : (t : Twin) (w : PlainWritten) → written_cost (first_of t) w ≡ written_cost (second_of t) w
same_written t (one_scalar v) = same_value t v
same_written t (scalars_of_text bytes) = refl

same_items : (t : Twin) (items : List PlainItem) → items_cost (first_of t) items ≡ items_cost (second_of t) items
same_items t [] = refl
same_items t (item ∷ items) = λ i. same_written t item.written i + same_items t items i

same_width : (t : Twin) (v : Option PlainVariable) → variable_width (first_of t) v ≡ variable_width (second_of t) v
same_width t None = refl
same_width t (Some v) = refl

same_initializer : (t : Twin) (scalars : ℕ) (init : PlainInitializer) → initializer_cost (first_of t) scalars init ≡ initializer_cost (second_of t) scalars init
same_initializer t scalars not_initialized = refl
same_initializer t scalars (single v) = same_value t v
same_initializer t scalars (copied p) = λ i. 1 + (same_place t p i + scalars)
same_initializer t scalars (listed at items) = λ i. same_items t items i + scalars

same_test : (t : Twin) (v : Option PlainValue) → test_cost (first_of t) v ≡ test_cost (second_of t) v
same_test t None = refl
same_test t (Some v) = same_value t v

same_return : (t : Twin) (v : Option PlainValue) → return_cost (first_of t) v ≡ return_cost (second_of t) v
same_return t None = refl
same_return t (Some v) = λ i. 1 + same_value t v i

-- ---- statements

mutual
  pub same_statement : (t : Twin) (s : PlainStatement) → statement_cost (first_of t) s ≡ statement_cost (second_of t) s
  same_statement t (statement at form) = same_statement_form t form

  same_statement_form : (t : Twin) (form : PlainStatementForm) → statement_form_cost (first_of t) form ≡ statement_form_cost (second_of t) form
  same_statement_form t (set p v) = λ i. 1 + (same_place t p i + same_value t v i)
  same_statement_form t (update kind op type p v) = λ i. 1 + (same_place t p i + (1 + (same_value t v i + 1)))
  same_statement_form t (copy p q) = λ i. 1 + (same_place t p i + (same_place t q i + width t.program (place_type p)))
  same_statement_form t (evaluate v) = λ i. 1 + same_value t v i
  same_statement_form t (asserts at v) = λ i. 1 + same_value t v i
  same_statement_form t (declare n init) = λ i. 1 + same_initializer t (same_width t (slice_get t.variables n) i) init i
  same_statement_form t (declare_static n) = refl
  same_statement_form t (block ss) = same_statements t ss
  same_statement_form t (if_then v s) = λ i. 1 + (same_value t v i + same_statement t s i)
  same_statement_form t (if_else v s u) = λ i. 1 + (same_value t v i + max (same_statement t s i) (same_statement t u i))
  same_statement_form t (loop head first test third body) =
      λ i. loop_cost head.keyword (turns_claimed (slice_get t.loops head.number)) (same_statements t first i) (same_test t test i) (same_statements t third i) (same_statement t body i)
  same_statement_form t (switch span v labels body) = λ i. 1 + (same_value t v i + same_statement t body i)
  same_statement_form t break = refl
  same_statement_form t continue = refl
  same_statement_form t (return span v) = same_return t v
  same_statement_form t empty = refl
  same_statement_form t (mark kind) = refl

  pub same_statements : (t : Twin) (ss : PlainStatements) → statements_cost (first_of t) ss ≡ statements_cost (second_of t) ss
  same_statements t no_statements = refl
  same_statements t (more_statements s rest) = λ i. same_statement t s i + same_statements t rest i
