-- What a walk over trees keeps of each form.
use Rattle.std.specs.Prelude.{ℕ, List, [], ◌∷◌, Option, Some, None, slice_get}
use Rattle.p10_core.specs.declared.statements.LoopKeyword.{LoopKeyword}
use Rattle.p10_core.specs.declared.statements.LoopKeyword.TheVariants.{While, Do, For}
use Rattle.p10_core.specs.Typed.{PlainValue, value, PlainForm, constant, read, sense, address, decay, convert, cast, unary, binary, logic, conditional, call, built_in, PlainPlace, place, place_type, PlainPlaceForm, variable, global, literal, index, member, dereference, PlainValues, no_values, more_values}
use Rattle.p10_core.specs.Typed.{PlainWritten, one_scalar, scalars_of_text, PlainItem, PlainInitializer, not_initialized, single, copied, listed, PlainStatement, statement, PlainStatementForm, set, update, copy, evaluate, asserts, declare, declare_static, block, if_then, if_else, loop, switch, break, continue, return, empty, mark, PlainStatements, no_statements, more_statements, PlainVariable}
use Rattle.p10_sums.specs.declared.tally.Tally.{Tally}
use Rattle.p10_sums.specs.Counting.{Counting, turns_claimed}
use Rattle.p10_sums.specs.Costs.{variable_width}
use Rattle.p10_sums.specs.private.Tallies.{no_tally, some_steps, in_turn, one_of, as_often, of_callee, of_library, of_width}

-- a step and what it pays for
abbrev pub paying : Tally → Tally
paying a = in_turn (some_steps 1) a

-- ## Values and places

abbrev mutual
  pub value_tally : Counting → PlainValue → Tally
  value_tally c (value at t form) = form_tally c form

  pub form_tally : Counting → PlainForm → Tally
  form_tally c (constant z) = some_steps 1
  form_tally c (read p) = paying (place_tally c p)
  form_tally c (sense n) = some_steps 1
  form_tally c (address p) = paying (place_tally c p)
  form_tally c (decay p) = paying (place_tally c p)
  form_tally c (convert v) = value_tally c v
  form_tally c (cast v) = paying (value_tally c v)
  form_tally c (unary op v) = paying (value_tally c v)
  form_tally c (binary op a b) = paying (in_turn (value_tally c a) (value_tally c b))
  form_tally c (logic op a b) = paying (in_turn (value_tally c a) (value_tally c b))
  form_tally c (conditional v a b) = paying (in_turn (value_tally c v) (one_of (value_tally c a) (value_tally c b)))
  form_tally c (call name f arguments) = paying (in_turn (values_tally c arguments) (of_callee (slice_get c.functions f)))
  form_tally c (built_in name function arguments) = in_turn (of_library function) (values_tally c arguments)

  pub place_tally : Counting → PlainPlace → Tally
  place_tally c (place at t form) = place_form_tally c form

  pub place_form_tally : Counting → PlainPlaceForm → Tally
  place_form_tally c (variable n) = no_tally
  place_form_tally c (global n) = no_tally
  place_form_tally c (literal n bytes) = no_tally
  place_form_tally c (index a i) = paying (in_turn (value_tally c a) (value_tally c i))
  place_form_tally c (member p m) = paying (place_tally c p)
  place_form_tally c (dereference v) = paying (value_tally c v)

  pub values_tally : Counting → PlainValues → Tally
  values_tally c no_values = no_tally
  values_tally c (more_values v vs) = in_turn (value_tally c v) (values_tally c vs)

-- ## Initialisers

abbrev pub written_tally : Counting → PlainWritten → Tally
written_tally c (one_scalar v) = value_tally c v
written_tally c (scalars_of_text bytes) = no_tally

abbrev pub items_tally : Counting → List PlainItem → Tally
items_tally c [] = no_tally
items_tally c (item ∷ items) = in_turn (written_tally c item.written) (items_tally c items)

abbrev pub variable_tally : Counting → Option PlainVariable → Tally
variable_tally c v = some_steps (variable_width c v)

abbrev pub initializer_tally : Counting → Tally → PlainInitializer → Tally
initializer_tally c scalars not_initialized = no_tally
initializer_tally c scalars (single v) = value_tally c v
initializer_tally c scalars (copied p) = paying (in_turn (place_tally c p) scalars)
initializer_tally c scalars (listed at items) = in_turn (items_tally c items) scalars

-- ## Statements

abbrev pub test_tally : Counting → Option PlainValue → Tally
test_tally c None = some_steps 1
test_tally c (Some v) = value_tally c v

unfoldable pub loop_tally : LoopKeyword → ℕ → Tally → Tally → Tally → Tally → Tally
loop_tally While turns first test third body = paying (in_turn first (in_turn (in_turn test (as_often turns test)) (as_often turns (in_turn body third))))
loop_tally For turns first test third body = paying (in_turn first (in_turn (in_turn test (as_often turns test)) (as_often turns (in_turn body third))))
loop_tally Do turns first test third body = paying (in_turn first (as_often turns (in_turn body (in_turn third test))))

abbrev pub return_tally : Counting → Option PlainValue → Tally
return_tally c None = some_steps 1
return_tally c (Some v) = paying (value_tally c v)

abbrev mutual
  pub statement_tally : Counting → PlainStatement → Tally
  statement_tally c (statement at form) = statement_form_tally c form

  pub statement_form_tally : Counting → PlainStatementForm → Tally
  statement_form_tally c (set p v) = paying (in_turn (place_tally c p) (value_tally c v))
  statement_form_tally c (update kind op t p v) = paying (in_turn (place_tally c p) (paying (in_turn (value_tally c v) (some_steps 1))))
  statement_form_tally c (copy p q) = paying (in_turn (place_tally c p) (in_turn (place_tally c q) (of_width c (place_type p))))
  statement_form_tally c (evaluate v) = paying (value_tally c v)
  statement_form_tally c (asserts at v) = paying (value_tally c v)
  statement_form_tally c (declare n initializer) = paying (initializer_tally c (variable_tally c (slice_get c.variables n)) initializer)
  statement_form_tally c (declare_static n) = no_tally
  statement_form_tally c (block ss) = statements_tally c ss
  statement_form_tally c (if_then v s) = paying (in_turn (value_tally c v) (statement_tally c s))
  statement_form_tally c (if_else v s t) = paying (in_turn (value_tally c v) (one_of (statement_tally c s) (statement_tally c t)))
  statement_form_tally c (loop head first test third body) =
      loop_tally head.keyword (turns_claimed (slice_get c.loops head.number)) (statements_tally c first) (test_tally c test) (statements_tally c third) (statement_tally c body)
  statement_form_tally c (switch span v labels body) = paying (in_turn (value_tally c v) (statement_tally c body))
  statement_form_tally c break = some_steps 1
  statement_form_tally c continue = some_steps 1
  statement_form_tally c (return span v) = return_tally c v
  statement_form_tally c empty = some_steps 1
  statement_form_tally c (mark kind) = no_tally

  pub statements_tally : Counting → PlainStatements → Tally
  statements_tally c no_statements = no_tally
  statements_tally c (more_statements s rest) = in_turn (statement_tally c s) (statements_tally c rest)
