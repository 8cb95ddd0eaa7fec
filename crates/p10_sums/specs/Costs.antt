-- The most steps that trees cost (docs/meaning.md, the table of steps): callees cost what is claimed of them, and loops make the
-- turns that are claimed of them.
use Rattle.std.specs.Prelude.{ℕ, ◌+◌, ◌*◌, max, List, [], ◌∷◌, Option, Some, None, slice_get, take}
use Rattle.p10_core.specs.declared.statements.LoopKeyword.{LoopKeyword}
use Rattle.p10_core.specs.declared.statements.LoopKeyword.TheVariants.{While, Do, For}
use Rattle.p10_core.specs.Typed.{PlainValue, value, PlainForm, constant, read, sense, address, decay, convert, cast, unary, binary, logic, conditional, call, built_in, PlainPlace, place, place_type, PlainPlaceForm, variable, global, literal, index, member, dereference, PlainValues, no_values, more_values}
use Rattle.p10_core.specs.Typed.{PlainWritten, one_scalar, scalars_of_text, PlainItem, PlainInitializer, not_initialized, single, copied, listed, PlainStatement, statement, PlainStatementForm, set, update, copy, evaluate, asserts, declare, declare_static, block, if_then, if_else, loop, switch, break, continue, return, empty, mark, PlainStatements, no_statements, more_statements, statements_list, statements_of_list, PlainVariable, PlainFunction}
use Rattle.p10_meaning.specs.Values.{width}
use Rattle.p10_meaning.specs.Runs.{Task, task_in}
use Rattle.p10_sums.specs.Counting.{Counting, steps_claimed, turns_claimed}

-- ## Values and places

abbrev mutual
  -- the steps of a value
  pub value_cost : Counting → PlainValue → ℕ
  value_cost c (value at t form) = form_cost c form

  -- the steps of a form of value: 1 and those of its parts, of which `&&` and `||` count both and `?:` the larger branch
  pub form_cost : Counting → PlainForm → ℕ
  form_cost c (constant z) = 1
  form_cost c (read p) = 1 + place_cost c p
  form_cost c (sense n) = 1
  form_cost c (address p) = 1 + place_cost c p
  form_cost c (decay p) = 1 + place_cost c p
  -- a conversion that isn't written costs nothing
  form_cost c (convert v) = value_cost c v
  form_cost c (cast v) = 1 + value_cost c v
  form_cost c (unary op v) = 1 + value_cost c v
  form_cost c (binary op a b) = 1 + (value_cost c a + value_cost c b)
  form_cost c (logic op a b) = 1 + (value_cost c a + value_cost c b)
  form_cost c (conditional v a b) = 1 + (value_cost c v + max (value_cost c a) (value_cost c b))
  -- a callee costs what is claimed of it
  form_cost c (call name f arguments) = 1 + (values_cost c arguments + steps_claimed (slice_get c.functions f))
  form_cost c (built_in name function arguments) = 1 + values_cost c arguments

  -- the steps of a place
  pub place_cost : Counting → PlainPlace → ℕ
  place_cost c (place at t form) = place_form_cost c form

  -- the steps of a form of place: 1 and those of its parts; a name and a string literal cost nothing
  pub place_form_cost : Counting → PlainPlaceForm → ℕ
  place_form_cost c (variable n) = 0
  place_form_cost c (global n) = 0
  place_form_cost c (literal n bytes) = 0
  place_form_cost c (index a i) = 1 + (value_cost c a + value_cost c i)
  place_form_cost c (member p m) = 1 + place_cost c p
  place_form_cost c (dereference v) = 1 + value_cost c v

  -- the steps of arguments
  pub values_cost : Counting → PlainValues → ℕ
  values_cost c no_values = 0
  values_cost c (more_values v vs) = value_cost c v + values_cost c vs

-- ## Initialisers

-- the steps of what is written for scalars: a text has no value
abbrev pub written_cost : Counting → PlainWritten → ℕ
written_cost c (one_scalar v) = value_cost c v
written_cost c (scalars_of_text bytes) = 0

-- the steps of listed values
abbrev pub items_cost : Counting → List PlainItem → ℕ
items_cost c [] = 0
items_cost c (item ∷ items) = written_cost c item.written + items_cost c items

-- how many scalars a variable has
abbrev pub variable_width : Counting → Option PlainVariable → ℕ
variable_width c None = 0
variable_width c (Some v) = width c.program v.type

-- the steps of an initialiser of a variable of `scalars` scalars: those of a value; of a copied structure 1, its place, and 1 a
-- scalar; those of listed values, and 1 for each scalar of the variable
abbrev pub initializer_cost : Counting → ℕ → PlainInitializer → ℕ
initializer_cost c scalars not_initialized = 0
initializer_cost c scalars (single v) = value_cost c v
initializer_cost c scalars (copied p) = 1 + (place_cost c p + scalars)
initializer_cost c scalars (listed at items) = items_cost c items + scalars

-- ## Statements

-- the steps of a loop's test: 1 where a `for` has none
abbrev pub test_cost : Counting → Option PlainValue → ℕ
test_cost c None = 1
test_cost c (Some v) = value_cost c v

-- the steps of a loop by its turns and the steps of its first clause, its test, its third clause and its body: `while` and
-- `for` test once more than they turn, `do` as often
abbrev pub loop_cost : LoopKeyword → ℕ → ℕ → ℕ → ℕ → ℕ → ℕ
loop_cost While turns first test third body = 1 + (first + ((turns + 1) * test + turns * (body + third)))
loop_cost For turns first test third body = 1 + (first + ((turns + 1) * test + turns * (body + third)))
loop_cost Do turns first test third body = 1 + (first + turns * (body + (third + test)))

-- the steps of `return`
abbrev pub return_cost : Counting → Option PlainValue → ℕ
return_cost c None = 1
return_cost c (Some v) = 1 + value_cost c v

abbrev mutual
  -- the steps of a statement
  pub statement_cost : Counting → PlainStatement → ℕ
  statement_cost c (statement at form) = statement_form_cost c form

  -- the steps of a form of statement: an `if` counts the larger branch, and a `switch` all its statements
  pub statement_form_cost : Counting → PlainStatementForm → ℕ
  statement_form_cost c (set p v) = 1 + (place_cost c p + value_cost c v)
  -- 1 for the statement, 1 for the read and 1 for the operator
  statement_form_cost c (update kind op t p v) = 1 + (place_cost c p + (1 + (value_cost c v + 1)))
  statement_form_cost c (copy p q) = 1 + (place_cost c p + (place_cost c q + width c.program (place_type p)))
  statement_form_cost c (evaluate v) = 1 + value_cost c v
  statement_form_cost c (asserts at v) = 1 + value_cost c v
  statement_form_cost c (declare n initializer) = 1 + initializer_cost c (variable_width c (slice_get c.variables n)) initializer
  statement_form_cost c (declare_static n) = 0
  statement_form_cost c (block ss) = statements_cost c ss
  statement_form_cost c (if_then v s) = 1 + (value_cost c v + statement_cost c s)
  statement_form_cost c (if_else v s t) = 1 + (value_cost c v + max (statement_cost c s) (statement_cost c t))
  statement_form_cost c (loop head first test third body) =
      loop_cost head.keyword (turns_claimed (slice_get c.loops head.number)) (statements_cost c first) (test_cost c test) (statements_cost c third) (statement_cost c body)
  statement_form_cost c (switch span v labels body) = 1 + (value_cost c v + statement_cost c body)
  statement_form_cost c break = 1
  statement_form_cost c continue = 1
  statement_form_cost c (return span v) = return_cost c v
  statement_form_cost c empty = 1
  statement_form_cost c (mark kind) = 0

  -- the steps of statements, one after the other
  pub statements_cost : Counting → PlainStatements → ℕ
  statements_cost c no_statements = 0
  statements_cost c (more_statements s rest) = statement_cost c s + statements_cost c rest

-- ## Functions

-- the steps of a call of a function: its entry, and its body. With the task loop it ends with the statement step of that loop
abbrev pub cost_of : Counting → Option ℕ → PlainFunction → ℕ
cost_of c None f = 1 + statements_cost c f.body
cost_of c (Some i) f = 1 + (statements_cost c (statements_of_list (take i (statements_list f.body))) + 1)

-- the steps of the task loop's test in a turn: where there is none, nothing is in its place
abbrev pub task_test_cost : Counting → Option PlainValue → ℕ
task_test_cost c None = 0
task_test_cost c (Some v) = value_cost c v

-- the steps of a turn of a task loop: its test and its body
abbrev pub task_cost : Counting → Option Task → ℕ
task_cost c None = 0
task_cost c (Some task) = task_test_cost c task.tested + statement_cost c task.body

-- the steps of a turn of a function's task loop; 0 where it has none
abbrev pub turn_cost : Counting → Option ℕ → PlainFunction → ℕ
turn_cost c None f = 0
turn_cost c (Some i) f = task_cost c (task_in (slice_get (statements_list f.body) i))
