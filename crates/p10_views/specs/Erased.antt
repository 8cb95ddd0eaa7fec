-- Functions without places, and without the numbers of objects, literals and structures: the conditions of a certificate ask for none of
-- these. Of a type that is no integer, pointer or `void` they ask how many scalars it has, and only where its own structures are complete.
use Rattle.std.specs.Prelude.{ℕ, false, map, length, option_map}
use Rattle.p10_base.specs.declared.span.Span.{Span}
use Rattle.p10_base.specs.declared.at.At.{At}
use Rattle.p10_int.specs.declared.types.IntType.TheVariants.{Char}
use Rattle.p10_core.specs.declared.statements.LoopHead.{LoopHead}
use Rattle.p10_core.specs.Types.{PlainType, void, integer, pointer, array, structure}
use Rattle.p10_core.specs.Sizes.{scalars_of}
use Rattle.p10_core.specs.Typed.{PlainValue, value, PlainForm, constant, read, sense, address, decay, convert, cast, unary, binary, logic, conditional, call, built_in, PlainPlace, place, PlainPlaceForm, variable, global, literal, index, member, dereference, PlainValues, no_values, more_values}
use Rattle.p10_core.specs.Typed.{PlainWritten, one_scalar, scalars_of_text, PlainItem, PlainInitializer, not_initialized, single, copied, listed, PlainStatement, statement, PlainStatementForm, set, update, copy, evaluate, asserts, declare, declare_static, block, if_then, if_else, loop, switch, break, continue, return, empty, mark, PlainStatements, no_statements, more_statements, PlainVariable, PlainFunction, PlainProgram}

-- ## Places

-- what stands for each span
abbrev pub no_span : Span
no_span = record { file = 0; start = 0; end = 0 }

-- what stands for the place of each tree
abbrev pub no_place : At
no_place = record { first = 0; past = 0; span = no_span }

-- ## Types

-- how many scalars a type has by its own structures: one that isn't complete has none, also where it is one with a complete one of another root
abbrev pub own_width : PlainProgram → PlainType → ℕ
own_width p t = length (scalars_of p.structures t)

-- as many scalars as a type has so
abbrev pub scalars_alone : PlainProgram → PlainType → PlainType
scalars_alone p t = array false (integer false Char) (own_width p t)

-- what is asked of a type
abbrev pub erased_type : PlainProgram → PlainType → PlainType
erased_type p (void c) = void c
erased_type p (integer c kind) = integer c kind
erased_type p (pointer c t) = pointer c (void false)
erased_type p (array c t n) = scalars_alone p (array c t n)
erased_type p (structure c n) = scalars_alone p (structure c n)

-- ## Values and places

abbrev mutual
  -- a value
  pub erased_value : PlainProgram → PlainValue → PlainValue
  erased_value p (value at t form) = value no_place (erased_type p t) (erased_form p form)

  -- a form of value
  pub erased_form : PlainProgram → PlainForm → PlainForm
  erased_form p (constant z) = constant z
  erased_form p (read q) = read (erased_place p q)
  erased_form p (sense n) = sense 0
  erased_form p (address q) = address (erased_place p q)
  erased_form p (decay q) = decay (erased_place p q)
  erased_form p (convert v) = convert (erased_value p v)
  erased_form p (cast v) = cast (erased_value p v)
  erased_form p (unary op v) = unary op (erased_value p v)
  erased_form p (binary op a b) = binary op (erased_value p a) (erased_value p b)
  erased_form p (logic op a b) = logic op (erased_value p a) (erased_value p b)
  erased_form p (conditional v a b) = conditional (erased_value p v) (erased_value p a) (erased_value p b)
  erased_form p (call name n arguments) = call no_span n (erased_values p arguments)
  erased_form p (built_in name f arguments) = built_in no_span f (erased_values p arguments)

  -- a place
  pub erased_place : PlainProgram → PlainPlace → PlainPlace
  erased_place p (place at t form) = place no_place (erased_type p t) (erased_place_form p form)

  -- a form of place
  pub erased_place_form : PlainProgram → PlainPlaceForm → PlainPlaceForm
  erased_place_form p (variable n) = variable n
  erased_place_form p (global n) = global 0
  erased_place_form p (literal n bytes) = literal 0 bytes
  erased_place_form p (index a i) = index (erased_value p a) (erased_value p i)
  erased_place_form p (member q m) = member (erased_place p q) m
  erased_place_form p (dereference v) = dereference (erased_value p v)

  -- values in order
  pub erased_values : PlainProgram → PlainValues → PlainValues
  erased_values p no_values = no_values
  erased_values p (more_values v vs) = more_values (erased_value p v) (erased_values p vs)

-- ## Initialisers

-- what is written for scalars
abbrev pub erased_written : PlainProgram → PlainWritten → PlainWritten
erased_written p (one_scalar v) = one_scalar (erased_value p v)
erased_written p (scalars_of_text bytes) = scalars_of_text bytes

-- an item of a list
abbrev pub erased_item : PlainProgram → PlainItem → PlainItem
erased_item p item = record { scalar = item.scalar; written = erased_written p item.written }

-- an initialiser
abbrev pub erased_initializer : PlainProgram → PlainInitializer → PlainInitializer
erased_initializer p not_initialized = not_initialized
erased_initializer p (single v) = single (erased_value p v)
erased_initializer p (copied q) = copied (erased_place p q)
erased_initializer p (listed at items) = listed no_place (map (erased_item p) items)

-- ## Statements

-- what a loop begins with
abbrev pub erased_head : LoopHead → LoopHead
erased_head head = record head { span = no_span }

abbrev mutual
  -- a statement
  pub erased_statement : PlainProgram → PlainStatement → PlainStatement
  erased_statement p (statement at form) = statement no_place (erased_statement_form p form)

  -- a form of statement
  pub erased_statement_form : PlainProgram → PlainStatementForm → PlainStatementForm
  erased_statement_form p (set q v) = set (erased_place p q) (erased_value p v)
  erased_statement_form p (update kind op t q v) = update kind op (erased_type p t) (erased_place p q) (erased_value p v)
  erased_statement_form p (copy q r) = copy (erased_place p q) (erased_place p r)
  erased_statement_form p (evaluate v) = evaluate (erased_value p v)
  erased_statement_form p (asserts at v) = asserts no_place (erased_value p v)
  erased_statement_form p (declare n initializer) = declare n (erased_initializer p initializer)
  erased_statement_form p (declare_static n) = declare_static 0
  erased_statement_form p (block ss) = block (erased_statements p ss)
  erased_statement_form p (if_then v s) = if_then (erased_value p v) (erased_statement p s)
  erased_statement_form p (if_else v s t) = if_else (erased_value p v) (erased_statement p s) (erased_statement p t)
  erased_statement_form p (loop head first test third body) =
      loop (erased_head head) (erased_statements p first) (option_map (erased_value p) test) (erased_statements p third) (erased_statement p body)
  erased_statement_form p (switch keyword v labels body) = switch no_span (erased_value p v) labels (erased_statement p body)
  erased_statement_form p break = break
  erased_statement_form p continue = continue
  erased_statement_form p (return keyword v) = return no_span (option_map (erased_value p) v)
  erased_statement_form p empty = empty
  erased_statement_form p (mark kind) = mark kind

  -- statements in order
  pub erased_statements : PlainProgram → PlainStatements → PlainStatements
  erased_statements p no_statements = no_statements
  erased_statements p (more_statements s rest) = more_statements (erased_statement p s) (erased_statements p rest)

-- ## Functions

-- a variable
abbrev pub erased_variable : PlainProgram → PlainVariable → PlainVariable
erased_variable p v = record v { type = erased_type p v.type; span = no_span }

-- a function
abbrev pub erased_function : PlainProgram → PlainFunction → PlainFunction
erased_function p f = record f {
  span = no_span;
  result = erased_type p f.result;
  variables = map (erased_variable p) f.variables;
  body = erased_statements p f.body;
}
