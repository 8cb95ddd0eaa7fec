-- Where objects are named in typed programs: every naming of an object is a use of it ("The Power of Ten", rule 6).
use Rattle.std.specs.Prelude.{ℕ, ◌+◌, Bool, true, false, ◌||◌, ◌==◌, if◌then◌else◌, List, [], ◌∷◌, ◌++◌, Option, Some, None, slice_get}
use Rattle.std.specs.List.{flat_map}
use Rattle.p10_core.specs.declared.typed.Library.{Library}
use Rattle.p10_core.specs.declared.typed.Library.TheVariants.{Assert, CAssert}
use Rattle.p10_core.specs.declared.statements.LoopKeyword.{LoopKeyword}
use Rattle.p10_core.specs.declared.statements.LoopKeyword.TheVariants.{While, Do, For}
use Rattle.p10_core.specs.Typed.{PlainValue, value, PlainForm, constant, read, sense, address, decay, convert, cast, unary, binary, logic, conditional, call, built_in, PlainPlace, place, PlainPlaceForm, variable, global, literal, index, member, dereference, PlainValues, no_values, more_values}
use Rattle.p10_core.specs.Typed.{PlainWritten, one_scalar, scalars_of_text, PlainItem, PlainInitializer, not_initialized, single, copied, listed, PlainStatement, statement, PlainStatementForm, set, update, copy, evaluate, asserts, declare, declare_static, block, if_then, if_else, loop, switch, break, continue, return, empty, mark, PlainStatements, no_statements, more_statements}
use Rattle.p10_core.specs.Typed.{PlainFunction, PlainObject, PlainProgram}
use Rattle.p10_userules.specs.declared.occurrences.Referent.{Referent}
use Rattle.p10_userules.specs.declared.occurrences.Referent.TheVariants.{Variable, Object}
use Rattle.p10_userules.specs.declared.occurrences.Occurrence.{Occurrence}

-- ## Values and places

-- an occurrence of what is named, where an assertion or an `if` condition stands round it or doesn't
abbrev pub occurrence : Bool → Referent → List Occurrence
occurrence checked referent = record { referent = referent; checked = checked } ∷ []

-- whether a call of a library function is an assertion (C99 7.2.1; the macro of rule 5)
abbrev pub is_assertion : Library → Bool
is_assertion Assert = true
is_assertion CAssert = true
is_assertion function = false

abbrev mutual
  -- the occurrences in a value, in text order; the first argument says whether an assertion or an `if` condition stands round
  pub occurrences_in_value : Bool → PlainValue → List Occurrence
  occurrences_in_value checked (value at t f) = occurrences_in_form checked f

  -- the same for a form of value; the operand of an assertion is checked
  pub occurrences_in_form : Bool → PlainForm → List Occurrence
  occurrences_in_form checked (constant z) = []
  occurrences_in_form checked (read p) = occurrences_in_place checked p
  occurrences_in_form checked (sense n) = occurrence checked (Object n)
  occurrences_in_form checked (address p) = occurrences_in_place checked p
  occurrences_in_form checked (decay p) = occurrences_in_place checked p
  occurrences_in_form checked (convert v) = occurrences_in_value checked v
  occurrences_in_form checked (cast v) = occurrences_in_value checked v
  occurrences_in_form checked (unary op v) = occurrences_in_value checked v
  occurrences_in_form checked (binary op a b) = occurrences_in_value checked a ++ occurrences_in_value checked b
  occurrences_in_form checked (logic op a b) = occurrences_in_value checked a ++ occurrences_in_value checked b
  occurrences_in_form checked (conditional v a b) = occurrences_in_value checked v ++ (occurrences_in_value checked a ++ occurrences_in_value checked b)
  occurrences_in_form checked (call span n arguments) = occurrences_in_values checked arguments
  occurrences_in_form checked (built_in span function arguments) = occurrences_in_values (checked || is_assertion function) arguments

  -- the same for a place
  pub occurrences_in_place : Bool → PlainPlace → List Occurrence
  occurrences_in_place checked (place at t f) = occurrences_in_place_form checked f

  -- the same for a form of place
  pub occurrences_in_place_form : Bool → PlainPlaceForm → List Occurrence
  occurrences_in_place_form checked (variable n) = occurrence checked (Variable n)
  occurrences_in_place_form checked (global n) = occurrence checked (Object n)
  occurrences_in_place_form checked (literal n bytes) = []
  occurrences_in_place_form checked (index a i) = occurrences_in_value checked a ++ occurrences_in_value checked i
  occurrences_in_place_form checked (member p m) = occurrences_in_place checked p
  occurrences_in_place_form checked (dereference v) = occurrences_in_value checked v

  -- the same for values, one after the other
  pub occurrences_in_values : Bool → PlainValues → List Occurrence
  occurrences_in_values checked no_values = []
  occurrences_in_values checked (more_values v vs) = occurrences_in_value checked v ++ occurrences_in_values checked vs

-- the same for a value that may be lacking, with nothing round it that checks
abbrev pub occurrences_in_maybe : Option PlainValue → List Occurrence
occurrences_in_maybe None = []
occurrences_in_maybe (Some v) = occurrences_in_value false v

-- ## Initialisers

-- the occurrences in what is written for scalars
abbrev pub occurrences_in_written : PlainWritten → List Occurrence
occurrences_in_written (one_scalar v) = occurrences_in_value false v
occurrences_in_written (scalars_of_text bytes) = []

-- the occurrences in the items of a list
abbrev pub occurrences_in_items : List PlainItem → List Occurrence
occurrences_in_items [] = []
occurrences_in_items (i ∷ rest) = occurrences_in_written i.written ++ occurrences_in_items rest

-- the occurrences in an initialiser (C99 6.7.8)
abbrev pub occurrences_in_initializer : PlainInitializer → List Occurrence
occurrences_in_initializer not_initialized = []
occurrences_in_initializer (single v) = occurrences_in_value false v
occurrences_in_initializer (copied p) = occurrences_in_place false p
occurrences_in_initializer (listed at items) = occurrences_in_items items

-- the occurrences in the initialiser of an object that is declared in a block, if it is there
abbrev pub occurrences_at_object : Option PlainObject → List Occurrence
occurrences_at_object None = []
occurrences_at_object (Some o) = occurrences_in_initializer o.initializer

-- ## Statements

-- the parts of a loop in text order: the test of `do` stands after its body, and the third clause of `for` before it (C99 6.8.5)
abbrev pub in_text_order : LoopKeyword → List Occurrence → List Occurrence → List Occurrence → List Occurrence → List Occurrence
in_text_order While first test third body = first ++ (test ++ (third ++ body))
in_text_order For first test third body = first ++ (test ++ (third ++ body))
in_text_order Do first test third body = first ++ (body ++ (test ++ third))

abbrev mutual
  -- the occurrences in a statement, in text order, in a program with these objects: a declaration is none of what it
  -- declares, and the initialiser of an object of static lifetime stands where a block declares the object
  pub occurrences_in_statement : List PlainObject → PlainStatement → List Occurrence
  occurrences_in_statement objects (statement at f) = occurrences_in_statement_form objects f

  -- the same for a form of statement
  pub occurrences_in_statement_form : List PlainObject → PlainStatementForm → List Occurrence
  occurrences_in_statement_form objects (set p v) = occurrences_in_place false p ++ occurrences_in_value false v
  occurrences_in_statement_form objects (update kind op t p v) = occurrences_in_place false p ++ occurrences_in_value false v
  occurrences_in_statement_form objects (copy p q) = occurrences_in_place false p ++ occurrences_in_place false q
  occurrences_in_statement_form objects (evaluate v) = occurrences_in_value false v
  occurrences_in_statement_form objects (asserts at v) = occurrences_in_value true v
  occurrences_in_statement_form objects (declare n i) = occurrences_in_initializer i
  occurrences_in_statement_form objects (declare_static n) = occurrences_at_object (slice_get objects n)
  occurrences_in_statement_form objects (block ss) = occurrences_in_statements objects ss
  occurrences_in_statement_form objects (if_then v s) = occurrences_in_value true v ++ occurrences_in_statement objects s
  occurrences_in_statement_form objects (if_else v s t) =
      occurrences_in_value true v ++ (occurrences_in_statement objects s ++ occurrences_in_statement objects t)
  occurrences_in_statement_form objects (loop head first test third body) =
      in_text_order head.keyword (occurrences_in_statements objects first) (occurrences_in_maybe test) (occurrences_in_statements objects third) (occurrences_in_statement objects body)
  occurrences_in_statement_form objects (switch span v labels body) = occurrences_in_value false v ++ occurrences_in_statement objects body
  occurrences_in_statement_form objects break = []
  occurrences_in_statement_form objects continue = []
  occurrences_in_statement_form objects (return span v) = occurrences_in_maybe v
  occurrences_in_statement_form objects empty = []
  occurrences_in_statement_form objects (mark kind) = []

  -- the same for statements, one after the other
  pub occurrences_in_statements : List PlainObject → PlainStatements → List Occurrence
  occurrences_in_statements objects no_statements = []
  occurrences_in_statements objects (more_statements s rest) = occurrences_in_statement objects s ++ occurrences_in_statements objects rest

-- ## Programs

-- the occurrences in a function of a program
abbrev pub occurrences_in_function : PlainProgram → PlainFunction → List Occurrence
occurrences_in_function p f = occurrences_in_statements p.objects f.body

-- what stands in an initialiser, where its object is declared in no function
abbrev pub unless_owned : Option ℕ → List Occurrence → List Occurrence
unless_owned None os = os
unless_owned (Some owner) os = []

-- the occurrences in the initialiser of an object of file scope, which stand outside all functions
abbrev pub occurrences_outside : PlainObject → List Occurrence
occurrences_outside o = unless_owned o.owner (occurrences_in_initializer o.initializer)

-- all occurrences in a program: those in its functions, and then those in the initialisers at file scope
abbrev pub occurrences_in_program : PlainProgram → List Occurrence
occurrences_in_program p = flat_map (occurrences_in_function p) p.functions ++ flat_map occurrences_outside p.objects

-- ## Counting

-- whether two namings name the same
abbrev pub is_same_referent : Referent → Referent → Bool
is_same_referent (Variable n) (Variable m) = n == m
is_same_referent (Object n) (Object m) = n == m
is_same_referent a b = false

-- how often something is named
abbrev pub times : Referent → List Occurrence → ℕ
times x [] = 0
times x (o ∷ rest) = (if is_same_referent x o.referent then 1 else 0) + times x rest

-- whether the first occurrence of something is checked, if there is one
abbrev pub first_checked : Referent → List Occurrence → Option Bool
first_checked x [] = None
first_checked x (o ∷ rest) = if is_same_referent x o.referent then Some o.checked else first_checked x rest
