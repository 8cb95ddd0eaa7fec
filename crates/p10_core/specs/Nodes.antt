-- The nodes of typed trees in text order: what walks over programs pass.
use Rattle.std.specs.Prelude.{List, [], ◌∷◌, ◌++◌, Option, Some, None}
use Rattle.p10_core.specs.declared.statements.LoopKeyword.{LoopKeyword}
use Rattle.p10_core.specs.declared.statements.LoopKeyword.TheVariants.{While, Do, For}
use Rattle.p10_core.specs.Typed.{PlainValue, value, PlainForm, constant, read, sense, address, decay, convert, cast, unary, binary, logic, conditional, call, built_in, PlainPlace, place, PlainPlaceForm, variable, global, literal, index, member, dereference, PlainValues, no_values, more_values}
use Rattle.p10_core.specs.Typed.{PlainWritten, one_scalar, scalars_of_text, PlainItem, PlainInitializer, not_initialized, single, copied, listed, PlainStatement, statement, PlainStatementForm, set, update, copy, evaluate, asserts, declare, declare_static, block, if_then, if_else, loop, switch, break, continue, return, empty, mark, PlainStatements, no_statements, more_statements}

-- a node: a statement, a value or a place, each with all that lies in it
pub data PlainNode : Type 0 where
  a_statement : PlainStatement → PlainNode
  a_value : PlainValue → PlainNode
  a_place : PlainPlace → PlainNode

-- ## Values and places

abbrev mutual
  -- a value and the nodes in it
  pub nodes_of_value : PlainValue → List PlainNode
  nodes_of_value (value at t f) = a_value (value at t f) ∷ nodes_in_form f

  -- the nodes in a form of value
  pub nodes_in_form : PlainForm → List PlainNode
  nodes_in_form (constant z) = []
  nodes_in_form (read p) = nodes_of_place p
  nodes_in_form (sense n) = []
  nodes_in_form (address p) = nodes_of_place p
  nodes_in_form (decay p) = nodes_of_place p
  nodes_in_form (convert v) = nodes_of_value v
  nodes_in_form (cast v) = nodes_of_value v
  nodes_in_form (unary op v) = nodes_of_value v
  nodes_in_form (binary op a b) = nodes_of_value a ++ nodes_of_value b
  nodes_in_form (logic op a b) = nodes_of_value a ++ nodes_of_value b
  nodes_in_form (conditional v a b) = nodes_of_value v ++ (nodes_of_value a ++ nodes_of_value b)
  nodes_in_form (call s n arguments) = nodes_of_values arguments
  nodes_in_form (built_in s f arguments) = nodes_of_values arguments

  -- a place and the nodes in it
  pub nodes_of_place : PlainPlace → List PlainNode
  nodes_of_place (place at t f) = a_place (place at t f) ∷ nodes_in_place_form f

  -- the nodes in a form of place
  pub nodes_in_place_form : PlainPlaceForm → List PlainNode
  nodes_in_place_form (variable n) = []
  nodes_in_place_form (global n) = []
  nodes_in_place_form (literal n bytes) = []
  nodes_in_place_form (index a i) = nodes_of_value a ++ nodes_of_value i
  nodes_in_place_form (member p m) = nodes_of_place p
  nodes_in_place_form (dereference v) = nodes_of_value v

  -- the nodes of values, one after the other
  pub nodes_of_values : PlainValues → List PlainNode
  nodes_of_values no_values = []
  nodes_of_values (more_values v vs) = nodes_of_value v ++ nodes_of_values vs

-- the nodes of a value that may be lacking
abbrev pub nodes_of_maybe : Option PlainValue → List PlainNode
nodes_of_maybe None = []
nodes_of_maybe (Some v) = nodes_of_value v

-- ## Initialisers

-- the nodes of what is written for scalars
abbrev pub nodes_of_written : PlainWritten → List PlainNode
nodes_of_written (one_scalar v) = nodes_of_value v
nodes_of_written (scalars_of_text bytes) = []

-- the nodes of the items of a list
abbrev pub nodes_of_items : List PlainItem → List PlainNode
nodes_of_items [] = []
nodes_of_items (i ∷ rest) = nodes_of_written i.written ++ nodes_of_items rest

-- the nodes of an initialiser
abbrev pub nodes_of_initializer : PlainInitializer → List PlainNode
nodes_of_initializer not_initialized = []
nodes_of_initializer (single v) = nodes_of_value v
nodes_of_initializer (copied p) = nodes_of_place p
nodes_of_initializer (listed at items) = nodes_of_items items

-- ## Statements

-- the parts of a loop in text order: the test of `do` stands after its body (C99 6.8.5)
abbrev pub in_loop_order : LoopKeyword → List PlainNode → List PlainNode → List PlainNode → List PlainNode → List PlainNode
in_loop_order While first test third body = first ++ (test ++ (third ++ body))
in_loop_order For first test third body = first ++ (test ++ (third ++ body))
in_loop_order Do first test third body = first ++ (body ++ (test ++ third))

abbrev mutual
  -- a statement and the nodes in it
  pub nodes_of_statement : PlainStatement → List PlainNode
  nodes_of_statement (statement at f) = a_statement (statement at f) ∷ nodes_in_statement_form f

  -- the nodes in a form of statement
  pub nodes_in_statement_form : PlainStatementForm → List PlainNode
  nodes_in_statement_form (set p v) = nodes_of_place p ++ nodes_of_value v
  nodes_in_statement_form (update kind op t p v) = nodes_of_place p ++ nodes_of_value v
  nodes_in_statement_form (copy p q) = nodes_of_place p ++ nodes_of_place q
  nodes_in_statement_form (evaluate v) = nodes_of_value v
  nodes_in_statement_form (asserts at v) = nodes_of_value v
  nodes_in_statement_form (declare n i) = nodes_of_initializer i
  nodes_in_statement_form (declare_static n) = []
  nodes_in_statement_form (block ss) = nodes_of_statements ss
  nodes_in_statement_form (if_then v s) = nodes_of_value v ++ nodes_of_statement s
  nodes_in_statement_form (if_else v s t) = nodes_of_value v ++ (nodes_of_statement s ++ nodes_of_statement t)
  nodes_in_statement_form (loop head first test third body) =
      in_loop_order head.keyword (nodes_of_statements first) (nodes_of_maybe test) (nodes_of_statements third) (nodes_of_statement body)
  nodes_in_statement_form (switch span v labels body) = nodes_of_value v ++ nodes_of_statement body
  nodes_in_statement_form break = []
  nodes_in_statement_form continue = []
  nodes_in_statement_form (return span v) = nodes_of_maybe v
  nodes_in_statement_form empty = []
  nodes_in_statement_form (mark kind) = []

  -- the nodes of statements, one after the other
  pub nodes_of_statements : PlainStatements → List PlainNode
  nodes_of_statements no_statements = []
  nodes_of_statements (more_statements s rest) = nodes_of_statement s ++ nodes_of_statements rest

-- a node and those in it
abbrev pub nodes_of : PlainNode → List PlainNode
nodes_of (a_statement s) = nodes_of_statement s
nodes_of (a_value v) = nodes_of_value v
nodes_of (a_place p) = nodes_of_place p

-- the nodes in a node, without itself
abbrev pub nodes_in : PlainNode → List PlainNode
nodes_in (a_statement (statement at f)) = nodes_in_statement_form f
nodes_in (a_value (value at t f)) = nodes_in_form f
nodes_in (a_place (place at t f)) = nodes_in_place_form f
