-- What the trees of the code are, without the addresses of their boxes.
use Rattle.std.specs.Prelude.{List, [], ◌∷◌, map, option_map}
use Rattle.p10_base.specs.declared.at.At.{At}
use Rattle.p10_core.specs.declared.c_type.CType.{CType}
use Rattle.p10_core.specs.declared.table.Types.{Types}
use Rattle.p10_core.specs.declared.typed.Value.{Value}
use Rattle.p10_core.specs.declared.typed.Place.{Place}
use Rattle.p10_core.specs.declared.typed.ValueForm.{ValueForm}
use Rattle.p10_core.specs.declared.typed.PlaceForm.{PlaceForm}
use Rattle.p10_core.specs.declared.typed.PlaceForm.TheBlock.{Const, Read', Sense, Addr', Decay', Convert', Cast', Unary', Binary', Logic', Cond', Call', Builtin', Var, Global as GlobalPlace, Literal as LiteralPlace, Index', Member', Deref', Row_of-Value, end_of-Value, more_of-Value}
use Rattle.p10_core.specs.declared.statements.Written.{Written}
use Rattle.p10_core.specs.declared.statements.Written.TheVariants.{Scalar, Text}
use Rattle.p10_core.specs.declared.statements.Item.{Item}
use Rattle.p10_core.specs.declared.statements.Initializer.{Initializer}
use Rattle.p10_core.specs.declared.statements.Initializer.TheVariants.{Absent, Single, Copied, Listed}
use Rattle.p10_core.specs.declared.statements.Labels.{Labels}
use Rattle.p10_core.specs.declared.statements.Stmt.{Stmt}
use Rattle.p10_core.specs.declared.statements.StmtForm.{StmtForm}
use Rattle.p10_core.specs.declared.statements.StmtForm.TheBlock.{Set, Update, Copy, Value as ValueStatement, Assert, Declare, Static, Block', If', Loop', Switch', Break, Continue, Return, Empty, Mark, None', Some', Row_of-Stmt, end_of-Stmt, more_of-Stmt}
use Rattle.p10_core.specs.declared.program.Variable.{Variable}
use Rattle.p10_core.specs.declared.program.Func.{Func}
use Rattle.p10_core.specs.declared.program.Global.{Global}
use Rattle.p10_core.specs.declared.program.Literal.{Literal}
use Rattle.p10_core.specs.declared.program.Seen.{Seen}
use Rattle.p10_core.specs.declared.program.Program.{Program}
use Rattle.p10_core.specs.Types.{PlainStructure, plain_type, plain_structure}
use Rattle.p10_core.specs.Typed.{PlainValue, value, PlainForm, constant, read, sense, address, decay, convert, cast, unary, binary, logic, conditional, call, built_in, PlainPlace, place, PlainPlaceForm, variable, global, literal, index, member, dereference, PlainValues, no_values, more_values}
use Rattle.p10_core.specs.Typed.{PlainWritten, one_scalar, scalars_of_text, PlainItem, PlainInitializer, not_initialized, single, copied, listed, PlainLabels, PlainStatement, statement, PlainStatementForm, set, update, copy, evaluate, asserts, declare, declare_static, block, if_then, if_else, loop, switch, break, continue, return, empty, mark, PlainStatements, no_statements, more_statements}
use Rattle.p10_core.specs.Typed.{PlainVariable, PlainFunction, PlainObject, PlainLiteral, PlainSeen, PlainProgram}

-- what the structures of the code are
abbrev pub plain_types : Types → List PlainStructure
plain_types t = map plain_structure t.structures.items

-- a value with the type of the code
abbrev pub value_from : At → CType → PlainForm → PlainValue
value_from at t f = value at (plain_type t) f

-- a place with the type of the code
abbrev pub place_from : At → CType → PlainPlaceForm → PlainPlace
place_from at t f = place at (plain_type t) f

abbrev mutual
  -- what a form of value of the code is
  pub plain_form : ValueForm → PlainForm
  plain_form (Const n) = constant n
  plain_form (Read' p at t f) = read (place_from at t (plain_place_form f))
  plain_form (Sense n) = sense n
  plain_form (Addr' p at t f) = address (place_from at t (plain_place_form f))
  plain_form (Decay' p at t f) = decay (place_from at t (plain_place_form f))
  plain_form (Convert' p at t f) = convert (value_from at t (plain_form f))
  plain_form (Cast' p at t f) = cast (value_from at t (plain_form f))
  plain_form (Unary' op p at t f) = unary op (value_from at t (plain_form f))
  plain_form (Binary' op p at t f q at2 t2 g) = binary op (value_from at t (plain_form f)) (value_from at2 t2 (plain_form g))
  plain_form (Logic' op p at t f q at2 t2 g) = logic op (value_from at t (plain_form f)) (value_from at2 t2 (plain_form g))
  plain_form (Cond' p at t f q at2 t2 g r at3 t3 h) =
      conditional (value_from at t (plain_form f)) (value_from at2 t2 (plain_form g)) (value_from at3 t3 (plain_form h))
  plain_form (Call' s n shape all) = call s n (plain_row all)
  plain_form (Builtin' s l shape all) = built_in s l (plain_row all)

  -- what a form of place of the code is
  pub plain_place_form : PlaceForm → PlainPlaceForm
  plain_place_form (Var n) = variable n
  plain_place_form (GlobalPlace n) = global n
  plain_place_form (LiteralPlace n bytes) = literal n bytes
  plain_place_form (Index' p at t f q at2 t2 g) = index (value_from at t (plain_form f)) (value_from at2 t2 (plain_form g))
  plain_place_form (Member' p at t f n) = member (place_from at t (plain_place_form f)) n
  plain_place_form (Deref' p at t f) = dereference (value_from at t (plain_form f))

  -- what values of the code that follow one another are
  pub plain_row : {m : _} → Row_of-Value m → PlainValues
  plain_row end_of-Value = no_values
  plain_row (more_of-Value at t f rest) = more_values (value_from at t (plain_form f)) (plain_row rest)

-- what a value of the code is
abbrev pub plain_value : Value → PlainValue
plain_value v = value_from v.at v.ty (plain_form v.form)

-- what a place of the code is
abbrev pub plain_place : Place → PlainPlace
plain_place p = place_from p.at p.ty (plain_place_form p.form)

-- what values of the code are, in order
abbrev pub plain_values : List Value → PlainValues
plain_values [] = no_values
plain_values (v ∷ vs) = more_values (plain_value v) (plain_values vs)

-- what is written in an item of the code
abbrev pub plain_written : Written → PlainWritten
plain_written (Scalar v) = one_scalar (plain_value v)
plain_written (Text bytes) = scalars_of_text bytes

-- what an item of the code is
abbrev pub plain_item : Item → PlainItem
plain_item i = record { scalar = i.scalar; written = plain_written i.written }

-- what an initialiser of the code is
abbrev pub plain_initializer : Initializer → PlainInitializer
plain_initializer Absent = not_initialized
plain_initializer (Single v) = single (plain_value v)
plain_initializer (Copied p) = copied (plain_place p)
plain_initializer (Listed at items) = listed at (map plain_item items)

-- what labels of the code are
abbrev pub plain_labels : Labels → PlainLabels
plain_labels l = record { cases = l.cases; otherwise = l.otherwise }

abbrev mutual
  -- what a form of statement of the code is
  pub plain_statement_form : StmtForm → PlainStatementForm
  plain_statement_form (Set p v) = set (plain_place p) (plain_value v)
  plain_statement_form (Update kind op t p v) = update kind op (plain_type t) (plain_place p) (plain_value v)
  plain_statement_form (Copy p q) = copy (plain_place p) (plain_place q)
  plain_statement_form (ValueStatement v) = evaluate (plain_value v)
  plain_statement_form (Assert at v) = asserts at (plain_value v)
  plain_statement_form (Declare n i) = declare n (plain_initializer i)
  plain_statement_form (Static n) = declare_static n
  plain_statement_form (Block' shape all) = block (plain_statements_row all)
  plain_statement_form (If' v p at f None') = if_then (plain_value v) (statement at (plain_statement_form f))
  plain_statement_form (If' v p at f (Some' q at2 g)) =
      if_else (plain_value v) (statement at (plain_statement_form f)) (statement at2 (plain_statement_form g))
  plain_statement_form (Loop' head shape first test shape2 third p at f) =
      loop head (plain_statements_row first) (option_map plain_value test) (plain_statements_row third) (statement at (plain_statement_form f))
  plain_statement_form (Switch' s v l p at f) = switch s (plain_value v) (plain_labels l) (statement at (plain_statement_form f))
  plain_statement_form Break = break
  plain_statement_form Continue = continue
  plain_statement_form (Return s v) = return s (option_map plain_value v)
  plain_statement_form Empty = empty
  plain_statement_form (Mark kind) = mark kind

  -- what statements of the code that follow one another are
  pub plain_statements_row : {m : _} → Row_of-Stmt m → PlainStatements
  plain_statements_row end_of-Stmt = no_statements
  plain_statements_row (more_of-Stmt at f rest) = more_statements (statement at (plain_statement_form f)) (plain_statements_row rest)

-- what a statement of the code is
abbrev pub plain_statement : Stmt → PlainStatement
plain_statement s = statement s.at (plain_statement_form s.form)

-- what statements of the code are, in order
abbrev pub plain_statements : List Stmt → PlainStatements
plain_statements [] = no_statements
plain_statements (s ∷ rest) = more_statements (plain_statement s) (plain_statements rest)

-- what a variable of the code is
abbrev pub plain_variable : Variable → PlainVariable
plain_variable v = record { name = v.name.now; type = plain_type v.ty; bytes = v.bytes; frame = v.frame; span = v.span }

-- what a function of the code is
abbrev pub plain_function : Func → PlainFunction
plain_function f = record {
  name = f.name.now;
  span = f.span;
  static = f.is_static;
  parameters = f.params;
  result = plain_type f.result;
  variables = map plain_variable f.vars;
  body = plain_statements f.body;
}

-- what an object of the code is
abbrev pub plain_object : Global → PlainObject
plain_object g = record {
  name = g.name.now;
  type = plain_type g.ty;
  bytes = g.bytes;
  span = g.span;
  initializer = plain_initializer g.init;
  owner = g.owner;
  sensor = g.sensor;
  visible = g.visible;
}

-- what a string literal of the code is
abbrev pub plain_literal : Literal → PlainLiteral
plain_literal l = record { number = l.number; bytes = l.bytes }

-- what a name of the code is that is declared and not defined
abbrev pub plain_seen : Seen → PlainSeen
plain_seen s = record { name = s.name.now; visible = s.visible }

-- what a program of the code is
abbrev pub plain_program : Program → PlainProgram
plain_program p = record {
  structures = plain_types p.types;
  objects = map plain_object p.globals;
  functions = map plain_function p.functions;
  literals = map plain_literal p.literals;
  main = p.main;
  mark = p.mark;
  task = p.task;
  outside = map plain_seen p.outside;
}
