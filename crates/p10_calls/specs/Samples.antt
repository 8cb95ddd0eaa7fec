-- Programs that only call.
use Rattle.std.specs.Prelude.{ℕ, List, [], map, None, false}
use Rattle.p10_base.specs.declared.span.Span.{Span}
use Rattle.p10_base.specs.declared.at.At.{At}
use Rattle.p10_core.specs.Types.{void}
use Rattle.p10_core.specs.Typed.{PlainStatement, statement, value, call, evaluate, no_values, statements_of_list, PlainFunction, PlainProgram}

-- a place that says nothing
abbrev pub no_span : Span
no_span = record { file = 0; start = 0; end = 0 }

-- a place of a tree that says nothing
abbrev pub no_place : At
no_place = record { first = 0; past = 0; span = no_span }

-- the call of a function by its number, as a statement
abbrev pub call_statement : ℕ → PlainStatement
call_statement n = statement no_place (evaluate (value no_place (void false) (call no_span n no_values)))

-- a function whose body calls these functions, one after the other
abbrev pub caller_of : List ℕ → PlainFunction
caller_of callees = record {
  name = [];
  span = no_span;
  static = false;
  parameters = 0;
  result = void false;
  variables = [];
  body = statements_of_list (map call_statement callees);
}

-- a program whose functions call these functions
abbrev pub program_calling : List (List ℕ) → PlainProgram
program_calling rows = record {
  structures = [];
  objects = [];
  functions = map caller_of rows;
  literals = [];
  main = 0;
  mark = None;
  task = None;
  outside = [];
}
