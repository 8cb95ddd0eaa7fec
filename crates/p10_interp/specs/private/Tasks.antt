-- What the machine has to do, and what it holds: tasks, operands and open calls.
use Rattle.std.specs.Prelude.{ℕ, List, Option}
use Rattle.p10_base.specs.declared.span.Span.{Span}
use Rattle.p10_int.specs.declared.operators.BinOp.{BinOp}
use Rattle.p10_int.specs.declared.operators.UnOp.{UnOp}
use Rattle.p10_core.specs.declared.typed.Library.{Library}
use Rattle.p10_core.specs.declared.typed.LogicOp.{LogicOp}
use Rattle.p10_core.specs.declared.statements.LoopKeyword.{LoopKeyword}
use Rattle.p10_core.specs.Types.{PlainType}
use Rattle.p10_core.specs.Typed.{PlainValue, PlainPlace, PlainValues, PlainItem, PlainLabels, PlainStatement, PlainStatements, PlainFunction}
use Rattle.p10_meaning.specs.declared.pointers.Scalar.{Scalar}
use Rattle.p10_meaning.specs.Values.{Target}
use Rattle.p10_meaning.specs.Statements.{Frame, Flow}
use Rattle.p10_meaning.specs.Calling.{Depth}

-- ## Tasks

-- what is done at once with the operands on top, once they are there: a value is used, or dropped; no value is given; a
-- conversion; an operator; the truth of a value; a library function on a number of arguments; what a place is read for, the
-- scalar in it, nothing of a structure, its address, the first element of its array; an element, a member, what a pointer
-- points to; a write; both halves of an update; the copy of a structure; the scalars that a list gives; an `assert`; `return`
pub data Operation : Type 0 where
  use_value : Span → Operation
  drop_value : Operation
  give_none : Operation
  convert_to : PlainType → Operation
  apply_unary : UnOp → PlainType → Span → Operation
  apply_binary : BinOp → PlainType → Span → Operation
  take_truth : Operation
  call_library : Library → Span → PlainType → ℕ → Operation
  read_at : Span → PlainType → Operation
  read_none : Operation
  take_address : Operation
  decay_at : Span → PlainType → Operation
  index_at : Span → Operation
  member_at : Span → PlainType → ℕ → PlainType → Operation
  dereference_at : Span → Operation
  write_at : Span → Operation
  read_old : Span → PlainType → PlainType → Operation
  write_new : BinOp → Span → PlainType → Span → PlainType → Operation
  copy_between : Span → Span → PlainType → Operation
  fill_from : Span → PlainType → List PlainItem → Operation
  assert_at : Span → Operation
  give_back : Operation

-- what a loop repeats: its test, its third clause and its body
pub record Loop : Type 0 where
  pub tested : Option PlainValue
  pub third : PlainStatements
  pub body : PlainStatement

-- a task: to evaluate a value that is used, or one that isn't; to find a place; to evaluate arguments, or the values that a
-- list gives; to go on with `&&` or `||` after its left operand, with `?:` after its condition; to call a function on a number of
-- arguments; to execute a statement, or statements in order; to copy a structure into the place on top; to go on with `if`
-- after its condition; to begin a loop; its test; what follows the test; what follows the body; the end of a block; to go on
-- with `switch` after its value; the end of a `switch`; the end of a function's body; an operation
pub data Task : Type 0 where
  evaluate_value : PlainValue → Task
  discard_value : PlainValue → Task
  locate_place : PlainPlace → Task
  evaluate_values : PlainValues → Task
  evaluate_items : List PlainItem → Task
  decide : LogicOp → PlainValue → Task
  choose : PlainValue → PlainValue → Task
  call_function : ℕ → ℕ → Task
  execute_statement : PlainStatement → Task
  execute_statements : PlainStatements → Task
  copy_into : Span → PlainType → PlainPlace → Task
  branch : PlainStatement → Option PlainStatement → Task
  begin_loop : LoopKeyword → Loop → Task
  test_loop : Loop → Task
  enter_turn : Loop → Task
  end_turn : Loop → Task
  end_block : Task
  select : PlainLabels → PlainStatement → Task
  end_switch : Task
  end_call : Task
  operate : Operation → Task

-- ## What the machine holds

-- an operand: what an evaluated tree gave, which is a value or none, or the place that a tree stands for
pub data Operand : Type 0 where
  evaluated : Option Scalar → Operand
  located : Target → Operand

-- an open call: its function, the depth that has its frame, the frame, and for each block round the innermost open one the
-- objects that it opened
pub record Open : Type 0 where
  pub function : PlainFunction
  pub depth : Depth
  pub frame : Frame
  pub outer : List (List ℕ)

-- what an operation leaves: how execution goes on, the operands and the open calls, the innermost first
pub record Left : Type 0 where
  pub flow : Flow
  pub operands : List Operand
  pub calls : List Open

-- the machine, except for its state: how execution goes on, its tasks, operands and open calls
pub record Rig : Type 0 where
  pub flow : Flow
  pub tasks : List Task
  pub operands : List Operand
  pub calls : List Open
