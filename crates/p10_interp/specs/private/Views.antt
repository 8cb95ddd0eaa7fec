-- What the code's work, operands and answers are, as definitions speak of them.
use Rattle.std.specs.Prelude.{◌≡◌, List, map, reverse, None, Some, Result, Ok, Err}
use Rattle.p10_base.specs.declared.span.Span.{Span}
use Rattle.p10_int.specs.declared.operators.Stop.{Stop}
use Rattle.p10_core.specs.declared.statements.LoopKeyword.{LoopKeyword}
use Rattle.p10_core.specs.Types.{plain_type}
use Rattle.p10_core.specs.Typed.{PlainValue, value, conditional, no_values, PlainStatement, statement, if_then, if_else, loop, switch}
use Rattle.p10_core.specs.Views.{plain_value, plain_values, plain_place, plain_item, plain_statement, plain_statements}
use Rattle.p10_meaning.specs.States.{State, AssertionFailed, Undefined as IsUndefined, StepsSpent, Progress, gives, ends}
use Rattle.p10_meaning.specs.Values.{Target, Variable, Sensor, Element}
use Rattle.p10_meaning.specs.Statements.{Flow, normal, broken, continued, returned}
use Rattle.p10_interp.specs.declared.work.Halt.{Halt}
use Rattle.p10_interp.specs.declared.work.Halt.TheVariants.{Failed, Undefined, Spent, Memory}
use Rattle.p10_interp.specs.declared.work.Flow.{Flow as Way}
use Rattle.p10_interp.specs.declared.work.Flow.TheVariants.{Normal, Broken, Continued, Returned}
use Rattle.p10_interp.specs.declared.work.Target.{Target as Aim}
use Rattle.p10_interp.specs.declared.work.Target.TheVariants.{Variable as AtVariable, Sensor as AtSensor, Element as AtElement}
use Rattle.p10_interp.specs.declared.work.Operand.{Operand as Given}
use Rattle.p10_interp.specs.declared.work.Operand.TheVariants.{Evaluated, Located}
use Rattle.p10_interp.specs.declared.work.Operation.{Operation as Doing}
use Rattle.p10_interp.specs.declared.work.Operation.TheVariants.{UseValue, DropValue, GiveNone, ConvertTo, ApplyUnary, ApplyBinary, TakeTruth, CallLibrary, ReadAt, ReadNone, TakeAddress, DecayAt, IndexAt, MemberAt, DereferenceAt, WriteAt, ReadOld, WriteNew, CopyBetween, FillFrom, AssertAt, GiveBack}
use Rattle.p10_interp.specs.declared.work.Work.{Work}
use Rattle.p10_interp.specs.declared.work.Work.TheVariants.{Value, LocatePlace, EvaluateValues, EvaluateItems, CallFunction, Statement, ExecuteStatements, CopyInto, EndBlock, EndSwitch, EndCall, Operate}
use Rattle.p10_interp.specs.declared.work.ValueStep.{ValueStep}
use Rattle.p10_interp.specs.declared.work.ValueStep.TheVariants.{Evaluate, Discard, Decide, Choose}
use Rattle.p10_interp.specs.declared.work.StatementStep.{StatementStep}
use Rattle.p10_interp.specs.declared.work.StatementStep.TheVariants.{Execute, Branch, BeginLoop, TestLoop, EnterTurn, EndTurn, Select}
use Rattle.p10_interp.specs.declared.tasks.Tasks.{Tasks}
use Rattle.p10_interp.specs.private.Tasks.{Operation, use_value, drop_value, give_none, convert_to, apply_unary, apply_binary, take_truth, call_library, read_at, read_none, take_address, decay_at, index_at, member_at, dereference_at, write_at, read_old, write_new, copy_between, fill_from, assert_at, give_back, Loop, Task, evaluate_value, discard_value, locate_place, evaluate_values, evaluate_items, decide, choose, call_function, execute_statement, execute_statements, copy_into, branch, begin_loop, test_loop, enter_turn, end_turn, end_block, select, end_switch, end_call, operate, Operand, evaluated, located, Open, Left}

-- how execution goes on
abbrev pub flow_of : Way → Flow
flow_of Normal = normal
flow_of Broken = broken
flow_of Continued = continued
flow_of (Returned x) = returned x

-- what a place is
abbrev pub target_of : Aim → Target
target_of (AtVariable n) = Variable n
target_of AtSensor = Sensor
target_of (AtElement q) = Element q

-- an operand
abbrev pub operand_of : Given → Operand
operand_of (Evaluated x) = evaluated x
operand_of (Located target) = located (target_of target)

-- operands of a list whose last is on top
abbrev pub operands_of : List Given → List Operand
operands_of operands = map operand_of (reverse operands)

-- an operation
abbrev pub operation_of : Doing → Operation
operation_of (UseValue span) = use_value span
operation_of DropValue = drop_value
operation_of GiveNone = give_none
operation_of (ConvertTo t) = convert_to (plain_type t.now)
operation_of (ApplyUnary op t span) = apply_unary op (plain_type t.now) span
operation_of (ApplyBinary op t span) = apply_binary op (plain_type t.now) span
operation_of TakeTruth = take_truth
operation_of (CallLibrary function span t n) = call_library function span (plain_type t.now) n
operation_of (ReadAt span t) = read_at span (plain_type t.now)
operation_of ReadNone = read_none
operation_of TakeAddress = take_address
operation_of (DecayAt span t) = decay_at span (plain_type t.now)
operation_of (IndexAt span) = index_at span
operation_of (MemberAt span whole m t) = member_at span (plain_type whole.now) m (plain_type t.now)
operation_of (DereferenceAt span) = dereference_at span
operation_of (WriteAt span) = write_at span
operation_of (ReadOld span t for) = read_old span (plain_type t.now) (plain_type for.now)
operation_of (WriteNew op at for span t) = write_new op at (plain_type for.now) span (plain_type t.now)
operation_of (CopyBetween to from t) = copy_between to from (plain_type t.now)
operation_of (FillFrom span t items) = fill_from span (plain_type t.now) (map plain_item items.now)
operation_of (AssertAt span) = assert_at span
operation_of GiveBack = give_back

-- nothing is done
abbrev pub nothing : Task
nothing = evaluate_values no_values

-- the two values of a `?:`; of any other value nothing is done
abbrev pub choice_of : PlainValue → Task
choice_of (value at t (conditional c a b)) = choose a b
choice_of v = nothing

-- what is done with a value
abbrev pub value_task : ValueStep → PlainValue → Task
value_task Evaluate v = evaluate_value v
value_task Discard v = discard_value v
value_task (Decide op) v = decide op v
value_task Choose v = choice_of v

-- the branches of an `if`; with any other statement nothing is done
abbrev pub branches_of : PlainStatement → Task
branches_of (statement at (if_then v a)) = branch a None
branches_of (statement at (if_else v a b)) = branch a (Some b)
branches_of x = nothing

-- what is done with a loop; with any other statement nothing is done
abbrev pub in_loop : (LoopKeyword → Loop → Task) → PlainStatement → Task
in_loop task (statement at (loop head first tested third body)) = task head.keyword (record { tested = tested; third = third; body = body })
in_loop task x = nothing

-- the labels and the body of a `switch`; with any other statement nothing is done
abbrev pub selection_of : PlainStatement → Task
selection_of (statement at (switch keyword v labels body)) = select labels body
selection_of x = nothing

-- what is done with a statement
abbrev pub statement_task : StatementStep → PlainStatement → Task
statement_task Execute x = execute_statement x
statement_task Branch x = branches_of x
statement_task BeginLoop x = in_loop begin_loop x
statement_task TestLoop x = in_loop (λ keyword l. test_loop l) x
statement_task EnterTurn x = in_loop (λ keyword l. enter_turn l) x
statement_task EndTurn x = in_loop (λ keyword l. end_turn l) x
statement_task Select x = selection_of x

-- a task
abbrev pub task_of : Work → Task
task_of (Value step v) = value_task step (plain_value v.now)
task_of (LocatePlace q) = locate_place (plain_place q.now)
task_of (EvaluateValues vs) = evaluate_values (plain_values vs.now)
task_of (EvaluateItems items) = evaluate_items (map plain_item items.now)
task_of (CallFunction g m) = call_function g m
task_of (Statement step x) = statement_task step (plain_statement x.now)
task_of (ExecuteStatements xs) = execute_statements (plain_statements xs.now)
task_of (CopyInto span t q) = copy_into span (plain_type t.now) (plain_place q.now)
task_of EndBlock = end_block
task_of EndSwitch = end_switch
task_of EndCall = end_call
task_of (Operate o) = operate (operation_of o)

-- the tasks of a list whose last is on top
abbrev pub tasks_of : List Work → List Task
tasks_of work = map task_of (reverse work)

abbrev pub tasks_in : Tasks → List Task
tasks_in t = tasks_of t.items.items

-- an answer of the code is what comes of an act, unless memory runs out
abbrev pub Answers : {A B : Type 0} → Progress A → Result B Halt → A → State → Type 0
Answers o (Ok done) new w = o ≡ gives new w
Answers o (Err (Failed span)) new w = o ≡ ends (AssertionFailed span) w
Answers o (Err (Undefined stop span)) new w = o ≡ ends (IsUndefined stop span) w
Answers o (Err Spent) new w = o ≡ ends StepsSpent w
Answers o (Err Memory) new w = Unit {0}

-- an answer of the code is what a piece gives, with the state that it leaves, unless memory runs out
abbrev pub Gives : {A : Type 0} → Progress A → Result A Halt → State → Type 0
Gives o (Ok x) w = o ≡ gives x w
Gives o (Err (Failed span)) w = o ≡ ends (AssertionFailed span) w
Gives o (Err (Undefined stop span)) w = o ≡ ends (IsUndefined stop span) w
Gives o (Err Spent) w = o ≡ ends StepsSpent w
Gives o (Err Memory) w = Unit {0}

-- an answer of the code is what an operation gives, or its stop at the span of a tree, unless memory runs out
abbrev pub Finds : {A : Type 0} → Result A Stop → Span → Result A Halt → Type 0
Finds r span (Ok x) = r ≡ Ok x
Finds r span (Err (Undefined stop at)) = (r ≡ Err stop) × (at ≡ span)
Finds r span (Err (Failed at)) = ⊥
Finds r span (Err Spent) = ⊥
Finds r span (Err Memory) = Unit {0}

-- execution goes on with these operands
abbrev pub left_with : List Operand → List Open → Left
left_with operands calls = record { flow = normal; operands = operands; calls = calls }
