-- Which trees end in which stops, and where the stop stands: the table of stops, over the nodes of a program.
use Rattle.std.specs.Prelude.{◌≡◌, ℕ, Bool, true, false, Contains, List, Some, slice_get}
use Rattle.p10_base.specs.declared.span.Span.{Span}
use Rattle.p10_base.specs.declared.at.At.{At}
use Rattle.p10_int.specs.declared.types.IntType.{IntType}
use Rattle.p10_int.specs.declared.operators.Stop.{Stop}
use Rattle.p10_int.specs.declared.operators.Stop.TheVariants.{U1, U2, U3, U4, U5, U6, U7, U8, U9, U10, U11, U12}
use Rattle.p10_int.specs.declared.operators.BinOp.{BinOp}
use Rattle.p10_int.specs.declared.operators.BinOp.TheVariants.{Add, Sub, Mul, Div, Rem, Shl, Shr, Lt, Gt, Le, Ge}
use Rattle.p10_int.specs.declared.operators.UnOp.TheVariants.{Neg}
use Rattle.p10_int.specs.Types.{is_signed_of}
use Rattle.p10_core.specs.declared.typed.Library.TheVariants.{Free}
use Rattle.p10_core.specs.declared.statements.UpdateKind.{UpdateKind}
use Rattle.p10_core.specs.Types.{PlainType, integer, pointer}
use Rattle.p10_core.specs.Typed.{PlainValue, value, type_of, read, decay, unary, binary, call, built_in, PlainPlace, place, place_at, index, member, dereference, PlainValues, copied, statement, set, update, copy, declare, PlainFunction, PlainProgram}
use Rattle.p10_core.specs.Nodes.{PlainNode, a_statement, a_value, a_place, nodes_of_statements}
use Rattle.p10_core.specs.WholePrograms.{parameter_types, IsWholeProgram}
use Rattle.p10_meaning.specs.declared.pointers.Scalar.{Scalar}
use Rattle.p10_meaning.specs.declared.world.World.{World}
use Rattle.p10_meaning.specs.States.{IsWorld, State, AssertionFailed, Undefined, StepsSpent, Progress, gives, ends}
use Rattle.p10_meaning.specs.Calling.{Depth, call_at}
use Rattle.p10_meaning.specs.Runs.{Ended, run_of}
use Rattle.p10_meaning.specs.Sound.{Kind, ScalarsFit, Sound}

-- ## What is done with pointers

-- an object is reached: the pointer may be null, or the object dead (C99 6.5.3.2p4)
pub data Reaching : Stop → Type 0 where
  null : Reaching U5
  dead : Reaching U7

-- a pointer is moved, or the scalar at it accessed: besides, it may leave its array, or stand one past it (C99 6.5.6p8)
pub data Accessing : Stop → Type 0 where
  accessed : (stop : Stop) → Reaching stop → Accessing stop
  outside : Accessing U6

-- a scalar is read: besides, it may be unset (C99 6.7.8p10, 6.2.4p5)
pub data Reading : Stop → Type 0 where
  read_at : (stop : Stop) → Accessing stop → Reading stop
  unset : Reading U8

-- a scalar is written: besides, it may be one of a string literal (C99 6.4.5p6)
pub data Writing : Stop → Type 0 where
  written_at : (stop : Stop) → Accessing stop → Writing stop
  in_literal : Writing U12

-- two pointers are subtracted or ordered: each may be null or its object dead, and they may point into different arrays (C99 6.5.6p9, 6.5.8p5)
pub data Relating : Stop → Type 0 where
  related : (stop : Stop) → Reaching stop → Relating stop
  apart : Relating U9

-- ## Operators

-- `+`, `-`, `*`, `/`, `%` (C99 6.5.5, 6.5.6)
abbrev pub is_arithmetic : BinOp → Bool
is_arithmetic Add = true
is_arithmetic Sub = true
is_arithmetic Mul = true
is_arithmetic Div = true
is_arithmetic Rem = true
is_arithmetic op = false

-- `/`, `%`
abbrev pub is_division : BinOp → Bool
is_division Div = true
is_division Rem = true
is_division op = false

-- `<<`, `>>` (C99 6.5.7)
abbrev pub is_shift : BinOp → Bool
is_shift Shl = true
is_shift Shr = true
is_shift op = false

-- `+`, `-`, which move pointers (C99 6.5.6p8)
abbrev pub is_move : BinOp → Bool
is_move Add = true
is_move Sub = true
is_move op = false

-- `-`, `<`, `>`, `<=`, `>=`, which take two pointers into one array (C99 6.5.6p9, 6.5.8p5)
abbrev pub is_relation : BinOp → Bool
is_relation Sub = true
is_relation Lt = true
is_relation Gt = true
is_relation Le = true
is_relation Ge = true
is_relation op = false

-- a binary operator at the types of its result and of its converted operands, and the stops in which it may end
pub data OperatorStops (op : BinOp) : PlainType → PlainType → PlainType → Stop → Type 0 where
  overflows : (i j : IntType) → is_arithmetic op ≡ true → is_signed_of i ≡ true → OperatorStops op (integer false i) (integer false i) (integer false j) U1
  divides_by_zero : (i j : IntType) → is_division op ≡ true → OperatorStops op (integer false i) (integer false i) (integer false j) U2
  shifts_too_far : (i j : IntType) → is_shift op ≡ true → OperatorStops op (integer false i) (integer false i) (integer false j) U3
  shifts_out : (i j : IntType) → op ≡ Shl → is_signed_of i ≡ true → OperatorStops op (integer false i) (integer false i) (integer false j) U4
  moves_left : (t : PlainType) (i : IntType) (stop : Stop) → is_move op ≡ true → Accessing stop → OperatorStops op (pointer false t) (pointer false t) (integer false i) stop
  moves_right : (t : PlainType) (i : IntType) (stop : Stop) → op ≡ Add → Accessing stop → OperatorStops op (pointer false t) (integer false i) (pointer false t) stop
  relates : (r s t : PlainType) (stop : Stop) → is_relation op ≡ true → Relating stop → OperatorStops op r (pointer false s) (pointer false t) stop

-- ## Nodes

-- a node, a stop in which what it does itself may end, and the span at which that stands: that of the operator, of the call, or of the
-- place that is read or written
pub data NodeStops : PlainNode → Stop → Span → Type 0 where
  -- places: an element, a member, a dereference
  indexes : (at : At) (t : PlainType) (a i : PlainValue) (stop : Stop) → Accessing stop → NodeStops (a_place (place at t (index a i))) stop at.span
  selects : (at : At) (t : PlainType) (q : PlainPlace) (m : ℕ) (stop : Stop) → Reaching stop → NodeStops (a_place (place at t (member q m))) stop at.span
  dereferences : (at : At) (t : PlainType) (v : PlainValue) (stop : Stop) → Reaching stop → NodeStops (a_place (place at t (dereference v))) stop at.span
  -- values: a read, an array's first element, operators, a call that ended without `return`, `free`
  reads : (at : At) (t : PlainType) (q : PlainPlace) (stop : Stop) → Reading stop → NodeStops (a_value (value at t (read q))) stop (place_at q).span
  decays : (at : At) (t : PlainType) (q : PlainPlace) (stop : Stop) → Reaching stop → NodeStops (a_value (value at t (decay q))) stop at.span
  negates : (at : At) (i : IntType) (v : PlainValue) → is_signed_of i ≡ true → NodeStops (a_value (value at (integer false i) (unary Neg v))) U1 at.span
  operates : (at : At) (t : PlainType) (op : BinOp) (a b : PlainValue) (stop : Stop) → OperatorStops op t (type_of a) (type_of b) stop → NodeStops (a_value (value at t (binary op a b))) stop at.span
  lacks_value : (at : At) (t : PlainType) (name : Span) (k : ℕ) (arguments : PlainValues) → NodeStops (a_value (value at t (call name k arguments))) U10 at.span
  frees : (at : At) (t : PlainType) (name : Span) (arguments : PlainValues) → NodeStops (a_value (value at t (built_in name Free arguments))) U11 at.span
  -- statements: assignments, updates, copies of structures; of an initialiser a copy from another structure alone
  assigns : (at : At) (q : PlainPlace) (v : PlainValue) (stop : Stop) → Writing stop → NodeStops (a_statement (statement at (set q v))) stop (place_at q).span
  reads_first : (at : At) (kind : UpdateKind) (op : BinOp) (t : PlainType) (q : PlainPlace) (v : PlainValue) (stop : Stop) → Reading stop →
      NodeStops (a_statement (statement at (update kind op t q v))) stop (place_at q).span
  updates : (at : At) (kind : UpdateKind) (op : BinOp) (t : PlainType) (q : PlainPlace) (v : PlainValue) (stop : Stop) → OperatorStops op t t (type_of v) stop →
      NodeStops (a_statement (statement at (update kind op t q v))) stop at.span
  writes_back : (at : At) (kind : UpdateKind) (op : BinOp) (t : PlainType) (q : PlainPlace) (v : PlainValue) (stop : Stop) → Writing stop →
      NodeStops (a_statement (statement at (update kind op t q v))) stop (place_at q).span
  copies_from : (at : At) (q r : PlainPlace) (stop : Stop) → Accessing stop → NodeStops (a_statement (statement at (copy q r))) stop (place_at r).span
  copies_to : (at : At) (q r : PlainPlace) (stop : Stop) → Writing stop → NodeStops (a_statement (statement at (copy q r))) stop (place_at q).span
  initializes_from : (at : At) (n : ℕ) (q : PlainPlace) (stop : Stop) → Accessing stop → NodeStops (a_statement (statement at (declare n (copied q)))) stop (place_at q).span

-- ## Programs

-- a stop has its cause in a program: a node of one of its functions may end in it at its span
pub record StopHasCause (p : PlainProgram) (stop : Stop) (span : Span) : Type 0 where
  pub number : ℕ
  pub function : PlainFunction
  pub there : slice_get p.functions number ≡ Some function
  pub node : PlainNode
  pub among : Contains (nodes_of_statements function.body) node
  pub ends_there : NodeStops node stop span

-- what comes of a piece of a program, where it ends in a stop, has something
abbrev pub StopsWhere : {A : Type 0} → (Stop → Span → Type 0) → Progress A → Type 0
StopsWhere P (gives a w) = Unit {0}
StopsWhere P (ends (Undefined stop span) w) = P stop span
StopsWhere P (ends (AssertionFailed span) w) = Unit {0}
StopsWhere P (ends StepsSpent w) = Unit {0}

-- calls of a whole program in sound states stop with a cause
abbrev pub CallsStopWithCause : Type 0
CallsStopWithCause =
    (p : PlainProgram) → IsWholeProgram p → (n : ℕ) (depth : Depth) (f : ℕ) (g : PlainFunction) (xs : List Scalar) (w : State) (ks : List Kind) →
    slice_get p.functions f ≡ Some g → ScalarsFit p ks (parameter_types g) xs → Sound p ks w → StopsWhere (StopHasCause p) (call_at n p depth f xs w)

-- each stop of a run of a whole program has its cause in the program
abbrev pub RunsStopWithCause : Type 0
RunsStopWithCause =
    (p : PlainProgram) → IsWholeProgram p → (world : World) → IsWorld world → (prefix turn n : ℕ) (stop : Stop) (span : Span) → (run_of p world prefix turn n).outcome ≡ Ended (Undefined stop span) →
    StopHasCause p stop span
