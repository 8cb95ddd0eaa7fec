-- The meaning of statements (C99 6.8): one definition for each form, in the order of the table of steps in docs/meaning.md.
use Rattle.std.specs.Prelude.{ℕ, zero, suc, eqb, if◌then◌else◌, Bool, true, List, [], ◌∷◌, ◌++◌, slice_set, slice_get, ℤ, pos, Option, Some, None, Result}
use Rattle.std.specs.Ordering.{int_eq}
use Rattle.p10_base.specs.declared.span.Span.{Span}
use Rattle.p10_base.specs.declared.at.At.{At}
use Rattle.p10_int.specs.declared.operators.Stop.{Stop}
use Rattle.p10_core.specs.declared.statements.LoopKeyword.{LoopKeyword}
use Rattle.p10_core.specs.declared.statements.LoopKeyword.TheVariants.{While, Do, For}
use Rattle.p10_core.specs.declared.statements.MarkKind.TheVariants.{InitDone, TaskLoop}
use Rattle.p10_core.specs.declared.statements.Label.{Label}
use Rattle.p10_core.specs.Types.{PlainType}
use Rattle.p10_core.specs.Typed.{PlainValue, place_at, place_type, PlainWritten, one_scalar, scalars_of_text, PlainItem, PlainInitializer, not_initialized, single, copied, listed, PlainStatement, statement, PlainStatementForm, set, update, copy, evaluate as expression, asserts, declare, declare_static, block, if_then, if_else, loop, switch, break, continue, return, empty, mark, PlainStatements, no_statements, more_statements, PlainVariable}
use Rattle.p10_meaning.specs.declared.pointers.Ptr.{Ptr}
use Rattle.p10_meaning.specs.declared.pointers.Scalar.{Scalar}
use Rattle.p10_meaning.specs.declared.pointers.Scalar.TheVariants.{Int}
use Rattle.p10_meaning.specs.declared.pointers.Cell.{Cell}
use Rattle.p10_meaning.specs.Pointers.{unset, holding, first_of}
use Rattle.p10_meaning.specs.Objects.{Object, declared, on_ok, cell_at, write_at, inner, all_closed}
use Rattle.p10_meaning.specs.States.{State, StepsSpent, Progress, gives, ends, step, and_then, or_undefined}
use Rattle.p10_meaning.specs.Scalars.{number_of, is_true, converted_to, zero_of, operated, unset_cells}
use Rattle.p10_meaning.specs.Values.{Setting, Held, holds, stands, scalars, width, open_object, Target, Variable, Sensor, Element, pointer_to, read_target, asserted, evaluate, discard, locate}

-- ## Frames and flows

-- an open frame: what stands for each variable of its function, and the objects that the innermost open block has opened
pub record Frame : Type 0 where
  pub held : List Held
  pub opened : List ℕ

-- how execution goes on after a statement: with the next one, after the innermost loop or `switch`, with the next turn of
-- the innermost loop, or after the call, with a value or none (C99 6.8.6)
pub data Flow : Type 0 where
  normal : Flow
  broken : Flow
  continued : Flow
  returned : Option Scalar → Flow

-- what an executed statement leaves: how execution goes on, and the frame
pub record Done : Type 0 where
  pub flow : Flow
  pub frame : Frame

-- execution goes on in a way, with a frame
abbrev pub flows : Flow → Frame → State → Progress Done
flows flow frame w = gives (record { flow = flow; frame = frame }) w

-- execution goes on with the next statement
abbrev pub goes : Frame → State → Progress Done
goes frame w = flows normal frame w

-- the rest is executed where execution goes on with the next statement
abbrev pub go_on : Flow → Frame → State → (Frame → State → Progress Done) → Progress Done
go_on normal frame w rest = rest frame w
go_on flow frame w rest = flows flow frame w

-- the frame with something else that stands for a variable
abbrev pub holding_at : Frame → ℕ → Held → Frame
holding_at frame n held = record frame { held = slice_set frame.held n held }

-- the objects of a block die at its end (C99 6.2.4p5)
abbrev pub leave_block : List ℕ → Done → State → Progress Done
leave_block outer done w =
    flows done.flow (record { held = done.frame.held; opened = outer }) (record w { objects = all_closed done.frame.opened w.objects })

-- something is executed as a block: the objects that it opens die at its end
abbrev pub in_block : (Frame → State → Progress Done) → Frame → State → Progress Done
in_block run frame w = and_then (run (record frame { opened = [] }) w) (λ done w. leave_block frame.opened done w)

-- ## Writing

-- a cell is written at a place: a frame variable holds it, a sensor stores nothing, and in an object U5, U7, U6, U12, at the
-- place's tree (C99 6.5.16)
abbrev pub write_target : Span → Target → Cell → Frame → State → Progress Done
write_target span (Variable n) cell frame w = goes (holding_at frame n (holds cell)) w
write_target span Sensor cell frame w = goes frame w
write_target span (Element q) cell frame w = or_undefined (write_at w.objects q cell) span w (λ objects. goes frame (record w { objects = objects }))

-- the cell of scalar i of the element at a pointer: U5, U7, U6
abbrev pub part_of : List Object → Ptr → ℕ → Result Cell Stop
part_of objects q i = on_ok (inner objects q i 1 1) (λ r. cell_at objects r)

-- the objects with that cell written: U5, U7, U6, U12
abbrev pub write_part : List Object → Ptr → ℕ → Cell → Result (List Object) Stop
write_part objects q i cell = on_ok (inner objects q i 1 1) (λ r. write_at objects r cell)

-- the n scalars from scalar i on of one element are copied to another: for each a step, its read, its write. An unset one is
-- copied as it is (C99 6.5.16.1p2)
abbrev pub copy_scalars : ℕ → ℕ → Span → Ptr → Span → Ptr → Frame → State → Progress Done
copy_scalars zero i to_span to from_span from frame w = goes frame w
copy_scalars (suc n) i to_span to from_span from frame w =
    step w (λ w. or_undefined (part_of w.objects from i) from_span w (λ cell.
    or_undefined (write_part w.objects to i cell) to_span w (λ objects.
    copy_scalars n (suc i) to_span to from_span from frame (record w { objects = objects }))))

-- ## Initialisers

-- the scalars that a text gives, from scalar i of the object on (C99 6.7.8p14)
abbrev pub text_scalars : ℕ → List ℕ → List (ℕ × Scalar)
text_scalars i [] = []
text_scalars i (byte ∷ bytes) = (i, Int (pos byte)) ∷ text_scalars (suc i) bytes

-- the scalars that an item of a list gives, from scalar i of the object on
abbrev pub written_scalars : Setting → List Held → ℕ → PlainWritten → State → Progress (List (ℕ × Scalar))
written_scalars s held i (one_scalar v) w = and_then (evaluate s held v w) (λ x w. gives ((i, x) ∷ []) w)
written_scalars s held i (scalars_of_text bytes) w = gives (text_scalars i bytes) w

-- the scalars that a list gives, in the order of its items
abbrev pub listed_scalars : Setting → List Held → List PlainItem → State → Progress (List (ℕ × Scalar))
listed_scalars s held [] w = gives [] w
listed_scalars s held (item ∷ items) w =
    and_then (written_scalars s held item.scalar item.written w) (λ xs w. and_then (listed_scalars s held items w) (λ ys w. gives (xs ++ ys) w))

-- what a list gives for scalar i, of a type: 0 or null where it gives nothing (C99 6.7.8p21)
abbrev pub listed_scalar : ℕ → PlainType → List (ℕ × Scalar) → Scalar
listed_scalar i t [] = zero_of t
listed_scalar i t (x ∷ xs) = if eqb x.0 i then converted_to t x.1 else listed_scalar i t xs

-- the scalars of an element, of these types from scalar i on, are written: for each a step and its write
abbrev pub fill : Span → List (ℕ × Scalar) → List PlainType → ℕ → Ptr → Frame → State → Progress Done
fill span xs [] i q frame w = goes frame w
fill span xs (t ∷ types) i q frame w =
    step w (λ w. or_undefined (write_part w.objects q i (holding (listed_scalar i t xs))) span w (λ objects.
    fill span xs types (suc i) q frame (record w { objects = objects })))

-- an initialiser of a variable that is unset so far (C99 6.7.8): a scalar's value; a structure's copy, with a step of its
-- own; a list: its values, then each scalar of the object
abbrev pub initialize : Setting → Span → PlainType → Target → PlainInitializer → Frame → State → Progress Done
initialize s span t target not_initialized frame w = goes frame w
initialize s span t target (single v) frame w = and_then (evaluate s frame.held v w) (λ x w. write_target span target (holding x) frame w)
initialize s span t target (copied p) frame w =
    step w (λ w. and_then (locate s frame.held p w) (λ source w.
    copy_scalars (width s.program t) 0 span (pointer_to target) (place_at p).span (pointer_to source) frame w))
initialize s span t target (listed at items) frame w =
    and_then (listed_scalars s frame.held items w) (λ xs w. fill span xs (scalars s.program t) 0 (pointer_to target) frame w)

-- a declaration first makes its variable unset, or opens an object of unset scalars (C99 6.2.4p5, p6), and then initialises it
abbrev pub declare_variable : Setting → Span → ℕ → Option PlainVariable → PlainInitializer → Frame → State → Progress Done
declare_variable s span n None initializer frame w = goes frame w
declare_variable s span n (Some v) initializer frame w =
    if v.frame
    then initialize s span v.type (Variable n) initializer (holding_at frame n (holds unset)) w
    else initialize s span v.type (Element (first_of w.opened (width s.program v.type) 1)) initializer
    (record { held = slice_set frame.held n (stands w.opened); opened = w.opened ∷ frame.opened })
    (open_object declared (unset_cells (scalars s.program v.type)) w)

-- ## Loops and `switch`

-- a loop's test: the value's truth; where a `for` has none, a step in its place (C99 6.8.5p4, 6.8.5.3p2)
abbrev pub test : Setting → Option PlainValue → Frame → State → Progress Bool
test s None frame w = step w (λ w. gives true w)
test s (Some v) frame w = and_then (evaluate s frame.held v w) (λ x w. gives (is_true x) w)

-- the next turn comes after a body that ends, and after its `continue`; `break` ends the loop
abbrev pub next_turn : Flow → Frame → State → (Frame → State → Progress Done) → Progress Done
next_turn normal frame w go = go frame w
next_turn continued frame w go = go frame w
next_turn broken frame w go = goes frame w
next_turn (returned x) frame w go = flows (returned x) frame w

-- at most n turns of a loop: its test, and where that is true its body and the next turn
abbrev pub turns : ℕ → (Frame → State → Progress Bool) → (Frame → State → Progress Done) → Frame → State → Progress Done
turns zero test body frame w = ends StepsSpent w
turns (suc n) test body frame w =
    and_then (test frame w) (λ more w.
    if more then and_then (body frame w) (λ done w. next_turn done.flow done.frame w (turns n test body)) else goes frame w)

-- `while` and `for` begin with the test, `do` with the body (C99 6.8.5.1, 6.8.5.2, 6.8.5.3)
abbrev pub loop_by : LoopKeyword → ℕ → (Frame → State → Progress Bool) → (Frame → State → Progress Done) → Frame → State → Progress Done
loop_by While n test body frame w = turns n test body frame w
loop_by For n test body frame w = turns n test body frame w
loop_by Do n test body frame w = and_then (body frame w) (λ done w. next_turn done.flow done.frame w (turns n test body))

-- the third clause of a `for` comes after its body and after a `continue`
abbrev pub before_third : Flow → Frame → State → (Frame → State → Progress Done) → Progress Done
before_third normal frame w third = third frame w
before_third continued frame w third = third frame w
before_third flow frame w third = flows flow frame w

-- the item of its body with which a `switch` goes on: that after the `case` of the value, else that after `default`, if there is one (C99 6.8.4.2p5)
abbrev pub labelled : ℤ → List Label → Option ℕ → Option ℕ
labelled z [] otherwise = otherwise
labelled z (label ∷ cases) otherwise = if int_eq label.value z then Some label.place else labelled z cases otherwise

-- the body is entered at that item, and is a block; without one it isn't entered
abbrev pub from_label : Option ℕ → (ℕ → Frame → State → Progress Done) → Frame → State → Progress Done
from_label None run frame w = goes frame w
from_label (Some k) run frame w = in_block (λ frame w. run k frame w) frame w

-- `break` ends the `switch`
abbrev pub after_switch : Done → State → Progress Done
after_switch done w = flows (leave done.flow) done.frame w
  where
    leave : Flow → Flow
    leave broken = normal
    leave flow = flow

-- ## Statements

abbrev mutual
  -- what executing a statement comes to
  pub execute : Setting → PlainStatement → Frame → State → Progress Done
  execute s (statement at form) frame w = execute_form s at form frame w

  -- the same for a form of a statement, at its tree
  pub execute_form : Setting → At → PlainStatementForm → Frame → State → Progress Done
  -- a declaration of an automatic variable: 1 and its initialiser (C99 6.7, 6.8.2)
  execute_form s at (declare n initializer) frame w =
      step w (λ w. declare_variable s at.span n (slice_get s.variables n) initializer frame w)
  -- `P = e;`: 1, the place, the value (C99 6.5.16.1)
  execute_form s at (set p v) frame w =
      step w (λ w. and_then (locate s frame.held p w) (λ target w. and_then (evaluate s frame.held v w) (λ x w.
      write_target (place_at p).span target (holding x) frame w)))
  -- `P op= e;`, `P++;`, `P--;`: 1, the place, 1 for the read, the value, 1 for the operator (C99 6.5.16.2, 6.5.2.4)
  execute_form s at (update kind op t p v) frame w =
      step w (λ w. and_then (locate s frame.held p w) (λ target w.
      step w (λ w. and_then (read_target (place_at p).span (place_type p) frame.held target w) (λ x w.
      and_then (evaluate s frame.held v w) (λ y w.
      step w (λ w. or_undefined (operated op t w.objects (converted_to t x) y) at.span w (λ z.
      write_target (place_at p).span target (holding (converted_to (place_type p) z)) frame w)))))))
  -- a copy of a structure: 1, the target's place, the source's place, 1 for each scalar (C99 6.5.16.1)
  execute_form s at (copy p q) frame w =
      step w (λ w. and_then (locate s frame.held p w) (λ target w. and_then (locate s frame.held q w) (λ source w.
      copy_scalars (width s.program (place_type p)) 0 (place_at p).span (pointer_to target) (place_at q).span (pointer_to source) frame w)))
  -- `assert(e);`: 1 and the value (C99 7.2.1.1)
  execute_form s at (asserts call v) frame w =
      step w (λ w. and_then (evaluate s frame.held v w) (λ x w. and_then (asserted call.span x w) (λ none w. goes frame w)))
  -- another expression statement: 1 and the value (C99 6.8.3)
  execute_form s at (expression v) frame w = step w (λ w. and_then (discard s frame.held v w) (λ x w. goes frame w))
  -- `if`: 1, the condition, the chosen branch (C99 6.8.4.1)
  execute_form s at (if_then v a) frame w =
      step w (λ w. and_then (evaluate s frame.held v w) (λ x w. if is_true x then execute s a frame w else goes frame w))
  execute_form s at (if_else v a b) frame w =
      step w (λ w. and_then (evaluate s frame.held v w) (λ x w. if is_true x then execute s a frame w else execute s b frame w))
  -- `while`, `do`, `for`: 1, and every executed clause, test and body; a loop is a block (C99 6.8.5)
  execute_form s at (loop head first tested third body) frame w =
      step w (λ w. in_block (λ frame w. and_then (execute_from s 0 first frame w) (λ done w. go_on done.flow done.frame w (λ frame w.
      loop_by head.keyword s.turns (λ frame w. test s tested frame w)
      (λ frame w. and_then (execute s body frame w) (λ done w. before_third done.flow done.frame w (λ frame w. execute_from s 0 third frame w)))
      frame w))) frame w)
  -- `switch`: 1, the value, the executed statements (C99 6.8.4.2)
  execute_form s at (switch keyword v labels body) frame w =
      step w (λ w. and_then (evaluate s frame.held v w) (λ x w.
      and_then (enter s (labelled (number_of x) labels.cases labels.otherwise) body frame w) after_switch))
  -- `return`: 1 and its value (C99 6.8.6.4)
  execute_form s at (return keyword None) frame w = step w (λ w. flows (returned None) frame w)
  execute_form s at (return keyword (Some v)) frame w =
      step w (λ w. and_then (evaluate s frame.held v w) (λ x w. flows (returned (Some x)) frame w))
  -- `break`, `continue` and `;`: 1 (C99 6.8.6.3, 6.8.6.2, 6.8.3)
  execute_form s at break frame w = step w (λ w. flows broken frame w)
  execute_form s at continue frame w = step w (λ w. flows continued frame w)
  execute_form s at empty frame w = step w (λ w. goes frame w)
  -- a block, a static object, a mark: 0 (C99 6.8.2). Initialisation ends at its mark
  execute_form s at (block statements) frame w = in_block (λ frame w. execute_from s 0 statements frame w) frame w
  execute_form s at (declare_static n) frame w = goes frame w
  execute_form s at (mark InitDone) frame w = goes frame (record w { marked = true })
  execute_form s at (mark TaskLoop) frame w = goes frame w

  -- statements in order, without the first k
  pub execute_from : Setting → ℕ → PlainStatements → Frame → State → Progress Done
  execute_from s k no_statements frame w = goes frame w
  execute_from s zero (more_statements x rest) frame w = and_then (execute s x frame w) (λ done w. go_on done.flow done.frame w (λ frame w. execute_from s zero rest frame w))
  execute_from s (suc k) (more_statements x rest) frame w = execute_from s k rest frame w

  -- the body of a `switch`, from the item with a number on; a body that is no block has no labels, so it isn't entered
  pub enter : Setting → Option ℕ → PlainStatement → Frame → State → Progress Done
  enter s k (statement at form) frame w = enter_form s k form frame w

  -- the same for a form
  pub enter_form : Setting → Option ℕ → PlainStatementForm → Frame → State → Progress Done
  enter_form s k (block statements) frame w = from_label k (λ k frame w. execute_from s k statements frame w) frame w
  enter_form s k form frame w = goes frame w

-- ## Parts of loops, by name

-- one round of a loop: its body, and the third clause
abbrev pub round : Setting → PlainStatements → PlainStatement → Frame → State → Progress Done
round s third body frame w = and_then (execute s body frame w) (λ done w. before_third done.flow done.frame w (λ frame w. execute_from s 0 third frame w))

-- a loop after its statement step, in its block
abbrev pub looped : Setting → LoopKeyword → PlainStatements → Option PlainValue → PlainStatements → PlainStatement → Frame → State → Progress Done
looped s keyword first tested third body frame w =
    and_then (execute_from s 0 first frame w) (λ done w. go_on done.flow done.frame w (λ frame w.
    loop_by keyword s.turns (λ frame w. test s tested frame w) (round s third body) frame w))
