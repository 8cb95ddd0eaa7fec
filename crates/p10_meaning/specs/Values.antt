-- The meaning of values and places (C99 6.5): one definition for each form, in the order of the table of steps in docs/meaning.md.
-- The step of a node comes before its parts, operands go from left to right, and a place before a value.
use Rattle.std.specs.Prelude.{ℕ, suc, ◌*◌, ltb, leb, eqb, ◌&&◌, if◌then◌else◌, Bool, true, false, List, [], ◌∷◌, ◌++◌, length, take, flat_map, slice_get, ℤ, pos, negsuc, Option, Some, None, Result, Ok, Err}
use Rattle.p10_base.specs.declared.span.Span.{Span}
use Rattle.p10_base.specs.declared.at.At.{At}
use Rattle.p10_int.specs.declared.operators.Stop.{Stop}
use Rattle.p10_int.specs.declared.operators.Stop.TheVariants.{U8, U10}
use Rattle.p10_int.specs.Conversion.{residue}
use Rattle.p10_core.specs.declared.typed.Library.{Library}
use Rattle.p10_core.specs.declared.typed.Library.TheVariants.{Assert, CAssert, Getchar, Putchar, Malloc, Calloc, Free}
use Rattle.p10_core.specs.declared.typed.LogicOp.{LogicOp}
use Rattle.p10_core.specs.declared.typed.LogicOp.TheVariants.{And, Or}
use Rattle.p10_core.specs.Types.{PlainType, PlainMember, void, pointer, array, structure, bare, members_of}
use Rattle.p10_core.specs.Typed.{PlainValue, value, PlainForm, constant, read, sense, address, decay, convert, cast, unary, binary, logic, conditional, call, built_in, PlainPlace, place, PlainPlaceForm, variable, global, literal, index, member, dereference, PlainValues, no_values, more_values, place_at, place_type, PlainVariable, PlainObject, PlainLiteral, PlainProgram}
use Rattle.p10_meaning.specs.declared.pointers.Ptr.{Ptr}
use Rattle.p10_meaning.specs.declared.pointers.Ptr.TheVariants.{Null}
use Rattle.p10_meaning.specs.declared.pointers.Scalar.{Scalar}
use Rattle.p10_meaning.specs.declared.pointers.Scalar.TheVariants.{Int, Pointer}
use Rattle.p10_meaning.specs.declared.pointers.Cell.{Cell}
use Rattle.p10_core.specs.Sizes.{scalars_of, size_of, repeated}
use Rattle.p10_meaning.specs.Pointers.{unset, read_of, first_of}
use Rattle.p10_meaning.specs.Objects.{Origin, allocated, on_ok, or_stop, reach, cell_at, shift, inner, opened_with, release}
use Rattle.p10_meaning.specs.States.{State, AssertionFailed, Progress, gives, ends, step, and_then, or_undefined, counted}
use Rattle.p10_meaning.specs.Scalars.{number_of, pointer_of, is_true, truth_value, converted_to, operated, operated_unary, unset_cells, zero_cells}

-- ## Where a tree is evaluated

-- the meaning of calls: what comes of the function with a number on arguments, which is no value where it ends without one
abbrev pub Calls : Type 0
Calls = ℕ → List Scalar → State → Progress (Option Scalar)

-- what a tree stands in: the program, the variables of the tree's function, the meaning of calls, and a bound on the turns of
-- loops
pub record Setting : Type 0 where
  pub program : PlainProgram
  pub variables : List PlainVariable
  pub call : Calls
  pub turns : ℕ

-- what stands for a variable in an open frame: the cell of a frame variable, the number of the object that it is, or nothing
-- as long as its declaration wasn't executed
pub data Held : Type 0 where
  holds : Cell → Held
  stands : ℕ → Held
  absent : Held

-- the types of the scalars of an object of a type, in order. Structures of several roots that are compatible are one: that
-- which stands for them (C99 6.2.7)
abbrev pub scalars : PlainProgram → PlainType → List PlainType
scalars p t = scalars_of p.structures (bare p.structures t)

-- how many scalars an object of a type has
abbrev pub width : PlainProgram → PlainType → ℕ
width p t = length (scalars p t)

-- the size of a type in bytes
abbrev pub size : PlainProgram → PlainType → ℕ
size p t = size_of p.structures (bare p.structures t)

-- ## Objects that are opened

-- the state with one more object
abbrev pub open_object : Origin → List Cell → State → State
open_object origin cells w = record w { objects = opened_with w.objects w.opened origin cells; opened = suc w.opened }

-- ## What a place is

-- a frame variable, a sensor, or a place in an object
pub data Target : Type 0 where
  Variable : ℕ → Target
  Sensor : Target
  Element : Ptr → Target

-- the place that a name of a variable stands for: a single object is an array of one
abbrev pub variable_target : ℕ → ℕ → Option Held → Result Target Stop
variable_target n scalars None = Err U8
variable_target n scalars (Some absent) = Err U8
variable_target n scalars (Some (holds cell)) = Ok (Variable n)
variable_target n scalars (Some (stands object)) = Ok (Element (first_of object scalars 1))

-- the place that a name of an object of static lifetime stands for: the objects have the first numbers, in their order
abbrev pub global_target : ℕ → ℕ → Option PlainObject → Result Target Stop
global_target n scalars None = Err U8
global_target n scalars (Some object) = Ok (if object.sensor then Sensor else Element (first_of n scalars 1))

-- where a string literal stands among those of the program: their objects come after those of static lifetime
abbrev pub literal_number : ℕ → ℕ → List PlainLiteral → Option ℕ
literal_number n from [] = None
literal_number n from (l ∷ literals) = if eqb l.number n then Some from else literal_number n (suc from) literals

-- the place that a string literal stands for (C99 6.4.5p5)
abbrev pub literal_target : ℕ → Option ℕ → Result Target Stop
literal_target scalars None = Err U8
literal_target scalars (Some object) = Ok (Element (first_of object scalars 1))

-- the pointer to a place; no typed program takes that of a frame variable or a sensor
abbrev pub pointer_to : Target → Ptr
pointer_to (Variable n) = Null
pointer_to Sensor = Null
pointer_to (Element q) = q

-- ## Reading

-- the cell of a frame variable; unset where it has none
abbrev pub held_cell : Option Held → Cell
held_cell (Some (holds cell)) = cell
held_cell held = unset

-- a read of a sensor takes its next value, converted to its type, or 0 where none is left
abbrev pub sensed_from : List ℤ → PlainType → State → Progress Scalar
sensed_from [] t w = gives (Int (pos 0)) w
sensed_from (z ∷ sensors) t w = gives (converted_to t (Int z)) (record w { sensors = sensors })

-- a read of a sensor of a type
abbrev pub sensed : PlainType → State → Progress Scalar
sensed t w = sensed_from w.sensors t w

-- the scalar at a place of a type: U5, U7, U6, U8, at the place's tree (C99 6.3.2.1p2)
abbrev pub read_target : Span → PlainType → List Held → Target → State → Progress Scalar
read_target span t held (Variable n) w = or_undefined (read_of (held_cell (slice_get held n))) span w (λ x. gives x w)
read_target span t held Sensor w = sensed t w
read_target span t held (Element q) w = or_undefined (on_ok (cell_at w.objects q) read_of) span w (λ x. gives x w)

-- ## Library functions

-- the first of the arguments; typed programs ask for one where it is there
abbrev pub first_argument : List Scalar → Scalar
first_argument [] = Int (pos 0)
first_argument (x ∷ xs) = x

-- `assert` of a scalar that is 0 or null ends the run (C99 7.2.1.1p2)
abbrev pub asserted : Span → Scalar → State → Progress (Option Scalar)
asserted span x w = if is_true x then gives None w else ends (AssertionFailed span) w

-- the next byte of the input, or -1 at its end (C99 7.19.7.6)
abbrev pub next_byte : List ℕ → State → Progress (Option Scalar)
next_byte [] w = gives (Some (Int (negsuc 0))) w
next_byte (byte ∷ input) w = gives (Some (Int (pos byte))) (record w { input = input })

-- a byte is written: the number modulo 256, which is the value (C99 7.19.7.9)
abbrev pub put_byte : ℕ → State → Progress (Option Scalar)
put_byte byte w = gives (Some (Int (pos byte))) (record w { output = w.output ++ byte ∷ [] })

-- an integer as a count: no count is below zero
abbrev pub natural : ℤ → ℕ
natural (pos n) = n
natural (negsuc n) = 0

-- how many elements an allocation asks for: one where no number is written
abbrev pub elements : List Scalar → ℕ
elements [] = 1
elements (x ∷ xs) = natural (number_of x)

-- what a pointer type points to
abbrev pub pointee : PlainType → PlainType
pointee (pointer c t) = t
pointee t = t

-- whether a request with a number is denied
abbrev pub is_denied : List ℕ → ℕ → Bool
is_denied [] n = false
is_denied (d ∷ denied) n = if eqb d n then true else is_denied denied n

-- a request that is counted: it is denied, or opens an object of n elements with these cells
abbrev pub granted : ℕ → ℕ → List Cell → State → Progress (Option Scalar)
granted stride n cells w =
    if is_denied w.denied w.requests
    then gives (Some (Pointer Null)) w
    else gives (Some (Pointer (first_of w.opened stride n))) (open_object allocated cells w)

-- an allocation of n elements of a type (C99 7.20.3.1, 7.20.3.3): a request of 0 bytes or of more than 2^20 gives null and
-- isn't counted
abbrev pub requested : PlainProgram → PlainType → ℕ → (List PlainType → List Cell) → State → Progress (Option Scalar)
requested p t n fill w =
    let bytes : ℕ = n * size p t in
    if ltb 0 bytes && leb bytes 1048576
    then granted (width p t) n (fill (repeated n (scalars p t))) (record w { requests = suc w.requests })
    else gives (Some (Pointer Null)) w

-- a call of a library function with its arguments; its span is that of the call, and its type that of the value
abbrev pub library : PlainProgram → Library → Span → PlainType → List Scalar → State → Progress (Option Scalar)
library p Assert span t xs w = asserted span (first_argument xs) w
library p CAssert span t xs w = gives (Some (truth_value (is_true (first_argument xs)))) w
library p Getchar span t xs w = next_byte w.input w
library p Putchar span t xs w = put_byte (residue (number_of (first_argument xs)) 256) w
library p Malloc span t xs w = requested p (pointee t) (elements xs) unset_cells (counted w)
library p Calloc span t xs w = requested p (pointee t) (elements xs) zero_cells (counted w)
library p Free span t xs w =
    let after : State = counted w in
    or_undefined (release after.objects (pointer_of (first_argument xs))) span after (λ objects. gives None (record after { objects = objects }))

-- ## Parts of values

-- a value is used: a call that ended without `return` has none (U10; C99 6.9.1p12)
abbrev pub used : Option Scalar → Result Scalar Stop
used x = or_stop x U10

-- something that has a value
abbrev pub give : Scalar → State → Progress (Option Scalar)
give x w = gives (Some x) w

-- whether a type is `void`
abbrev pub is_void : PlainType → Bool
is_void (void c) = true
is_void t = false

-- whether a type is a structure
abbrev pub is_structure : PlainType → Bool
is_structure (structure c n) = true
is_structure t = false

-- what an array has as its elements, and how many
abbrev pub element_type : PlainType → PlainType
element_type (array c t n) = t
element_type t = t

-- how many elements an array has
abbrev pub element_count : PlainType → ℕ
element_count (array c t n) = n
element_count t = 1

-- how many scalars of a structure stand before a member (C99 6.7.2.1p13)
abbrev pub scalars_before : PlainProgram → PlainType → ℕ → ℕ
scalars_before p (structure c k) m = length (flat_map (λ (x : PlainMember). scalars p x.type) (take m (members_of p.structures k)))
scalars_before p t m = 0

-- whether `&&` or `||` is decided by its left operand, and what it is then (C99 6.5.13p4, 6.5.14p4)
abbrev pub is_decided : LogicOp → Bool → Bool
is_decided And b = if b then false else true
is_decided Or b = b

-- ## Values and places

abbrev mutual
  -- the value of a tree that is used
  pub evaluate : Setting → List Held → PlainValue → State → Progress Scalar
  evaluate s held (value at t form) w = and_then (perform s held at t form w) (λ x w. or_undefined (used x) at.span w (λ x. gives x w))

  -- a tree whose value isn't used: an expression statement, and the operand of a cast to `void` (C99 6.8.3p2, 6.3.2.2)
  pub discard : Setting → List Held → PlainValue → State → Progress (Option Scalar)
  discard s held (value at t form) w = perform s held at t form w

  -- what comes of a form of a value at its place, of its type
  pub perform : Setting → List Held → At → PlainType → PlainForm → State → Progress (Option Scalar)
  -- a constant: 1 (C99 6.4.4)
  perform s held at t (constant z) w = step w (λ w. give (Int z) w)
  -- a read: 1 and the place. Of a structure no scalar is read (C99 6.3.2.1p2)
  perform s held at t (read p) w =
      step w (λ w. and_then (locate s held p w) (λ target w.
      if is_structure t then gives None w else and_then (read_target (place_at p).span t held target w) give))
  -- a read of a sensor: 1
  perform s held at t (sense n) w = step w (λ w. and_then (sensed t w) give)
  -- an address: 1 and the place (C99 6.5.3.2p3)
  perform s held at t (address p) w = step w (λ w. and_then (locate s held p w) (λ target w. give (Pointer (pointer_to target)) w))
  -- a name or another place used as an array's value: 1 and the place; it is the pointer to the first element: U5, U7 (C99 6.3.2.1p3)
  perform s held at t (decay p) w =
      step w (λ w. and_then (locate s held p w) (λ target w.
      or_undefined (inner w.objects (pointer_to target) 0 (width s.program (element_type (place_type p))) (element_count (place_type p))) at.span w
      (λ q. give (Pointer q) w)))
  -- a conversion that isn't written: its operand (C99 6.3)
  perform s held at t (convert v) w = and_then (evaluate s held v w) (λ x w. give (converted_to t x) w)
  -- a written cast: 1 and its operand (C99 6.5.4)
  perform s held at t (cast v) w =
      step w (λ w.
      if is_void t
      then and_then (discard s held v w) (λ x w. gives None w)
      else and_then (evaluate s held v w) (λ x w. give (converted_to t x) w))
  -- a unary operator: 1 and its operand (C99 6.5.3.3)
  perform s held at t (unary op v) w =
      step w (λ w. and_then (evaluate s held v w) (λ x w. or_undefined (operated_unary op t x) at.span w (λ z. give z w)))
  -- a binary operator: 1, the left operand, the right operand (C99 6.5.5 to 6.5.12)
  perform s held at t (binary op a b) w =
      step w (λ w. and_then (evaluate s held a w) (λ x w. and_then (evaluate s held b w) (λ y w.
      or_undefined (operated op t w.objects x y) at.span w (λ z. give z w))))
  -- `&&` and `||`: 1, the left operand, and the right one where the left doesn't decide (C99 6.5.13, 6.5.14)
  perform s held at t (logic op a b) w =
      step w (λ w. and_then (evaluate s held a w) (λ x w.
      if is_decided op (is_true x)
      then give (truth_value (is_true x)) w
      else and_then (evaluate s held b w) (λ y w. give (truth_value (is_true y)) w)))
  -- `?:`: 1, the condition, the chosen operand (C99 6.5.15)
  perform s held at t (conditional c a b) w =
      step w (λ w. and_then (evaluate s held c w) (λ x w. and_then (if is_true x then evaluate s held a w else evaluate s held b w) give))
  -- a call of a defined function: 1, the arguments, the callee (C99 6.5.2.2)
  perform s held at t (call name f arguments) w = step w (λ w. and_then (evaluate_all s held arguments w) (λ xs w. s.call f xs w))
  -- a call of a library function: 1, the arguments; an allocation's is the number of elements (C99 7.2.1.1, 7.19.7, 7.20.3)
  perform s held at t (built_in name function arguments) w =
      step w (λ w. and_then (evaluate_all s held arguments w) (λ xs w. library s.program function at.span t xs w))

  -- the values of arguments, from left to right
  pub evaluate_all : Setting → List Held → PlainValues → State → Progress (List Scalar)
  evaluate_all s held no_values w = gives [] w
  evaluate_all s held (more_values v vs) w =
      and_then (evaluate s held v w) (λ x w. and_then (evaluate_all s held vs w) (λ xs w. gives (x ∷ xs) w))

  -- the place that a tree stands for
  pub locate : Setting → List Held → PlainPlace → State → Progress Target
  locate s held (place at t form) w = find_place s held at t form w

  -- the place that a form of a place stands for, at its tree, of its type
  pub find_place : Setting → List Held → At → PlainType → PlainPlaceForm → State → Progress Target
  -- a name: 0 (C99 6.5.1p2)
  find_place s held at t (variable n) w = or_undefined (variable_target n (width s.program t) (slice_get held n)) at.span w (λ target. gives target w)
  find_place s held at t (global n) w = or_undefined (global_target n (width s.program t) (slice_get s.program.objects n)) at.span w (λ target. gives target w)
  -- a string literal: 0 (C99 6.5.1p4)
  find_place s held at t (literal n bytes) w =
      or_undefined (literal_target (width s.program t) (literal_number n (length s.program.objects) s.program.literals)) at.span w (λ target. gives target w)
  -- an element: 1, the pointer, the number: U5, U7, U6 (C99 6.5.2.1)
  find_place s held at t (index a i) w =
      step w (λ w. and_then (evaluate s held a w) (λ x w. and_then (evaluate s held i w) (λ y w.
      or_undefined (shift w.objects (pointer_of x) (number_of y)) at.span w (λ q. gives (Element q) w))))
  -- a member: 1 and the structure's place: U5, U7 (C99 6.5.2.3)
  find_place s held at t (member p m) w =
      step w (λ w. and_then (locate s held p w) (λ target w.
      or_undefined (inner w.objects (pointer_to target) (scalars_before s.program (bare s.program.structures (place_type p)) m) (width s.program t) 1) at.span w
      (λ q. gives (Element q) w)))
  -- a dereference: 1 and the pointer: U5, U7 (C99 6.5.3.2p4)
  find_place s held at t (dereference v) w =
      step w (λ w. and_then (evaluate s held v w) (λ x w. or_undefined (reach w.objects (pointer_of x)) at.span w (λ object. gives (Element (pointer_of x)) w)))
