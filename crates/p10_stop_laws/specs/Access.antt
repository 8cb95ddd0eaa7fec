-- When the scalar at a pointer can't be reached, read or written, in the words of C99, and in which stop that ends.
use Rattle.std.specs.Prelude.{◌≡◌, ◌≢◌, ◌↔◌, ℕ, ◌+◌, ◌<◌, ◌≤◌, true, false, List, length, slice_get, Option, Some, Ok, Err}
use Rattle.p10_int.specs.declared.operators.Stop.{Stop}
use Rattle.p10_int.specs.declared.operators.Stop.TheVariants.{U5, U6, U7, U8, U12}
use Rattle.p10_meaning.specs.declared.pointers.Window.{Window}
use Rattle.p10_meaning.specs.declared.pointers.Ptr.{Ptr}
use Rattle.p10_meaning.specs.declared.pointers.Ptr.TheVariants.{Null, To}
use Rattle.p10_meaning.specs.declared.pointers.Scalar.{Scalar}
use Rattle.p10_meaning.specs.declared.pointers.Cell.{Cell}
use Rattle.p10_meaning.specs.Pointers.{unset, holding, read_of}
use Rattle.p10_meaning.specs.Objects.{Object, literal, on_ok, find, reach, cell_at, write_at, inner}
use Rattle.p10_meaning.specs.Values.{Held, holds, held_cell}
use Rattle.p10_stop_laws.specs.Moves.{IsDead}

-- ## Reaching

-- no object is reached through a pointer: it is null, or its object is dead (C99 6.5.3.2p4)
pub data CannotReach (objects : List Object) : Ptr → Stop → Type 0 where
  null_reached : CannotReach objects Null U5
  dead_reached : (o : ℕ) (window : Window) (n : ℕ) → IsDead objects o → CannotReach objects (To o window n) U7

-- a dereference ends in a stop exactly then, and so does the way to the first element of an array and to a member
pub record ReachesStopThen : Type 0 where
  pub dereferences : (objects : List Object) (q : Ptr) (stop : Stop) → (reach objects q ≡ Err stop) ↔ CannotReach objects q stop
  pub parts : (objects : List Object) (q : Ptr) (at stride count : ℕ) (stop : Stop) → (inner objects q at stride count ≡ Err stop) ↔ CannotReach objects q stop

-- ## Scalars

-- no scalar of an object stands at a position of an array of scalars: the array isn't there, since it would lie in an element past the last one
-- of another, the position is past the last, or the object has fewer scalars (C99 6.5.6p8)
pub data HasNoScalar (object : Object) (window : Window) (n : ℕ) : Type 0 where
  array_not_there : window.inside ≡ false → HasNoScalar object window n
  past_array : window.count ≤ n → HasNoScalar object window n
  past_object : length object.cells ≤ window.start + n → HasNoScalar object window n

-- the scalar at a pointer can't be accessed
pub data CannotAccess (objects : List Object) : Ptr → Stop → Type 0 where
  unreached : (q : Ptr) (stop : Stop) → CannotReach objects q stop → CannotAccess objects q stop
  no_scalar : (o : ℕ) (window : Window) (n : ℕ) (object : Object) → find o objects ≡ Some object → HasNoScalar object window n → CannotAccess objects (To o window n) U6

-- a cell is that of a live object at a pointer
pub data StandsAt (objects : List Object) (object : Object) (cell : Cell) : Ptr → Type 0 where
  element : (o : ℕ) (window : Window) (n : ℕ) → find o objects ≡ Some object → window.inside ≡ true → n < window.count → slice_get object.cells (window.start + n) ≡ Some cell →
      StandsAt objects object cell (To o window n)

-- the scalar at a pointer can't be read: besides, it may be unset (C99 6.7.8p10, 6.2.4p5)
pub data CannotRead (objects : List Object) : Ptr → Stop → Type 0 where
  unaccessed_read : (q : Ptr) (stop : Stop) → CannotAccess objects q stop → CannotRead objects q stop
  unset_there : (q : Ptr) (object : Object) → StandsAt objects object unset q → CannotRead objects q U8

-- it can't be written: besides, it may be one of a string literal (C99 6.4.5p6)
pub data CannotWrite (objects : List Object) : Ptr → Stop → Type 0 where
  unaccessed_write : (q : Ptr) (stop : Stop) → CannotAccess objects q stop → CannotWrite objects q stop
  literal_there : (q : Ptr) (object : Object) (cell : Cell) → StandsAt objects object cell q → object.origin ≡ literal → CannotWrite objects q U12

-- nothing is held for a frame variable: its cell is unset, or it has none
abbrev pub HoldsNothing : Option Held → Type 0
HoldsNothing held = (x : Scalar) → held ≢ Some (holds (holding x))

-- accesses, reads and writes end in a stop exactly then; else the cell is the one that stands there
pub record AccessesStopThen : Type 0 where
  pub cells : (objects : List Object) (q : Ptr) (cell : Cell) → (cell_at objects q ≡ Ok cell) ↔ ((object : Object) × StandsAt objects object cell q)
  pub accesses : (objects : List Object) (q : Ptr) (stop : Stop) → (cell_at objects q ≡ Err stop) ↔ CannotAccess objects q stop
  pub reads : (objects : List Object) (q : Ptr) (stop : Stop) → (on_ok (cell_at objects q) read_of ≡ Err stop) ↔ CannotRead objects q stop
  pub writes : (objects : List Object) (q : Ptr) (cell : Cell) (stop : Stop) → (write_at objects q cell ≡ Err stop) ↔ CannotWrite objects q stop
  pub frame_variables : (held : Option Held) (stop : Stop) → (read_of (held_cell held) ≡ Err stop) ↔ ((U8 ≡ stop) × HoldsNothing held)
