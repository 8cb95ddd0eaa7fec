-- What is found at once: trees that take steps and change nothing else.
use Rattle.std.specs.Prelude.{◌≡◌, ℕ, suc, ◌<◌, Bool, true, false, List, map, ℤ, Option, Some, None, Result, Ok}
use Rattle.p10_base.specs.declared.at.At.{At}
use Rattle.p10_int.specs.declared.operators.Stop.{Stop}
use Rattle.p10_core.specs.Types.{PlainType}
use Rattle.p10_core.specs.Typed.{PlainForm, PlainValue, PlainPlace, PlainPlaceForm, place_at, place_type, PlainObject}
use Rattle.p10_core.specs.Views.{plain_program}
use Rattle.p10_meaning.specs.declared.pointers.Scalar.{Scalar}
use Rattle.p10_meaning.specs.declared.pointers.Scalar.TheVariants.{Int, Pointer}
use Rattle.p10_meaning.specs.declared.pointers.Cell.{Cell}
use Rattle.p10_meaning.specs.declared.pointers.Ptr.{Ptr}
use Rattle.p10_meaning.specs.declared.pointers.Window.{Window}
use Rattle.p10_meaning.specs.Objects.{Object, reach, shift, cell_at}
use Rattle.p10_meaning.specs.Pointers.{first_of}
use Rattle.p10_meaning.specs.Scalars.{converted_to}
use Rattle.p10_meaning.specs.States.{State, Progress, gives, step, and_then}
use Rattle.p10_meaning.specs.Values.{Setting, Held, Element, width, is_void, evaluate, perform, locate, find_place, read_target}
use Rattle.p10_interp.specs.declared.surroundings.Surroundings.{Surroundings}
use Rattle.p10_interp.specs.private.Standing.{held_of}

-- where a step is left, this is what a piece gives in each state with these objects and `before` steps, and it leaves all but the
-- steps as it was
abbrev pub Finds : {A : Type 0} → (State → Progress A) → List Object → ℕ → A → ℕ → Type 0
Finds run objects before x after = 0 < after → (w : State) → w.objects ≡ objects → run (record w { left = before }) ≡ gives x (record w { left = after })

-- the same for a tree in the innermost call of a program
abbrev pub Settles : {A : Type 0} → Surroundings → (Setting → List Held → State → Progress A) → ℕ → A → ℕ → Type 0
Settles around run before x after = (s : Setting) → s.program ≡ plain_program around.p.now → Finds (run s (map held_of around.held.now)) around.store.now.objects before x after

-- the same for a form of a value, wherever it stands
abbrev pub Performs : Surroundings → PlainType → PlainForm → ℕ → Scalar → ℕ → Type 0
Performs around t form before x after = (at : At) → Settles around (λ s held. perform s held at t form) before (Some x) after

-- what is read from a place
abbrev pub read_at_place : PlainPlace → PlainType → Setting → List Held → State → Progress Scalar
read_at_place q t s held w = and_then (locate s held q w) (λ target w. read_target (place_at q).span t held target w)

-- a cell that was found holds a scalar
abbrev pub IsHolding : Option Cell → Scalar → Type 0
IsHolding None x = ⊥
IsHolding (Some cell) x = cell.value ≡ Some x

-- a step was taken and another one is left, or none is left
abbrev pub Pays : Bool → ℕ → ℕ → Type 0
Pays true before after = before ≡ suc after
Pays false before after = after ≡ 0

-- a result was found without a step, or no step is left
abbrev pub IsFound : {A : Type 0} → Result A Stop → ℕ → A → ℕ → Type 0
IsFound r before x after = 0 < after → (after ≡ before) × (r ≡ Ok x)

-- the same for a form of a place, wherever it stands
abbrev pub Locates : Surroundings → PlainType → PlainPlaceForm → ℕ → Ptr → ℕ → Type 0
Locates around t form before q after = (at : At) → Settles around (λ s held. find_place s held at t form) before (Element q) after

-- a number was converted to a type that isn't `void` without a step, or no step is left
abbrev pub IsConverted : PlainType → ℤ → ℕ → ℤ → ℕ → Type 0
IsConverted t a before z after = 0 < after → (after ≡ before) × ((converted_to t (Int a) ≡ Int z) × (is_void t ≡ false))

-- a scalar was taken from a cell that was found, without a step, or no step is left
abbrev pub IsTaken : Option Cell → ℕ → Scalar → ℕ → Type 0
IsTaken cell before x after = 0 < after → (after ≡ before) × IsHolding cell x

-- a place is an object as a whole, whether it is live or not
abbrev pub LocatesObject : Surroundings → PlainPlace → ℕ → Type 0
LocatesObject around q n = (s : Setting) → s.program ≡ plain_program around.p.now → (w : State) → locate s (map held_of around.held.now) q w ≡ gives (Element (first_of n (width s.program (place_type q)) 1)) w

-- a value takes a step and is the pointer to the first element of an array, where the object of this one is live
abbrev pub Starts : Setting → List Held → PlainValue → Ptr → Type 0
Starts s held v start = (w : State) (object : Object) → reach w.objects start ≡ Ok object → evaluate s held v w ≡ step w (λ w. gives (Pointer start) w)

-- the same for a tree in the innermost call of a program
abbrev pub StartsArray : Surroundings → PlainValue → Ptr → Type 0
StartsArray around v start = (s : Setting) → s.program ≡ plain_program around.p.now → Starts s (map held_of around.held.now) v start

-- an object of static lifetime is there, and is no sensor
abbrev pub IsNoSensor : Option PlainObject → Type 0
IsNoSensor None = ⊥
IsNoSensor (Some object) = object.sensor ≡ false

-- the array that an object is as a whole, by the scalars of an element and the number of elements
abbrev pub array_window : ℕ → ℕ → Window
array_window stride count = record { start = 0; stride = stride; count = count; inside = true; whole = false }

-- a pointer stands `by` elements after another one in its array, where their object is live
abbrev pub IsMoved : Ptr → ℤ → Ptr → Type 0
IsMoved start by there = (objects : List Object) (object : Object) → reach objects there ≡ Ok object → shift objects start by ≡ Ok there

-- the cell of an element, by a number from the first one on
pub record IsElement (objects : List Object) (start : Ptr) (by : ℤ) (cell : Cell) : Type 0 where
  pub there : Ptr
  pub moved : shift objects start by ≡ Ok there
  pub held : cell_at objects there ≡ Ok cell
