-- What writing, opening and closing do to objects, and what they leave as it is.
use Rattle.std.specs.Prelude.{◌≡◌, ◌≢◌, ℕ, ◌+◌, List, ℤ, Option, Some, None, Ok}
use Rattle.p10_core.specs.Typed.{PlainProgram}
use Rattle.p10_meaning.specs.declared.pointers.Ptr.{Ptr}
use Rattle.p10_meaning.specs.declared.pointers.Ptr.TheVariants.{Null, To}
use Rattle.p10_meaning.specs.declared.pointers.Cell.{Cell}
use Rattle.p10_meaning.specs.Objects.{Origin, Object, find, cell_at, write_at, shift, opened_with, closed}
use Rattle.p10_meaning.specs.States.{State}
use Rattle.p10_meaning.specs.Sound.{Kind, Sound}

-- the object's number and the scalar's, at a pointer to scalars
abbrev pub scalar_of_object : Ptr → Option (ℕ × ℕ)
scalar_of_object Null = None
scalar_of_object (To o window n) = Some (o, window.start + n)

-- a write at a pointer changes the scalar there and no other, and ends no object
pub record WritesOne (objects after : List Object) (q : Ptr) (cell : Cell) : Type 0 where
  pub here : cell_at after q ≡ Ok cell
  pub others : (r : Ptr) → scalar_of_object r ≢ scalar_of_object q → cell_at after r ≡ cell_at objects r
  pub moves : (r : Ptr) (by : ℤ) → shift after r by ≡ shift objects r by

-- every write does so
abbrev pub WritesChangeOne : Type 0
WritesChangeOne = (objects after : List Object) (q : Ptr) (cell : Cell) → write_at objects q cell ≡ Ok after → WritesOne objects after q cell

-- the object that is closed is dead, and the others stay as they are
pub record ClosesOne (objects : List Object) (n : ℕ) : Type 0 where
  pub dead : find n (closed n objects) ≡ None
  pub others : (m : ℕ) → m ≢ n → find m (closed n objects) ≡ find m objects

-- in a sound state closing an object ends that one alone
abbrev pub ClosingEndsOne : Type 0
ClosingEndsOne = (p : PlainProgram) (ks : List Kind) (w : State) → Sound p ks w → (n : ℕ) → ClosesOne w.objects n

-- the object that is opened is there under its number, and the others stay as they are
pub record OpensOne (objects : List Object) (n : ℕ) (origin : Origin) (cells : List Cell) : Type 0 where
  pub new : find n (opened_with objects n origin cells) ≡ Some (record { number = n; origin = origin; cells = cells })
  pub others : (m : ℕ) → m ≢ n → find m (opened_with objects n origin cells) ≡ find m objects

-- in a sound state the next object has a number that no object had
abbrev pub OpeningAddsOne : Type 0
OpeningAddsOne = (p : PlainProgram) (ks : List Kind) (w : State) → Sound p ks w → (origin : Origin) (cells : List Cell) → OpensOne w.objects w.opened origin cells
