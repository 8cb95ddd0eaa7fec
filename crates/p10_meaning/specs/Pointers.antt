-- Pointers: which array of which object they point into, and when two of them are one.
use Rattle.std.specs.Prelude.{ℕ, ◌+◌, ◌*◌, min, ltb, eqb, ◌&&◌, not, Bool, true, false, Option, Some, None, Result, Ok, Err}
use Rattle.p10_int.specs.declared.operators.Stop.{Stop}
use Rattle.p10_int.specs.declared.operators.Stop.TheVariants.{U8}
use Rattle.p10_meaning.specs.declared.pointers.Window.{Window}
use Rattle.p10_meaning.specs.declared.pointers.Ptr.{Ptr}
use Rattle.p10_meaning.specs.declared.pointers.Ptr.TheVariants.{Null, To}
use Rattle.p10_meaning.specs.declared.pointers.Scalar.{Scalar}
use Rattle.p10_meaning.specs.declared.pointers.Cell.{Cell}

-- ## Cells

-- a cell that holds nothing
abbrev pub unset : Cell
unset = record { value = None }

-- a cell that holds a scalar
abbrev pub holding : Scalar → Cell
holding x = record { value = Some x }

-- what is held, or U8
abbrev pub scalar_of : Option Scalar → Result Scalar Stop
scalar_of None = Err U8
scalar_of (Some x) = Ok x

-- the scalar that is read from a cell: an unset one has none (U8)
abbrev pub read_of : Cell → Result Scalar Stop
read_of cell = scalar_of cell.value

-- ## Arrays in an object

-- an object of n elements, each of `stride` scalars, as an array: a single object is an array of one (C99 6.5.6p7)
abbrev pub whole_window : ℕ → ℕ → Window
whole_window stride n = record { start = 0; stride = stride; count = n; inside = true; whole = true }

-- the pointer to the first element of that array
abbrev pub first_of : ℕ → ℕ → ℕ → Ptr
first_of object stride n = To object (whole_window stride n) 0

-- the last number of a scalar in an object: no object has as many scalars
abbrev pub last_number : ℕ
last_number = 18446744073709551615

-- the array of `count` elements of `stride` scalars that begins at scalar `at` of the element at a position.
-- An element at a one-past position isn't there, and so isn't an array in it: then `inside` is false.
-- No scalar of an object has a number over 2^64 - 1, so the bound of `start` changes no array that lies in its object
abbrev pub window_in : Window → ℕ → ℕ → ℕ → ℕ → Window
window_in window position at stride count = record {
  start = min (window.start + position * window.stride + at) last_number;
  stride = stride;
  count = count;
  inside = window.inside && ltb position window.count;
  whole = false;
}

-- ## Equality

-- two flags are equal
abbrev pub same_flag : Bool → Bool → Bool
same_flag true b = b
same_flag false b = not b

-- two arrays of one object are the same array
abbrev pub same_window : Window → Window → Bool
same_window a b =
    eqb a.start b.start && eqb a.stride b.stride && eqb a.count b.count && same_flag a.inside b.inside && same_flag a.whole b.whole

-- pointers are equal where both are null, or object, array and position agree; whether the object is live doesn't count (C99 6.5.9p6)
abbrev pub same_pointer : Ptr → Ptr → Bool
same_pointer Null Null = true
same_pointer Null (To k b m) = false
same_pointer (To o a n) Null = false
same_pointer (To o a n) (To k b m) = eqb o k && same_window a b && eqb n m

-- whether a pointer is null (C99 6.3.2.3p3)
abbrev pub is_null : Ptr → Bool
is_null Null = true
is_null (To o a n) = false
