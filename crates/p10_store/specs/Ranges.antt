-- Objects as ranges of one list of cells.
use Rattle.std.specs.Prelude.{◌≡◌, ℕ, suc, ◌+◌, ◌*◌, ◌<◌, ◌≤◌, if◌then◌else◌, List, [], ◌∷◌, length, take, drop, Option, Some, None}
use Rattle.p10_meaning.specs.declared.pointers.Cell.{Cell}
use Rattle.p10_meaning.specs.Objects.{Object, Origin, declared, allocated, literal}
use Rattle.p10_store.specs.declared.slots.Slot.{Slot}
use Rattle.p10_store.specs.declared.slots.Provenance.{Provenance}
use Rattle.p10_store.specs.declared.slots.Provenance.TheVariants.{Declared, Allocated, Literal}
use Rattle.p10_store.specs.Stores.{Handle}

-- what the provenance of a slot is in the meaning
abbrev pub kind_of : Provenance → Origin
kind_of Declared = declared
kind_of Allocated = allocated
kind_of Literal = literal

-- the object of a slot with these cells before other objects: none where the slot is dead
abbrev pub kept : Slot → List Cell → List Object → List Object
kept s cells objects =
    if s.live then record { number = s.number; origin = kind_of s.provenance; cells = cells } ∷ objects else objects

-- the live objects: each slot has as many cells as it is long, one slot after the other
abbrev pub objects_of : List Cell → List Slot → List Object
objects_of cells [] = []
objects_of cells (s ∷ slots) = kept s (take s.len cells) (objects_of (drop s.len cells) slots)

-- what callers see of a slot
abbrev pub handle_of : Slot → Option Handle
handle_of s = if s.live then Some (record { number = s.number; stride = s.stride; count = s.count }) else None

-- the ranges follow one another from one place on, and end at another
abbrev pub AreTiled : ℕ → List Slot → ℕ → Type 0
AreTiled n [] m = n ≡ m
AreTiled n (s ∷ slots) m = (s.start ≡ n) × AreTiled (n + s.len) slots m

-- numbers grow from slot to slot, from n on
abbrev pub AreGrowing : ℕ → List Slot → Type 0
AreGrowing n [] = Unit {0}
AreGrowing n (s ∷ slots) = (n ≤ s.number) × AreGrowing (suc s.number) slots

-- each number is below the count of opens
abbrev pub AreBelow : ℕ → List Slot → Type 0
AreBelow opened [] = Unit {0}
AreBelow opened (s ∷ slots) = (s.number < opened) × AreBelow opened slots

-- each range is as long as its elements have scalars
abbrev pub AreLong : List Slot → Type 0
AreLong [] = Unit {0}
AreLong (s ∷ slots) = (s.len ≡ s.count * s.stride) × AreLong slots

-- what a store keeps of its cells and slots
pub record IsStore (cells : List Cell) (slots : List Slot) (opened : ℕ) : Type 0 where
  pub tiled : AreTiled 0 slots (length cells)
  pub growing : AreGrowing 0 slots
  pub below : AreBelow opened slots
  pub long : AreLong slots

-- the slots without the dead ones at the end
abbrev pub kept_before : Slot → List Slot → List Slot
kept_before s [] = if s.live then s ∷ [] else []
kept_before s (next ∷ slots) = s ∷ next ∷ slots

abbrev pub kept_slots : List Slot → List Slot
kept_slots [] = []
kept_slots (s ∷ slots) = kept_before s (kept_slots slots)

-- how many cells slots have
abbrev pub width : List Slot → ℕ
width [] = 0
width (s ∷ slots) = s.len + width slots
