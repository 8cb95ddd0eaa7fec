-- Where objects and cells stand among all.
use Rattle.std.specs.Prelude.{◌≡◌, ◌≢◌, ℕ, ◌+◌, ◌<◌, ltb, eqb, ◌&&◌, if◌then◌else◌, Bool, true, List, [], ◌∷◌, length, set, get_or, slice_get, ◌++◌, ◌≤◌, false, take, Option, Some, None, Result, Ok, Err}
use Rattle.p10_int.specs.declared.operators.Stop.{Stop}
use Rattle.p10_int.specs.declared.operators.Stop.TheVariants.{U5, U6, U7}
use Rattle.p10_meaning.specs.declared.pointers.Window.{Window}
use Rattle.p10_meaning.specs.declared.pointers.Ptr.{Ptr}
use Rattle.p10_meaning.specs.declared.pointers.Ptr.TheVariants.{Null, To}
use Rattle.p10_meaning.specs.declared.pointers.Cell.{Cell}
use Rattle.p10_meaning.specs.Objects.{Origin, on_ok, or_stop, scalar_at, cell_at, may_write, target_at, put_at, closed, release, is_allocated}
use Rattle.p10_store.specs.declared.slots.Slot.{Slot}
use Rattle.p10_store.specs.declared.slots.Provenance.{Provenance}
use Rattle.p10_store.specs.Ranges.{kind_of, objects_of, AreTiled, kept_slots, width}

-- whether a slot has the live object with a number
abbrev pub has : ℕ → Slot → Bool
has n s = s.live && eqb s.number n

-- the slot of the live object with a number
abbrev pub slot_at : ℕ → List Slot → Option Slot
slot_at n [] = None
slot_at n (s ∷ slots) = if has n s then Some s else slot_at n slots

-- the place among all cells of the scalar of a slot, with what the slot's object is
abbrev pub in_range : Slot → ℕ → Result (ℕ × Provenance) Stop
in_range s i = if ltb i s.len then Ok (s.start + i, s.provenance) else Err U6

-- the place among all cells of the cell at a pointer
abbrev pub place_in : List Slot → Ptr → Result (ℕ × Provenance) Stop
place_in slots Null = Err U5
place_in slots (To o window n) =
    on_ok (or_stop (slot_at o slots) U7) (λ s. on_ok (scalar_at window n) (λ i. in_range s i))

-- the cell at a pointer is that at a place among all: its value, whether it may be written, and that writing it changes that cell
-- of its object and nothing else
pub record IsCellAt (cells : List Cell) (slots : List Slot) (pointer : Ptr) (i : ℕ) (origin : Origin) : Type 0 where
  pub below : i < length cells
  pub cell : (d : Cell) → cell_at (objects_of cells slots) pointer ≡ Ok (get_or cells i d)
  pub target : (d : Cell) → target_at (objects_of cells slots) pointer ≡ on_ok (may_write origin) (λ _. Ok (get_or cells i d))
  pub put : (c : Cell) → objects_of (set cells i c) slots ≡ put_at (objects_of cells slots) pointer c

-- there is no cell at a pointer
pub record IsNoCell (cells : List Cell) (slots : List Slot) (pointer : Ptr) (stop : Stop) : Type 0 where
  pub cell : cell_at (objects_of cells slots) pointer ≡ Err stop
  pub target : target_at (objects_of cells slots) pointer ≡ Err stop

-- what is found is where the pointer's cell stands
abbrev pub Places : List Cell → List Slot → Ptr → Result (ℕ × Provenance) Stop → Type 0
Places cells slots pointer (Ok place) = IsCellAt cells slots pointer place.0 (kind_of place.1)
Places cells slots pointer (Err stop) = IsNoCell cells slots pointer stop

-- a slot of the object with a number, live or dead
pub record HasSlot (slots : List Slot) (n i : ℕ) : Type 0 where
  pub slot : Slot
  pub there : slice_get slots i ≡ Some slot
  pub number : slot.number ≡ n

-- the place among all cells of the cell at a pointer that is to be written
pub record IsTargetAt (cells : List Cell) (slots : List Slot) (pointer : Ptr) (i : ℕ) : Type 0 where
  pub below : i < length cells
  pub target : (d : Cell) → target_at (objects_of cells slots) pointer ≡ Ok (get_or cells i d)
  pub put : (c : Cell) → objects_of (set cells i c) slots ≡ put_at (objects_of cells slots) pointer c

-- what is found is where the pointer's cell stands that is to be written
abbrev pub Targets : List Cell → List Slot → Ptr → Result ℕ Stop → Type 0
Targets cells slots pointer (Ok i) = IsTargetAt cells slots pointer i
Targets cells slots pointer (Err stop) = target_at (objects_of cells slots) pointer ≡ Err stop

-- whether `free` of a pointer to the object of a slot ends that object: it is a live allocation, and the pointer stands at its
-- first place (C99 7.20.3.2)
abbrev pub frees : Slot → Window → ℕ → Bool
frees s window n = s.live && (is_allocated (kind_of s.provenance) && (window.whole && eqb n 0))

-- a slot whose live object `free` of a pointer ends
pub record IsFreed (cells : List Cell) (slots : List Slot) (pointer : Ptr) (n i : ℕ) : Type 0 where
  pub slot : Slot
  pub there : slice_get slots i ≡ Some slot
  pub number : slot.number ≡ n
  pub live : slot.live ≡ true
  pub freed : release (objects_of cells slots) pointer ≡ Ok (closed n (objects_of cells slots))

-- the place of the slot of the object with a number, live or dead, or that there is none
abbrev pub HasPlace : List Slot → ℕ → Option ℕ → Type 0
HasPlace slots n (Some i) = HasSlot slots n i
HasPlace slots n None = (i : ℕ) (s : Slot) → slice_get slots i ≡ Some s → s.number ≢ n

-- a slot of the live object with a number
pub record HasLiveSlot (slots : List Slot) (n i : ℕ) : Type 0 where
  pub slot : Slot
  pub there : slice_get slots i ≡ Some slot
  pub number : slot.number ≡ n
  pub live : slot.live ≡ true

-- the place of the slot of the live object with a number, or that there is none
abbrev pub HasLivePlace : List Slot → ℕ → Option ℕ → Type 0
HasLivePlace slots n (Some i) = HasLiveSlot slots n i
HasLivePlace slots n None = slot_at n slots ≡ None

-- what `free` of a pointer does is to empty this slot, or nothing where there is none
abbrev pub FreesAt : List Cell → List Slot → Ptr → Result (Option ℕ) Stop → Type 0
FreesAt cells slots Null (Ok None) = Unit {0}
FreesAt cells slots Null (Ok (Some i)) = ⊥
FreesAt cells slots (To o window n) (Ok None) = ⊥
FreesAt cells slots (To o window n) (Ok (Some i)) = IsFreed cells slots (To o window n) o i
FreesAt cells slots pointer (Err stop) = release (objects_of cells slots) pointer ≡ Err stop

-- the slot at the end was taken, and is dead; or none is dead there
abbrev pub IsLastDead : List Slot → List Slot → Option Slot → Type 0
IsLastDead old new (Some s) = (old ≡ new ++ s ∷ []) × (s.live ≡ false)
IsLastDead old new None = (new ≡ old) × (kept_slots old ≡ old)

-- how far a search for a number has come: the slots before `low` have lower numbers, and those from `high` on have higher ones
pub record IsSearched (slots : List Slot) (n low high : ℕ) : Type 0 where
  pub order : low ≤ high
  pub within : high ≤ length slots
  pub lower : (i : ℕ) (s : Slot) → slice_get slots i ≡ Some s → i < low → s.number < n
  pub higher : (i : ℕ) (s : Slot) → slice_get slots i ≡ Some s → high ≤ i → n < s.number

-- how far dead slots at the end were let go: what is kept in the end is the same
pub record AreTrimmed (oldcells : List Cell) (old : List Slot) (cells : List Cell) (slots : List Slot) : Type 0 where
  pub tiled : AreTiled 0 slots (length cells)
  pub slots_kept : kept_slots slots ≡ kept_slots old
  pub cells_kept : take (width (kept_slots slots)) cells ≡ take (width (kept_slots old)) oldcells
