-- What a store holds, and what its calls change.
use Rattle.std.specs.Prelude.{◌≡◌, ℕ, ◌+◌, ◌*◌, ◌≤◌, eqb, if◌then◌else◌, List, [], ◌∷◌, ◌++◌, map, Option, Some, None, slice_get, Result, Ok, Err}
use Rattle.p10_int.specs.declared.operators.Stop.{Stop}
use Rattle.p10_meaning.specs.declared.pointers.Ptr.{Ptr}
use Rattle.p10_meaning.specs.declared.pointers.Ptr.TheVariants.{Null, To}
use Rattle.p10_meaning.specs.Pointers.{first_of}
use Rattle.p10_meaning.specs.Objects.{Object, opened_with, closed}
use Rattle.p10_store.specs.declared.shape.Origin.{Origin}
use Rattle.p10_store.specs.Origins.{origin_of, first_cells}

-- a live object as its slot has it: its number, how many scalars an element has, and how many elements it has
pub record Handle : Type 0 where
  pub number : ℕ
  pub stride : ℕ
  pub count : ℕ

-- a store: how many objects were opened, the live ones in the order in which they were opened, for each slot the live object in
-- it, and for how many more objects and scalars there is room
pub record Held : Type 0 where
  pub opened : ℕ
  pub objects : List Object
  pub slots : List (Option Handle)
  pub spare_objects : ℕ
  pub spare_cells : ℕ

-- a slot that has a live object
pub record IsLiveIn (slots : List (Option Handle)) (slot : ℕ) : Type 0 where
  pub handle : Handle
  pub there : slice_get slots slot ≡ Some (Some handle)

-- the pointer to the first element of the object in a slot: null where there is none
abbrev pub first_in : Option (Option Handle) → Ptr
first_in None = Null
first_in (Some None) = Null
first_in (Some (Some h)) = first_of h.number h.stride h.count

-- the same objects in the same slots, and no less room
pub record StaysWithRoom (old new : Held) : Type 0 where
  pub opened : new.opened ≡ old.opened
  pub objects : new.objects ≡ old.objects
  pub slots : new.slots ≡ old.slots
  pub spare_objects : old.spare_objects ≤ new.spare_objects
  pub spare_cells : old.spare_cells ≤ new.spare_cells

-- ## Opening

-- one more object, of `count` elements of `stride` scalars, in a slot after all others; it takes no more room than that of one
-- object and of its scalars
pub record Opens (old new : Held) (stride count : ℕ) (origin : Origin) : Type 0 where
  pub opened : new.opened ≡ old.opened + 1
  pub objects : new.objects ≡ opened_with old.objects old.opened (origin_of origin) (first_cells origin (count * stride))
  pub slots : new.slots ≡ old.slots ++ Some (record { number = old.opened; stride = stride; count = count }) ∷ []
  pub spare_objects : old.spare_objects ≤ new.spare_objects + 1
  pub spare_cells : old.spare_cells ≤ new.spare_cells + count * stride

-- ## Closing

-- what a slot has once the object with a number is dead
abbrev pub left_in : ℕ → Option Handle → Option Handle
left_in n None = None
left_in n (Some h) = if eqb h.number n then None else Some h

-- the slots without the object with a number
abbrev pub vacated : ℕ → List (Option Handle) → List (Option Handle)
vacated n slots = map (left_in n) slots

-- a slot before others: an empty one with none after it is let go
abbrev pub before : Option Handle → List (Option Handle) → List (Option Handle)
before None [] = []
before (Some h) [] = Some h ∷ []
before slot (next ∷ slots) = slot ∷ next ∷ slots

-- the slots without the empty ones at the end
abbrev pub trimmed : List (Option Handle) → List (Option Handle)
trimmed [] = []
trimmed (slot ∷ slots) = before slot (trimmed slots)

-- the object with a number is dead; there is no less room
pub record Closes (n : ℕ) (old new : Held) : Type 0 where
  pub opened : new.opened ≡ old.opened
  pub objects : new.objects ≡ closed n old.objects
  pub slots : new.slots ≡ trimmed (vacated n old.slots)
  pub spare_objects : old.spare_objects ≤ new.spare_objects
  pub spare_cells : old.spare_cells ≤ new.spare_cells

-- the object with a number is dead; where it was dead before, nothing changes
abbrev pub Ends : ℕ → Option Object → Held → Held → Type 0
Ends n None old new = new ≡ old
Ends n (Some object) old new = Closes n old new

-- no slot after this one has a live object
abbrev pub IsYoungest : List (Option Handle) → ℕ → Type 0
IsYoungest slots slot = (i : ℕ) (h : Handle) → slice_get slots i ≡ Some (Some h) → i ≤ slot

-- there is room for one object more, and for as many scalars more as this one had
pub record BringsBack (h : Handle) (old new : Held) : Type 0 where
  pub spare_objects : old.spare_objects + 1 ≤ new.spare_objects
  pub spare_cells : old.spare_cells + h.count * h.stride ≤ new.spare_cells

-- `free` of null changes nothing; of another pointer, its object is dead
abbrev pub Frees : Ptr → Held → Held → Type 0
Frees Null old new = new ≡ old
Frees (To o window n) old new = Closes o old new

-- the answer of `free`: what it does, or a stop with nothing changed
abbrev pub Releases : {A : Type 0} → Ptr → Held → Held → Result A Stop → Type 0
Releases pointer old new (Ok done) = Frees pointer old new
Releases pointer old new (Err stop) = new ≡ old
