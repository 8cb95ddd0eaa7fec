-- Between which places of a list each number stands, as the code keeps it.
use Rattle.std.specs.Prelude.{◌≡◌, ℕ, zero, suc, ◌≤◌, ◌<◌, nat_le, if◌then◌else◌, List, [], ◌∷◌, length, slice_get, Some}
use Rattle.std.specs.Option.{unwrap_or}
use Rattle.p10_linkage.specs.declared.reaches.Reach.{Reach}
use Rattle.p10_linkage.specs.private.Meetings.{swapped}

-- all places of a list with so many
abbrev pub everywhere : ℕ → Reach
everywhere count = record { first = 0; past = count }

-- a place lies in a part
abbrev pub IsWithin : Reach → ℕ → Type 0
IsWithin part place = (part.first ≤ place) × (place < part.past)

-- the part in which a number stands, in a list with so many places
abbrev pub part_of : List Reach → ℕ → ℕ → Reach
part_of reaches number count = unwrap_or (slice_get reaches number) (everywhere count)

-- each number stands in its part alone
abbrev pub AreReached : List ℕ → List Reach → Type 0
AreReached numbers reaches = (place number : ℕ) → slice_get numbers place ≡ Some number → IsWithin (part_of reaches number (length numbers)) place

-- the least part in which two lie
abbrev pub hull : Reach → Reach → Reach
hull a b = record { first = if nat_le a.first b.first then a.first else b.first; past = if nat_le b.past a.past then a.past else b.past }

-- numbers, of which the one at a place is swapped
abbrev pub swapped_at : ℕ → ℕ → ℕ → List ℕ → List ℕ
swapped_at old new zero [] = []
swapped_at old new zero (n ∷ numbers) = swapped old new n ∷ numbers
swapped_at old new (suc place) [] = []
swapped_at old new (suc place) (n ∷ numbers) = n ∷ swapped_at old new place numbers
