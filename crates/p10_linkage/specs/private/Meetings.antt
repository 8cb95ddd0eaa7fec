-- Where two types that have to be one meet in structures.
use Rattle.std.specs.Prelude.{ℕ, nat_eq, Bool, true, false, ◌&&◌, if◌then◌else◌, List, slice_get, Option, Some, None}
use Rattle.std.specs.Bool.{beq}
use Rattle.std.specs.Option.{unwrap_or}
use Rattle.p10_core.specs.Types.{PlainType, void, integer, pointer, array, structure, PlainStructure, representative_of}
use Rattle.p10_core.specs.Rows.{same_integer}
use Rattle.p10_linkage.specs.declared.meeting.Meeting.{Meeting}
use Rattle.p10_linkage.specs.declared.meeting.Meeting.TheVariants.{Never, Always, Where}

-- how two types meet
abbrev pub meeting_of : PlainType → PlainType → Meeting
meeting_of (void c) (void d) = if beq c d then Always else Never
meeting_of (integer c i) (integer d j) = if beq c d && same_integer i j then Always else Never
meeting_of (pointer c t) (pointer d u) = if beq c d then meeting_of t u else Never
meeting_of (array c t m) (array d u n) = if nat_eq m n then meeting_of t u else Never
meeting_of (structure c m) (structure d n) = if beq c d then Where m n else Never
meeting_of t u = Never

-- types that meet so as one, where structures are dealt with so
abbrev pub met : (ℕ → ℕ → List PlainStructure → Option (List PlainStructure)) → Meeting → List PlainStructure → Option (List PlainStructure)
met unite Never structures = None
met unite Always structures = Some structures
met unite (Where m n) structures = unite (representative_of structures m) (representative_of structures n) structures

-- something, where a test says so
abbrev pub given : {A : Type 0} → Bool → A → Option A
given true a = Some a
given false a = None

-- the number at a place, or the place itself where there is none
abbrev pub slice_or : List ℕ → ℕ → ℕ
slice_or numbers place = unwrap_or (slice_get numbers place) place

-- the number that stands where a new one comes to stand for an old one
abbrev pub swapped : ℕ → ℕ → ℕ → ℕ
swapped old new n = if nat_eq n old then new else n
