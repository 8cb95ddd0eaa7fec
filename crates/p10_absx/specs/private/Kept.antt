-- What the code's environments keep: notes are complete, and there is room for further ones.
use Rattle.std.specs.Prelude.{◌≡◌, ◌⊎◌, ℕ, suc, ◌+◌, ◌<◌, ◌≤◌, eqb, if◌then◌else◌, List, [], ◌∷◌, length, reverse, slice_get, slice_set, Option, Some}
use Rattle.std.specs.Option.{option_map}
use Rattle.p10_absx.specs.declared.abs.Abs.{Abs}
use Rattle.p10_absx.specs.declared.notes.Entry.{Entry}
use Rattle.p10_absx.specs.declared.notes.Note.{Note}
use Rattle.p10_absx.specs.declared.notes.Note.TheVariants.{Opened, Was}
use Rattle.p10_absx.specs.Abstract.{abstract_of}
use Rattle.p10_absx.specs.Trails.{known_in_entries, branching_of, with_values}

-- how many entries have no note in a branch
abbrev pub unnoted : ℕ → List Entry → ℕ
unnoted branch [] = 0
unnoted branch (e ∷ entries) = (if eqb e.noted branch then 0 else 1) + unnoted branch entries

-- the innermost branch that is open, by how many notes there are up to its beginning: 0 where none is
abbrev pub branch_from : List Note → ℕ
branch_from [] = 0
branch_from (Opened branch ∷ notes) = suc (length notes)
branch_from (Was n entry ∷ notes) = branch_from notes

-- the innermost branch has a note of an entry
abbrev pub IsNotedIn : ℕ → List Note → Type 0
IsNotedIn n [] = ⊥
IsNotedIn n (Opened branch ∷ notes) = ⊥
IsNotedIn n (Was m entry ∷ notes) = (m ≡ n) ⊎ IsNotedIn n notes

-- the innermost branch: its number is that of its notes, each entry that is said to be noted in it is, and there is room for
-- notes of all other ones
pub record IsBranch (room branch : ℕ) (entries : List Entry) (notes : List Note) : Type 0 where
  pub branch_is : branch ≡ branch_from notes
  pub none : branch ≡ 0 → notes ≡ []
  pub before : (n : ℕ) (e : Entry) → slice_get entries n ≡ Some e → e.noted ≤ branch
  pub noted : (n : ℕ) (e : Entry) → slice_get entries n ≡ Some e → e.noted ≡ branch → 0 < branch → IsNotedIn n notes
  pub fits : 0 < branch → length notes + unnoted branch entries ≤ room

-- the same for the branches round it, where they were left
abbrev pub AreBranches : ℕ → List Entry → List Note → Type 0
AreBranches room entries [] = Unit {0}
AreBranches room entries (Opened branch ∷ notes) = IsBranch room branch entries notes × AreBranches room entries notes
AreBranches room entries (Was n entry ∷ notes) = AreBranches room (slice_set entries n entry) notes

-- all branches
pub record IsTrail (room branch : ℕ) (entries : List Entry) (notes : List Note) : Type 0 where
  pub innermost : IsBranch room branch entries notes
  pub others : AreBranches room entries notes

-- what taking back comes to: the entries where the innermost branch begins, the notes before it, and the branch round it
pub record Taken : Type 0 where
  pub entries : List Entry
  pub notes : List Note
  pub branch : ℕ

-- the innermost branch is taken back: what was noted is written again, the newest first
abbrev pub taken_back : List Entry → List Note → Taken
taken_back entries [] = record { entries = entries; notes = []; branch = 0 }
taken_back entries (Opened branch ∷ notes) = record { entries = entries; notes = notes; branch = branch }
taken_back entries (Was n entry ∷ notes) = taken_back (slice_set entries n entry) notes

-- what a changed entry leaves: a trail, and the environment in which something else is known of one variable
pub record Changed (room branch : ℕ) (entries : List Entry) (notes : List Note) (n : ℕ) (known : Option Abs) (now : List Entry) (after : List Note) : Type 0 where
  pub kept : IsTrail room branch now (reverse after)
  pub seen : branching_of now after ≡ with_values (branching_of entries notes) (slice_set (known_in_entries entries) n (option_map abstract_of known))
