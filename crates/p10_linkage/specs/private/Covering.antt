-- Declarations of a name with which it is enough to compare another one.
use Rattle.std.specs.Prelude.{◌≡◌, ◌⊎◌, ℕ, nat_eq, Bool, true, false, ◌&&◌, ◌||◌, List, [], ◌∷◌, Option, Some, None, map, take}
use Rattle.std.specs.Bool.{beq}
use Rattle.p10_base.specs.Words.{Text}
use Rattle.p10_core.specs.Types.{PlainType, PlainStructure}
use Rattle.p10_linkage.specs.Linkage.{LinkedType, a_function, an_object, a_part_function, unknown_object, Linked}
use Rattle.p10_linkage.specs.Laws.{as_one}
use Rattle.p10_linkage.specs.declared.meeting.Meeting.{Meeting}
use Rattle.p10_linkage.specs.declared.meeting.Meeting.TheVariants.{Never, Always, Where}
use Rattle.p10_linkage.specs.private.Meetings.{meeting_of, slice_or}
use Rattle.p10_linkage.specs.private.Grouping.{rows_at, named}

-- ## Declarations that are alike

-- what is declared, where each structure is the one that stands for it
abbrev pub kind_as_one : List PlainStructure → LinkedType → LinkedType
kind_as_one structures (a_function ts r) = a_function (map (as_one structures) ts) (as_one structures r)
kind_as_one structures (an_object t) = an_object (as_one structures t)
kind_as_one structures (a_part_function p) = a_part_function p
kind_as_one structures unknown_object = unknown_object

-- whether all types of what is declared are known
abbrev pub is_all_known : LinkedType → Bool
is_all_known (a_function ts r) = true
is_all_known (an_object t) = true
is_all_known (a_part_function p) = false
is_all_known unknown_object = false

-- two declarations whose types are known, and are one, with the same mark for sensors
pub record AreAlike (structures : List PlainStructure) (one other : Linked) : Type 0 where
  pub marks : one.sensor ≡ other.sensor
  pub known : is_all_known one.type ≡ true
  pub types : kind_as_one structures one.type ≡ kind_as_one structures other.type

-- each of some declarations is like another one
abbrev pub AllAlike : List PlainStructure → List Linked → Linked → Type 0
AllAlike structures [] now = Unit {0}
AllAlike structures (l ∷ rest) now = AreAlike structures l now × AllAlike structures rest now

-- another declaration is one of some, or like one
abbrev pub HasAlike : List PlainStructure → List Linked → Linked → Type 0
HasAlike structures [] now = ⊥
HasAlike structures (l ∷ rest) now = ((l ≡ now) ⊎ AreAlike structures l now) ⊎ HasAlike structures rest now

-- each of some declarations with external linkage is one of those that are kept, or like one
abbrev pub AreCovered : List PlainStructure → List Linked → List Linked → Type 0
AreCovered structures kept [] = Unit {0}
AreCovered structures kept (l ∷ rest) = (l.internal ≡ false → HasAlike structures kept l) × AreCovered structures kept rest

-- the same for the first declarations of each name
abbrev pub NamesAreCovered : List PlainStructure → List Linked → ℕ → (Text → List ℕ) → Type 0
NamesAreCovered structures all count kept =
    (name : Text) → AreCovered structures (rows_at (kept name) all) (named (λ (l : Linked). l.name) name (take count all))

-- ## The same by numbers, as the code tells it

-- whether types that meet so are one, where structures with these numbers stand for others
abbrev pub is_met : List ℕ → Meeting → Bool
is_met stands Never = false
is_met stands Always = true
is_met stands (Where m n) = nat_eq (slice_or stands m) (slice_or stands n)

-- whether types are, in order
abbrev pub all_met : List ℕ → List PlainType → List PlainType → Bool
all_met stands [] [] = true
all_met stands (t ∷ ts) (u ∷ us) = is_met stands (meeting_of t u) && all_met stands ts us
all_met stands ts us = false

-- whether types of what is declared are known and one
abbrev pub kinds_met : List ℕ → LinkedType → LinkedType → Bool
kinds_met stands (a_function ts r) (a_function us q) = is_met stands (meeting_of r q) && all_met stands ts us
kinds_met stands (an_object t) (an_object u) = is_met stands (meeting_of t u)
kinds_met stands t u = false

-- whether two declarations are alike
abbrev pub are_alike : List ℕ → Linked → Linked → Bool
are_alike stands one other = beq one.sensor other.sensor && kinds_met stands one.type other.type

-- whether each of some declarations is like another one
abbrev pub all_alike : List ℕ → List Linked → Linked → Bool
all_alike stands [] now = true
all_alike stands (l ∷ rest) now = are_alike stands l now && all_alike stands rest now

-- whether one of them is
abbrev pub has_alike : List ℕ → List Linked → Linked → Bool
has_alike stands [] now = false
has_alike stands (l ∷ rest) now = are_alike stands l now || has_alike stands rest now

-- whether a declaration, if there is one, is like another one; where there is none, that is given
abbrev pub row_alike : List ℕ → Bool → Option Linked → Linked → Bool
row_alike stands otherwise None now = otherwise
row_alike stands otherwise (Some l) now = are_alike stands l now
