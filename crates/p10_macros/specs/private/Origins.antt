-- The macros that words come from, as they are kept: sets of the places of their names.
use Rattle.std.specs.Prelude.{ℕ, ◌≡◌, ◌≤◌, List, length, Bool, false, ◌||◌, bytes_eq, Option, Some, None}
use Rattle.p10_base.specs.Words.{Text}
use Rattle.p10_base.specs.Names.{place_in}
use Rattle.p10_macros.specs.declared.sets.Part.{Part}
use Rattle.p10_macros.specs.declared.origin.Origins.{Origins}
use Rattle.p10_macros.specs.private.Sets.{has, Grows}

-- how many sets there are beside the empty one: each has a number up to this
abbrev pub count_of : Origins → ℕ
count_of origins = length origins.sets.items

-- whether a macro is in a set, by the place of its name; one without a place is in none
abbrev pub has_at : List Part → ℕ → Option ℕ → Bool
has_at sets set None = false
has_at sets set (Some place) = has sets set place

-- whether the macro with this name is in a set
unfoldable pub has_macro : Origins → ℕ → Text → Bool
has_macro origins set name = has_at origins.sets.items set (place_in origins.names name)

-- names keep their places, and others have places after them
pub record Continues (old new : List Text) : Type 0 where
  pub longer : length old ≤ length new
  pub stays : (name : Text) (place : ℕ) → place_in old name ≡ Some place → place_in new name ≡ Some place
  pub behind : (name : Text) (place : ℕ) → place_in old name ≡ None → place_in new name ≡ Some place → length old ≤ place

-- macros and sets came to those that there were
pub record Extends (old new : Origins) : Type 0 where
  pub names : Continues old.names new.names
  pub sets : Grows old.sets.items new.sets.items

-- a set has the macros of two others
pub record HasBoth (old : Origins) (these those : ℕ) (new : Origins) (set : ℕ) : Type 0 where
  pub known : set ≤ count_of new
  pub both : (name : Text) → has_macro new set name ≡ (has_macro old these name || has_macro old those name)

-- a set has one macro, and those of another set
pub record HasOne (old : Origins) (more : Text) (those : ℕ) (new : Origins) (set : ℕ) : Type 0 where
  pub known : set ≤ count_of new
  pub one : (name : Text) → has_macro new set name ≡ (bytes_eq name more || has_macro old those name)
