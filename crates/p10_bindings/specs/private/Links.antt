-- How entries are linked.
use Rattle.std.specs.Prelude.{◌≡◌, ℕ, ◌+◌, if◌then◌else◌, Option, Some, None, List, [], ◌∷◌, take, length, bytes_eq, slice_get}
use Rattle.p10_base.specs.Words.{Text}
use Rattle.p10_base.specs.Names.{place_in}
use Rattle.p10_bindings.specs.declared.entry.Entry.{Entry}

-- an entry that may be lacking, or not be written down yet
abbrev pub written : Option (Option ℕ) → Option ℕ
written None = None
written (Some o) = o

module _ {T : Type 0} where
  -- the place of the last entry with a spelling, or what was found before; the first one has the place i
  abbrev pub last_place : Option ℕ → ℕ → Text → List (Entry T) → Option ℕ
  last_place found i name [] = found
  last_place found i name (e ∷ rest) = last_place (if bytes_eq e.name.now name then Some i else found) (i + 1) name rest

  -- each spelling knows its last entry, and each entry its spelling and the one before it with that spelling
  pub record IsLinked (spellings : List Text) (last : List (Option ℕ)) (entries : List (Entry T)) : Type 0 where
    pub same : length last ≡ length spellings
    pub known : (name : Text) (place : ℕ) → place_in spellings name ≡ Some place → written (slice_get last place) ≡ last_place None 0 name entries
    pub unknown : (name : Text) → place_in spellings name ≡ None → last_place None 0 name entries ≡ None
    pub spelled : (i : ℕ) (e : Entry T) → slice_get entries i ≡ Some e → place_in spellings e.name.now ≡ Some e.spelling
    pub before : (i : ℕ) (e : Entry T) → slice_get entries i ≡ Some e → e.earlier ≡ last_place None 0 e.name.now (take i entries)
