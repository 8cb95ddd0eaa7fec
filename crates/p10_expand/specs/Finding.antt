-- What is found at a place.
use Rattle.std.specs.Prelude.{ℕ, ◌≡◌, Bool, false, true, List, [], ◌∷◌, ◌++◌, All, Option, Some, None, IfSome, IsSome}
use Rattle.p10_world.specs.Files.{Named, Lacks}
use Rattle.p10_world.specs.Files as world
use Rattle.p10_expand.specs.declared.place.Place.{Place}
use Rattle.p10_expand.specs.declared.place.Place.TheVariants.{File, Header}
use Rattle.p10_expand.specs.Headers.{header_of}

-- the name of the file at a place; a built-in header is named with its brackets
abbrev pub name_at : Place → List ℕ
name_at (File name) = name
name_at (Header name) = 60 ∷ (name ++ 62 ∷ [])

-- whether a built-in header stands at a place, not a file of one's own
abbrev pub is_header_place : Place → Bool
is_header_place (File name) = false
is_header_place (Header name) = true

-- where files are told, the file at a place has this text
abbrev pub HasText : Option (List Named) → Place → List ℕ → Type 0
HasText held (File name) text = IfSome held (λ files. world.file_of name files ≡ Some text)
HasText held (Header name) text = header_of name ≡ Some text

-- where files are told, there is one at a place
abbrev pub IsThere : Option (List Named) → Place → Type 0
IsThere held (File name) = IfSome held (λ files. IsSome (world.file_of name files))
IsThere held (Header name) = IsSome (header_of name)

-- where files are told, there is none at a place
abbrev pub IsAbsent : Option (List Named) → Place → Type 0
IsAbsent held (File name) = Lacks held name
IsAbsent held (Header name) = header_of name ≡ None

-- the first of these places at which there is a file
pub record IsFirst (held : Option (List Named)) (places : List Place) (place : Place) : Type 0 where
  pub front : List Place
  pub back : List Place
  pub parts : places ≡ front ++ place ∷ back
  pub none : All (IsAbsent held) front
  pub there : IsThere held place
