-- The files that a command names besides its sources.
use Rattle.std.specs.Prelude.{ℕ, ◌≡◌, ◌+◌, List, take, Option, Some, IfSome, IsSome}
use Rattle.p10_world.specs.Files.{Named, file_of}

-- where files are told, the one of that name has these bytes
abbrev pub Gives : Option (List Named) → List ℕ → List ℕ → Type 0
Gives held name bytes = IfSome held (λ files. file_of name files ≡ Some bytes)

-- where files are told, there is one of that name
abbrev pub IsHeld : Option (List Named) → List ℕ → Type 0
IsHeld held name = IfSome held (λ files. IsSome (file_of name files))

-- these bytes were loaded of the file of that name: all of it where it has at most `limit`, else one byte more than that
pub record IsLoaded (held : Option (List Named)) (name : List ℕ) (limit : ℕ) (bytes : List ℕ) : Type 0 where
  pub whole : List ℕ
  pub given : Gives held name whole
  pub front : bytes ≡ take (limit + 1) whole
