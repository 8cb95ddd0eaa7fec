-- Names that are declared where they aren't declared yet: the first thing that stands for a name stays.
use Rattle.std.specs.Prelude.{if◌then◌else◌, Option, None, Some, is_some, List, [], ◌∷◌, ◌++◌, bytes_eq}
use Rattle.p10_base.specs.Words.{Text}
use Rattle.p10_bindings.specs.Lookup.{last_bound}

module _ {T : Type 0} where
  -- a name more, unless it is declared
  abbrev pub with_first : List (Text × T) → Text → T → List (Text × T)
  with_first table name what = if is_some (last_bound name table) then table else table ++ (name, what) ∷ []

  -- names more, one after the other
  abbrev pub firsts : List (Text × T) → List (Text × T) → List (Text × T)
  firsts table [] = table
  firsts table (b ∷ rest) = firsts (with_first table b.0 b.1) rest

  -- the first thing that stands for a name
  abbrev pub first_bound : Text → List (Text × T) → Option T
  first_bound name [] = None
  first_bound name (b ∷ rest) = if bytes_eq b.0 name then Some b.1 else first_bound name rest
