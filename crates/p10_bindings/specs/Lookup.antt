-- What a name stands for.
use Rattle.std.specs.Prelude.{if◌then◌else◌, Option, Some, None, List, [], ◌∷◌, bytes_eq}
use Rattle.p10_base.specs.Words.{Text}

module _ {T : Type 0} where
  -- what the last of these names with a spelling stands for, or what was found before
  abbrev pub last_after : Option T → Text → List (Text × T) → Option T
  last_after found name [] = found
  last_after found name (b ∷ rest) = last_after (if bytes_eq b.0 name then Some b.1 else found) name rest

  -- what a name stands for: its last declaration counts (C99 6.2.1p4)
  abbrev pub last_bound : Text → List (Text × T) → Option T
  last_bound name bindings = last_after None name bindings
