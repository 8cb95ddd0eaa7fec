-- What a sink took, and what a write that stops half-way leaves.
use Rattle.std.specs.Prelude.{◌≡◌, ℕ, ◌<◌, List, ◌++◌, length, take, Option}
use Rattle.std.specs.Io.KnownBytes.{Appends}

-- the sink took the first `wrote` of these bytes, and not all of them
pub record TakesPart (old new : Option (List ℕ)) (bytes : List ℕ) (wrote : ℕ) : Type 0 where
  pub fewer : wrote < length bytes
  pub taken : Appends old new (take wrote bytes)

-- what the sink took is a prefix of a text
pub record TakesFront (old new : Option (List ℕ)) (text : List ℕ) : Type 0 where
  pub front : List ℕ
  pub back : List ℕ
  pub parts : text ≡ front ++ back
  pub taken : Appends old new front
