-- Texts that are written piece by piece, and what a sink has taken of one when a write stops.
use Rattle.std.specs.Prelude.{ℕ, ◌≡◌, ◌<◌, List, ◌++◌, length, Option}
use Rattle.std.specs.Io.KnownBytes.{Appends}

infixr 30 ◌then◌
-- one text, and another after it
unfoldable pub ◌then◌ : List ℕ → List ℕ → List ℕ
first then second = first ++ second

-- the sink took a prefix of a text, and some of the text is missing
pub record StopsWithin (old new : Option (List ℕ)) (text : List ℕ) : Type 0 where
  pub front : List ℕ
  pub back : List ℕ
  pub parts : text ≡ front ++ back
  pub missing : 0 < length back
  pub taken : Appends old new front
