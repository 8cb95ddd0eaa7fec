-- What a loop that reads up to a limit has appended of what the reader had left.
use Rattle.std.proofs.Common.{◌≡◌, ℕ, ◌+◌, List, ◌++◌, length}
use Rattle.std.specs.Prelude.{Option}
use Rattle.std.specs.Io.KnownBytes.{Consumes}

-- the reader gave some bytes, the list grew by them, and `left` more may follow
pub record Appended (old new : Option (List ℕ)) (before after : List ℕ) (limit left : ℕ) : Type 0 where
  pub given : List ℕ
  pub grown : after ≡ before ++ given
  pub counted : length given + left ≡ limit
  pub consumed : Consumes old new given
