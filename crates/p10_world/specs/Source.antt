-- What a source has left, and what taking a piece of it does.
use Rattle.std.specs.Prelude.{◌≡◌, ℕ, ◌<◌, List, length, take, Option}
use Rattle.std.specs.Io.KnownBytes.{Consumes, IsAtEnd}

-- the first `count` bytes of the buffer are the next of those that were left, and are left no more
abbrev pub GivesNext : Option (List ℕ) → Option (List ℕ) → ℕ → List ℕ → Type 0
GivesNext old new count buffer = Consumes old new (take count buffer)

-- no byte for a buffer that has room means that none is left
abbrev pub EndsAtZero : Option (List ℕ) → ℕ → List ℕ → Type 0
EndsAtZero new count buffer = count ≡ 0 → 0 < length buffer → IsAtEnd new
