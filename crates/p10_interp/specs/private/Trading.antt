-- What is taken from a source, and how a part of a run breaks off.
use Rattle.std.specs.Prelude.{◌≡◌, ℕ, ◌<◌, Bool, true, List, [], ◌++◌, Option}
use Rattle.std.specs.List.{All}
use Rattle.std.specs.Io.KnownBytes.{Consumes, IsAtEnd}
use Rattle.p10_interp.specs.declared.work.Halt.{Halt}
use Rattle.p10_interp.specs.declared.work.Halt.TheVariants.{Failed as HasFailed, Undefined as IsUndefined, Spent as HasSpent, Memory as WantsMemory}
use Rattle.p10_interp.specs.declared.broken.Broken.{Broken}
use Rattle.p10_interp.specs.declared.broken.Broken.TheVariants.{Failed, Undefined, Spent, Memory}

-- the source gave a piece, which stands before what was pending; none means that it has ended, which is noted
pub record TakesPiece (old new : Option (List ℕ)) (pending pending_now : List ℕ) (ended : Bool) : Type 0 where
  pub given : List ℕ
  pub taken : Consumes old new given
  pub bytes : All (λ byte. byte < 256) given
  pub pending_is : pending_now ≡ given ++ pending
  pub end : ended ≡ true → (given ≡ []) × IsAtEnd new
  pub noted : given ≡ [] → ended ≡ true

-- the source gave some bytes
pub record Consumed (old new : Option (List ℕ)) : Type 0 where
  pub given : List ℕ
  pub taken : Consumes old new given
  pub bytes : All (λ byte. byte < 256) given

-- how a part of a run breaks off where an act halts
abbrev pub breaks_by : Halt → Broken
breaks_by (HasFailed span) = Failed span
breaks_by (IsUndefined stop span) = Undefined stop span
breaks_by HasSpent = Spent
breaks_by WantsMemory = Memory
