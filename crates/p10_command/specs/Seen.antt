-- What a command sees of the outside.
use Rattle.std.specs.Prelude.{ℕ, List, Option}
use Rattle.p10_world.specs.Faults.{Rose}
use Rattle.p10_world.specs.Files.{Named}
use Rattle.p10_command.specs.declared.trouble.Trouble.{Trouble}
use Rattle.p10_command.specs.declared.trouble.Trouble.TheVariants.{Read, Memory}

-- what is seen of the files: those that are held, where they are told, and the counts of faults before and after
pub record Seen : Type 0 where
  pub held : Option (List Named)
  pub faults_before : ℕ
  pub faults_after : ℕ

-- what is seen of the input: the bytes that were left at first, where they are told, and the counts of faults before and after
pub record SeenInput : Type 0 where
  pub left : Option (List ℕ)
  pub faults_before : ℕ
  pub faults_after : ℕ

-- the same of files that hold something, or don't tell, by these counts
abbrev pub files_seen : Option (List Named) → ℕ → ℕ → Seen
files_seen held before after = record { held = held; faults_before = before; faults_after = after }

-- and of an input
abbrev pub input_seen : Option (List ℕ) → ℕ → ℕ → SeenInput
input_seen left before after = record { left = left; faults_before = before; faults_after = after }

-- a trouble has its cause, by the counts of faults before and after: a read has failed only where the count rose; memory may be out
-- at any time
abbrev pub HasCause : Trouble → ℕ → ℕ → Type 0
HasCause Read before after = Rose before after
HasCause Memory before after = Unit {0}
