-- What is known of an answer and the gathered sources while it is decided.
use Rattle.std.specs.Prelude.{◌≡◌, List, Option, ℕ, length}
use Rattle.p10_base.specs.Gathered.{Gathered}
use Rattle.p10_world.specs.Files.{Named}
use Rattle.p10_core.specs.Typed.{PlainProgram}
use Rattle.p10_core.specs.WholePrograms.{IsWholeProgram}
use Rattle.p10_front.specs.Digests.{reading_digests}
use Rattle.p10_front.specs.Readings.{PlainReading, AreReadAs}
use Rattle.p10_command.specs.Gathering as gathering
use Rattle.p10_command.specs.Reading.{AreUnread, HasCode}
use Rattle.p10_command.specs.Seen.{Seen}
use Rattle.p10_migrate_command.specs.declared.answer.Answer.{Answer}
use Rattle.p10_migrate_command.specs.declared.answer.Answer.TheVariants as answers
use Rattle.p10_migrate_command.specs.declared.command.MigrateCommand.{MigrateCommand}
use Rattle.p10_migrate_command.specs.Migrating.{Migrated, Migrates, migrated_of}
use Rattle.p10_migrate_command.specs.Told.{IsRight}

-- files that are seen without a fault
abbrev pub unfailing : Option (List Named) → Seen
unfailing held = record { held = held; faults_before = 0; faults_after = 0 }

-- what an answer prints can be printed: the name is one of the command's, and the code of a refusal has a text
abbrev pub CanBeTold : MigrateCommand → Answer → Type 0
CanBeTold m (answers.Ungathered why) = gathering.CanBeTold m.sources why
CanBeTold m (answers.Unread why) = HasCode why
CanBeTold m answer = Unit {0}

-- an answer is right, and can be printed
pub record Answered (seen : Seen) (m : MigrateCommand) (sources : Gathered) (answer : Answer) : Type 0 where
  pub is_right : IsRight seen m sources answer
  pub can_be_told : CanBeTold m answer

-- an answer is right without a fault, and can be printed
abbrev pub Decides : Option (List Named) → MigrateCommand → Gathered → Answer → Type 0
Decides held m sources answer = Answered (unfailing held) m sources answer

-- what comes of the bytes of a certificate for the program of a reading: the words that were read have one digest for each function
pub record Comes (r : PlainReading) (p : PlainProgram) (bytes : List ℕ) (to : Migrated) : Type 0 where
  pub each : length (reading_digests r).funcs ≡ length p.functions
  pub is : Migrates p (reading_digests r) bytes to

-- gathered sources are read as a whole program, for which this comes of the bytes of a certificate
pub record ComesFrom (g : Gathered) (bytes : List ℕ) (to : Migrated) : Type 0 where
  pub program : PlainProgram
  pub reading : PlainReading
  pub read : AreReadAs g reading program
  pub whole : IsWholeProgram program
  pub comes : Comes reading program bytes to

-- what comes of gathered sources and the bytes of a certificate
abbrev pub AreMigrated : Gathered → List ℕ → Answer → Type 0
AreMigrated g bytes (answers.Unread why) = AreUnread g why × HasCode why
AreMigrated g bytes (answers.Migrated migration) = ComesFrom g bytes (migrated_of migration)
AreMigrated g bytes answer = ⊥
