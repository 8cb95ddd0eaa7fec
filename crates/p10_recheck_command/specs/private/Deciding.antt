-- What is known of an answer and the gathered sources while it is decided.
use Rattle.std.specs.Prelude.{◌≡◌, List, Option, ℕ, length}
use Rattle.p10_base.specs.Gathered.{Gathered}
use Rattle.p10_world.specs.Files.{Named}
use Rattle.p10_core.specs.Typed.{PlainProgram}
use Rattle.p10_core.specs.WholePrograms.{IsWholeProgram}
use Rattle.p10_front.specs.Digests.{reading_digests}
use Rattle.p10_front.specs.Readings.{PlainReading, AreReadAs}
use Rattle.p10_command.specs.Gathering as gathering
use Rattle.p10_command.specs.Reading.{AreUnread, HasCode}
use Rattle.p10_command.specs.Seen.{Seen}
use Rattle.p10_recheck_command.specs.declared.answer.Answer.{Answer}
use Rattle.p10_recheck_command.specs.declared.answer.Answer.TheVariants.{Ungathered, Unread, Rechecked}
use Rattle.p10_recheck_command.specs.declared.command.RecheckCommand.{RecheckCommand}
use Rattle.p10_recheck_command.specs.declared.rechecking.Rechecking.{Rechecking}
use Rattle.p10_recheck_command.specs.Rechecking.{Rechecks}
use Rattle.p10_recheck_command.specs.Told.{IsRight}

-- files that are seen without a fault
abbrev pub unfailing : Option (List Named) → Seen
unfailing held = record { held = held; faults_before = 0; faults_after = 0 }

-- what an answer prints can be printed: the name is one of the command's, and the code of a refusal has a text
abbrev pub CanBeTold : RecheckCommand → Answer → Type 0
CanBeTold r (Ungathered why) = gathering.CanBeTold r.sources why
CanBeTold r (Unread why) = HasCode why
CanBeTold r answer = Unit {0}

-- an answer is right, and can be printed
pub record Answered (seen : Seen) (r : RecheckCommand) (sources : Gathered) (answer : Answer) : Type 0 where
  pub is_right : IsRight seen r sources answer
  pub can_be_told : CanBeTold r answer

-- an answer is right without a fault, and can be printed
abbrev pub Decides : Option (List Named) → RecheckCommand → Gathered → Answer → Type 0
Decides held r sources answer = Answered (unfailing held) r sources answer

-- what the bytes of both certificates come to for the program of a reading: the words that were read have one digest for each function
pub record Comes (reading : PlainReading) (p : PlainProgram) (new old : List ℕ) (to : Rechecking) : Type 0 where
  pub each : length (reading_digests reading).funcs ≡ length p.functions
  pub is : Rechecks p (reading_digests reading) new old to

-- gathered sources are read as a whole program, for which the bytes of both certificates come to this
pub record ComesFrom (g : Gathered) (new old : List ℕ) (to : Rechecking) : Type 0 where
  pub program : PlainProgram
  pub reading : PlainReading
  pub read : AreReadAs g reading program
  pub whole : IsWholeProgram program
  pub comes : Comes reading program new old to

-- what gathered sources and the bytes of both certificates come to
abbrev pub AreRechecked : Gathered → List ℕ → List ℕ → Answer → Type 0
AreRechecked g new old (Unread why) = AreUnread g why × HasCode why
AreRechecked g new old (Rechecked to) = ComesFrom g new old to
AreRechecked g new old answer = ⊥
