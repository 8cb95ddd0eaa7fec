-- When gathered sources are no program.
use Rattle.std.specs.Prelude.{Err, IsSomeAnd}
use Rattle.p10_base.specs.Codes.{IsCode}
use Rattle.p10_base.specs.Gathered.{Gathered}
use Rattle.p10_core.specs.Views.{plain_program}
use Rattle.p10_core.specs.WholePrograms.{IsWholeProgram}
use Rattle.p10_front.specs.Answers.{reading_of}
use Rattle.p10_front.specs.declared.reading.Reading.{Reading}
use Rattle.p10_front.specs.Readings.{Reads, AreReadAs, AreRefused}
use Rattle.p10_command.specs.declared.reading.ReadSources.{ReadSources}
use Rattle.p10_command.specs.declared.reading.ReadSources.TheVariants as read
use Rattle.p10_command.specs.declared.reading.Unread.{Unread}
use Rattle.p10_command.specs.declared.reading.Unread.TheVariants.{Refused, Over}

-- gathered files are no program, for this reason
abbrev pub AreUnread : Gathered → Unread → Type 0
AreUnread g (Refused refusal) = AreRefused g refusal
AreUnread g (Over limit) = Reads g (Err limit)

-- the code of a refusal has a text
abbrev pub HasCode : Unread → Type 0
HasCode (Refused refusal) = IsCode refusal.family refusal.number
HasCode (Over limit) = Unit {0}

-- gathered files are a program, and this is their reading
abbrev pub AreProgram : Gathered → Reading → Type 0
AreProgram g reading = IsSomeAnd reading.program (λ p. AreReadAs g (reading_of reading) (plain_program p) × IsWholeProgram (plain_program p))

-- what gathered files are read as: a program, or why they are none
abbrev pub AreRead : Gathered → ReadSources → Type 0
AreRead g (read.Program reading) = AreProgram g reading
AreRead g (read.Unread why) = AreUnread g why × HasCode why
