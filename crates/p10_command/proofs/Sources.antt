-- What a command's sources come to, by the names that were asked for.
use Rattle.std.proofs.Common.{◌≡◌, List, length, refl, subst, Option, Some, None, IsSomeAnd}
use Rattle.p10_base.specs.Gathered.{Gathered}
use Rattle.p10_base.specs.Words.{Text}
use Rattle.p10_world.specs.Files.{Named}
use Rattle.p10_core.specs.declared.program.Program.{Program}
use Rattle.p10_core.specs.Typed.{PlainProgram}
use Rattle.p10_core.specs.Views.{plain_program}
use Rattle.p10_core.specs.WholePrograms.{IsWholeProgram}
use Rattle.p10_expand.specs.Gathering.{Setting, Gathers, HaveWords}
use Rattle.p10_expand.specs.Setting.{setting}
use Rattle.p10_command.specs.declared.gathering.GatheredRoots.{GatheredRoots}
use Rattle.p10_command.specs.declared.gathering.GatheredRoots.TheVariants.{All, Stopped}
use Rattle.p10_command.specs.declared.gathering.Ungathered.{Ungathered}
use Rattle.p10_command.specs.declared.reading.ReadSources.{ReadSources}
use Rattle.p10_command.specs.declared.reading.ReadSources.TheVariants as read
use Rattle.p10_command.specs.declared.reading.Unread.{Unread}
use Rattle.p10_command.specs.Gathering.{AreGathered, AreUngathered, CanBeTold}
use Rattle.p10_command.specs.Programs.{HasProgram, HasProgramWithDigests}
use Rattle.p10_command.proofs.Stopped.{with_names}
use Rattle.p10_command.specs.Reading.{AreProgram, AreRead, AreUnread, HasCode}
use Rattle.p10_front.specs.declared.reading.Reading.{Reading}
use Rattle.p10_front.specs.Answers.{reading_of}
use Rattle.p10_front.specs.Digests.{PlainDigests, reading_digests}
use Rattle.p10_front.specs.Readings.{PlainReading, AreReadAs}

-- what was gathered by these names was gathered by the command's
named : (held : Option (List Named)) (roots roots' directories directories' : List Text) (found found' : GatheredRoots) → roots ≡ roots' → directories ≡ directories' → found ≡ found' →
    AreGathered (setting held roots directories) found → AreGathered (setting held roots' directories') found'
named held roots roots' directories directories' found found' same_roots same_directories same are =
    subst (λ (found : GatheredRoots). AreGathered (setting held roots' directories') found) same
    (with_names held roots' directories' roots directories (λ (s : Setting). AreGathered s found) same_roots same_directories are)

pub all_gathered : (held : Option (List Named)) (roots roots' directories directories' : List Text) (found : GatheredRoots) (g : Gathered) → roots ≡ roots' → directories ≡ directories' → found ≡ All g →
    AreGathered (setting held roots directories) found → Gathers (setting held roots' directories') g × HaveWords g
all_gathered held roots roots' directories directories' found g same_roots same_directories same are = named held roots roots' directories directories' found (All g) same_roots same_directories same are

pub not_gathered : (held : Option (List Named)) (roots roots' directories directories' : List Text) (found : GatheredRoots) (why : Ungathered) (g : Gathered) → roots ≡ roots' → directories ≡ directories' → found ≡ Stopped why g →
    AreGathered (setting held roots directories) found → AreUngathered (setting held roots' directories') g why × CanBeTold roots' why
not_gathered held roots roots' directories directories' found why g same_roots same_directories same are = named held roots roots' directories directories' found (Stopped why g) same_roots same_directories same are

-- what was read
pub are_program : (g : Gathered) (found : ReadSources) (reading : Reading) → found ≡ read.Program reading → AreRead g found → AreProgram g reading
are_program g found reading same are = subst (λ (found : ReadSources). AreRead g found) same are

pub are_unread : (g : Gathered) (found : ReadSources) (why : Unread) → found ≡ read.Unread why → AreRead g found → AreUnread g why × HasCode why
are_unread g found why same are = subst (λ (found : ReadSources). AreRead g found) same are

-- ## The program of a reading

by_whole : (g : Gathered) (r : PlainReading) (o : Option Program) → IsSomeAnd o (λ p. AreReadAs g r (plain_program p) × IsWholeProgram (plain_program p)) → IsSomeAnd o (λ p. IsWholeProgram (plain_program p))
by_whole g r None are = are
by_whole g r (Some p) are = are.1

-- it is whole
pub whole_program : (g : Gathered) (reading : Reading) → AreProgram g reading → IsSomeAnd reading.program (λ p. IsWholeProgram (plain_program p))
whole_program g reading are = by_whole g (reading_of reading) reading.program are

by_program : (s : Setting) (g : Gathered) (r : PlainReading) (o : Option Program) (Of : PlainProgram → Type 0) → Gathers s g → IsSomeAnd o (λ p. AreReadAs g r (plain_program p) × IsWholeProgram (plain_program p)) → IsSomeAnd o (λ p. Of (plain_program p))
    → (p : PlainProgram) × HasProgram s g p × Of p
by_program s g r None Of gathers are is = absurd are
by_program s g r (Some p) Of gathers are is = (plain_program p, record { gathers = gathers; reading = r; read = are.0; whole = are.1 }, is)

-- it is that of the sources, and has what was found of it
pub program_of : (s : Setting) (g : Gathered) (reading : Reading) (Of : PlainProgram → Type 0) → Gathers s g → AreProgram g reading → IsSomeAnd reading.program (λ p. Of (plain_program p)) → (p : PlainProgram) × HasProgram s g p × Of p
program_of s g reading Of gathers are is = by_program s g (reading_of reading) reading.program Of gathers are is

by_reading : (s : Setting) (g : Gathered) (r : PlainReading) (o : Option Program) (Of : PlainReading → PlainProgram → Type 0) → Gathers s g → IsSomeAnd o (λ p. AreReadAs g r (plain_program p) × IsWholeProgram (plain_program p))
    → IsSomeAnd o (λ p. Of r (plain_program p)) → (p : PlainProgram) × (has : HasProgram s g p) × Of has.reading p
by_reading s g r None Of gathers are is = absurd are
by_reading s g r (Some p) Of gathers are is = (plain_program p, record { gathers = gathers; reading = r; read = are.0; whole = are.1 }, is)

-- and what was found of it and the words that were read
pub program_read : (s : Setting) (g : Gathered) (reading : Reading) (Of : PlainReading → PlainProgram → Type 0) → Gathers s g → AreProgram g reading → IsSomeAnd reading.program (λ p. Of (reading_of reading) (plain_program p))
    → (p : PlainProgram) × (has : HasProgram s g p) × Of has.reading p
program_read s g reading Of gathers are is = by_reading s g (reading_of reading) reading.program Of gathers are is

-- it is that of the sources, with the digests of the words that were read
abbrev pub WithDigests : PlainReading → (PlainProgram → PlainDigests → Type 0) → PlainProgram → Type 0
WithDigests r Of p = (length (reading_digests r).funcs ≡ length p.functions) × Of p (reading_digests r)

with_digests : (s : Setting) (g : Gathered) (r : PlainReading) (o : Option Program) (Of : PlainProgram → PlainDigests → Type 0) → Gathers s g → IsSomeAnd o (λ p. AreReadAs g r (plain_program p) × IsWholeProgram (plain_program p))
    → IsSomeAnd o (λ p. WithDigests r Of (plain_program p)) → (p : PlainProgram) × (digests : PlainDigests) × HasProgramWithDigests s g p digests × Of p digests
with_digests s g r None Of gathers are is = absurd are
with_digests s g r (Some p) Of gathers are is =
    (plain_program p, reading_digests r, record { has = record { gathers = gathers; reading = r; read = are.0; whole = are.1 }; are = refl; each = is.0 }, is.1)

pub program_with_digests : (s : Setting) (g : Gathered) (reading : Reading) (Of : PlainProgram → PlainDigests → Type 0) → Gathers s g → AreProgram g reading → IsSomeAnd reading.program (λ p. WithDigests (reading_of reading) Of (plain_program p))
    → (p : PlainProgram) × (digests : PlainDigests) × HasProgramWithDigests s g p digests × Of p digests
program_with_digests s g reading Of gathers are is = with_digests s g (reading_of reading) reading.program Of gathers are is
