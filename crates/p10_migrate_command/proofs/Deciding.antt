-- What an answer rests on: gathered sources, and what comes of them and the certificate.
use Rattle.std.proofs.Common.{◌≡◌, ℕ, ◌+◌, inl, inr, List, length, take, refl, sym, ap, ◌∙◌, subst, arith, Option, Some, None, IfSome, IsSomeAnd, Result, Ok, Err, IfOk}
use Rattle.std.proofs.lemmas.List.{length-map}
use Rattle.p10_base.specs.declared.digest.Digests.{Digests}
use Rattle.p10_base.specs.declared.report.TheConstants.Limit.{MOST_CERTIFICATE_BYTES}
use Rattle.p10_base.specs.Gathered.{Gathered}
use Rattle.p10_base.specs.Words.{Text}
use Rattle.p10_core.specs.declared.program.Program.{Program}
use Rattle.p10_core.specs.Typed.{PlainProgram}
use Rattle.p10_core.specs.Views.{plain_program}
use Rattle.p10_core.specs.WholePrograms.{IsWholeProgram}
use Rattle.p10_expand.specs.Gathering.{Gathers}
use Rattle.p10_expand.specs.Setting.{setting}
use Rattle.p10_front.specs.declared.reading.Reading.{Reading}
use Rattle.p10_front.specs.Answers.{reading_of}
use Rattle.p10_front.specs.Digests.{PlainDigests, plain_digests, reading_digests}
use Rattle.p10_front.specs.Readings.{PlainReading, AreReadAs}
use Rattle.p10_world.specs.Faults.{Rose}
use Rattle.p10_world.specs.Files.{Named}
use Rattle.p10_command.specs.declared.gathering.GatheredRoots.{GatheredRoots}
use Rattle.p10_command.specs.declared.gathering.GatheredRoots.TheVariants as roots_of
use Rattle.p10_command.specs.declared.gathering.Ungathered as why
use Rattle.p10_command.specs.declared.reading.ReadSources.{ReadSources}
use Rattle.p10_command.specs.declared.reading.ReadSources.TheVariants as found
use Rattle.p10_command.specs.declared.trouble.Trouble as problem
use Rattle.p10_command.specs.declared.trouble.Trouble.TheVariants.{Read, Memory}
use Rattle.p10_command.specs.Gathering.{AreGathered}
use Rattle.p10_command.specs.Reading.{AreRead}
use Rattle.p10_command.proofs.Causes.{has_cause}
use Rattle.p10_command.proofs.Files.{all_of, given_is_held, longer}
use Rattle.p10_command.proofs.Sources as sources
use Rattle.p10_judge.specs.Loading.{IsLoaded}
use Rattle.p10_migrate_command.specs.declared.answer.Answer.{Answer}
use Rattle.p10_migrate_command.specs.declared.answer.Answer.TheVariants as answers
use Rattle.p10_migrate_command.specs.declared.command.MigrateCommand.{MigrateCommand}
use Rattle.p10_migrate_command.specs.declared.migration.Migration.{Migration}
use Rattle.p10_migrate_command.specs.Migrating.{Migrated, Migrates, migrated_of, too_long, bad, certificate}
use Rattle.p10_migrate_command.specs.Told.{setting_of}
use Rattle.p10_migrate_command.specs.private.Deciding.{Answered, AreMigrated, Comes, ComesFrom, Decides}

-- ## The program of a reading

-- what comes of the bytes of a certificate for it
pub of_reading : {E : Type 0} (o : Option Program) (program : Program) (reading : PlainReading) (found : Digests) (bytes : List ℕ) (r : Result Migration E) → o ≡ Some program → plain_digests found ≡ reading_digests reading
    → IfSome o (λ p. length found.funcs ≡ length (plain_program p).functions) → IfOk r (λ m. Migrates (plain_program program) (plain_digests found) bytes (migrated_of m))
    → IfOk r (λ m. IsSomeAnd o (λ p. Comes reading (plain_program p) bytes (migrated_of m)))
of_reading o program reading found bytes (Err e) is digests each comes = tt
of_reading o program reading found bytes (Ok m) is digests each comes =
    let one : length found.funcs ≡ length (plain_program program).functions = subst (λ (x : Option Program). IfSome x (λ p. length found.funcs ≡ length (plain_program p).functions)) is each in
    subst (λ (x : Option Program). IsSomeAnd x (λ p. Comes reading (plain_program p) bytes (migrated_of m))) (sym is)
    (record {
      each = ap (λ (d : PlainDigests). length d.funcs) (sym digests) ∙ length-map found.funcs (λ d. d.0) ∙ one;
      is = subst (λ (d : PlainDigests). Migrates (plain_program program) d bytes (migrated_of m)) digests comes;
    })

-- its functions have as many digests
pub one_each : (o : Option Program) (program : Program) (found : Digests) → o ≡ Some program → IfSome o (λ p. length found.funcs ≡ length (plain_program p).functions) → length found.funcs ≡ length (plain_program program).functions
one_each o program found is each = subst (λ (x : Option Program). IfSome x (λ p. length found.funcs ≡ length (plain_program p).functions)) is each

by_program : (g : Gathered) (r : PlainReading) (bytes : List ℕ) (to : Migrated) (o : Option Program) → IsSomeAnd o (λ p. AreReadAs g r (plain_program p) × IsWholeProgram (plain_program p)) → IsSomeAnd o (λ p. Comes r (plain_program p) bytes to) → ComesFrom g bytes to
by_program g r bytes to None are comes = absurd are
by_program g r bytes to (Some p) are comes = record { program = plain_program p; reading = r; read = are.0; whole = are.1; comes = comes }

pub program_migrated : (g : Gathered) (source : ReadSources) (reading : Reading) (bytes : List ℕ) (m : Migration) → source ≡ found.Program reading → AreRead g source → IsSomeAnd reading.program (λ p. Comes (reading_of reading) (plain_program p) bytes (migrated_of m))
    → AreMigrated g bytes (answers.Migrated m)
program_migrated g source reading bytes m same is comes = by_program g (reading_of reading) bytes (migrated_of m) reading.program (sources.are_program g source reading same is) comes

pub whole_program : (g : Gathered) (source : ReadSources) (reading : Reading) → source ≡ found.Program reading → AreRead g source → IsSomeAnd reading.program (λ p. IsWholeProgram (plain_program p))
whole_program g source reading same is = sources.whole_program g reading (sources.are_program g source reading same is)

-- ## The file of the certificate

-- what comes of the loaded bytes comes of the file
of_whole : (p : PlainProgram) (digests : PlainDigests) (whole bytes : List ℕ) (to : Migrated) → bytes ≡ take (MOST_CERTIFICATE_BYTES + 1) whole → Migrates p digests bytes to → Migrates p digests whole to
of_whole p digests whole bytes to front (too_long long is) = too_long (longer MOST_CERTIFICATE_BYTES whole bytes front long) is
of_whole p digests whole bytes to front (bad line short wrong is) = subst (λ (b : List ℕ). Migrates p digests b to) (all_of MOST_CERTIFICATE_BYTES whole bytes front short) (bad line short wrong is)
of_whole p digests whole bytes to front (certificate s text is) = subst (λ (b : List ℕ). Migrates p digests b to) (all_of MOST_CERTIFICATE_BYTES whole bytes front text.short) (certificate s text is)

-- ## The answers

pub gathers_named : (held : Option (List Named)) (m : MigrateCommand) (roots directories : List Text) (found : GatheredRoots) (g : Gathered) → roots ≡ m.sources → directories ≡ m.directories → found ≡ roots_of.All g → AreGathered (setting held roots directories) found → Gathers (setting_of held m) g
gathers_named held m roots directories found g same_roots same_directories same is = (sources.all_gathered held roots m.sources directories m.directories found g same_roots same_directories same is).0

pub decides_ungathered : (held : Option (List Named)) (m : MigrateCommand) (roots directories : List Text) (found : GatheredRoots) (u : why.Ungathered) (g : Gathered) → roots ≡ m.sources → directories ≡ m.directories → found ≡ roots_of.Stopped u g →
    AreGathered (setting held roots directories) found → Decides held m g (answers.Ungathered u)
decides_ungathered held m roots directories found u g same_roots same_directories same is =
    let stopped = sources.not_gathered held roots m.sources directories m.directories found u g same_roots same_directories same is in
    record { is_right = stopped.0; can_be_told = stopped.1 }

migrated_by : (held : Option (List Named)) (m : MigrateCommand) (g : Gathered) (bytes : List ℕ) (answer : Answer) → Gathers (setting_of held m) g → IsLoaded held m.certificate bytes → AreMigrated g bytes answer → Decides held m g answer
migrated_by held m g bytes (answers.Unread u) gathers loaded unread =
    record { is_right = (gathers, given_is_held held m.certificate loaded.whole loaded.given, unread.0); can_be_told = unread.1 }
migrated_by held m g bytes (answers.Migrated migration) gathers loaded of = record {
  is_right = record {
    program = of.program;
    digests = reading_digests of.reading;
    has = record { has = record { gathers = gathers; reading = of.reading; read = of.read; whole = of.whole }; are = refl; each = of.comes.each };
    bytes = loaded.whole;
    given = loaded.given;
    is = of_whole of.program (reading_digests of.reading) loaded.whole bytes (migrated_of migration) loaded.front of.comes.is;
  };
  can_be_told = tt;
}
migrated_by held m g bytes (answers.Ungathered u) gathers loaded none = absurd none
migrated_by held m g bytes answers.AbsentCertificate gathers loaded none = absurd none
migrated_by held m g bytes (answers.Trouble trouble) gathers loaded none = absurd none

-- the sources and a certificate that was loaded come to this
pub decides_migrated : (held later : Option (List Named)) (m : MigrateCommand) (g : Gathered) (bytes read : List ℕ) (answer : Answer) → Gathers (setting_of held m) g → later ≡ held → IsLoaded later m.certificate bytes → read ≡ bytes →
    AreMigrated g read answer → Decides held m g answer
decides_migrated held later m g bytes read answer gathers unchanged loaded same migrated =
    migrated_by held m g bytes answer gathers (subst (λ (h : Option (List Named)). IsLoaded h m.certificate bytes) unchanged loaded) (subst (λ (b : List ℕ). AreMigrated g b answer) same migrated)

no_fault : Rose 0 0 → ⊥
no_fault (inl more) = absurd (omega (arith, more))
no_fault (inr last) = absurd (omega (arith, last))

-- an answer that is right without a fault is right whatever the counts of faults are
pub seen_later : (held : Option (List Named)) (before after : ℕ) (m : MigrateCommand) (g : Gathered) (answer : Answer) → Decides held m g answer → Answered (record { held = held; faults_before = before; faults_after = after }) m g answer
seen_later held before after m g (answers.Ungathered u) decides = record { is_right = decides.is_right; can_be_told = decides.can_be_told }
seen_later held before after m g answers.AbsentCertificate decides = record { is_right = decides.is_right; can_be_told = decides.can_be_told }
seen_later held before after m g (answers.Unread u) decides = record { is_right = decides.is_right; can_be_told = decides.can_be_told }
seen_later held before after m g (answers.Migrated migration) decides = record { is_right = decides.is_right; can_be_told = decides.can_be_told }
seen_later held before after m g (answers.Trouble Read) decides = absurd (no_fault decides.is_right)
seen_later held before after m g (answers.Trouble Memory) decides = record { is_right = tt; can_be_told = tt }

-- a read failed only where the count of faults rose
pub troubled : {T : Type 0} (held : Option (List Named)) (before after : ℕ) (m : MigrateCommand) (g : Gathered) (trouble : problem.Trouble) (r : Result T problem.Trouble) → r ≡ Err trouble → (r ≡ Err Read → Rose before after) →
    Answered (record { held = held; faults_before = before; faults_after = after }) m g (answers.Trouble trouble)
troubled held before after m g trouble r is failed = record { is_right = has_cause r trouble before after is failed; can_be_told = tt }
