-- What an answer rests on: gathered sources, and what they and both certificates come to.
use Rattle.std.proofs.Common.{◌≡◌, ℕ, ◌+◌, inl, inr, List, length, take, refl, sym, ap, ◌∙◌, subst, arith, Option, Some, None, IfSome, IsSomeAnd, Result, Ok, Err, IfOk}
use Rattle.std.proofs.lemmas.List.{length-map}
use Rattle.p10_base.specs.declared.digest.Digests.{Digests}
use Rattle.p10_base.specs.declared.report.TheConstants.Limit.{MOST_CERTIFICATE_BYTES}
use Rattle.p10_base.specs.Gathered.{Gathered}
use Rattle.p10_base.specs.Words.{Text}
use Rattle.p10_core.specs.declared.program.Program.{Program}
use Rattle.p10_core.specs.Typed.{PlainProgram}
use Rattle.p10_core.specs.Views.{plain_program}
use Rattle.p10_core.specs.WholePrograms.{IsWholeProgram}
use Rattle.p10_expand.specs.Gathering.{Gathers}
use Rattle.p10_expand.specs.Setting.{setting}
use Rattle.p10_front.specs.declared.reading.Reading.{Reading}
use Rattle.p10_front.specs.Answers.{reading_of}
use Rattle.p10_front.specs.Digests.{PlainDigests, plain_digests, reading_digests}
use Rattle.p10_front.specs.Readings.{PlainReading, AreReadAs}
use Rattle.p10_world.specs.Faults.{Rose}
use Rattle.p10_world.specs.Files.{Lacks, Named}
use Rattle.p10_command.specs.declared.gathering.GatheredRoots.{GatheredRoots}
use Rattle.p10_command.specs.declared.gathering.GatheredRoots.TheVariants as roots_of
use Rattle.p10_command.specs.declared.gathering.Ungathered as why
use Rattle.p10_command.specs.declared.reading.ReadSources.{ReadSources}
use Rattle.p10_command.specs.declared.reading.ReadSources.TheVariants as found
use Rattle.p10_command.specs.declared.trouble.Trouble as problem
use Rattle.p10_command.specs.declared.trouble.Trouble.TheVariants.{Read, Memory}
use Rattle.p10_command.specs.Gathering.{AreGathered}
use Rattle.p10_command.specs.Reading.{AreRead}
use Rattle.p10_command.proofs.Causes.{has_cause}
use Rattle.p10_command.proofs.Files.{all_of, given_is_held, longer}
use Rattle.p10_command.proofs.Sources as sources
use Rattle.p10_judge.specs.Loading.{IsLoaded}
use Rattle.p10_rejudge.specs.Rejudging.{IsNoSealedText}
use Rattle.p10_recheck_command.specs.declared.answer.Answer.{Answer}
use Rattle.p10_recheck_command.specs.declared.answer.Answer.TheVariants as answers
use Rattle.p10_recheck_command.specs.declared.command.RecheckCommand.{RecheckCommand}
use Rattle.p10_recheck_command.specs.declared.rechecking.Rechecking.{Rechecking}
use Rattle.p10_recheck_command.specs.declared.rechecking.Rechecking.TheVariants.{TooLong, BadCertificate, OldTooLong, BadOld, Judged}
use Rattle.p10_recheck_command.specs.Rechecking.{IsNewCertificate, IsNoNewCertificate, IsRechecked, Rechecks}
use Rattle.p10_recheck_command.specs.Told.{setting_of}
use Rattle.p10_recheck_command.specs.private.Deciding.{Answered, AreRechecked, Comes, ComesFrom, Decides}

-- ## The program of a reading

-- what both certificates come to for it
pub of_reading : {E : Type 0} (o : Option Program) (program : Program) (reading : PlainReading) (found : Digests) (new old : List ℕ) (r : Result Rechecking E) → o ≡ Some program → plain_digests found ≡ reading_digests reading
    → IfSome o (λ p. length found.funcs ≡ length (plain_program p).functions) → IfOk r (Rechecks (plain_program program) (plain_digests found) new old)
    → IfOk r (λ to. IsSomeAnd o (λ p. Comes reading (plain_program p) new old to))
of_reading o program reading found new old (Err e) is digests each comes = tt
of_reading o program reading found new old (Ok to) is digests each comes =
    let one : length found.funcs ≡ length (plain_program program).functions = subst (λ (x : Option Program). IfSome x (λ p. length found.funcs ≡ length (plain_program p).functions)) is each in
    subst (λ (x : Option Program). IsSomeAnd x (λ p. Comes reading (plain_program p) new old to)) (sym is)
    (record {
      each = ap (λ (d : PlainDigests). length d.funcs) (sym digests) ∙ length-map found.funcs (λ d. d.0) ∙ one;
      is = subst (λ (d : PlainDigests). Rechecks (plain_program program) d new old to) digests comes;
    })

by_program : (g : Gathered) (r : PlainReading) (new old : List ℕ) (to : Rechecking) (o : Option Program) → IsSomeAnd o (λ p. AreReadAs g r (plain_program p) × IsWholeProgram (plain_program p)) → IsSomeAnd o (λ p. Comes r (plain_program p) new old to) → ComesFrom g new old to
by_program g r new old to None are comes = absurd are
by_program g r new old to (Some p) are comes = record { program = plain_program p; reading = r; read = are.0; whole = are.1; comes = comes }

pub program_rechecked : (g : Gathered) (source : ReadSources) (reading : Reading) (new old : List ℕ) (to : Rechecking) → source ≡ found.Program reading → AreRead g source → IsSomeAnd reading.program (λ p. Comes (reading_of reading) (plain_program p) new old to)
    → AreRechecked g new old (answers.Rechecked to)
program_rechecked g source reading new old to same is comes = by_program g (reading_of reading) new old to reading.program (sources.are_program g source reading same is) comes

pub whole_program : (g : Gathered) (source : ReadSources) (reading : Reading) → source ≡ found.Program reading → AreRead g source → IsSomeAnd reading.program (λ p. IsWholeProgram (plain_program p))
whole_program g source reading same is = sources.whole_program g reading (sources.are_program g source reading same is)

-- ## The files of the certificates

module _ (p : PlainProgram) (digests : PlainDigests) where
  -- what the loaded bytes come to the new file comes to
  new_whole : (whole bytes old : List ℕ) (to : Rechecking) → bytes ≡ take (MOST_CERTIFICATE_BYTES + 1) whole → Rechecks p digests bytes old to → Rechecks p digests whole old to
  new_whole whole bytes old TooLong front long = longer MOST_CERTIFICATE_BYTES whole bytes front long
  new_whole whole bytes old (BadCertificate line) front bad = subst (λ (b : List ℕ). IsNoNewCertificate b line) (all_of MOST_CERTIFICATE_BYTES whole bytes front bad.short) bad
  new_whole whole bytes old OldTooLong front (s, is, long) = (s, subst (λ (b : List ℕ). IsNewCertificate b s) (all_of MOST_CERTIFICATE_BYTES whole bytes front is.text.short) is, long)
  new_whole whole bytes old (BadOld line) front (s, is, bad) = (s, subst (λ (b : List ℕ). IsNewCertificate b s) (all_of MOST_CERTIFICATE_BYTES whole bytes front is.text.short) is, bad)
  new_whole whole bytes old (Judged judgement passed) front is = subst (λ (b : List ℕ). IsRechecked p digests b old judgement passed) (all_of MOST_CERTIFICATE_BYTES whole bytes front is.is_new.text.short) is

  -- and the old one
  old_whole : (new whole bytes : List ℕ) (to : Rechecking) → bytes ≡ take (MOST_CERTIFICATE_BYTES + 1) whole → Rechecks p digests new bytes to → Rechecks p digests new whole to
  old_whole new whole bytes TooLong front long = long
  old_whole new whole bytes (BadCertificate line) front bad = bad
  old_whole new whole bytes OldTooLong front (s, is, long) = (s, is, longer MOST_CERTIFICATE_BYTES whole bytes front long)
  old_whole new whole bytes (BadOld line) front (s, is, bad) = (s, is, subst (λ (b : List ℕ). IsNoSealedText b line) (all_of MOST_CERTIFICATE_BYTES whole bytes front bad.short) bad)
  old_whole new whole bytes (Judged judgement passed) front is = subst (λ (b : List ℕ). IsRechecked p digests new b judgement passed) (all_of MOST_CERTIFICATE_BYTES whole bytes front is.is_old.short) is

-- ## The answers

pub gathers_named : (held : Option (List Named)) (r : RecheckCommand) (roots directories : List Text) (found : GatheredRoots) (g : Gathered) → roots ≡ r.sources → directories ≡ r.directories → found ≡ roots_of.All g → AreGathered (setting held roots directories) found → Gathers (setting_of held r) g
gathers_named held r roots directories found g same_roots same_directories same is = (sources.all_gathered held roots r.sources directories r.directories found g same_roots same_directories same is).0

pub decides_ungathered : (held : Option (List Named)) (r : RecheckCommand) (roots directories : List Text) (found : GatheredRoots) (u : why.Ungathered) (g : Gathered) → roots ≡ r.sources → directories ≡ r.directories → found ≡ roots_of.Stopped u g →
    AreGathered (setting held roots directories) found → Decides held r g (answers.Ungathered u)
decides_ungathered held r roots directories found u g same_roots same_directories same is =
    let stopped = sources.not_gathered held roots r.sources directories r.directories found u g same_roots same_directories same is in
    record { is_right = stopped.0; can_be_told = stopped.1 }

rechecked_by : (held : Option (List Named)) (r : RecheckCommand) (g : Gathered) (new old : List ℕ) (answer : Answer) → Gathers (setting_of held r) g → IsLoaded held r.certificate new → IsLoaded held r.since old → AreRechecked g new old answer → Decides held r g answer
rechecked_by held r g new old (answers.Unread u) gathers loaded since unread =
    record { is_right = (gathers, given_is_held held r.certificate loaded.whole loaded.given, given_is_held held r.since since.whole since.given, unread.0); can_be_told = unread.1 }
rechecked_by held r g new old (answers.Rechecked to) gathers loaded since of = record {
  is_right = record {
    program = of.program;
    digests = reading_digests of.reading;
    has = record { has = record { gathers = gathers; reading = of.reading; read = of.read; whole = of.whole }; are = refl; each = of.comes.each };
    new = loaded.whole;
    new_given = loaded.given;
    old = since.whole;
    old_given = since.given;
    is = old_whole of.program (reading_digests of.reading) loaded.whole since.whole old to since.front (new_whole of.program (reading_digests of.reading) loaded.whole new old to loaded.front of.comes.is);
  };
  can_be_told = tt;
}
rechecked_by held r g new old (answers.Ungathered u) gathers loaded since none = absurd none
rechecked_by held r g new old answers.AbsentCertificate gathers loaded since none = absurd none
rechecked_by held r g new old answers.AbsentOld gathers loaded since none = absurd none
rechecked_by held r g new old (answers.Trouble trouble) gathers loaded since none = absurd none

-- the new certificate was loaded, and there is no old one
pub decides_absent : (held later last : Option (List Named)) (r : RecheckCommand) (g : Gathered) (new name : List ℕ) → Gathers (setting_of held r) g → later ≡ held → IsLoaded later r.certificate new → last ≡ later → name ≡ r.since → Lacks last name → Decides held r g answers.AbsentOld
decides_absent held later last r g new name gathers unchanged loaded still same lacks =
    let here = subst (λ (h : Option (List Named)). IsLoaded h r.certificate new) unchanged loaded in
    record {
      is_right = (gathers, given_is_held held r.certificate here.whole here.given, subst (λ (h : Option (List Named)). Lacks h r.since) (still ∙ unchanged) (subst (λ (n : List ℕ). Lacks last n) same lacks));
      can_be_told = tt;
    }

-- the sources and both certificates, which were loaded, come to this
pub decides_rechecked : (held later last : Option (List Named)) (r : RecheckCommand) (g : Gathered) (new old new_read old_read : List ℕ) (answer : Answer) → Gathers (setting_of held r) g → later ≡ held → IsLoaded later r.certificate new → last ≡ later → IsLoaded last r.since old
    → new_read ≡ new → old_read ≡ old → AreRechecked g new_read old_read answer → Decides held r g answer
decides_rechecked held later last r g new old new_read old_read answer gathers unchanged loaded still since same also rechecked =
    rechecked_by held r g new old answer gathers (subst (λ (h : Option (List Named)). IsLoaded h r.certificate new) unchanged loaded) (subst (λ (h : Option (List Named)). IsLoaded h r.since old) (still ∙ unchanged) since)
    (subst (λ (b : List ℕ). AreRechecked g new b answer) also (subst (λ (b : List ℕ). AreRechecked g b old_read answer) same rechecked))

no_fault : Rose 0 0 → ⊥
no_fault (inl more) = absurd (omega (arith, more))
no_fault (inr last) = absurd (omega (arith, last))

-- an answer that is right without a fault is right whatever the counts of faults are
pub seen_later : (held : Option (List Named)) (before after : ℕ) (r : RecheckCommand) (g : Gathered) (answer : Answer) → Decides held r g answer → Answered (record { held = held; faults_before = before; faults_after = after }) r g answer
seen_later held before after r g (answers.Ungathered u) decides = record { is_right = decides.is_right; can_be_told = decides.can_be_told }
seen_later held before after r g answers.AbsentOld decides = record { is_right = decides.is_right; can_be_told = decides.can_be_told }
seen_later held before after r g answers.AbsentCertificate decides = record { is_right = decides.is_right; can_be_told = decides.can_be_told }
seen_later held before after r g (answers.Unread u) decides = record { is_right = decides.is_right; can_be_told = decides.can_be_told }
seen_later held before after r g (answers.Rechecked to) decides = record { is_right = decides.is_right; can_be_told = decides.can_be_told }
seen_later held before after r g (answers.Trouble Read) decides = absurd (no_fault decides.is_right)
seen_later held before after r g (answers.Trouble Memory) decides = record { is_right = tt; can_be_told = tt }

-- a read failed only where the count of faults rose
pub troubled : {T : Type 0} (held : Option (List Named)) (before after : ℕ) (r : RecheckCommand) (g : Gathered) (trouble : problem.Trouble) (read : Result T problem.Trouble) → read ≡ Err trouble → (read ≡ Err Read → Rose before after) →
    Answered (record { held = held; faults_before = before; faults_after = after }) r g (answers.Trouble trouble)
troubled held before after r g trouble read is failed = record { is_right = has_cause read trouble before after is failed; can_be_told = tt }
