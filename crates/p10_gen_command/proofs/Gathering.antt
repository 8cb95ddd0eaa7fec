-- What the generated file comes to, up to its program.
use Rattle.std.proofs.Common.{◌≡◌, ℕ, ◌<◌, [], length, refl, sym, subst, arith, inl, IsSomeAnd, Result, Ok, Err, IfOk, rules}
use Rattle.p10_base.specs.declared.report.Limit.{Limit}
use Rattle.p10_base.specs.declared.report.TheConstants.Limit.{FILE_BYTES, MOST_FILE_BYTES}
use Rattle.p10_base.specs.Gathered.{Gathered}
use Rattle.p10_core.specs.Views.{plain_program}
use Rattle.p10_core.specs.declared.program.Program.{Program}
use Rattle.p10_expand.specs.declared.place.Place.TheVariants.{File}
use Rattle.p10_expand.specs.declared.fault.GatherFault.TheVariants as fault
use Rattle.p10_expand.specs.Gathering.{Setting, Root, beginning}
use Rattle.p10_front.specs.declared.reading.Reading.{Reading}
use Rattle.p10_command.specs.declared.gathering.GatheredRoots.{GatheredRoots}
use Rattle.p10_command.specs.declared.gathering.GatheredRoots.TheVariants.{All, Stopped}
use Rattle.p10_command.specs.declared.gathering.Ungathered.{Ungathered}
use Rattle.p10_command.specs.declared.gathering.Ungathered.TheVariants as gathering
use Rattle.p10_command.specs.declared.reading.ReadSources.{ReadSources}
use Rattle.p10_command.specs.declared.reading.ReadSources.TheVariants as read
use Rattle.p10_command.specs.declared.reading.Unread.{Unread}
use Rattle.p10_command.specs.Gathering.{AreGathered, AreUngathered}
use Rattle.p10_command.specs.Reading.{AreRead}
use Rattle.p10_command.proofs.Sources.{are_program, are_unread, program_of}
use Rattle.p10_gen.specs.declared.fault.GenFault.{GenFault}
use Rattle.p10_gen.specs.declared.fault.GenFault.TheVariants as gen
use Rattle.p10_gen.specs.Faults.{IsFault}
use Rattle.p10_gen.specs.Programs.{generated_text}
use Rattle.p10_gen_command.specs.declared.answer.Answer.{Answer}
use Rattle.p10_gen_command.specs.declared.answer.Answer.TheVariants.{Over}
use Rattle.p10_gen_command.specs.Answers.{IsRight, IsShown, file_name, setting_of, shown, ungathered, unread, unread_answer}
use Rattle.p10_gen_command.specs.private.Deciding.{IsRightFor, answer_by}

-- ## The file

-- a text that is longer than a source file may be isn't gathered
too_long : (n : ℕ) (limit : Limit) → limit ≡ FILE_BYTES → MOST_FILE_BYTES < length (generated_text n) → IsRight (setting_of n) (Over limit)
too_long n limit is long = ungathered (fault.Over limit) (record {
  answered = 0;
  last = beginning (setting_of n);
  reached = refl;
  ends = inl (record {
    place = File file_name;
    text = generated_text n;
    next = record {
      request = Root file_name;
      rest = [];
      finds = record { asked = refl; first = record { front = []; back = []; parts = refl; none = search rules; there = refl } };
      new = λ number at. absurd (omega (arith, at.held));
      room = omega arith;
      text_is = refl;
    };
    over = inl (is, long);
  });
}) refl

-- as the generator says it
pub fault_right : (n : ℕ) (fault : GenFault) (limit : Limit) → fault ≡ gen.Over limit → IsFault n fault → IsRight (setting_of n) (Over limit)
fault_right n fault limit is why =
    let long = subst (λ (f : GenFault). IsFault n f) is why in
    too_long n limit long.0 long.1

-- ## What is gathered

pub gathered_right : {E : Type 0} (s : Setting) (found : GatheredRoots) (g : Gathered) (r : Result Answer E) → found ≡ All g → AreGathered s found → IfOk r (IsRightFor g) → IfOk r (IsRight s)
gathered_right s found g (Err e) is are right = tt
gathered_right s found g (Ok answer) is are right = right s (subst (λ (f : GatheredRoots). AreGathered s f) is are).0

by_why : (s : Setting) (g : Gathered) (why : Ungathered) → AreUngathered s g why → IsRight s (answer_by why)
by_why s g (gathering.AbsentRoot place) fails = ungathered (fault.RootAbsent place) fails refl
by_why s g (gathering.Refused refusal) fails = ungathered (fault.Refused refusal g) fails refl
by_why s g (gathering.Over limit) fails = ungathered (fault.Over limit) fails refl

pub ungathered_right : (s : Setting) (found : GatheredRoots) (g : Gathered) (why : Ungathered) (answer : Answer) → found ≡ Stopped why g → AreGathered s found → answer ≡ answer_by why → IsRight s answer
ungathered_right s found g why answer is are by =
    subst (λ (a : Answer). IsRight s a) (sym by) (by_why s g why (subst (λ (f : GatheredRoots). AreGathered s f) is are).0)

-- ## What is read

pub program_right : {E : Type 0} (g : Gathered) (found : ReadSources) (reading : Reading) (r : Result Answer E) → found ≡ read.Program reading → AreRead g found → IfOk r (λ answer. IsSomeAnd reading.program (λ p. IsShown (plain_program p) answer)) → IfOk r (IsRightFor g)
program_right g found reading (Err e) is are comes = tt
program_right g found reading (Ok answer) is are comes = λ s gathers.
    let (p, has, shows) = program_of s g reading (λ p. IsShown p answer) gathers (are_program g found reading is are) comes in
    shown g p has shows

pub unread_right : (g : Gathered) (found : ReadSources) (why : Unread) (answer : Answer) → found ≡ read.Unread why → AreRead g found → answer ≡ unread_answer why → IsRightFor g answer
unread_right g found why answer is are by s gathers = unread g why gathers (are_unread g found why is are).0 by
