-- What is right to answer to `gen`.
use Rattle.std.specs.Prelude.{ℕ, ◌≡◌, List, [], ◌∷◌, Some, codes}
use Rattle.p10_base.specs.declared.report.Bounds.{Bounds}
use Rattle.p10_base.specs.declared.report.Limit.{Limit}
use Rattle.p10_base.specs.declared.report.Violation.{Violation}
use Rattle.p10_base.specs.Gathered.{Gathered}
use Rattle.p10_base.specs.Words.{Text}
use Rattle.p10_world.specs.Files.{Named}
use Rattle.p10_core.specs.Typed.{PlainProgram}
use Rattle.p10_cert.specs.Certificate.{certificate_text}
use Rattle.p10_cert.specs.Claims.{Claims}
use Rattle.p10_meaning.specs.Runs.{Outcome, Returned, Turns, Ended}
use Rattle.p10_run.specs.Budgets.{budget_within}
use Rattle.p10_run.specs.WholeRuns.{run_with}
use Rattle.p10_approach.specs.Offers.{no_offers}
use Rattle.p10_finder.specs.Answers.{Violating, Over as Passing, Certified, IsDerived}
use Rattle.p10_expand.specs.declared.fault.GatherFault.{GatherFault}
use Rattle.p10_expand.specs.declared.fault.GatherFault.TheVariants as fault
use Rattle.p10_expand.specs.Gathering.{Setting, Gathers, FailsBy}
use Rattle.p10_expand.specs.Setting.{setting}
use Rattle.p10_command.specs.declared.reading.Unread.{Unread}
use Rattle.p10_command.specs.declared.reading.Unread.TheVariants as reading
use Rattle.p10_command.specs.Reading.{AreUnread}
use Rattle.p10_judge.specs.declared.judgement.Judgement.{Judgement}
use Rattle.p10_judge.specs.declared.judgement.Judgement.TheVariants.{Accepted}
use Rattle.p10_judge.specs.Judging.{IsWeighed}
use Rattle.p10_command.specs.Programs.{HasProgram}
use Rattle.p10_gen.specs.Programs.{generated_text}
use Rattle.p10_gen_command.specs.declared.answer.Answer.{Answer}
use Rattle.p10_gen_command.specs.declared.answer.Answer.TheVariants.{Over, Fails, Returns, OutOfMemory}
use Rattle.p10_gen_command.specs.declared.answer.Stage.TheVariants.{Reading, Deriving, Verifying, Running}

-- ## The program

-- the name of its file
abbrev pub file_name : Text
file_name = codes "gen.c"

-- its files: this one alone, with the text of the program of n functions
abbrev pub generated_files : ℕ → List Named
generated_files n = record { name = file_name; bytes = generated_text n } ∷ []

-- its sources are gathered from these files, with this one as their root
abbrev pub setting_of : ℕ → Setting
setting_of n = setting (Some (generated_files n)) (file_name ∷ []) []

-- ## Its run within a certificate

-- how a run without input and without values of sensors ends, where no request for memory is denied
abbrev pub outcome_within : PlainProgram → Bounds → Outcome
outcome_within p b = (run_with p (budget_within b 1 0) [] []).outcome

-- ## Answers, stage by stage

-- where the file isn't gathered: it exceeds a limit (M1, M2), or fails at being read
abbrev pub ungathered_answer : GatherFault → Answer
ungathered_answer (fault.Over limit) = Over limit
ungathered_answer why = Fails Reading

-- where it is no program: it exceeds a limit (M3 to M6, M8), or fails at being read
abbrev pub unread_answer : Unread → Answer
unread_answer (reading.Over limit) = Over limit
unread_answer (reading.Refused refusal) = Fails Reading

-- where the certificate has this total: a run within it has returned, or the program fails at running
abbrev pub ended_answer : Bounds → Outcome → Answer
ended_answer total (Returned value) = Returns total value
ended_answer total (Turns n) = Fails Running
ended_answer total (Ended end) = Fails Running

-- where a certificate is derived whose text is judged so: it is accepted and run with, or the program fails at being verified
abbrev pub judged_answer : PlainProgram → Claims → Judgement → Answer
judged_answer p claims (Accepted bounds) = ended_answer claims.total (outcome_within p bounds)
judged_answer p claims judgement = Fails Verifying

-- what derivation, the verification of what is derived, and a run within it come to, for a program
pub data IsShown (p : PlainProgram) (answer : Answer) : Type 0 where
  -- a row of the rules for which there is no certificate is violated
  violating : (violations : List Violation) → IsDerived no_offers p (Violating violations) → answer ≡ Fails Deriving → IsShown p answer
  -- a limit of derivation is exceeded (M9, M10)
  passing : (limit : Limit) → IsDerived no_offers p (Passing limit) → answer ≡ Over limit → IsShown p answer
  -- a certificate is derived, and its text is judged
  certified : (claims : Claims) (judgement : Judgement) → IsDerived no_offers p (Certified claims) → IsWeighed p [] (certificate_text claims) judgement → answer ≡ judged_answer p claims judgement → IsShown p answer

-- what is right to answer, where the sources are gathered so
pub data IsRight (s : Setting) (answer : Answer) : Type 0 where
  -- the sources aren't gathered
  ungathered : (why : GatherFault) → FailsBy s why → answer ≡ ungathered_answer why → IsRight s answer
  -- they are gathered, but are no program
  unread : (g : Gathered) (why : Unread) → Gathers s g → AreUnread g why → answer ≡ unread_answer why → IsRight s answer
  -- they are a program, and this comes of it
  shown : (g : Gathered) (p : PlainProgram) → HasProgram s g p → IsShown p answer → IsRight s answer
  -- memory may be out at any time
  out_of_memory : answer ≡ OutOfMemory → IsRight s answer
