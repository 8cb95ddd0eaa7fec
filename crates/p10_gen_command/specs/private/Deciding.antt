-- What is known of an answer while it is decided.
use Rattle.std.specs.Prelude.{◌≡◌, List, ℕ, [], ◌∷◌, Some}
use Rattle.p10_base.specs.Gathered.{Gathered}
use Rattle.p10_core.specs.Typed.{PlainProgram}
use Rattle.p10_cert.specs.Certificate.{certificate_text}
use Rattle.p10_cert.specs.Claims.{Claims}
use Rattle.p10_expand.specs.Gathering.{Setting, Gathers}
use Rattle.p10_expand.specs.Setting.{setting}
use Rattle.p10_command.specs.declared.gathering.Ungathered.{Ungathered}
use Rattle.p10_command.specs.declared.gathering.Ungathered.TheVariants as gathering
use Rattle.p10_judge.specs.declared.judgement.Judgement.{Judgement}
use Rattle.p10_judge.specs.Judging.{IsWeighed}
use Rattle.p10_gen_command.specs.declared.answer.Answer.{Answer}
use Rattle.p10_gen_command.specs.declared.answer.Answer.TheVariants.{Over, Fails}
use Rattle.p10_gen_command.specs.declared.answer.Stage.TheVariants.{Reading}
use Rattle.p10_gen_command.specs.Answers.{IsRight, file_name, judged_answer}

-- the sources are gathered from a file with these bytes
abbrev pub setting_with : List ℕ → Setting
setting_with bytes = setting (Some (record { name = file_name; bytes = bytes } ∷ [])) (file_name ∷ []) []

-- where sources aren't gathered, by why the code says so
abbrev pub answer_by : Ungathered → Answer
answer_by (gathering.Over limit) = Over limit
answer_by why = Fails Reading

-- the answer is right wherever these files are gathered
abbrev pub IsRightFor : Gathered → Answer → Type 0
IsRightFor g answer = (s : Setting) → Gathers s g → IsRight s answer

-- the answer is that of how the text of these claims is judged for a program
pub record IsJudged (p : PlainProgram) (claims : Claims) (answer : Answer) : Type 0 where
  pub judgement : Judgement
  pub weighed : IsWeighed p [] (certificate_text claims) judgement
  pub is : answer ≡ judged_answer p claims judgement
