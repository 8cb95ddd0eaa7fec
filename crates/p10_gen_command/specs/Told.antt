-- What is said for an answer: the status of the program, and the texts on its two outputs.
use Rattle.std.specs.Prelude.{ℕ, ◌≡◌, List, []}
use Rattle.p10_report.specs.Lines.{limit_line}
use Rattle.p10_report.specs.Messages.{out_of_memory_line}
use Rattle.p10_command.specs.Saying.{Saying}
use Rattle.p10_gen_command.specs.declared.answer.Answer.{Answer}
use Rattle.p10_gen_command.specs.declared.answer.Answer.TheVariants.{Over, Fails, Returns, OutOfMemory}
use Rattle.p10_gen_command.specs.Answers.{IsRight, setting_of}
use Rattle.p10_gen_command.specs.Lines.{failing_line, shown_text}

-- the status of an answer
abbrev pub status_of : Answer → ℕ
status_of (Over limit) = 8
status_of (Fails stage) = 1
status_of (Returns bounds value) = 0
status_of OutOfMemory = 7

-- the text on the output, for the program of n functions
abbrev pub out_text : ℕ → Answer → List ℕ
out_text n (Over limit) = []
out_text n (Fails stage) = []
out_text n (Returns bounds value) = shown_text n bounds value
out_text n OutOfMemory = []

-- the text on the error output
abbrev pub err_text : Answer → List ℕ
err_text (Over limit) = limit_line limit
err_text (Fails stage) = failing_line stage
err_text (Returns bounds value) = []
err_text OutOfMemory = out_of_memory_line

-- what is said for an answer, for the program of n functions
abbrev pub saying_of : ℕ → Answer → Saying
saying_of n answer = record { status = status_of answer; out = out_text n answer; err = err_text answer }

-- something is said for a right answer to `gen n`
pub record SaysRight (n : ℕ) (saying : Saying) : Type 0 where
  pub answer : Answer
  pub is_right : IsRight (setting_of n) answer
  pub said : saying ≡ saying_of n answer
