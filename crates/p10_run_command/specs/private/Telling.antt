-- What comes of running a program, and what is written of it.
use Rattle.std.specs.Prelude.{◌≡◌, ℕ, ℤ, List, [], Option, Result, Ok, Err}
use Rattle.p10_base.specs.Gathered.{Gathered}
use Rattle.p10_world.specs.Sink.{TakesFront}
use Rattle.p10_core.specs.Typed.{PlainProgram}
use Rattle.p10_interp.specs.declared.ended.RunFault.{RunFault}
use Rattle.p10_interp.specs.declared.ended.RunFault.TheVariants as run
use Rattle.p10_run.specs.declared.budget.Budget.{Budget}
use Rattle.p10_run.specs.declared.finished.FinishedRun.{FinishedRun}
use Rattle.p10_run.specs.WholeRuns.{IsRun, outcome_of, run_with}
use Rattle.p10_command.specs.declared.trouble.Trouble.TheVariants as trouble
use Rattle.p10_command.specs.Saying.{trouble_line, trouble_status}
use Rattle.p10_judge.specs.Saying.{judgement_line, judgement_status}
use Rattle.p10_run_command.specs.declared.granting.RunRequest.{RunRequest}
use Rattle.p10_run_command.specs.declared.program.RunEnd.{RunEnd}
use Rattle.p10_run_command.specs.declared.program.RunEnd.TheVariants.{Ran, Refused, NoValues, OutOfMemory}
use Rattle.p10_run_command.specs.Answers.{IsInput}
use Rattle.p10_run_command.specs.Endings.{ended_line, ended_status}
use Rattle.p10_run_command.specs.Sensors.{no_values_line, no_values_status}
use Rattle.p10_run_command.specs.private.Granting.{Grants, IsRefusedFor}
use Rattle.p10_run_command.specs.private.Recording.{GivesValues, GivesNone}

-- the status of what has come of a run
abbrev pub ran_status : Result FinishedRun RunFault → ℕ
ran_status (Ok done) = ended_status (outcome_of done.outcome)
ran_status (Err run.Read) = trouble_status trouble.Read
ran_status (Err run.Memory) = trouble_status trouble.Memory
ran_status (Err run.Write) = 6

-- the line of what has come of a run; none after a failed write
abbrev pub ran_line : Gathered → Result FinishedRun RunFault → List ℕ
ran_line g (Ok done) = ended_line g (outcome_of done.outcome) done.calls done.bytes
ran_line g (Err run.Read) = trouble_line trouble.Read
ran_line g (Err run.Memory) = trouble_line trouble.Memory
ran_line g (Err run.Write) = []

-- the status and the line of what has come of a program that was to run
abbrev pub end_status : RunEnd → ℕ
end_status (Ran end) = ran_status end
end_status (Refused judgement) = judgement_status judgement
end_status (NoValues why) = no_values_status why
end_status OutOfMemory = trouble_status trouble.Memory

abbrev pub end_line : Gathered → RunEnd → List ℕ
end_line g (Ran end) = ran_line g end
end_line g (Refused judgement) = judgement_line g judgement
end_line g (NoValues why) = no_values_line why
end_line g OutOfMemory = trouble_line trouble.Memory

-- what comes of running a program with a budget and values of sensors: its run on the input, or a prefix of that run's output
abbrev pub IsOutcome : PlainProgram → Budget → List ℤ → Option (List ℕ) → Option (List ℕ) → Option (List ℕ) → Result FinishedRun RunFault → Type 0
IsOutcome p b values left taken taken_after (Ok done) = (bytes : List ℕ) × IsInput left bytes × IsRun done taken taken_after (run_with p b values bytes)
IsOutcome p b values left taken taken_after (Err fault) = (bytes : List ℕ) × IsInput left bytes × TakesFront taken taken_after (run_with p b values bytes).output

-- what comes of a program that may run with a budget, where these bytes were loaded of the file of sensor values; where it didn't
-- run, nothing was written
abbrev pub ComesWithin : PlainProgram → Budget → Option (List ℕ) → Option (List ℕ) → Option (List ℕ) → Option (List ℕ) → RunEnd → Type 0
ComesWithin p b file left taken taken_after (Ran end) = (values : List ℤ) × GivesValues file values × IsOutcome p b values left taken taken_after end
ComesWithin p b file left taken taken_after (NoValues why) = GivesNone file why × (taken_after ≡ taken)
ComesWithin p b file left taken taken_after (Refused judgement) = ⊥
ComesWithin p b file left taken taken_after OutOfMemory = taken_after ≡ taken

-- what comes of a program, whose functions have these digests, that was to run by a request
abbrev pub Comes : List (List ℕ) → PlainProgram → RunRequest → Option (List ℕ) → Option (List ℕ) → Option (List ℕ) → RunEnd → Type 0
Comes digests p request left taken taken_after (Ran end) = (b : Budget) × Grants digests p request.allowance request.turns request.deny b × ComesWithin p b request.sensors left taken taken_after (Ran end)
Comes digests p request left taken taken_after (NoValues why) = (b : Budget) × Grants digests p request.allowance request.turns request.deny b × ComesWithin p b request.sensors left taken taken_after (NoValues why)
Comes digests p request left taken taken_after (Refused judgement) = IsRefusedFor digests p request.allowance judgement × (taken_after ≡ taken)
Comes digests p request left taken taken_after OutOfMemory = taken_after ≡ taken
