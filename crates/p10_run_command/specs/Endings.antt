-- What is said of a run that has ended.
use Rattle.std.specs.Prelude.{ℕ, List}
use Rattle.p10_base.specs.Gathered.{Gathered}
use Rattle.p10_int.specs.declared.operators.Stop.{Stop}
use Rattle.p10_int.specs.declared.operators.Stop.TheVariants.{U1, U2, U3, U4, U5, U6, U7, U8, U9, U10, U11, U12}
use Rattle.p10_meaning.specs.States.{AssertionFailed, Undefined, StepsSpent}
use Rattle.p10_meaning.specs.Runs.{Outcome, Returned, Turns, Ended, Ran}
use Rattle.p10_report.specs.Endings.{returned_line, turns_line, assertion_failed_line, undefined_line, steps_spent_line}
use Rattle.p10_command.specs.Saying.{Saying}

-- the number of an undefined operation, as its code has it
abbrev pub number_of_stop : Stop → ℕ
number_of_stop U1 = 1
number_of_stop U2 = 2
number_of_stop U3 = 3
number_of_stop U4 = 4
number_of_stop U5 = 5
number_of_stop U6 = 6
number_of_stop U7 = 7
number_of_stop U8 = 8
number_of_stop U9 = 9
number_of_stop U10 = 10
number_of_stop U11 = 11
number_of_stop U12 = 12

-- the status, by how the run has ended
abbrev pub ended_status : Outcome → ℕ
ended_status (Returned value) = 0
ended_status (Turns n) = 0
ended_status (Ended (AssertionFailed at)) = 10
ended_status (Ended (Undefined stop at)) = 11
ended_status (Ended StepsSpent) = 12

-- the line on the error output: how the run has ended, and where it didn't stop on the way its greatest depths in calls and bytes
abbrev pub ended_line : Gathered → Outcome → ℕ → ℕ → List ℕ
ended_line g (Returned value) calls bytes = returned_line value calls bytes
ended_line g (Turns n) calls bytes = turns_line n calls bytes
ended_line g (Ended (AssertionFailed at)) calls bytes = assertion_failed_line g at
ended_line g (Ended (Undefined stop at)) calls bytes = undefined_line g (number_of_stop stop) at
ended_line g (Ended StepsSpent) calls bytes = steps_spent_line

-- what is said of a run: all that it wrote, on the output, and its end
abbrev pub ended_saying : Gathered → Ran → Saying
ended_saying g r = record { status = ended_status r.outcome; out = r.output; err = ended_line g r.outcome r.calls r.bytes }
