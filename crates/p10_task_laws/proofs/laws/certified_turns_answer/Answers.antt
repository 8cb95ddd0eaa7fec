use Rattle.p10_task_laws.proofs.Certified.{certified_turns_answer, turns_certified_by_ranges_answer}
use Rattle.p10_task_laws.proofs.laws.certified_turns_answer.Goals as goal

pub returns-clause-lawful : goal.returns-clause-lawful
returns-clause-lawful c = certified_turns_answer

pub returns-clause-ranges : goal.returns-clause-ranges
returns-clause-ranges c = turns_certified_by_ranges_answer
