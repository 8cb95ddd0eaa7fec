use Rattle.std.proofs.Common.{◌∙◌, sym}
use Rattle.p10_program.proofs.FirstUses.{lacking_found, lacking_missing}
use Rattle.p10_program.proofs.main_calls.first_without_main.Goals as goal

pub returns-in-Some : goal.returns-in-Some
returns-in-Some c = lacking_found c.args.declared.now c.in-Some.problem (sym c.in-Some.is ∙ c.first_problem.ensures)

pub returns-in-None : goal.returns-in-None
returns-in-None c = lacking_missing c.args.declared.now c.nowhere.result (sym c.in-None.is ∙ c.first_problem.ensures) c.nowhere.ensures
