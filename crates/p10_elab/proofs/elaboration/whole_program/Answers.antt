use Rattle.p10_elab.proofs.Stages.{out_of_memory}
use Rattle.p10_elab.proofs.elaboration.whole_program.Goals as goal

pub returns-in_err-whole-clause-same : goal.returns-in_err-whole-clause-same
returns-in_err-whole-clause-same c = λ e h. out_of_memory e c.from_residual.result c.from_residual.ensures.1
