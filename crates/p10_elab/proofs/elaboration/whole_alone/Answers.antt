use Rattle.std.proofs.Common.{subst}
use Rattle.p10_elab.specs.Answers.{IsElaborated}
use Rattle.p10_elab.proofs.elaboration.whole_alone.Goals as goal

pub returns-in-Ok-clause-same : goal.returns-in-Ok-clause-same
returns-in-Ok-clause-same c = λ e h. c.whole_program.ensures.same e (subst (IsElaborated e) c.in-Ok.is h)

pub returns-in-Err-clause-same : goal.returns-in-Err-clause-same
returns-in-Err-clause-same c = λ e h. subst (IsElaborated e) c.in-Err.is h
