use Rattle.p10_gen_command.proofs.Telling.{stopped_for, told_for}
use Rattle.p10_gen_command.proofs.generate.Goals as goal

pub returns-in-Ok-clause-told : goal.returns-in-Ok-clause-told
returns-in-Ok-clause-told g c = λ six. told_for c.args.functions c.answer_to-answer.result _ _ _ _ _ c.answer_to-answer.ensures c.status.ensures c.in-Ok.ensures.ok

pub returns-in-Err-clause-stopped : goal.returns-in-Err-clause-stopped
returns-in-Err-clause-stopped g c = λ six. stopped_for c.args.functions c.answer_to-answer.result _ _ _ _ c.answer_to-answer.ensures c.in-Err.ensures.stopped
