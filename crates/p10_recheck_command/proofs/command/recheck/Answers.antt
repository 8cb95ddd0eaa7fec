use Rattle.p10_recheck_command.proofs.Answering.{told_for, stopped_for}
use Rattle.p10_recheck_command.proofs.command.recheck.Goals as goal

pub returns-in-Ok-clause-told : goal.returns-in-Ok-clause-told
returns-in-Ok-clause-told g c = λ six. told_for _ _ _ _ _ _ _ _ _ c.answer_to-decision.ensures.right c.status.ensures c.in-Ok.ensures.ok

pub returns-clause-stopped : goal.returns-clause-stopped
returns-clause-stopped g c = λ six. stopped_for _ _ _ _ _ _ _ _ c.answer_to-decision.ensures.right c.in-Err.ensures.stopped
