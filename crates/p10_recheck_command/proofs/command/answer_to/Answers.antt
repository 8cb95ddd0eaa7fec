use Rattle.p10_recheck_command.proofs.Deciding.{seen_later, troubled}
use Rattle.p10_recheck_command.proofs.command.answer_to.Goals as goal

pub returns-in-Ok-clause-right : goal.returns-in-Ok-clause-right
returns-in-Ok-clause-right g c = seen_later (g.F.Files.held c.args.files.now) _ _ c.args.command.now c.in-Ok.decision.sources c.in-Ok.decision.answer c.in-Ok.ensures.right

pub returns-in-Err-clause-right : goal.returns-in-Err-clause-right
returns-in-Err-clause-right g c = troubled (g.F.Files.held c.args.files.now) _ _ c.args.command.now _ c.in-Err.trouble c.decide.result c.in-Err.is c.decide.ensures.failed
