use Rattle.p10_core.specs.Views.{plain_program}
use Rattle.p10_front.specs.Answers.{reading_of}
use Rattle.p10_front.specs.Digests.{reading_digests}
use Rattle.p10_run_command.proofs.Granted.{granted_by}
use Rattle.p10_run_command.proofs.granting.grant.Goals as goal

pub returns-in_ok-judgement-in-Certificate : goal.returns-in_ok-judgement-in-Certificate
returns-in_ok-judgement-in-Certificate c =
    granted_by (reading_digests (reading_of c.args.reading.now)) c.in_ok-found-in-Certificate.found (plain_program c.args.program.now) c.args.request.now c.in-Certificate.bytes c.as_slice.result.now c.in_ok-judgement-in-Certificate.judgement c.grant_by.result
    c.in-Certificate.is c.as_slice.ensures.value c.in_ok-found-in-Certificate.ensures.right c.in_ok-judgement-in-Certificate.ensures c.grant_by.ensures
