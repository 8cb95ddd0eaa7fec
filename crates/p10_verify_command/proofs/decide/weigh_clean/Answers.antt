use Rattle.std.proofs.Common.{subst}
use Rattle.p10_check.specs.Texts.{digests_of}
use Rattle.p10_core.specs.Views.{plain_program}
use Rattle.p10_judge.specs.Whole.{IsWeighedWhole}
use Rattle.p10_verify_command.proofs.Weighing.{refused}
use Rattle.p10_verify_command.proofs.decide.weigh_clean.Goals as goal

pub returns-in_ok-answer-in-Accepted : goal.returns-in_ok-answer-in-Accepted
returns-in_ok-answer-in-Accepted c =
    let digests = digests_of c.args.found.now in
    c.in_ok-answer-in-Accepted.ensures digests c.args.certificate.now (subst (IsWeighedWhole (plain_program c.args.program.now) digests c.args.certificate.now) c.in-Accepted.is c.in_ok-claims.ensures)

pub returns-in-Refused : goal.returns-in-Refused
returns-in-Refused c =
    let p = plain_program c.args.program.now in
    let digests = digests_of c.args.found.now in
    refused p digests c.args.certificate.now c.in-Refused.judgement (subst (IsWeighedWhole p digests c.args.certificate.now) c.in-Refused.is c.in_ok-claims.ensures)
