use Rattle.p10_core.specs.Views.{plain_program}
use Rattle.p10_check.specs.Texts.{digests_of}
use Rattle.p10_judge.proofs.Claimed.{whole_weighed, wrong_line}
use Rattle.p10_judge.proofs.whole.weigh_whole.Goals as goal

pub returns-then-is_too_long : goal.returns-then-is_too_long
returns-then-is_too_long c = (c.is_too_long.ensures.yes c.if-is_too_long.true, tt)

pub returns-in-Bad : goal.returns-in-Bad
returns-in-Bad c =
    wrong_line (plain_program c.args.program.now) (digests_of c.args.digests.now) c.args.certificate.now c.in_ok-line.field-0 c.in-Bad.line (c.is_too_long.ensures.no c.if-is_too_long.false) c.in-Bad.is c.in_ok-line.ensures

pub returns-in-Whole : goal.returns-in-Whole
returns-in-Whole c =
    whole_weighed (plain_program c.args.program.now) (digests_of c.args.digests.now) c.args.certificate.now c.in_ok-line.field-0 c.in-Whole.claims c.in-Whole.kept c.as_slice.result.now c.in-Whole.evidence c.weigh_claims.result
    (c.is_too_long.ensures.no c.if-is_too_long.false) c.in-Whole.is c.in_ok-line.ensures c.as_slice.ensures c.weigh_claims.ensures
