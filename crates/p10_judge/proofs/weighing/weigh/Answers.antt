use Rattle.std.proofs.Common.{sym, subst}
use Rattle.p10_core.specs.Views.{plain_program}
use Rattle.p10_check.specs.Texts.{digests_of}
use Rattle.p10_judge.specs.Judging.{IsWeighed}
use Rattle.p10_judge.proofs.Verdicts.{bad_weighed, absent_weighed, listed_weighed}
use Rattle.p10_judge.proofs.weighing.weigh.Goals as goal

pub returns-then-is_too_long : goal.returns-then-is_too_long
returns-then-is_too_long c = c.is_too_long.ensures.yes c.if-is_too_long.true

pub returns-in-Bad : goal.returns-in-Bad
returns-in-Bad c =
    bad_weighed (plain_program c.args.program.now) (digests_of c.args.digests.now) c.args.certificate.now _ c.in-Bad.line (c.is_too_long.ensures.no c.if-is_too_long.false) c.in-Bad.is c.in_ok-line.ensures

pub returns-in_ok-verdict-in-Absent : goal.returns-in_ok-verdict-in-Absent
returns-in_ok-verdict-in-Absent c =
    subst (IsWeighed (plain_program c.args.program.now) (digests_of c.args.digests.now) c.args.certificate.now) (sym c.judgement_on.ensures)
    (absent_weighed (plain_program c.args.program.now) (digests_of c.args.digests.now) c.args.certificate.now _ c.in_ok-verdict-in-Absent.verdict (c.is_too_long.ensures.no c.if-is_too_long.false) c.in-Absent.is c.in_ok-line.ensures c.in_ok-verdict-in-Absent.ensures)

pub returns-in_ok-verdict-in-Listed : goal.returns-in_ok-verdict-in-Listed
returns-in_ok-verdict-in-Listed c =
    subst (IsWeighed (plain_program c.args.program.now) (digests_of c.args.digests.now) c.args.certificate.now) (sym c.judgement_on-in-Listed.ensures)
    (listed_weighed (plain_program c.args.program.now) (digests_of c.args.digests.now) c.args.certificate.now _ c.in-Listed.evidence c.in_ok-verdict-in-Listed.verdict (c.is_too_long.ensures.no c.if-is_too_long.false) c.in-Listed.is c.in_ok-line.ensures c.in_ok-verdict-in-Listed.ensures)
