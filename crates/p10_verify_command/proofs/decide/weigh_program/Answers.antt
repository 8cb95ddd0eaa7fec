use Rattle.std.proofs.Common.{sym, subst, true}
use Rattle.std.specs.Prelude.{IfOk}
use Rattle.p10_check.specs.Texts.{digests_of}
use Rattle.p10_core.specs.Views.{plain_program}
use Rattle.p10_verify_command.specs.private.Deciding.{ComesTo}
use Rattle.p10_verify_command.proofs.Weighing.{not_clean}
use Rattle.p10_verify_command.proofs.decide.weigh_program.Goals as goal

pub returns-then-clean : goal.returns-then-clean
returns-then-clean c =
    subst (λ clean. IfOk c.weigh_clean.result (ComesTo (plain_program c.args.program.now) (digests_of c.args.found.now) c.args.certificate.now clean)) (sym c.if-clean.true) c.weigh_clean.ensures

pub returns : goal.returns
returns c = not_clean (plain_program c.args.program.now) (digests_of c.args.found.now) c.args.certificate.now c.args.clean c.in_ok-judgement.judgement c.if-clean.false c.in_ok-judgement.ensures
