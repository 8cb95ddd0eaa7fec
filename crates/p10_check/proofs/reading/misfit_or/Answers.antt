use Rattle.std.proofs.Common.{◌∙◌, ap, sym}
use Rattle.std.proofs.lemmas.Result.{IfOk-weaker}
use Rattle.p10_core.specs.Views.{plain_program}
use Rattle.p10_cert.specs.Claims.{func_of}
use Rattle.p10_check.specs.private.Readings.{misfit_or}
use Rattle.p10_check.proofs.reading.misfit_or.Goals as goal

pub returns-in-Some : goal.returns-in-Some
returns-in-Some c = ap (λ o. misfit_or (plain_program c.args.program.now) o c.args.number (func_of c.args.own.now)) (sym c.in-Some.is)

pub returns-in-None : goal.returns-in-None
returns-in-None c =
    IfOk-weaker c.misfit_at.result _ _ (λ at is. is ∙ ap (λ o. misfit_or (plain_program c.args.program.now) o c.args.number (func_of c.args.own.now)) (sym c.in-None.is)) c.misfit_at.ensures
