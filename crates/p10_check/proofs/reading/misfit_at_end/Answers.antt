use Rattle.std.proofs.Common.{◌∙◌, ap, length, sym}
use Rattle.std.proofs.lemmas.List.{length-map}
use Rattle.p10_core.specs.Views.{plain_function, plain_program}
use Rattle.p10_check.specs.private.Readings.{lacking, misfit_at_end}
use Rattle.p10_check.proofs.reading.misfit_at_end.Goals as goal

pub returns-in-Some : goal.returns-in-Some
returns-in-Some c = ap (λ o. misfit_at_end (plain_program c.args.program.now) o c.args.count) (sym c.in-Some.is)

pub returns-in-None : goal.returns-in-None
returns-in-None c =
    c.lacking.ensures
    ∙ ap (lacking c.args.count) (ap length c.as_slice.ensures ∙ sym (length-map c.args.program.now.functions plain_function))
    ∙ ap (λ o. misfit_at_end (plain_program c.args.program.now) o c.args.count) (sym c.in-None.is)
