use Rattle.std.proofs.Common.{◌∙◌, ap, sym, option_copied}
use Rattle.p10_elabx.proofs.ParameterRows.{alone_one, alone_many, none_alone}
use Rattle.p10_elabx.proofs.parameters.is_alone.Goals as goal

pub returns-then-parameters-eq1 : goal.returns-then-parameters-eq1
returns-then-parameters-eq1 c =
    c.is_unnamed.ensures
    ∙ alone_one c.args.parameters.now c.in-Some.parameter.now (sym (ap option_copied c.in-Some.is) ∙ c.first.ensures.value) c.if-parameters-eq1.true

pub returns-else-parameters-eq1 : goal.returns-else-parameters-eq1
returns-else-parameters-eq1 c =
    alone_many c.args.parameters.now c.in-Some.parameter.now (sym (ap option_copied c.in-Some.is) ∙ c.first.ensures.value) c.if-parameters-eq1.false

pub returns-in-None : goal.returns-in-None
returns-in-None c = none_alone c.args.parameters.now (sym (ap option_copied c.in-None.is) ∙ c.first.ensures.value)
