use Rattle.p10_words.proofs.Numbers.{not_checked, not_parsed}
use Rattle.p10_words.proofs.values.decimal.Goals as goal

pub returns-in-Ok-clause-none : goal.returns-in-Ok-clause-none
returns-in-Ok-clause-none c = not_checked c.args.value.now c.in-Ok.number c.parse.result c.checked.result c.parse.ensures.value.0 c.in-Ok.is c.checked.ensures.none

pub returns-in-Err-clause-none : goal.returns-in-Err-clause-none
returns-in-Err-clause-none c = not_parsed c.args.value.now _ c.parse.result c.parse.ensures.value.0 c.in-Err.is
