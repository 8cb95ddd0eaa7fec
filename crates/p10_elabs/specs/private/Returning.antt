-- The value of a `return`.
use Rattle.p10_base.specs.declared.at.At.{At}
use Rattle.p10_syn.specs.Trees.{Expression}
use Rattle.p10_core.specs.Types.{PlainType}
use Rattle.p10_core.specs.Typed.{PlainValue}
use Rattle.p10_elabx.specs.First.{Keep, on}
use Rattle.p10_elabd.specs.Standing.{noted}
use Rattle.p10_elabd.specs.Expressions.{for_expression, value_found}
use Rattle.p10_elabs.specs.Locals.{Local, Done, done_in}
use Rattle.p10_elabs.specs.Statements.{returned}

-- the value of a `return`, which the result of the function fits
abbrev pub returned_value : Keep → At → PlainType → Local → Expression At → Done PlainValue
returned_value h at t l e = done_in l (noted h (on (value_found h l.standing e) (returned at t)) (for_expression l.standing e))
