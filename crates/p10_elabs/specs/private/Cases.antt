-- The number of a `case`.
use Rattle.std.specs.Prelude.{ℤ, Option}
use Rattle.p10_base.specs.declared.at.At.{At}
use Rattle.p10_syn.specs.Trees.{Expression}
use Rattle.p10_core.specs.Typed.{PlainValue}
use Rattle.p10_elabx.specs.First.{Keep, on}
use Rattle.p10_elabd.specs.Standing.{noted}
use Rattle.p10_elabd.specs.Expressions.{for_expression, value_found}
use Rattle.p10_elabs.specs.Locals.{Local, Done, done_in}
use Rattle.p10_elabs.specs.Statements.{case_value}

-- the number of a `case`, in the type of the `switch`
abbrev pub case_number : Keep → Option PlainValue → Local → Expression At → Done ℤ
case_number h on' l e = done_in l (noted h (on (value_found h l.standing e) (case_value on')) (for_expression l.standing e))
