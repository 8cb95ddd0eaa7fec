use Rattle.std.proofs.Common.{sym, ◌∙◌}
use Rattle.p10_sensors.proofs.FirstLines.{no_line, value_put, no_value_put, value_same}
use Rattle.p10_sensors.proofs.lines.first_value.Goals as goal

pub returns-then-end-text-clause-none : goal.returns-then-end-text-clause-none
returns-then-end-text-clause-none c = no_line c.args.text.now (sym c.line_length-end.ensures.exact ∙ c.if-end-text.true)

pub returns-in-Some-clause-some : goal.returns-in-Some-clause-some
returns-in-Some-clause-some c =
    value_put c.args.text.now c.in-Some.value _ c.line_length-end.result c.line_length-end.ensures.exact c.if-end-text.false c.in-Some.ensures.some.0 c.in-Some.ensures.some.1 (value_same c.in-Some.value c.in-Some.ensures.some.0)

pub returns-in-None-clause-none : goal.returns-in-None-clause-none
returns-in-None-clause-none c = no_value_put c.args.text.now c.line_length-end.result c.line_length-end.ensures.exact c.in-None.ensures.none
