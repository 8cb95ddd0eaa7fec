-- The row of `return`.
use Rattle.std.specs.Prelude.{Option, Some, None}
use Rattle.p10_base.specs.declared.span.Span.{Span}
use Rattle.p10_core.specs.Typed.{PlainValue}
use Rattle.p10_absx.specs.Environments.{Environment}
use Rattle.p10_pass.specs.Arguments.{failing_in}
use Rattle.p10_pass.specs.Passing.{Manner, Left, nowhere, with_calls, value_returned}

abbrev pub returned : Manner → Span → Option PlainValue → Environment → Left
returned m keyword None env = record nowhere { returns = Some env }
returned m keyword (Some v) env = with_calls (failing_in m.calls v env) (value_returned m keyword v env)
