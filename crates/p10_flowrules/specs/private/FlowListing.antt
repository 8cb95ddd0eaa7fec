-- The violations of one row at places, one after the other.
use Rattle.p10_base.specs.declared.span.Span.{Span}
use Rattle.p10_base.specs.declared.report.Sub.{Sub}
use Rattle.p10_base.specs.declared.report.Violation.{Violation}

-- the violation of a row at a place
abbrev pub violation_at : Sub → Span → Violation
violation_at sub span = record { sub = sub; span = span }
