-- What is said of a certificate's text.
use Rattle.std.specs.Prelude.{Option, Some, None}
use Rattle.p10_base.specs.declared.report.TheConstants.Limit.{CERTIFICATE_BYTES}
use Rattle.p10_base.specs.Words.{Text}
use Rattle.p10_command.specs.Saying.{Saying, limit_saying, text_saying}

-- the text goes to the output, or it is longer than limit M10 allows
abbrev pub sealed_saying : Option Text → Saying
sealed_saying (Some text) = text_saying text
sealed_saying None = limit_saying CERTIFICATE_BYTES
