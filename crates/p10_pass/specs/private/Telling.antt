-- Failing conditions by their numbers.
use Rattle.std.specs.Prelude.{ℕ}
use Rattle.p10_base.specs.declared.span.Span.{Span}
use Rattle.p10_pass.specs.Passing.{Failing}

-- the condition with a number fails at a place
abbrev pub failing_with : ℕ → Span → Failing
failing_with k at = record { k = k; at = at }
