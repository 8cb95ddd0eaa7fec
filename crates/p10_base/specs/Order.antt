-- The order in which violations are listed.
use Rattle.std.specs.Ordering.{nat_cmp, on, then_cmp}
use Rattle.std.specs.declared.cmp.Ordering.{Ordering}
use Rattle.p10_base.specs.declared.report.Violation.{Violation}

-- by file, then by the first byte and the byte past the last, then by the rule and its row
abbrev pub violation_cmp : Violation → Violation → Ordering
violation_cmp =
    then_cmp (on (λ v. v.span.file) nat_cmp) (then_cmp (on (λ v. v.span.start) nat_cmp) (then_cmp (on (λ v. v.span.end) nat_cmp)
    (then_cmp (on (λ v. v.sub.rule) nat_cmp) (on (λ v. v.sub.sub) nat_cmp))))
