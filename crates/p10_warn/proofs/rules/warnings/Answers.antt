use Rattle.std.proofs.lemmas.List.Filters.{dedup_is}
use Rattle.p10_base.specs.declared.report.Violation.{Violation}
use Rattle.p10_core.specs.Views.{plain_program}
use Rattle.p10_warn.specs.Violations.{Violates}
use Rattle.p10_warn.proofs.Exact.{exact}
use Rattle.p10_warn.proofs.Ordered.{same, strictly_sorted, still_exact}
use Rattle.p10_warn.proofs.rules.warnings.Goals as goal

pub returns-clause-sorted : goal.returns-clause-sorted
returns-clause-sorted c = strictly_sorted _ _ c.in_ok-sort.ensures.sorted (dedup_is same _ _ c.dedup.ensures.filtered)

pub returns-clause-exact : goal.returns-clause-exact
returns-clause-exact c =
    still_exact (λ (v : Violation). Violates (plain_program c.args.program.now) v.sub v.span) c.in_ok-violations.violations.items c.sort.new.self.items _
    (exact (plain_program c.args.program.now) c.in_ok-violations.violations.items c.in_ok-violations.ensures)
    c.in_ok-sort.ensures.permutation (dedup_is same _ _ c.dedup.ensures.filtered)
