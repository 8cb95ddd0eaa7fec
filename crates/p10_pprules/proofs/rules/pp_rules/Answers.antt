use Rattle.std.proofs.Common.{map, subst}
use Rattle.std.specs.Prelude.{◌↔◌}
use Rattle.std.specs.List.{Contains}
use Rattle.std.proofs.lemmas.List.Filters.{dedup_is}
use Rattle.p10_base.specs.declared.report.Violation.{Violation}
use Rattle.p10_expand.specs.Answers.{plain_obeyed}
use Rattle.p10_pprules.specs.Violations.{Violates}
use Rattle.p10_pprules.proofs.Ordered.{same, strictly_sorted, still_exact}
use Rattle.p10_pprules.proofs.rules.pp_rules.Goals as goal

pub returns-clause-sorted : goal.returns-clause-sorted
returns-clause-sorted c = strictly_sorted _ _ c.in_ok-sort.ensures.sorted (dedup_is same _ _ c.dedup.ensures.filtered)

pub returns-clause-exact : goal.returns-clause-exact
returns-clause-exact c =
    still_exact (λ (v : Violation). Violates (map plain_obeyed c.args.expanded.now.obeyed) v.sub v.span) c.in_ok-violations.violations.items c.sort.new.self.items _
    (subst (λ obeyed. (v : Violation) → Contains c.in_ok-violations.violations.items v ↔ Violates (map plain_obeyed obeyed) v.sub v.span) c.as_slice.ensures c.in_ok-violations.ensures)
    c.in_ok-sort.ensures.permutation (dedup_is same _ _ c.dedup.ensures.filtered)
