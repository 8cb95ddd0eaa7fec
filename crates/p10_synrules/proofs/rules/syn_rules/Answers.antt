use Rattle.std.proofs.Common.{map, ◌∙◌, ap}
use Rattle.std.specs.Prelude.{filter}
use Rattle.std.proofs.lemmas.List.Filters.{dedup_is}
use Rattle.p10_base.specs.declared.report.Violation.{Violation}
use Rattle.p10_syn.specs.BuiltStatements.{external_of}
use Rattle.p10_synrules.specs.Violations.{Violates}
use Rattle.p10_synrules.specs.private.Listing.{is_own}
use Rattle.p10_synrules.proofs.Exact.{exact}
use Rattle.p10_synrules.proofs.Ordered.{same, strictly_sorted, still_exact}
use Rattle.p10_synrules.proofs.rules.syn_rules.Goals as goal

pub returns-clause-sorted : goal.returns-clause-sorted
returns-clause-sorted c = strictly_sorted _ _ c.in_ok-sort.ensures.sorted (dedup_is same _ _ c.dedup.ensures.filtered)

pub returns-clause-exact : goal.returns-clause-exact
returns-clause-exact c =
    still_exact (λ (v : Violation). Violates c.args.sources.now (map external_of c.args.units.now) v.sub v.span) c.in_ok-violations.violations.items c.sort.new.self.items _
    (exact c.args.sources.now (map external_of c.args.units.now) c.in_ok-all.all.items c.in_ok-violations.violations.items c.in_ok-all.ensures
    (c.in_ok-violations.ensures ∙ ap (filter (is_own c.args.sources.now)) c.as_slice.ensures.value))
    c.in_ok-sort.ensures.permutation (dedup_is same _ _ c.dedup.ensures.filtered)
