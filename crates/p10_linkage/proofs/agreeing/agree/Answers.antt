use Rattle.std.proofs.Common.{List, map, sym, ◌∙◌, ap}
use Rattle.p10_core.specs.Views.{plain_types}
use Rattle.p10_core.specs.Representing.{represented}
use Rattle.p10_linkage.specs.Linkage.{Linked}
use Rattle.p10_linkage.specs.LinkedViews.{linked_of_name}
use Rattle.p10_linkage.specs.Between.{agreed}
use Rattle.p10_linkage.specs.private.Grouping.{rows_at}
use Rattle.p10_linkage.proofs.agreeing.agree.Goals as goal

pub returns-then-unite_with_all-clause-agreed : goal.returns-then-unite_with_all-clause-agreed
returns-then-unite_with_all-clause-agreed c =
    let before : List Linked = rows_at c.args.before.now (map linked_of_name c.args.linked.now) in
    sym
    (ap (λ xs. agreed before (linked_of_name c.args.now.now) (represented (plain_types c.args.types.now) xs)) (sym c.in_ok-joined.ensures)
    ∙ c.unite_with_all.ensures.agreed c.if-unite_with_all.true)
