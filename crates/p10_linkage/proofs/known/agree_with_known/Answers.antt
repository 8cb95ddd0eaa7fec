use Rattle.std.proofs.Common.{◌||◌, List, map, ◌∙◌, ap}
use Rattle.p10_core.specs.Views.{plain_types}
use Rattle.p10_core.specs.Representing.{represented}
use Rattle.p10_linkage.specs.Linkage.{Linked}
use Rattle.p10_linkage.specs.LinkedViews.{linked_of_name}
use Rattle.p10_linkage.specs.Between.{agreed}
use Rattle.p10_linkage.specs.private.Covering.{all_alike}
use Rattle.p10_linkage.specs.private.Grouping.{group_of, rows_at}
use Rattle.p10_linkage.proofs.Covering.{says_no_more}
use Rattle.p10_linkage.proofs.known.agree_with_known.Goals as goal

pub returns-then-says_no_more-clause-agreed : goal.returns-then-says_no_more-clause-agreed
returns-then-says_no_more-clause-agreed c =
    let all : List Linked = map linked_of_name c.args.linked.now in
    let now : Linked = linked_of_name c.args.now.now in
    says_no_more (rows_at (group_of c.args.known.now.all now.name) all) (rows_at (group_of c.args.known.now.kept now.name) all) now (plain_types c.args.types.now) c.args.stands.now.numbers.items _ c.requires.as_many c.requires.covered
    (c.says_no_more.ensures ∙ (λ i. now.internal || all_alike (c.as_slice.ensures.value i) (rows_at (c.of-kept.ensures i) all) now)) c.if-says_no_more.true

pub returns-clause-agreed : goal.returns-clause-agreed
returns-clause-agreed c =
    c.in_ok-agrees.ensures.agreed
    ∙ ap (λ places. agreed (rows_at places (map linked_of_name c.args.linked.now)) (linked_of_name c.args.now.now) (represented (plain_types c.args.types.now) c.args.stands.now.numbers.items)) c.of-all.ensures
