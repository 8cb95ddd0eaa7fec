use Rattle.std.proofs.Common.{◌+◌, Bool, ◌&&◌, true, false, List, map, drop, sym, ◌∙◌, ap}
use Rattle.p10_linkage.specs.Linkage.{Linked}
use Rattle.p10_linkage.specs.LinkedViews.{linked_of_name}
use Rattle.p10_linkage.specs.private.Covering.{all_alike, row_alike}
use Rattle.p10_linkage.specs.private.Grouping.{rows_at}
use Rattle.p10_linkage.proofs.Covering.{all_on}
use Rattle.p10_linkage.proofs.alike.all_alike.Goals as goal

pub returns-then-not-row_alike : goal.returns-then-not-row_alike
returns-then-not-row_alike c =
    let all : List Linked = map linked_of_name c.args.linked.now in
    let now : Linked = linked_of_name c.args.now.now in
    let next : Bool = all_alike c.args.stands.now (rows_at (drop (c.loop-place.place-index + 1) c.args.places.now) all) now in
    let row = c.row_alike.ensures ∙ ap (λ o. row_alike c.args.stands.now true o now) c.row_at.ensures in
    sym (ap (λ t. t && next) (sym row ∙ c.if-not-row_alike.true))
    ∙ sym (all_on c.args.stands.now c.args.places.now c.loop-place.place-index all now c.loop-place-test.true)
    ∙ c.loop-place.invariant

pub loop-place-preserved : goal.loop-place-preserved
loop-place-preserved c =
    let all : List Linked = map linked_of_name c.args.linked.now in
    let now : Linked = linked_of_name c.args.now.now in
    let next : Bool = all_alike c.args.stands.now (rows_at (drop (c.loop-place.place-index + 1) c.args.places.now) all) now in
    let row = c.row_alike.ensures ∙ ap (λ o. row_alike c.args.stands.now true o now) c.row_at.ensures in
    sym (ap (λ t. t && next) (sym row ∙ c.if-not-row_alike.false))
    ∙ sym (all_on c.args.stands.now c.args.places.now c.loop-place.place-index all now c.loop-place-test.true)
    ∙ c.loop-place.invariant
