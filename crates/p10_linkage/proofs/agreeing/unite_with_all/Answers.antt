use Rattle.std.proofs.Common.{◌+◌, ◌≡◌, List, map, drop, Some, true, sym, ◌∙◌, ap, slice_get, slice_index_or, arith}
use Rattle.p10_core.specs.Types.{PlainStructure}
use Rattle.p10_core.specs.Views.{plain_types}
use Rattle.p10_core.specs.Representing.{represented}
use Rattle.p10_linkage.specs.Linkage.{Linked}
use Rattle.p10_linkage.specs.LinkedViews.{linked_of_name}
use Rattle.p10_linkage.specs.Between.{agreed}
use Rattle.p10_linkage.specs.private.Grouping.{rows_at}
use Rattle.p10_linkage.specs.private.Agreeing.{agreed_row}
use Rattle.p10_linkage.proofs.Turns.{agreed_on, drop_all}
use Rattle.p10_linkage.proofs.agreeing.unite_with_all.Goals as goal

pub loop-place-preserved : goal.loop-place-preserved
loop-place-preserved c =
    let all : List Linked = map linked_of_name c.args.linked.now in
    let k = c.loop-place.place-index in
    let ss : List PlainStructure = represented (plain_types c.args.types.now) c.loop-place.stands.numbers.items in
    let rs : List PlainStructure = represented (plain_types c.args.types.now) c.unite_with_row.new.stands.numbers.items in
    let row : agreed_row (slice_get all (slice_index_or c.args.before.now k 0)) (linked_of_name c.args.now.now) ss ≡ Some rs =
    ap (λ o. agreed_row o (linked_of_name c.args.now.now) ss) (sym c.row_at.ensures) ∙ c.unite_with_row.ensures.agreed c.if-not-unite_with_row.false in
    record {
      long = c.unite_with_row.ensures.as_many ∙ c.loop-place.invariant.long;
      same = sym (agreed_on c.args.before.now k all (linked_of_name c.args.now.now) ss rs true c.loop-place-test.true (sym row)) ∙ c.loop-place.invariant.same;
    }

pub returns-clause-agreed : goal.returns-clause-agreed
returns-clause-agreed c holds =
    let all : List Linked = map linked_of_name c.args.linked.now in
    let ss : List PlainStructure = represented (plain_types c.args.types.now) c.loop-place.stands.numbers.items in
    sym c.loop-place.invariant.same
    ∙ ap (λ places. agreed (rows_at places all) (linked_of_name c.args.now.now) ss) (drop_all c.args.before.now c.loop-place.place-index (omega (arith, c.loop-place-test.false)))
