use Rattle.std.proofs.Common.{◌+◌, if◌then◌else◌, List, map, drop, None, sym, ◌∙◌, ap}
use Rattle.p10_core.specs.Types.{PlainStructure}
use Rattle.p10_core.specs.Views.{plain_types}
use Rattle.p10_core.specs.Representing.{represented}
use Rattle.p10_linkage.specs.Linkage.{Linked}
use Rattle.p10_linkage.specs.LinkedViews.{linked_of_name}
use Rattle.p10_linkage.specs.Between.{agreed}
use Rattle.p10_linkage.specs.private.Grouping.{rows_at}
use Rattle.p10_linkage.specs.private.Agreeing.{agreed_row}
use Rattle.p10_linkage.proofs.Turns.{agreed_on}
use Rattle.p10_linkage.proofs.agreeing.agree_with_all.Goals as goal

pub returns-then-not-agrees-clause-agreed : goal.returns-then-not-agrees-clause-agreed
returns-then-not-agrees-clause-agreed c =
    let all : List Linked = map linked_of_name c.args.linked.now in
    let ss : List PlainStructure = represented (plain_types c.args.types.now) c.loop-place.stands.numbers.items in
    let rs : List PlainStructure = represented (plain_types c.args.types.now) c.agree_with_row.new.stands.numbers.items in
    let next : List Linked = rows_at (drop (c.loop-place.place-index + 1) c.args.before.now) all in
    let row = c.in_ok-agrees.ensures.agreed ∙ ap (λ o. agreed_row o (linked_of_name c.args.now.now) ss) c.row_at.ensures in
    sym (ap (λ t. if t then agreed next (linked_of_name c.args.now.now) rs else None) c.if-not-agrees.true)
    ∙ sym (agreed_on c.args.before.now c.loop-place.place-index all (linked_of_name c.args.now.now) ss rs c.in_ok-agrees.agrees c.loop-place-test.true row)
    ∙ c.loop-place.invariant.same

pub loop-place-preserved : goal.loop-place-preserved
loop-place-preserved c =
    let all : List Linked = map linked_of_name c.args.linked.now in
    let ss : List PlainStructure = represented (plain_types c.args.types.now) c.loop-place.stands.numbers.items in
    let rs : List PlainStructure = represented (plain_types c.args.types.now) c.agree_with_row.new.stands.numbers.items in
    let next : List Linked = rows_at (drop (c.loop-place.place-index + 1) c.args.before.now) all in
    let row = c.in_ok-agrees.ensures.agreed ∙ ap (λ o. agreed_row o (linked_of_name c.args.now.now) ss) c.row_at.ensures in
    record {
      long = c.agree_with_row.ensures.as_many ∙ c.loop-place.invariant.long;
      same =
          sym (ap (λ t. if t then agreed next (linked_of_name c.args.now.now) rs else None) c.if-not-agrees.false)
          ∙ sym (agreed_on c.args.before.now c.loop-place.place-index all (linked_of_name c.args.now.now) ss rs c.in_ok-agrees.agrees c.loop-place-test.true row)
          ∙ c.loop-place.invariant.same;
    }
