use Rattle.std.proofs.Common.{◌≡◌, ℕ, ◌+◌, Bool, List, map, take, drop, Some, slice_get, true, false, not, ◌||◌, sym, subst, ◌∙◌, ap, arith}
use Rattle.std.proofs.lemmas.List.{length-map}
use Rattle.p10_core.specs.Types.{PlainStructure}
use Rattle.p10_core.specs.Representing.{represented}
use Rattle.p10_core.specs.Views.{plain_types}
use Rattle.p10_elabx.specs.First.{only_first}
use Rattle.p10_linkage.specs.Linkage.{Linked}
use Rattle.p10_linkage.specs.LinkedViews.{linked_of_name}
use Rattle.p10_linkage.specs.Between.{agreed, all_agreeing}
use Rattle.p10_linkage.specs.private.Covering.{has_alike, AreCovered}
use Rattle.p10_linkage.specs.private.Grouping.{group_of, grouped_after, rows_at}
use Rattle.p10_linkage.specs.private.Agreeing.{stood}
use Rattle.p10_linkage.specs.private.Meetings.{given}
use Rattle.p10_linkage.proofs.Covering.{turn_joined, covered_turn}
use Rattle.p10_linkage.proofs.Turns.{turn_built, grouped_on, agreed_turn, drop_all, mapped_at}
use Rattle.p10_linkage.proofs.between.unite_in_turn.Goals as goal

pub loop-place-preserved : goal.loop-place-preserved
loop-place-preserved c =
    let all : List Linked = map linked_of_name c.args.linked.now in
    let k : ℕ = c.loop-place.place in
    let now : Linked = linked_of_name c.index-linked-place.result in
    let ss : List PlainStructure = represented (plain_types c.args.types.now) c.loop-place.stands.numbers.items in
    let rs : List PlainStructure = represented (plain_types c.args.types.now) c.unite_with_known.new.stands.numbers.items in
    let places : List ℕ = group_of c.loop-place.known.all now.name in
    let there : slice_get all k ≡ Some now = mapped_at linked_of_name c.args.linked.now k c.index-linked-place.result c.loop-place-test.true ∙ ap (λ l. Some (linked_of_name l)) (sym c.index-linked-place.is) in
    let one : given true rs ≡ agreed (rows_at places all) now ss = sym (c.unite_with_known.ensures.agreed c.if-not-unite_with_known.false) in
    let same : true ≡ false → rs ≡ ss = λ no. absurd cc in
    record {
      long = c.unite_with_known.ensures.as_many ∙ c.loop-place.invariant.long;
      built = turn_built true (rows_at places all) now ss rs c.loop-place.invariant.built one same;
      grouped = grouped_on (λ (l : Linked). l.name) all k now (group_of c.loop-place.known.all) (group_of c.note.new.known.all) there c.loop-place.invariant.grouped c.in_ok-note.ensures.all;
      covered =
          covered_turn all k now ss (plain_types c.args.types.now) c.unite_with_known.new.stands.numbers.items (group_of c.loop-place.known.kept) (group_of c.note.new.known.kept)
          (c.unite_with_known.ensures.as_many ∙ c.loop-place.invariant.long ∙ c.requires.as_many) there
          (turn_joined true (rows_at places all) now ss rs c.loop-place.invariant.built one same) c.loop-place.invariant.covered
          (λ name. c.in_ok-note.ensures.kept name
          ∙ ap (λ numbers. grouped_after (not (now.internal || has_alike numbers (rows_at (group_of c.loop-place.known.kept now.name) all) now)) now.name k name (group_of c.loop-place.known.kept name)) c.as_slice.ensures.value);
      told = λ s found. c.loop-place.invariant.told s found ∙ agreed_turn all k now places ss rs true only_first s found there (c.loop-place.invariant.grouped now.name) one same;
    }

pub returns-clause-told : goal.returns-clause-told
returns-clause-told c = λ yes s found.
    c.loop-place.invariant.told s found
    ∙ ap (λ rest. all_agreeing only_first (take c.loop-place.place (map linked_of_name c.args.linked.now)) rest (stood s (represented (plain_types c.args.types.now) c.loop-place.stands.numbers.items) found))
    (drop_all (map linked_of_name c.args.linked.now) c.loop-place.place (omega (arith, c.loop-place-test.false, length-map c.args.linked.now linked_of_name)))

pub unite_with_known-requires-clause-covered : goal.unite_with_known-requires-clause-covered
unite_with_known-requires-clause-covered c =
    let all : List Linked = map linked_of_name c.args.linked.now in
    let name = c.index-linked-place.result.name.now in
    subst (AreCovered (represented (plain_types c.args.types.now) c.loop-place.stands.numbers.items) (rows_at (group_of c.loop-place.known.kept name) all)) (sym (c.loop-place.invariant.grouped name)) (c.loop-place.invariant.covered name)
