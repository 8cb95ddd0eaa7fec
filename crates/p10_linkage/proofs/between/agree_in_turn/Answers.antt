use Rattle.std.proofs.Common.{◌≡◌, ℕ, ◌+◌, List, map, take, drop, Some, slice_get, false, not, ◌||◌, sym, subst, ◌∙◌, ap, arith}
use Rattle.std.proofs.lemmas.List.{length-map}
use Rattle.p10_core.specs.Types.{PlainStructure}
use Rattle.p10_core.specs.Representing.{represented}
use Rattle.p10_core.specs.Views.{plain_types}
use Rattle.p10_elabx.specs.First.{only_first, problems}
use Rattle.p10_linkage.specs.Linkage.{Linked}
use Rattle.p10_linkage.specs.LinkedViews.{linked_of_name}
use Rattle.p10_linkage.specs.Between.{all_agreeing}
use Rattle.p10_linkage.specs.private.Covering.{has_alike, AreCovered}
use Rattle.p10_linkage.specs.private.Grouping.{group_of, grouped_after, rows_at}
use Rattle.p10_linkage.specs.private.Agreeing.{stood}
use Rattle.p10_linkage.proofs.Covering.{turn_joined, covered_turn}
use Rattle.p10_linkage.proofs.Turns.{turn_built, grouped_on, agreed_turn, drop_all, mapped_at}
use Rattle.p10_linkage.proofs.between.agree_in_turn.Goals as goal

pub loop-place-preserved : goal.loop-place-preserved
loop-place-preserved c =
    let all : List Linked = map linked_of_name c.args.linked.now in
    let k : ℕ = c.loop-place.place in
    let now : Linked = linked_of_name c.index-linked-place.result in
    let ss : List PlainStructure = represented (plain_types c.args.types.now) c.loop-place.stands.numbers.items in
    let rs : List PlainStructure = represented (plain_types c.args.types.now) c.agree_with_known.new.stands.numbers.items in
    let places : List ℕ = group_of c.loop-place.known.all now.name in
    let there : slice_get all k ≡ Some now = mapped_at linked_of_name c.args.linked.now k c.index-linked-place.result c.loop-place-test.true ∙ ap (λ l. Some (linked_of_name l)) (sym c.index-linked-place.is) in
    let same : c.in_ok-agrees.agrees ≡ false → rs ≡ ss = λ no. ap (represented (plain_types c.args.types.now)) (c.in_ok-agrees.ensures.kept no) in
    record {
      long = c.in_ok-agrees.ensures.as_many ∙ c.loop-place.invariant.long;
      built = turn_built c.in_ok-agrees.agrees (rows_at places all) now ss rs c.loop-place.invariant.built c.in_ok-agrees.ensures.agreed same;
      grouped = grouped_on (λ (l : Linked). l.name) all k now (group_of c.loop-place.known.all) (group_of c.note.new.known.all) there c.loop-place.invariant.grouped c.in_ok-note.ensures.all;
      covered =
          covered_turn all k now ss (plain_types c.args.types.now) c.agree_with_known.new.stands.numbers.items (group_of c.loop-place.known.kept) (group_of c.note.new.known.kept)
          (c.in_ok-agrees.ensures.as_many ∙ c.loop-place.invariant.long ∙ c.requires.as_many) there
          (turn_joined c.in_ok-agrees.agrees (rows_at places all) now ss rs c.loop-place.invariant.built c.in_ok-agrees.ensures.agreed same) c.loop-place.invariant.covered
          (λ name. c.in_ok-note.ensures.kept name
          ∙ ap (λ numbers. grouped_after (not (now.internal || has_alike numbers (rows_at (group_of c.loop-place.known.kept now.name) all) now)) now.name k name (group_of c.loop-place.known.kept name)) c.as_slice.ensures.value);
      told = λ s.
          c.loop-place.invariant.told s
          ∙ agreed_turn all k now places ss rs c.in_ok-agrees.agrees only_first s (problems c.loop-place.found) there
          (c.loop-place.invariant.grouped now.name) c.in_ok-agrees.ensures.agreed same
          ∙ ap (λ found. all_agreeing only_first (take (k + 1) all) (drop (k + 1) all) (stood s rs found)) (sym c.with_problem_where-found.ensures);
    }

pub returns-clause-told : goal.returns-clause-told
returns-clause-told c = λ s.
    c.loop-place.invariant.told s
    ∙ ap (λ rest. all_agreeing only_first (take c.loop-place.place (map linked_of_name c.args.linked.now)) rest (stood s (represented (plain_types c.args.types.now) c.loop-place.stands.numbers.items) (problems c.loop-place.found)))
    (drop_all (map linked_of_name c.args.linked.now) c.loop-place.place (omega (arith, c.loop-place-test.false, length-map c.args.linked.now linked_of_name)))

pub agree_with_known-requires-clause-covered : goal.agree_with_known-requires-clause-covered
agree_with_known-requires-clause-covered c =
    let all : List Linked = map linked_of_name c.args.linked.now in
    let name = c.index-linked-place.result.name.now in
    subst (AreCovered (represented (plain_types c.args.types.now) c.loop-place.stands.numbers.items) (rows_at (group_of c.loop-place.known.kept name) all)) (sym (c.loop-place.invariant.grouped name)) (c.loop-place.invariant.covered name)
