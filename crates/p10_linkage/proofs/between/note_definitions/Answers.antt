use Rattle.std.proofs.Common.{ℕ, ◌+◌, [], List, map, take, drop, slice_index_or, false, sym, ◌∙◌, ap, arith}
use Rattle.std.proofs.lemmas.List.{length-map}
use Rattle.p10_elabx.specs.First.{only_first, problems}
use Rattle.p10_heads.specs.Heads.{Head as PlainHead}
use Rattle.p10_heads.specs.declared.head.Head.{Head}
use Rattle.p10_heads.specs.HeadViews.{plain_head}
use Rattle.p10_linkage.specs.Between.{definitions_noted}
use Rattle.p10_linkage.specs.private.Grouping.{group_of, grouped_after, rows_at}
use Rattle.p10_linkage.proofs.SharedNames.{shared_on, defined_twice}
use Rattle.p10_linkage.proofs.Turns.{defined_turn, drop_all, mapped_at}
use Rattle.p10_linkage.proofs.between.note_definitions.Goals as goal

pub loop-place-preserved : goal.loop-place-preserved
loop-place-preserved c =
    let all : List PlainHead = map plain_head c.args.heads.now in
    let k : ℕ = c.loop-place.place in
    let head : Head = slice_index_or c.args.heads.now k (record { root = 0; name = record { ref_ptr = (0, 0); now = [] }; at = record { first = 0; past = 0; span = record { file = 0; start = 0; end = 0 } }; internal = false; in_block = false }) in
    let there = mapped_at plain_head c.args.heads.now k _ c.loop-place-test.true in
    record {
      grouped =
          shared_on all k (plain_head head) (group_of c.loop-place.groups) (group_of c.note_where.new.groups) there c.loop-place.invariant.grouped
          (λ name. c.in_ok-note_where.ensures name ∙ ap (λ b. grouped_after b head.name.now k name (group_of c.loop-place.groups name)) c.is_shared.ensures);
      told = λ s.
          c.loop-place.invariant.told s
          ∙ defined_turn all k (plain_head head) c.is_defined_before-twice.result only_first s (problems c.loop-place.found) there
          (defined_twice (take k all) (rows_at c.of.result.now all) (plain_head head) _ (ap (λ places. rows_at places all) c.of.ensures ∙ c.loop-place.invariant.grouped head.name.now) c.is_defined_before-twice.ensures)
          ∙ ap (λ found. definitions_noted only_first (take (k + 1) all) (drop (k + 1) all) (record s { problems = found })) (sym c.with_problem_where-found.ensures);
    }

pub returns : goal.returns
returns c = λ s.
    c.loop-place.invariant.told s
    ∙ ap (λ rest. definitions_noted only_first (take c.loop-place.place (map plain_head c.args.heads.now)) rest (record s { problems = problems c.loop-place.found }))
    (drop_all (map plain_head c.args.heads.now) c.loop-place.place (omega (arith, c.loop-place-test.false, length-map c.args.heads.now plain_head)))
