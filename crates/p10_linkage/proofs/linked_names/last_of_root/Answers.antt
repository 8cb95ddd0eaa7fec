use Rattle.std.proofs.Common.{◌≡◌, ◌+◌, ◌-◌, List, map, take, length, None, is_some, option_copied, slice_get, slice_index_or, sym, ◌∙◌, ap}
use Rattle.p10_linkage.specs.Linkage.{Linked}
use Rattle.p10_linkage.specs.LinkedViews.{linked_of_name}
use Rattle.p10_linkage.specs.private.Grouping.{rows_at}
use Rattle.p10_linkage.specs.private.Lookups.{last_in_root, of_root}
use Rattle.p10_linkage.proofs.ByNumbers.{some_mapped}
use Rattle.p10_linkage.proofs.LastNames.{from_end, found_is, other_is}
use Rattle.p10_linkage.proofs.linked_names.last_of_root.Goals as goal

pub returns-then-is_some : goal.returns-then-is_some
returns-then-is_some c =
    let all : List Linked = map linked_of_name c.args.rows.now in
    let o = of_root c.args.root (slice_get all (slice_index_or c.args.places.now (length c.args.places.now - 1 - c.loop-back.back) 0)) in
    let there : is_some o ≡ is_some c.row_of_root-row.result = sym (ap is_some c.row_of_root-row.ensures) ∙ some_mapped linked_of_name (option_copied c.row_of_root-row.result) ∙ some_mapped _ c.row_of_root-row.result in
    c.row_of_root-row.ensures
    ∙ sym (found_is o (last_in_root None c.args.root (rows_at (take (length c.args.places.now - (c.loop-back.back + 1)) c.args.places.now) all)) (there ∙ sym c.is_some.ensures ∙ c.if-is_some.true))
    ∙ sym (from_end c.args.places.now c.loop-back.back all c.args.root c.loop-back-test.true)
    ∙ c.loop-back.invariant

pub loop-back-preserved : goal.loop-back-preserved
loop-back-preserved c =
    let all : List Linked = map linked_of_name c.args.rows.now in
    let o = of_root c.args.root (slice_get all (slice_index_or c.args.places.now (length c.args.places.now - 1 - c.loop-back.back) 0)) in
    let there : is_some o ≡ is_some c.row_of_root-row.result = sym (ap is_some c.row_of_root-row.ensures) ∙ some_mapped linked_of_name (option_copied c.row_of_root-row.result) ∙ some_mapped _ c.row_of_root-row.result in
    sym (other_is o (last_in_root None c.args.root (rows_at (take (length c.args.places.now - (c.loop-back.back + 1)) c.args.places.now) all)) (there ∙ sym c.is_some.ensures ∙ c.if-is_some.false))
    ∙ sym (from_end c.args.places.now c.loop-back.back all c.args.root c.loop-back-test.true)
    ∙ c.loop-back.invariant
