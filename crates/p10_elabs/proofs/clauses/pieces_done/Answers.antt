use Rattle.std.proofs.Common.{◌∙◌, sym}
use Rattle.p10_elabs.specs.LocalViews.{plain_items, done_as}
use Rattle.p10_elabs.proofs.FormParts.{step_pieces}
use Rattle.p10_heads.proofs.ListRows.{cut_list}
use Rattle.p10_elabs.proofs.clauses.pieces_done.Goals as goal

pub loop-e-preserved : goal.loop-e-preserved
loop-e-preserved c =
    let cut = cut_list c.args.all.now c.loop-e.e-index c.e-item.result c.loop-e-test.true c.e-item.is in
    sym (step_pieces (done_as (plain_items c.loop-e.made) c.loop-e.local) _ _ _ _ cut c.in_ok-made.ensures) ∙ c.loop-e.invariant
