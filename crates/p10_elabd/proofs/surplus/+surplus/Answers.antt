use Rattle.std.proofs.Common.{◌∙◌, sym}
use Rattle.p10_elabd.specs.Views.{told}
use Rattle.p10_elabd.proofs.ItemRows.{cut_initializers}
use Rattle.p10_elabd.proofs.SurplusRows.{step_unplaced, unplaced_arm}
use Rattle.p10_elabd.proofs.surplus.+surplus.Goals as goal

pub unplaced_items-loop-one-preserved : goal.unplaced_items-loop-one-preserved
unplaced_items-loop-one-preserved t c =
    let cut = cut_initializers c.args.all.now c.loop-one.one-index c.one-item.result c.loop-one-test.true c.one-item.is in
    sym (step_unplaced (told c.loop-one.place c.loop-one.standing) _ _ _ _ _ cut c.in_ok-part.ensures c.place_if_made-place.ensures) ∙ c.loop-one.invariant

pub unplaced-returns-in_ok-place-in-Braced : goal.unplaced-returns-in_ok-place-in-Braced
unplaced-returns-in_ok-place-in-Braced t c =
    let parts = c.in-Braced in
    unplaced_arm _ _ c.args.one.now parts.at parts.all parts.field-2 c.deref.result.now parts.is c.deref.ensures.value c.in_ok-place-in-Braced.ensures
