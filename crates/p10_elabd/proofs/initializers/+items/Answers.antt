use Rattle.std.specs.Prelude.{option_map}
use Rattle.std.proofs.Common.{◌+◌, ◌∙◌, ap, sym, option_copied}
use Rattle.p10_core.specs.Types.{plain_type}
use Rattle.p10_elabd.specs.ItemViews.{plain_items, plain_slots}
use Rattle.p10_elabd.specs.Views.{told}
use Rattle.p10_elabd.proofs.ItemRows.{cut_initializers}
use Rattle.p10_elabd.proofs.SlotRows.{step_items, surplus_given, braced_arm}
use Rattle.p10_elabd.proofs.initializers.+items.Goals as goal

pub items_passed-loop-i-preserved : goal.items_passed-loop-i-preserved
items_passed-loop-i-preserved t c =
    let cut = cut_initializers c.args.all.now c.loop-i.i c.index-all-i.result c.loop-i-test.true c.index-all-i.is in
    let there = sym (ap (λ o. option_map plain_type (option_copied o)) c.in-Some.is) ∙ c.get.ensures in
    let next = c.in_ok-scalar-in-Some.ensures ∙ ap (λ n. c.loop-i.scalar + n) c.scalar_count-count.ensures in
    sym (step_items c.args.part.life (plain_slots c.args.slots.now) c.loop-i.i c.loop-i.scalar _ _ (told (plain_items c.loop-i.items) c.loop-i.standing) _ _ _ _ cut there c.in_ok-items-in-Some.ensures next)
    ∙ c.loop-i.invariant

pub item_passed-returns-in_ok-items-in-Braced : goal.item_passed-returns-in_ok-items-in-Braced
item_passed-returns-in_ok-items-in-Braced t c =
    let parts = c.in-Braced in
    braced_arm c.args.part.life (plain_type c.args.part.ty.now) c.args.part.scalar (told (plain_items c.args.items) c.args.standing.now) _ c.args.one.now parts.at parts.all parts.field-2 c.deref.result.now
    parts.is c.deref.ensures.value c.in_ok-items-in-Braced.ensures

pub items_passed-returns-in-None : goal.items_passed-returns-in-None
items_passed-returns-in-None t c =
    let none = sym (ap (λ o. option_map plain_type (option_copied o)) c.in-None.is) ∙ c.get.ensures in
    surplus_given c.args.part.life (plain_slots c.args.slots.now) c.loop-i.i c.loop-i.scalar (told (plain_items c.loop-i.items) c.loop-i.standing) _ c.args.all.now none c.in_ok-items-in-None.ensures
    ∙ c.loop-i.invariant
