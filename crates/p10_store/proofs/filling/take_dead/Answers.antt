-- A live slot at the end keeps all.
use Rattle.std.proofs.Common.{◌≡◌, ◌-◌, ◌∙◌, sym, ap, subst, refl, length, slice_get, option_copied, Some}
use Rattle.p10_store.proofs.TrimmedSlots.{kept_last}
use Rattle.p10_store.proofs.filling.take_dead.Goals as goal

pub returns-then-slot-clause-last : goal.returns-then-slot-clause-last
returns-then-slot-clause-last c =
    let e : slice_get c.args.slots.now.items (length c.args.slots.now.items - 1) ≡ Some c.in-Some.slot.now =
    subst (λ xs. slice_get xs (length xs - 1) ≡ Some c.in-Some.slot.now) c.deref.ensures.value (sym c.last.ensures.value ∙ ap option_copied c.in-Some.is) in
    (refl, kept_last _ _ e c.if-slot.true)
