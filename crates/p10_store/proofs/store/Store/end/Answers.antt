-- The object with a number is closed, if it is live.
use Rattle.std.proofs.Common.{◌≡◌, ap, subst, Some, None}
use Rattle.p10_store.specs.Stores.{Held, IsLiveIn}
use Rattle.p10_store.specs.Places.{HasLiveSlot, slot_at}
use Rattle.p10_store.proofs.EndedObjects.{is_live_here, ends_here, ends_nowhere}
use Rattle.p10_store.proofs.store.Store.end.Goals as goal

pub close-requires : goal.close-requires
close-requires c =
    let h : HasLiveSlot c.self.inside.slots.items c.args.number c.in-Some.place = subst (λ slots. HasLiveSlot slots c.args.number c.in-Some.place) c.deref.ensures.value c.in-Some.ensures in
    subst (λ (v : Held). IsLiveIn v.slots c.in-Some.place) c.self.view_is (is_live_here _ _ _ h)

pub returns-in-Some-clause-objects : goal.returns-in-Some-clause-objects
returns-in-Some-clause-objects c =
    let h : HasLiveSlot c.self.inside.slots.items c.args.number c.in-Some.place = subst (λ slots. HasLiveSlot slots c.args.number c.in-Some.place) c.deref.ensures.value c.in-Some.ensures in
    (ends_here c.self.inside.cells.items c.self.inside.slots.items _ _ _ _ c.self.invariant.growing (ap (λ (v : Held). v.objects) c.self.view_is) (ap (λ (v : Held). v.slots) c.self.view_is) h c.close.ensures.closes).0

pub returns-in-Some-clause-effect : goal.returns-in-Some-clause-effect
returns-in-Some-clause-effect c =
    let h : HasLiveSlot c.self.inside.slots.items c.args.number c.in-Some.place = subst (λ slots. HasLiveSlot slots c.args.number c.in-Some.place) c.deref.ensures.value c.in-Some.ensures in
    (ends_here c.self.inside.cells.items c.self.inside.slots.items _ _ _ _ c.self.invariant.growing (ap (λ (v : Held). v.objects) c.self.view_is) (ap (λ (v : Held). v.slots) c.self.view_is) h c.close.ensures.closes).1

pub returns-in-None-clause-objects : goal.returns-in-None-clause-objects
returns-in-None-clause-objects c =
    let h : slot_at c.args.number c.self.inside.slots.items ≡ None = subst (λ slots. slot_at c.args.number slots ≡ None) c.deref.ensures.value c.in-None.ensures in
    (ends_nowhere c.self.inside.cells.items c.self.inside.slots.items _ c.args.self.now (ap (λ (v : Held). v.objects) c.self.view_is) h).0

pub returns-in-None-clause-effect : goal.returns-in-None-clause-effect
returns-in-None-clause-effect c =
    let h : slot_at c.args.number c.self.inside.slots.items ≡ None = subst (λ slots. slot_at c.args.number slots ≡ None) c.deref.ensures.value c.in-None.ensures in
    (ends_nowhere c.self.inside.cells.items c.self.inside.slots.items _ c.args.self.now (ap (λ (v : Held). v.objects) c.self.view_is) h).1
