-- What `free` ends is closed.
use Rattle.std.proofs.Common.{ap, subst, Ok, Some}
use Rattle.p10_store.specs.Stores.{Held, IsLiveIn}
use Rattle.p10_store.specs.Places.{FreesAt}
use Rattle.p10_store.proofs.Releasing.{is_live_in, releases}
use Rattle.p10_store.proofs.store.Store.release.Goals as goal

pub close-requires : goal.close-requires
close-requires c =
    let h : FreesAt c.deref.result.now c.deref-2.result.now c.args.pointer (Ok (Some c.in-Ok-Some.place)) = subst (λ o. FreesAt c.deref.result.now c.deref-2.result.now c.args.pointer (Ok o)) c.in-Ok-Some.field-0-is c.in-Ok-Some.ensures in
    let k : FreesAt c.self.inside.cells.items c.self.inside.slots.items c.args.pointer (Ok (Some c.in-Ok-Some.place)) =
    subst (λ cells. FreesAt cells c.self.inside.slots.items c.args.pointer (Ok (Some c.in-Ok-Some.place))) c.deref.ensures.value (subst (λ slots. FreesAt c.deref.result.now slots c.args.pointer (Ok (Some c.in-Ok-Some.place))) c.deref-2.ensures.value h) in
    subst (λ (v : Held). IsLiveIn v.slots c.in-Ok-Some.place) c.self.view_is (is_live_in _ _ _ _ k)

pub returns-in-Ok-Some-clause-value : goal.returns-in-Ok-Some-clause-value
returns-in-Ok-Some-clause-value c =
    let h : FreesAt c.deref.result.now c.deref-2.result.now c.args.pointer (Ok (Some c.in-Ok-Some.place)) = subst (λ o. FreesAt c.deref.result.now c.deref-2.result.now c.args.pointer (Ok o)) c.in-Ok-Some.field-0-is c.in-Ok-Some.ensures in
    let k : FreesAt c.self.inside.cells.items c.self.inside.slots.items c.args.pointer (Ok (Some c.in-Ok-Some.place)) =
    subst (λ cells. FreesAt cells c.self.inside.slots.items c.args.pointer (Ok (Some c.in-Ok-Some.place))) c.deref.ensures.value (subst (λ slots. FreesAt c.deref.result.now slots c.args.pointer (Ok (Some c.in-Ok-Some.place))) c.deref-2.ensures.value h) in
    (releases _ _ _ _ _ _ (ap (λ (v : Held). v.objects) c.self.view_is) (ap (λ (v : Held). v.slots) c.self.view_is) k c.close.ensures.closes).0

pub returns-in-Ok-Some-clause-effect : goal.returns-in-Ok-Some-clause-effect
returns-in-Ok-Some-clause-effect c =
    let h : FreesAt c.deref.result.now c.deref-2.result.now c.args.pointer (Ok (Some c.in-Ok-Some.place)) = subst (λ o. FreesAt c.deref.result.now c.deref-2.result.now c.args.pointer (Ok o)) c.in-Ok-Some.field-0-is c.in-Ok-Some.ensures in
    let k : FreesAt c.self.inside.cells.items c.self.inside.slots.items c.args.pointer (Ok (Some c.in-Ok-Some.place)) =
    subst (λ cells. FreesAt cells c.self.inside.slots.items c.args.pointer (Ok (Some c.in-Ok-Some.place))) c.deref.ensures.value (subst (λ slots. FreesAt c.deref.result.now slots c.args.pointer (Ok (Some c.in-Ok-Some.place))) c.deref-2.ensures.value h) in
    (releases _ _ _ _ _ _ (ap (λ (v : Held). v.objects) c.self.view_is) (ap (λ (v : Held). v.slots) c.self.view_is) k c.close.ensures.closes).1
