-- Each slot's number is below the count of opens.
use Rattle.std.proofs.Common.{◌≡◌, ap, subst, None}
use Rattle.p10_meaning.specs.Objects.{find}
use Rattle.p10_store.specs.Stores.{Held}
use Rattle.p10_store.proofs.FoundObjects.{none_found}
use Rattle.p10_store.proofs.NumberedSlots.{none_at_opened}
use Rattle.p10_store.proofs.store.Store.next_is_new.Goals as goal

pub returns : goal.returns
returns c = subst (λ (v : Held). find v.opened v.objects ≡ None) c.self.view_is (none_found c.self.inside.opened c.self.inside.cells.items c.self.inside.slots.items (none_at_opened c.self.inside.opened c.self.inside.slots.items c.self.invariant.below))
