-- Numbers stay below the count of opens.
use Rattle.std.proofs.Common.{ℕ, ◌+◌, ◌<◌, List, [], ◌∷◌, arith}
use Rattle.p10_store.specs.declared.slots.Slot.{Slot}
use Rattle.p10_store.specs.Ranges.{AreBelow}
use Rattle.p10_store.proofs.store.Store.skip.Goals as goal

below_more : (opened : ℕ) (ss : List Slot) → AreBelow opened ss → AreBelow (opened + 1) ss
below_more opened [] b = tt
below_more opened (s ∷ ss) b = (let h : s.number < opened = b.0 in omega (arith, h), below_more opened ss b.1)

pub invariant_of-self : goal.invariant_of-self
invariant_of-self c = record { tiled = c.self.invariant.tiled; growing = c.self.invariant.growing; below = below_more _ _ c.self.invariant.below; long = c.self.invariant.long }
