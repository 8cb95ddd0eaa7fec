-- The objects of a block that is left.
use Rattle.std.specs.Prelude.{◌≡◌, List, [], ◌∷◌}
use Rattle.p10_meaning.specs.Objects.{all_closed}
use Rattle.p10_store.specs.Stores.{Held}
use Rattle.p10_interp.specs.private.Tasks.{Open}
use Rattle.p10_interp.specs.private.OpenCalls.{owning_all}

-- the objects of the innermost block are dead, and it owns none
pub record ClosesOwn (f : Open) (calls now : List Open) (old new : Held) : Type 0 where
  pub here : now ≡ owning_all f [] ∷ calls
  pub objects : new.objects ≡ all_closed f.frame.opened old.objects
  pub opened : new.opened ≡ old.opened
