-- Structures that become more, and stay well built.
use Rattle.std.specs.Prelude.{◌≡◌, ℕ, ◌≤◌, List, length, Some}
use Rattle.p10_core.specs.Types.{PlainBody, PlainStructure, body_of, representative_of}
use Rattle.p10_core.specs.Completing.{AreBuilt}

-- there are no fewer structures, each body is as it was, and for each number the same one stands
pub record AreMore (before after : List PlainStructure) : Type 0 where
  pub count : length before ≤ length after
  pub bodies : (n : ℕ) (b : PlainBody) → body_of before n ≡ Some b → body_of after n ≡ Some b
  pub representatives : (n : ℕ) → representative_of after n ≡ representative_of before n

-- and where they were well built, they are
pub record StayBuilt (before after : List PlainStructure) : Type 0 where
  pub more : AreMore before after
  pub built : AreBuilt before → AreBuilt after
