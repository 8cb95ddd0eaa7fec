-- What a passer has passed.
use Rattle.std.specs.Prelude.{◌≡◌, ℕ, List, ◌++◌}

-- what was wanted was passed after what was before, up to what is left of it
pub record PassedUpTo (before after wanted left : List ℕ) : Type 0 where
  pub front : List ℕ
  pub wanted_is : wanted ≡ front ++ left
  pub after_is : after ≡ before ++ front

-- only a prefix of what was wanted was passed after what was before
pub record PassedFront (before after wanted : List ℕ) : Type 0 where
  pub left : List ℕ
  pub passed : PassedUpTo before after wanted left
