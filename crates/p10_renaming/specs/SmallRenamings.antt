-- Small functions of two programs that are the same but for places and numbers.
use Rattle.std.specs.Prelude.{ℕ, Bool, nat_eq, ◌&&◌}
use Rattle.p10_views.specs.SmallViews.{counts}
use Rattle.p10_renaming.specs.Renaming.{Pairing, SameFunction}

-- structure 0 of the one program is structure 1 of the other
abbrev pub is_first_and_second : ℕ → ℕ → Bool
is_first_and_second n m = nat_eq n 0 && nat_eq m 1

abbrev pub first_to_second : Pairing
first_to_second = record { used = is_first_and_second; passed = is_first_and_second }

-- functions
pub record RenamingsCompared : Type 0 where
  pub moved : SameFunction first_to_second (counts 1 0 0) (counts 7 3 1)
