-- What tests of numbers show.
use Rattle.std.proofs.Common.{◌≡◌, ℕ, ◌≤◌, nat_eq, leb}
use Rattle.std.proofs.lemmas.Bool.{eqb-true, leb-true}
use Rattle.p10_whole.specs.private.Shows.{Shows}

pub equal_shown : (a b : ℕ) → Shows (nat_eq a b) (a ≡ b)
equal_shown a b = record { shows = eqb-true a b }

pub at_most_shown : (a b : ℕ) → Shows (leb a b) (a ≤ b)
at_most_shown a b = record { shows = leb-true a b }
