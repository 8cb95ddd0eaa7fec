-- What a test shows.
use Rattle.std.specs.Prelude.{◌≡◌, Bool, true}

-- a claim holds where a test is true
pub record Shows (test : Bool) (claim : Type 0) : Type 0 where
  pub shows : test ≡ true → claim
