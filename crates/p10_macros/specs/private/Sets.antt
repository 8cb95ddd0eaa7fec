-- Sets of numbers, as they are kept: each is a list of parts that have the numbers of one block of 64.
use Rattle.std.specs.Prelude.{ℕ, ◌≡◌, ◌<◌, ◌≤◌, ◌+◌, ◌/◌, ◌%◌, ◌==◌, nat_lt, List, [], ◌∷◌, ◌++◌, length, reverse, Bool, true, false, ◌||◌, ◌&&◌, if◌then◌else◌}
use Rattle.std.specs.Int.{bit_at}
use Rattle.p10_macros.specs.declared.sets.Part.{Part}

-- whether a number is in a set by its first part: for the numbers of its block the bits say it, for those of lower blocks
-- `below`, which is whether the set under it has them, and those of higher blocks are not
abbrev pub in_part : ℕ → ℕ → Bool → ℕ → Bool
in_part block bits below number = if number / 64 == block then bit_at bits (number % 64) == 1 else nat_lt (number / 64) block && below

-- whether a number is in a set. The newest part stands first, and the oldest one has the number 1
abbrev pub has_in : List Part → ℕ → ℕ → Bool
has_in [] set number = false
has_in (part ∷ older) set number = if set == length older + 1 then in_part part.block part.bits (has_in older part.lower number) number else has_in older set number

-- the same, where the newest part stands last
unfoldable pub has : List Part → ℕ → ℕ → Bool
has parts set number = has_in (reverse parts) set number

-- parts were put after those that there were
pub record Grows (old new : List Part) : Type 0 where
  pub more : List Part
  pub is : new ≡ old ++ more

-- the first part of the set has this block and these bits, and an older set is under it
pub record IsPart (parts : List Part) (set block bits lower : ℕ) : Type 0 where
  pub known : set ≤ length parts
  pub older : lower < set
  pub holds : (number : ℕ) → has parts set number ≡ in_part block bits (has parts lower number) number

-- the set has the numbers of another, and one more
pub record HasOneMore (old : List Part) (set number : ℕ) (new : List Part) (set' : ℕ) : Type 0 where
  pub known : set' ≤ length new
  pub one : (other : ℕ) → has new set' other ≡ (has old set other || other == number)

-- the set has the numbers of two others
pub record HasAll (old : List Part) (these those : ℕ) (new : List Part) (set : ℕ) : Type 0 where
  pub known : set ≤ length new
  pub both : (number : ℕ) → has new set number ≡ (has old these number || has old those number)

-- all numbers in sets are below a bound
abbrev pub AreBelow : ℕ → List Part → Type 0
AreBelow bound parts = (set number : ℕ) → has parts set number ≡ true → number < bound

-- the numbers of a block that these bits say are
abbrev pub BitsAreBelow : ℕ → ℕ → ℕ → Type 0
BitsAreBelow bound block bits = (number : ℕ) → number / 64 ≡ block → (bit_at bits (number % 64) == 1) ≡ true → number < bound
