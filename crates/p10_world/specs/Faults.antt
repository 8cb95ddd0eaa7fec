-- The count of faults that each object of the outside keeps.
use Rattle.std.specs.Prelude.{◌≡◌, ℕ, ◌-◌, ◌^◌, ◌<◌, ◌⊎◌}

-- the greatest count of faults, the last value of a `u64`
abbrev pub last_count : ℕ
last_count = 2 ^ 64 - 1

-- the count is greater than it was, or stands at its last value
abbrev pub Rose : ℕ → ℕ → Type 0
Rose old new = (old < new) ⊎ (new ≡ last_count)
