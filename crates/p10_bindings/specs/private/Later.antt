-- Places from a number on.
use Rattle.std.specs.Prelude.{ℕ, nat_le, if◌then◌else◌, Option, Some, None}

-- a place that isn't before a number
abbrev pub kept_from : ℕ → Option ℕ → Option ℕ
kept_from k None = None
kept_from k (Some p) = if nat_le k p then Some p else None
