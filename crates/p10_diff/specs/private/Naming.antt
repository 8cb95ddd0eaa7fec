-- What the second branch of an `if` declares.
use Rattle.std.specs.Prelude.{ℕ, Bool, false, Option, Some, None}
use Rattle.p10_core.specs.Typed.{PlainStatement}
use Rattle.p10_diff.specs.Evidence.{gives_value}

-- whether the second branch of an `if` declares a variable with a value, if there is one
abbrev pub else_gives_value : ℕ → Option PlainStatement → Bool
else_gives_value n None = false
else_gives_value n (Some s) = gives_value n s
