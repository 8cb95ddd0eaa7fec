-- What the second branch of an `if` may change.
use Rattle.std.specs.Prelude.{ℕ, Bool, false, Option, Some, None}
use Rattle.p10_core.specs.Typed.{PlainStatement}
use Rattle.p10_meaning.specs.Variables.{may_change}

-- whether the second branch of an `if` may change a variable, if there is one
abbrev pub may_change_else : ℕ → Option PlainStatement → Bool
may_change_else n None = false
may_change_else n (Some s) = may_change n s
