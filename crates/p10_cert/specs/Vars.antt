-- A variable at the head of a loop as definitions speak of it: its number and its ends.
use Rattle.std.specs.Prelude.{ℕ}
use Rattle.p10_range.specs.Ranges.{Interval, interval_of}
use Rattle.p10_cert.specs.declared.claims.VarRange.{VarRange}

-- the ends of a variable at the head of a loop
pub record Var : Type 0 where
  pub var : ℕ
  pub ends : Interval

-- what the code's range of a variable claims
abbrev pub var_of : VarRange → Var
var_of v = record { var = v.var; ends = interval_of v.range }
