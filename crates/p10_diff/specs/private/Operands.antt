-- What of an operator's operands counts for its bounds, and the bounds by that.
use Rattle.std.specs.Prelude.{ℕ, Bool, ℤ, if◌then◌else◌, Option, None}
use Rattle.std.specs.Option.{option_map}
use Rattle.p10_int.specs.declared.operators.BinOp.{BinOp}
use Rattle.p10_int.specs.declared.operators.BinOp.TheVariants.{Add, Sub}
use Rattle.p10_range.specs.Ranges.{Interval, interval_of}
use Rattle.p10_core.specs.Types.{PlainType}
use Rattle.p10_core.specs.Typed.{PlainValue}
use Rattle.p10_absx.specs.Environments.{Environment}
use Rattle.p10_diff.specs.declared.ends.Ends.{Ends}
use Rattle.p10_diff.specs.declared.operands.Operands.{Operands as CodeOperands}
use Rattle.p10_diff.specs.Bounds.{least, plus}
use Rattle.p10_diff.specs.Differences.{Name, Pair, Differences, top, bottom, named}
use Rattle.p10_diff.specs.Expressions.{Part, is_exact, value_range, part, midpoint_of, sum_up, sum_low}
use Rattle.p10_diff.specs.Halves.{part_by}

-- whether the result is exact; the variable that the first operand is, and the part of a distance that the second one is; and their ranges
pub record Operands : Type 0 where
  pub exact : Bool
  pub variable : Option ℕ
  pub part : Option Part
  pub first : Option Interval
  pub second : Option Interval

abbrev pub operands_of : Pair → Environment → PlainType → PlainValue → PlainValue → Operands
operands_of p ranges t a b =
    record { exact = is_exact t a b; variable = named p ranges a; part = part p ranges b; first = value_range ranges a; second = value_range ranges b }

-- by how much the result is above a name, and below it, at most, where the operands are so much
abbrev pub operands_up : Pair → Differences → BinOp → Operands → Name → Option ℤ → Option ℤ → Option ℤ
operands_up p e Add o w left right =
    if o.exact then sum_up p e (midpoint_of p e o.variable o.part) w (least (plus left (top o.second)) (plus right (top o.first))) else None
operands_up p e Sub o w left right = if o.exact then plus left (bottom o.second) else None
operands_up p e op o w left right = None

abbrev pub operands_low : Pair → Differences → BinOp → Operands → Name → Option ℤ → Option ℤ → Option ℤ
operands_low p e Add o w left right =
    if o.exact then sum_low p e (midpoint_of p e o.variable o.part) w (least (plus left (bottom o.second)) (plus right (bottom o.first))) else None
operands_low p e Sub o w left right = if o.exact then plus left (top o.second) else None
operands_low p e op o w left right = None

-- both
abbrev pub operands_ends : Pair → Differences → BinOp → Operands → Name → Ends → Ends → Ends
operands_ends p e op o w left right = record { above = operands_up p e op o w left.above right.above; below = operands_low p e op o w left.below right.below }

-- the code's operands
abbrev pub operands_by : CodeOperands → Operands
operands_by o = record { exact = o.exact; variable = o.variable; part = option_map part_by o.part; first = option_map interval_of o.first; second = option_map interval_of o.second }
