-- Both bounds of a number and a name: by how much it is above the name, and below it, at most.
use Rattle.std.specs.Prelude.{ℕ, ℤ, Option}
use Rattle.p10_int.specs.declared.operators.BinOp.{BinOp}
use Rattle.p10_range.specs.Ranges.{Interval}
use Rattle.p10_core.specs.Types.{PlainType}
use Rattle.p10_core.specs.Typed.{PlainValue}
use Rattle.p10_absx.specs.Environments.{Environment}
use Rattle.p10_diff.specs.declared.ends.Ends.{Ends}
use Rattle.p10_diff.specs.Bounds.{least, plus, kept}
use Rattle.p10_diff.specs.Differences.{Name, Pair, Differences}
use Rattle.p10_diff.specs.Expressions.{Midpoint, midpoint_up, midpoint_low, range_up, range_low, named_up, named_low, sum_up, sum_low, operator_up, operator_low, up_row, low_row, up, low}

-- those of a sum
abbrev pub plus_ends : Ends → Option ℤ → Option ℤ → Ends
plus_ends ends most negated = record { above = plus ends.above most; below = plus ends.below negated }

-- the lesser bounds of two
abbrev pub least_ends : Ends → Ends → Ends
least_ends a b = record { above = least a.above b.above; below = least a.below b.below }

-- those by a row, and by a range
abbrev pub met_ends : Pair → Environment → Option Interval → Name → Ends → Ends
met_ends p ranges r w row = record { above = kept (least row.above (range_up p ranges r w)); below = kept (least row.below (range_low p ranges r w)) }

-- those of variables, of midpoints, of sums, of operators, and of values, by their rows alone and by their ranges too
abbrev pub named_ends : Pair → Differences → Option ℕ → Name → Ends
named_ends p e n w = record { above = named_up p e n w; below = named_low p e n w }

abbrev pub midpoint_ends : Pair → Differences → Midpoint → Name → Ends
midpoint_ends p e m w = record { above = midpoint_up p e m w; below = midpoint_low p e m w }

abbrev pub sum_ends : Pair → Differences → Option Midpoint → Name → Ends → Ends
sum_ends p e m w sum = record { above = sum_up p e m w sum.above; below = sum_low p e m w sum.below }

abbrev pub operator_ends : Pair → Differences → BinOp → PlainType → PlainValue → PlainValue → Name → Ends → Ends → Ends
operator_ends p e op t a b w left right = record { above = operator_up p e op t a b w left.above right.above; below = operator_low p e op t a b w left.below right.below }

abbrev pub row_ends : Pair → PlainValue → Differences → Name → Ends
row_ends p v e w = record { above = up_row p v e w; below = low_row p v e w }

abbrev pub value_ends : Pair → PlainValue → Differences → Name → Ends
value_ends p v e w = record { above = up p v e w; below = low p v e w }
