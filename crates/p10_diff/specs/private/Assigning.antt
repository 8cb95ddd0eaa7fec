-- What is assigned, and the bounds that an assignment puts.
use Rattle.std.specs.Prelude.{ℕ, zero, suc, if◌then◌else◌, ℤ, Option, Some, None, IfSome}
use Rattle.std.specs.Option.{option_map}
use Rattle.p10_range.specs.Ranges.{interval_of}
use Rattle.p10_int.specs.declared.operators.BinOp.{BinOp}
use Rattle.p10_core.specs.Views.{plain_value}
use Rattle.p10_absx.specs.Environments.{known}
use Rattle.p10_diff.specs.declared.listed.Name.{Name as CodeName}
use Rattle.p10_diff.specs.declared.listed.Name.TheVariants.{Now, Was}
use Rattle.p10_diff.specs.declared.assigning.Assignment.{Assignment as CodeAssignment}
use Rattle.p10_diff.specs.declared.ends.Ends.{Ends}
use Rattle.p10_diff.specs.declared.operands.Operands.{Operands as CodeOperands}
use Rattle.p10_diff.specs.declared.sources.Source.{Source}
use Rattle.p10_diff.specs.declared.sources.Source.TheVariants.{Kept, Updated}
use Rattle.p10_diff.specs.Bounds.{least, kept}
use Rattle.p10_diff.specs.Differences.{Name, now, same_name, Pair, Differences, has_name, is_either, range_of}
use Rattle.p10_diff.specs.Expressions.{range_up, range_low, named_up, named_low, up, low}
use Rattle.p10_diff.specs.Halves.{IsPart}
use Rattle.p10_diff.specs.Listed.{name_of, with_one}
use Rattle.p10_diff.specs.private.Operands.{operands_up, operands_low, operands_by}

-- ## What is assigned

-- by how much the result of an update is above a name, and below it, at most: nothing is known where a conversion follows
abbrev pub update_up : Pair → BinOp → Option CodeOperands → Differences → Name → Option ℤ → Option ℤ
update_up p op None e w right = None
update_up p op (Some o) e w right = operands_up p e op (operands_by o) w (kept (least (named_up p e o.variable w) (range_up p e.ranges (option_map interval_of o.first) w))) right

abbrev pub update_low : Pair → BinOp → Option CodeOperands → Differences → Name → Option ℤ → Option ℤ
update_low p op None e w right = None
update_low p op (Some o) e w right = operands_low p e op (operands_by o) w (kept (least (named_low p e o.variable w) (range_low p e.ranges (option_map interval_of o.first) w))) right

abbrev pub update_ends : Pair → BinOp → Option CodeOperands → Differences → Name → Ends → Ends
update_ends p op o e w right = record { above = update_up p op o e w right.above; below = update_low p op o e w right.below }

-- the same of a value that is assigned, or of an update
abbrev pub source_up : Pair → Source → Differences → Name → Option ℤ
source_up p (Kept v) e = up p (plain_value v.now) e
source_up p (Updated op operands v) e = λ w. update_up p op operands e w (up p (plain_value v.now) e w)

abbrev pub source_low : Pair → Source → Differences → Name → Option ℤ
source_low p (Kept v) e = low p (plain_value v.now) e
source_low p (Updated op operands v) e = λ w. update_low p op operands e w (low p (plain_value v.now) e w)

abbrev pub source_ends : Pair → Source → Differences → Name → Ends
source_ends p s e w = record { above = source_up p s e w; below = source_low p s e w }

-- an update divides by no less than 2
abbrev pub IsSource : Source → Type 0
IsSource (Kept v) = Unit {0}
IsSource (Updated op operands v) = IfSome operands (λ o. IfSome o.part IsPart)

-- the bounds that are put of the assigned variable less a name, and of a name less the variable
abbrev pub above_put : Pair → CodeAssignment → Differences → Name → Option ℤ
above_put p a e w = kept (least (source_up p a.source e w) (range_up p a.after.now.values (range_of (known a.after.now.values a.to)) w))

abbrev pub below_put : Pair → CodeAssignment → Differences → Name → Option ℤ
below_put p a e w = kept (least (source_low p a.source e w) (range_low p a.after.now.values (range_of (known a.after.now.values a.to)) w))

abbrev pub put_ends : Pair → CodeAssignment → Differences → Name → Ends
put_ends p a e w = record { above = above_put p a e w; below = below_put p a e w }

-- ## What is put

-- both bounds of the assigned variable and a name; of one and the same there are none
abbrev pub with_pair : Pair → CodeAssignment → Differences → CodeName → (Name → Name → Option ℤ) → Name → Name → Option ℤ
with_pair p a e w bounds =
    if same_name (now a.to) (name_of w) then bounds else with_one w (Now a.to) (below_put p a e (name_of w)) (with_one (Now a.to) w (above_put p a e (name_of w)) bounds)

-- those of all names of a variable, if it has any
abbrev pub with_names : Pair → CodeAssignment → Differences → ℕ → (Name → Name → Option ℤ) → Name → Name → Option ℤ
with_names p a e n bounds =
    if has_name p n then (if is_either p n then with_pair p a e (Was n) (with_pair p a e (Now n) bounds) else with_pair p a e (Now n) bounds) else bounds

-- those of the first variables
abbrev pub with_all : Pair → CodeAssignment → Differences → ℕ → (Name → Name → Option ℤ) → Name → Name → Option ℤ
with_all p a e zero bounds = bounds
with_all p a e (suc n) bounds = with_names p a e n (with_all p a e n bounds)
