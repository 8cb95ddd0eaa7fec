-- Statements without parts, as the code's functions speak of them.
use Rattle.std.specs.Prelude.{ℕ, if◌then◌else◌, Option, Some, None}
use Rattle.p10_core.specs.Types.{PlainType}
use Rattle.p10_core.specs.Constants.{integer_of}
use Rattle.p10_core.specs.Typed.{PlainValue, PlainPlace, place_type, PlainStatement, statement}
use Rattle.p10_range.specs.Ranges.{Interval}
use Rattle.p10_absx.specs.Abstract.{Abstract, whole_type}
use Rattle.p10_absx.specs.Environments.{Environment}
use Rattle.p10_walk.specs.Ranges.{ranges_of}
use Rattle.p10_diff.specs.Differences.{Pair, range_of}
use Rattle.p10_diff.specs.Domain.{is_unconverted, read_of}
use Rattle.p10_diff.specs.private.Operands.{Operands, operands_of}

-- what ranges are known after a statement without parts
abbrev pub ranges_after : Pair → PlainStatement → Environment → Option Environment
ranges_after p (statement at form) env = (ranges_of p.variables).after form env

-- what counts of the operands of an update, if no conversion follows
abbrev pub update_operands : Pair → Environment → PlainType → PlainPlace → PlainValue → Option Operands
update_operands p ranges t q v = if is_unconverted (integer_of t) (integer_of (place_type q)) then Some (operands_of p ranges t (read_of q) v) else None

-- the variable that a read place is, where something is known of it
abbrev pub variable_if : {A : Type 0} → ℕ → Option A → Option ℕ
variable_if n None = None
variable_if n (Some a) = Some n

-- the range of what is known, or of a type where nothing is
abbrev pub range_or : Option Abstract → PlainType → Option Interval
range_or None t = range_of (Some (whole_type (integer_of t)))
range_or (Some a) t = range_of (Some a)
