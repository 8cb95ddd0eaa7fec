-- What the code tries, and lists that are filled up to four.
use Rattle.std.specs.Prelude.{if◌then◌else◌, ℕ, ◌-◌, List, ◌++◌, take, length, Option, Some, None}
use Rattle.std.specs.Option.{option_map, option_copied}
use Rattle.p10_int.specs.declared.types.IntType.{IntType}
use Rattle.p10_range.specs.Ranges.{Interval}
use Rattle.p10_core.specs.Constants.{integer_of}
use Rattle.p10_core.specs.Views.{plain_value}
use Rattle.p10_core.specs.Typed.{PlainValue, PlainVariable}
use Rattle.p10_absx.specs.Abstract.{Abstract, only_range, whole_type}
use Rattle.p10_pass.specs.Leaving.{values_in}
use Rattle.p10_candidates.specs.declared.changing.Change.{Change}
use Rattle.p10_candidates.specs.declared.changing.Change.TheVariants.{Forgotten, Back}
use Rattle.p10_candidates.specs.declared.trial.Sides.{Sides}
use Rattle.p10_candidates.specs.Candidates.{LoopEntry, zero_for}
use Rattle.p10_candidates.specs.Trials.{with_back}

-- the side of a comparison of the code that may name a variable
abbrev pub side_by : Sides → PlainValue
side_by s = plain_value s.side.now

-- the other one, by the first one: where there is none, the constant 0 in place of this
abbrev pub other_or_zero : PlainValue → Option PlainValue → PlainValue
other_or_zero side None = zero_for side
other_or_zero side (Some v) = v

-- the other side of a comparison of the code
abbrev pub other_in : Sides → PlainValue
other_in s = other_or_zero (side_by s) (option_map plain_value (option_copied s.other))

-- the range of an abstract value that may be lacking
abbrev pub range_in : Option Abstract → Option Interval
range_in a = option_map (λ (a : Abstract). a.range) a

-- the integer type of a variable
abbrev pub type_of_variable : PlainVariable → IntType
type_of_variable x = integer_of x.type

-- a list with as many of others after it as make it four
abbrev pub filled : {A : Type 0} → List A → List A → List A
filled old more = old ++ take (4 - length old) more

-- what the entry of a variable that a loop assigns becomes
abbrev pub assigned_by : Change → ℕ → PlainVariable → Abstract → Abstract
assigned_by Forgotten n v a = whole_type (integer_of v.type)
assigned_by (Back back) n v a = only_range (with_back (values_in back.now) n a.range)

-- what an entry becomes
abbrev pub change_by : LoopEntry → Change → ℕ → PlainVariable → Abstract → Abstract
change_by l change n v a = if l.assigned n then assigned_by change n v a else a
