-- What the code's renewals of an environment's entries are.
use Rattle.std.specs.Prelude.{ℕ, suc, ◌&&◌, Bool, true, false, if◌then◌else◌, List, [], ◌∷◌, map, slice_get, Option, Some, None}
use Rattle.p10_int.specs.declared.types.IntType.{IntType}
use Rattle.p10_range.specs.Ranges.{Interval, interval_of, is_within}
use Rattle.p10_range.specs.Rows.{values_of}
use Rattle.p10_core.specs.Constants.{integer_of}
use Rattle.p10_core.specs.Typed.{PlainVariable}
use Rattle.p10_absx.specs.Abstract.{Abstract, whole_type}
use Rattle.p10_absx.specs.Environments.{Environment, known, learned}
use Rattle.p10_pass.specs.declared.renewal.Renewal.{Renewal}
use Rattle.p10_pass.specs.declared.renewal.Renewal.TheVariants.{Forgotten, Restored, Headed}
use Rattle.p10_pass.specs.Scopes.{offset_in}
use Rattle.p10_pass.specs.Claiming.{own_offset}
use Rattle.p10_pass.specs.Marks.{is_marked}

-- a range that may be lacking: then any value of a type
abbrev pub range_or : IntType → Option Interval → Interval
range_or kind None = values_of kind
range_or kind (Some r) = r

-- the range at the place of a variable's number: any value of its type where the list ends
abbrev pub range_at : List Interval → ℕ → PlainVariable → Interval
range_at ranges n v = range_or (integer_of v.type) (slice_get ranges n)

-- what an entry becomes
abbrev pub renewal : Renewal → ℕ → PlainVariable → Abstract → Abstract
renewal (Forgotten marks) n v a = if is_marked marks.now n then whole_type (integer_of v.type) else a
renewal (Restored marks entry) n v a = record { range = a.range; offset = if is_marked marks.now n then None else offset_in (known entry.now.values n) }
renewal (Headed ranges) n v a = record { range = range_at (map interval_of ranges.now) n v; offset = Some (own_offset n) }

-- an environment in which an entry is changed, if it is there
abbrev pub entry_changed : (Abstract → Abstract) → ℕ → Option Abstract → Environment → Environment
entry_changed g n None env = env
entry_changed g n (Some a) env = learned env n (g a)

-- an environment in which the entry of one variable is changed, if it has one
abbrev pub renewed : (ℕ → PlainVariable → Abstract → Abstract) → ℕ → PlainVariable → Environment → Environment
renewed f n v env = entry_changed (f n v) n (known env n) env

-- whether an entry that may be lacking lies in a range
abbrev pub entry_lies : Interval → Option Abstract → Bool
entry_lies r None = true
entry_lies r (Some a) = is_within a.range r

-- whether all entries lie in ranges, from variable n on
abbrev pub entries_lie : (ℕ → PlainVariable → Interval) → ℕ → List PlainVariable → Environment → Bool
entries_lie r n [] env = true
entries_lie r n (v ∷ variables) env = entry_lies (r n v) (known env n) && entries_lie r (suc n) variables env
