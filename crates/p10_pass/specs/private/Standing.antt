-- Ranges of variables by their numbers that stand for what claims say of them.
use Rattle.std.specs.Prelude.{◌≡◌, ℕ, ◌<◌, Bool, List, [], ◌∷◌, slice_get, slice_set, Some}
use Rattle.p10_range.specs.Ranges.{Interval}
use Rattle.p10_core.specs.Constants.{integer_of}
use Rattle.p10_core.specs.Typed.{PlainVariable}
use Rattle.p10_cert.specs.Claims.{Var}
use Rattle.p10_pass.specs.Claiming.{range_claimed}

-- each variable has the range that lines claim of it
pub record AreClaimed (lines : List Var) (variables : List PlainVariable) (ranges : List Interval) : Type 0 where
  pub each : (n : ℕ) (v : PlainVariable) → slice_get variables n ≡ Some v → slice_get ranges n ≡ Some (range_claimed lines n (integer_of v.type))

-- ranges in which those of lines are put, the first one last
abbrev pub with_lines : List Var → List Interval → List Interval
with_lines [] ranges = ranges
with_lines (line ∷ lines) ranges = slice_set (with_lines lines ranges) line.var line.ends
