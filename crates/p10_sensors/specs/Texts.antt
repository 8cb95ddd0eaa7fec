-- The text of recorded values of sensors.
use Rattle.std.specs.Prelude.{◌≡◌, ◌≢◌, ℕ, ◌+◌, ◌-◌, ◌^◌, ℤ, pos, neg_ℤ, ◌≤ℤ◌, List, [], ◌++◌, length, codes}
use Rattle.std.specs.Fmt.{signed_decimal}
use Rattle.std.specs.List.{flat_map, AllByRecursion}

-- a value of some integer type: from -2^63 to 2^64 - 1
pub record IsValue (z : ℤ) : Type 0 where
  pub least : neg_ℤ (pos (2 ^ 63)) ≤ℤ z
  pub greatest : z ≤ℤ pos (2 ^ 64 - 1)

-- values of integer types
abbrev pub AreValues : List ℤ → Type 0
AreValues values = AllByRecursion IsValue values

-- a value on a line of its own
abbrev pub sensor_line : ℤ → List ℕ
sensor_line z = signed_decimal z ++ codes "\n"

-- values, each on a line of its own
abbrev pub values_text : List ℤ → List ℕ
values_text values = flat_map sensor_line values

-- a text is that of these values
pub record IsTextOf (text : List ℕ) (values : List ℤ) : Type 0 where
  pub good : AreValues values
  pub exact : text ≡ values_text values

-- no line of a value begins a text
abbrev pub NoValueBegins : List ℕ → Type 0
NoValueBegins text = (z : ℤ) (more : List ℕ) → IsValue z → text ≡ sensor_line z ++ more → ⊥

-- the line with this number is the first of a text that is no value's: what stands before it are lines of values, and it isn't one
pub record IsFirstOther (text : List ℕ) (line : ℕ) : Type 0 where
  pub before : List ℤ
  pub rest : List ℕ
  pub good : AreValues before
  pub parts : text ≡ values_text before ++ rest
  pub some : rest ≢ []
  pub other : NoValueBegins rest
  pub number : line ≡ length before + 1
