-- What it is that an environment describes what the variables of an open frame hold (an abstract value's meaning).
use Rattle.std.specs.Prelude.{◌≡◌, ◌≢◌, ℕ, true, ℤ, pos, ◌-ℤ◌, List, slice_get, Option, Some, None, IfSome}
use Rattle.p10_range.specs.Ranges.{Interval, IsMember, IsWithin}
use Rattle.p10_range.specs.Rows.{values_of}
use Rattle.p10_core.specs.Constants.{integer_of}
use Rattle.p10_core.specs.Typed.{PlainVariable}
use Rattle.p10_meaning.specs.declared.pointers.Scalar.{Scalar}
use Rattle.p10_meaning.specs.declared.pointers.Scalar.TheVariants.{Int}
use Rattle.p10_meaning.specs.Values.{Held, holds, stands}
use Rattle.p10_absx.specs.Abstract.{Offset, Abstract}
use Rattle.p10_absx.specs.Environments.{Environment, known}

-- the number that a scalar which may be unset is
abbrev pub number_in : Option Scalar → Option ℤ
number_in (Some (Int z)) = Some z
number_in x = None

-- the number that a frame variable holds: none where it is unset
abbrev pub held_number : Option Held → Option ℤ
held_number (Some (holds cell)) = number_in cell.value
held_number held = None

-- the number that the variable with a number holds in a frame
abbrev pub set_to : List Held → ℕ → Option ℤ
set_to held n = held_number (slice_get held n)

-- z differs from what a variable held at the head of the loop by a number of the offset's range
pub record Differs (head : List Held) (o : Offset) (z : ℤ) : Type 0 where
  pub then : ℤ
  pub was : set_to head o.about ≡ Some then
  pub difference : IsMember o.by (z -ℤ then)

-- an abstract value holds a number: it lies in the range, and differs as the offset says
pub record HoldsNumber (head : List Held) (a : Abstract) (z : ℤ) : Type 0 where
  pub member : IsMember a.range z
  pub offset : IfSome a.offset (λ o. Differs head o z)

-- an offset that an unset variable may have: about itself, with 0
pub record IsOwn (n : ℕ) (o : Offset) : Type 0 where
  pub about : o.about ≡ n
  pub zero : IsMember o.by (pos 0)

-- an unset variable is described only by all values of its type, and by an offset about itself that has 0
pub record HoldsUnset (all : Interval) (n : ℕ) (a : Abstract) : Type 0 where
  pub range : IsWithin all a.range
  pub offset : IfSome a.offset (IsOwn n)

-- an abstract value describes variable n, which holds a number or is unset
abbrev pub DescribesOne : List Held → Interval → ℕ → Abstract → Option ℤ → Type 0
DescribesOne head all n a (Some z) = HoldsNumber head a z
DescribesOne head all n a None = HoldsUnset all n a

-- variable n is there, it stands in the frame itself and not for an object, and what is known of it describes what it holds
pub record DescribesVariable (variables : List PlainVariable) (head held : List Held) (n : ℕ) (a : Abstract) : Type 0 where
  pub variable : PlainVariable
  pub there : slice_get variables n ≡ Some variable
  pub frame : variable.frame ≡ true
  pub no_object : (o : ℕ) → slice_get held n ≢ Some (stands o)
  pub describes : DescribesOne head (values_of (integer_of variable.type)) n a (set_to held n)

-- an environment describes what the variables of a frame hold, where the innermost loop's head had others: whatever is known of a
-- variable describes it
pub record Describes (variables : List PlainVariable) (env : Environment) (head held : List Held) : Type 0 where
  pub each : (n : ℕ) (a : Abstract) → known env n ≡ Some a → DescribesVariable variables head held n a

-- the same for an environment that may be one that no state reaches
abbrev pub MaybeDescribes : List PlainVariable → Option Environment → List Held → List Held → Type 0
MaybeDescribes variables None head held = ⊥
MaybeDescribes variables (Some env) head held = Describes variables env head held

-- a number that comes of a value: there is an abstract value, and it holds the number
abbrev pub MaybeHolds : List Held → Option Abstract → ℤ → Type 0
MaybeHolds head None z = ⊥
MaybeHolds head (Some a) z = HoldsNumber head a z
