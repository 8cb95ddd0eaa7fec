-- Targets of address constants of the code.
use Rattle.std.specs.Prelude.{ℤ, pos, negsuc, ◌≤ℤ◌}
use Rattle.p10_core.specs.Addresses.{Target as PlainTarget, nowhere, in_array}
use Rattle.p10_whole.specs.declared.addresses.Target.{Target}
use Rattle.p10_whole.specs.declared.addresses.Target.TheVariants.{Nowhere, InArray}

-- where an address of the code points to
abbrev pub plain_target : Target → PlainTarget
plain_target Nowhere = nowhere
plain_target (InArray length n) = in_array length n

-- a constant by which a pointer may be moved, or one with the other sign
pub record IsStep (z : ℤ) : Type 0 where
  pub least : negsuc 18446744073709551615 ≤ℤ z
  pub most : z ≤ℤ pos 18446744073709551615
