-- The first scalar of a type, by what stands first in the type.
use Rattle.std.specs.Prelude.{ℕ, zero, suc, Bool, false, nat_eq, if◌then◌else◌, List, [], ◌∷◌, slice_get, Option, Some, None}
use Rattle.std.specs.Borrow.{Bor}
use Rattle.p10_int.specs.declared.types.IntType.{IntType}
use Rattle.p10_core.specs.declared.c_type.CType.{CType}
use Rattle.p10_core.specs.Types.{PlainType, void, integer, pointer, array, structure, bare, plain_type, PlainMember, PlainStructure, members_of}
use Rattle.p10_core.specs.Sizes.{Layout, layout_by, structure_layout}
use Rattle.p10_elabd.specs.declared.first_scalar.Head.{Head}
use Rattle.p10_elabd.specs.declared.first_scalar.Head.TheVariants as head_is

-- what stands first in a type, arrays left aside: nothing, an integer, a pointer to a type, or a structure
pub data PlainHead : Type 0 where
  no_head : PlainHead
  an_integer : IntType → PlainHead
  a_pointer : PlainType → PlainHead
  a_structure : ℕ → PlainHead

-- that of the code
abbrev pub plain_head : Head → PlainHead
plain_head head_is.Nothing = no_head
plain_head (head_is.Integer i) = an_integer i
plain_head (head_is.Pointer t) = a_pointer (plain_type t.now)
plain_head (head_is.Structure n) = a_structure n

-- what stands first in a type
abbrev pub head_of : PlainType → PlainHead
head_of (void c) = no_head
head_of (integer c i) = an_integer i
head_of (pointer c t) = a_pointer t
head_of (array c t n) = if nat_eq n 0 then no_head else head_of t
head_of (structure c n) = a_structure n

-- the first scalar by what stands first, where it is known how structures lie
abbrev pub scalar_by : List PlainStructure → (ℕ → Layout) → PlainHead → Option PlainType
scalar_by structures of_structure no_head = None
scalar_by structures of_structure (an_integer i) = Some (integer false i)
scalar_by structures of_structure (a_pointer t) = Some (pointer false (bare structures t))
scalar_by structures of_structure (a_structure n) = slice_get (of_structure n).scalars 0

-- the first scalar of a type whose structures are nested less than `depth` deep
abbrev pub scalar_within : ℕ → List PlainStructure → PlainType → Option PlainType
scalar_within depth structures t = slice_get (layout_by structures (structure_layout depth structures) t).scalars 0

-- the one or else the other
abbrev pub or_else : Option PlainType → Option PlainType → Option PlainType
or_else None other = other
or_else (Some t) other = Some t

-- the first scalar of members
abbrev pub first_of_members : ℕ → List PlainStructure → List PlainMember → Option PlainType
first_of_members depth structures [] = None
first_of_members depth structures (m ∷ rest) = or_else (scalar_within depth structures m.type) (first_of_members depth structures rest)
