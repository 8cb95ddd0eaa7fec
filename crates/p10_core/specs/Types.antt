-- The types of C as definitions speak of them (C99 6.2.5), the structures that they name, and what leads from the code's.
use Rattle.std.specs.Prelude.{ℕ, Bool, false, ◌||◌, List, [], map, Option, option_map, Some, None, slice_get, bytes_eq}
use Rattle.std.specs.List.{position_from}
use Rattle.p10_int.specs.declared.types.IntType.{IntType}
use Rattle.p10_base.specs.Words.{Text}
use Rattle.p10_core.specs.declared.c_type.CType.{CType}
use Rattle.p10_core.specs.declared.c_type.TypeForm.{TypeForm}
use Rattle.p10_core.specs.declared.c_type.TypeForm.TheVariants.{Void, Int, Pointer', Array', Struct}
use Rattle.p10_core.specs.declared.structures.Member.{Member}
use Rattle.p10_core.specs.declared.structures.Body.{Body}
use Rattle.p10_core.specs.declared.structures.Structure.{Structure}

-- a type of C, each part with its mark for `const` first (C99 6.2.5, 6.7.3): `void`, an integer type, a pointer to a type,
-- an array of a type with its length, and a structure by its number
pub data PlainType : Type 0 where
  void : Bool → PlainType
  integer : Bool → IntType → PlainType
  pointer : Bool → PlainType → PlainType
  array : Bool → PlainType → ℕ → PlainType
  structure : Bool → ℕ → PlainType

-- what a form of type of the code is, with its mark
abbrev pub plain_form_of_type : Bool → TypeForm → PlainType
plain_form_of_type c Void = void c
plain_form_of_type c (Int i) = integer c i
plain_form_of_type c (Pointer' p d f) = pointer c (plain_form_of_type d f)
plain_form_of_type c (Array' p d f n) = array c (plain_form_of_type d f) n
plain_form_of_type c (Struct n) = structure c n

-- what a type of the code is
abbrev pub plain_type : CType → PlainType
plain_type t = plain_form_of_type t.is_const t.form

-- the type with one mark more: that of an array stands at its elements (C99 6.7.3p8)
abbrev pub qualified : Bool → PlainType → PlainType
qualified q (void c) = void (q || c)
qualified q (integer c i) = integer (q || c) i
qualified q (pointer c t) = pointer (q || c) t
qualified q (array c t n) = array c (qualified q t) n
qualified q (structure c n) = structure (q || c) n

-- the type without its own mark, as a value has it (C99 6.3.2.1p2)
abbrev pub unqualified : PlainType → PlainType
unqualified (void c) = void false
unqualified (integer c i) = integer false i
unqualified (pointer c t) = pointer false t
unqualified (array c t n) = array c t n
unqualified (structure c n) = structure false n

-- a member of a structure (C99 6.7.2.1)
pub record PlainMember : Type 0 where
  pub name : Text
  pub type : PlainType

-- the body of a complete structure: its members in order, its place among the bodies in the order in which they were
-- completed, the bytes of its size and of its alignment, how many scalars it has, and whether a part of it is `const`
pub record PlainBody : Type 0 where
  pub members : List PlainMember
  pub order : ℕ
  pub bytes : ℕ
  pub alignment : ℕ
  pub scalars : ℕ
  pub constant : Bool

-- a structure: its tag, if it has one; its body, if it is complete (C99 6.2.5p22, 6.7.2.3); and the number of the structure
-- that stands for it and for those of other roots that are compatible with it (C99 6.2.7)
pub record PlainStructure : Type 0 where
  pub tag : Option Text
  pub body : Option PlainBody
  pub representative : ℕ

-- what a member of the code is
abbrev pub plain_member : Member → PlainMember
plain_member m = record { name = m.name.now; type = plain_type m.ty }

-- what the body of a structure of the code is
abbrev pub plain_body : Body → PlainBody
plain_body b = record { members = map plain_member b.members; order = b.order; bytes = b.bytes; alignment = b.alignment; scalars = b.scalars; constant = b.has_const }

-- what a structure of the code is
abbrev pub plain_structure : Structure → PlainStructure
plain_structure s = record { tag = option_map (λ t. t.now) s.tag; body = option_map plain_body s.body; representative = s.representative }

-- the body of the structure with a number, if there is one and it is complete
abbrev pub body_in : Option PlainStructure → Option PlainBody
body_in None = None
body_in (Some s) = s.body

-- the body of the structure with a number: none where it is incomplete or not there
abbrev pub body_of : List PlainStructure → ℕ → Option PlainBody
body_of structures n = body_in (slice_get structures n)

-- the members of a body: none where there is no body
abbrev pub members_in : Option PlainBody → List PlainMember
members_in None = []
members_in (Some b) = b.members

-- the members of the structure with a number: none of one that isn't complete
abbrev pub members_of : List PlainStructure → ℕ → List PlainMember
members_of structures n = members_in (body_of structures n)

-- the place of the first member with a name
abbrev pub member_named : Text → List PlainMember → Option ℕ
member_named name members = position_from (λ m. bytes_eq m.name name) 0 members

-- the structure that stands for one with a number: itself where there is none
abbrev pub representative_in : ℕ → Option PlainStructure → ℕ
representative_in n None = n
representative_in n (Some s) = s.representative

-- the number of the structure that stands for the one with a number
abbrev pub representative_of : List PlainStructure → ℕ → ℕ
representative_of structures n = representative_in n (slice_get structures n)

-- the type without any mark, in its parts neither, and with the structures that stand for those it names: what objects and
-- pointers are like where `const` is left aside. Two types are compatible (C99 6.2.7) where this is one type
abbrev pub bare : List PlainStructure → PlainType → PlainType
bare structures (void c) = void false
bare structures (integer c i) = integer false i
bare structures (pointer c t) = pointer false (bare structures t)
bare structures (array c t n) = array false (bare structures t) n
bare structures (structure c n) = structure false (representative_of structures n)
