-- Facts of structures have at most one proof each, so a table of structures may keep them.
use Rattle.std.specs.Prelude.{◌≡◌, ℕ, Bool, List, [], ◌∷◌, Option, Some, None, ◌⊎◌, slice_index_or}
use Rattle.std.proofs.Common.{inl, inr, refl, ap}
use Rattle.std.specs.Coded.{Coded, Coded-set, coded_ℕ, coded_bool, coded_list, coded×, coded⊎, coded_option, code_by, ×_prop, Unit-prop, le_prop}
use Rattle.p10_int.specs.declared.types.IntType.{IntType}
use Rattle.p10_int.specs.declared.types.IntType.TheVariants.{Bool as Truth, Char, SChar, UChar, Short, UShort, Int, UInt, Long, ULong, LLong, ULLong}
use Rattle.p10_core.specs.Types.{PlainType, void, integer, pointer, array, structure, PlainMember, PlainBody, PlainStructure}
use Rattle.p10_core.specs.Rows.{number_of}
use Rattle.p10_core.specs.WholePrograms.{ContainsBefore, IsWholeType, IsObjectType, IsWholeMember, IsWholeBody, AreWholeStructures}
use Rattle.p10_core.specs.Completing.{AreBuilt}

-- ## Types as codes

-- what stands round the innermost part of a type: pointers, and arrays with their lengths
abbrev Around : Type 0
Around = List (Bool × Option ℕ)

-- the innermost part of a type: `void`, an integer type by its number, or a structure
abbrev Inner : Type 0
Inner = Bool × Option (ℕ ⊎ ℕ)

abbrev around_of : PlainType → Around
around_of (void c) = []
around_of (integer c i) = []
around_of (pointer c t) = (c, None) ∷ around_of t
around_of (array c t n) = (c, Some n) ∷ around_of t
around_of (structure c n) = []

abbrev inner_of : PlainType → Inner
inner_of (void c) = (c, None)
inner_of (integer c i) = (c, Some (inl (number_of i)))
inner_of (pointer c t) = inner_of t
inner_of (array c t n) = inner_of t
inner_of (structure c n) = (c, Some (inr n))

-- the integer type with a number
abbrev integer_numbered : ℕ → IntType
integer_numbered n = slice_index_or (Truth ∷ Char ∷ SChar ∷ UChar ∷ Short ∷ UShort ∷ Int ∷ UInt ∷ Long ∷ ULong ∷ LLong ∷ ULLong ∷ []) n Truth

numbered : (i : IntType) → integer_numbered (number_of i) ≡ i
numbered Truth = refl
numbered Char = refl
numbered SChar = refl
numbered UChar = refl
numbered Short = refl
numbered UShort = refl
numbered Int = refl
numbered UInt = refl
numbered Long = refl
numbered ULong = refl
numbered LLong = refl
numbered ULLong = refl

abbrev type_of_inner : Inner → PlainType
type_of_inner (c, None) = void c
type_of_inner (c, Some (inl i)) = integer c (integer_numbered i)
type_of_inner (c, Some (inr n)) = structure c n

abbrev type_around : Around → PlainType → PlainType
type_around [] t = t
type_around ((c, None) ∷ rest) t = pointer c (type_around rest t)
type_around ((c, Some n) ∷ rest) t = array c (type_around rest t) n

type_back : (t : PlainType) → type_around (around_of t) (type_of_inner (inner_of t)) ≡ t
type_back (void c) = refl
type_back (integer c i) = ap (integer c) (numbered i)
type_back (pointer c t) = ap (pointer c) (type_back t)
type_back (array c t n) = ap (λ u. array c u n) (type_back t)
type_back (structure c n) = refl

coded_type : Coded PlainType
coded_type = code_by (Around × Inner) (coded× (coded_list (coded× coded_bool (coded_option coded_ℕ))) (coded× coded_bool (coded_option (coded⊎ coded_ℕ coded_ℕ))))
    (λ t. (around_of t, inner_of t)) (λ p. type_around p.0 (type_of_inner p.1)) type_back

coded_member : Coded PlainMember
coded_member = code_by (List ℕ × PlainType) (coded× (coded_list coded_ℕ) coded_type) (λ m. (m.name, m.type)) (λ p. record { name = p.0; type = p.1 }) (λ m. refl)

-- ## Facts with one proof

type_once : (ss : List PlainStructure) (t : PlainType) → IsProp (IsWholeType ss t)
type_once ss (void c) = Unit-prop
type_once ss (integer c i) = Unit-prop
type_once ss (pointer c t) = ×_prop (type_once ss t) (Coded-set coded_bool _ _)
type_once ss (array c t n) = λ x y i. (
  type_once ss t x.0 y.0 i,
  Coded-set coded_bool _ _ x.1 y.1 i,
  le_prop x.2 y.2 i,
  le_prop x.3 y.3 i,
)
type_once ss (structure c n) = le_prop

object_once : (ss : List PlainStructure) (t : PlainType) → IsProp (IsObjectType ss t)
object_once ss t = λ x y i. record {
  whole = type_once ss t x.whole y.whole i;
  complete = Coded-set coded_bool _ _ x.complete y.complete i;
}

before_once : (ss : List PlainStructure) (order : ℕ) (t : PlainType) → IsProp (ContainsBefore ss order t)
before_once ss order (void c) = Unit-prop
before_once ss order (integer c i) = Unit-prop
before_once ss order (pointer c t) = Unit-prop
before_once ss order (array c t n) = before_once ss order t
before_once ss order (structure c n) = le_prop

member_once : (ss : List PlainStructure) (order : ℕ) (m : PlainMember) → IsProp (IsWholeMember ss order m)
member_once ss order m = λ x y i. record {
  object = object_once ss m.type x.object y.object i;
  before = before_once ss order m.type x.before y.before i;
}

body_once : (ss : List PlainStructure) (n : ℕ) (b : PlainBody) → IsProp (IsWholeBody ss n b)
body_once ss n b = λ x y i. record {
  members = λ k d h. member_once ss b.order (slice_index_or b.members k d) (x.members k d h) (y.members k d h) i;
  some = le_prop x.some y.some i;
  few = le_prop x.few y.few i;
  bytes_are = Coded-set coded_ℕ _ _ x.bytes_are y.bytes_are i;
  alignment_is = Coded-set coded_ℕ _ _ x.alignment_is y.alignment_is i;
  scalars_are = Coded-set coded_ℕ _ _ x.scalars_are y.scalars_are i;
  constant_is = Coded-set coded_bool _ _ x.constant_is y.constant_is i;
  small = le_prop x.small y.small i;
  same_members = Coded-set (coded_list coded_member) _ _ x.same_members y.same_members i;
  complete = Coded-set coded_bool _ _ x.complete y.complete i;
}

structures_once : (ss : List PlainStructure) → IsProp (AreWholeStructures ss)
structures_once ss = λ x y i. record {
  bodies = λ n b is. body_once ss n b (x.bodies n b is) (y.bodies n b is) i;
  representatives = λ n h. le_prop (x.representatives n h) (y.representatives n h) i;
  stand_for_themselves = λ n. Coded-set coded_ℕ _ _ (x.stand_for_themselves n) (y.stand_for_themselves n) i;
}

-- structures are built in one way
pub built_once : (ss : List PlainStructure) → IsProp (AreBuilt ss)
built_once ss = λ x y i. record {
  whole = structures_once ss x.whole y.whole i;
  counted = record { below = λ n b is. le_prop (x.counted.below n b is) (y.counted.below n b is) i };
}
