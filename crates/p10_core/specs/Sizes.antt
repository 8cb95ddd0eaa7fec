-- Sizes, alignments and scalars of types (C99 6.5.3.4, 6.7.2.1; each scalar's alignment is its size).
use Rattle.std.specs.Prelude.{ℕ, zero, suc, ◌+◌, ◌-◌, ◌*◌, ◌/◌, max, Bool, false, ◌||◌, List, [], ◌∷◌, ◌++◌, length}
use Rattle.p10_int.specs.declared.types.IntType.{IntType}
use Rattle.p10_int.specs.declared.types.IntType.TheVariants.{Bool as Truth, Char, SChar, UChar, Short, UShort, Int, UInt, Long, ULong, LLong, ULLong}
use Rattle.p10_core.specs.Types.{PlainType, void, integer, pointer, array, structure, bare, PlainMember, PlainStructure, members_of}

-- the bytes of an integer type
abbrev pub integer_bytes : IntType → ℕ
integer_bytes Truth = 1
integer_bytes Char = 1
integer_bytes SChar = 1
integer_bytes UChar = 1
integer_bytes Short = 2
integer_bytes UShort = 2
integer_bytes Int = 4
integer_bytes UInt = 4
integer_bytes Long = 8
integer_bytes ULong = 8
integer_bytes LLong = 8
integer_bytes ULLong = 8

-- how values of a type lie in memory: the bytes, the alignment, the types of the scalars in order, and whether the type or a
-- part of it is `const`
pub record Layout : Type 0 where
  pub bytes : ℕ
  pub alignment : ℕ
  pub scalars : List PlainType
  pub constant : Bool

-- the least multiple of an alignment that is at least n
abbrev pub aligned : ℕ → ℕ → ℕ
aligned n alignment = (n + (alignment - 1)) / alignment * alignment

-- a list repeated n times
abbrev pub repeated : {A : Type 0} → ℕ → List A → List A
repeated zero xs = []
repeated (suc n) xs = xs ++ repeated n xs

-- the place past the members, each of which lies at the first place that its alignment allows after those before it
abbrev pub past_members : (PlainType → Layout) → ℕ → List PlainMember → ℕ
past_members layout n [] = n
past_members layout n (m ∷ rest) = past_members layout (aligned n (layout m.type).alignment + (layout m.type).bytes) rest

-- the greatest of the members' alignments
abbrev pub greatest_alignment : (PlainType → Layout) → List PlainMember → ℕ
greatest_alignment layout [] = 1
greatest_alignment layout (m ∷ rest) = max (layout m.type).alignment (greatest_alignment layout rest)

-- the members' scalars in order
abbrev pub scalars_of_members : (PlainType → Layout) → List PlainMember → List PlainType
scalars_of_members layout [] = []
scalars_of_members layout (m ∷ rest) = (layout m.type).scalars ++ scalars_of_members layout rest

-- whether a member or a part of one is `const`
abbrev pub constant_among : (PlainType → Layout) → List PlainMember → Bool
constant_among layout [] = false
constant_among layout (m ∷ rest) = (layout m.type).constant || constant_among layout rest

-- how a structure with these members lies: it is padded to its alignment, which is the greatest of its members'
abbrev pub layout_of_members : (PlainType → Layout) → List PlainMember → Layout
layout_of_members layout members = record {
  bytes = aligned (past_members layout 0 members) (greatest_alignment layout members);
  alignment = greatest_alignment layout members;
  scalars = scalars_of_members layout members;
  constant = constant_among layout members;
}

-- a layout where the type has a mark of its own
abbrev pub with_mark : Bool → Layout → Layout
with_mark c l = record l { constant = c || l.constant }

-- how a type lies, where it is known how structures do
abbrev pub layout_by : List PlainStructure → (ℕ → Layout) → PlainType → Layout
layout_by structures of_structure (void c) = record { bytes = 0; alignment = 1; scalars = []; constant = c }
layout_by structures of_structure (integer c i) =
    record { bytes = integer_bytes i; alignment = integer_bytes i; scalars = integer false i ∷ []; constant = c }
layout_by structures of_structure (pointer c t) =
    record { bytes = 8; alignment = 8; scalars = pointer false (bare structures t) ∷ []; constant = c }
layout_by structures of_structure (array c t n) =
    let l : Layout = layout_by structures of_structure t in
    record { bytes = n * l.bytes; alignment = l.alignment; scalars = repeated n l.scalars; constant = c || l.constant }
layout_by structures of_structure (structure c n) = with_mark c (of_structure n)

-- how structures lie that are nested less than `depth` deep
abbrev pub structure_layout : ℕ → List PlainStructure → ℕ → Layout
structure_layout zero structures n = record { bytes = 0; alignment = 1; scalars = []; constant = false }
structure_layout (suc depth) structures n =
    layout_of_members (layout_by structures (structure_layout depth structures)) (members_of structures n)

-- how a type lies: no structure contains itself, so none is nested deeper than there are structures
unfoldable pub layout_of : List PlainStructure → PlainType → Layout
layout_of structures t = layout_by structures (structure_layout (length structures) structures) t

-- the size of a type in bytes (C99 6.5.3.4)
abbrev pub size_of : List PlainStructure → PlainType → ℕ
size_of structures t = (layout_of structures t).bytes

-- the alignment of a type in bytes
abbrev pub alignment_of : List PlainStructure → PlainType → ℕ
alignment_of structures t = (layout_of structures t).alignment

-- the types of the scalars of a type in order, without marks
abbrev pub scalars_of : List PlainStructure → PlainType → List PlainType
scalars_of structures t = (layout_of structures t).scalars

-- whether the type or a part of it is `const`
abbrev pub has_constant : List PlainStructure → PlainType → Bool
has_constant structures t = (layout_of structures t).constant
