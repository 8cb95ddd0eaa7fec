-- The tests of types, as functions of plain ones.
use Rattle.std.specs.Prelude.{ℕ, nat_eq, Bool, true, false, not, ◌&&◌, ◌||◌, if◌then◌else◌, is_some, List, Option, Some, None}
use Rattle.std.specs.Bool.{beq}
use Rattle.p10_int.specs.declared.types.IntType.{IntType}
use Rattle.p10_int.specs.declared.types.IntType.TheVariants.{Int, Long}
use Rattle.p10_int.specs.declared.operators.BinOp.{BinOp}
use Rattle.p10_int.specs.declared.operators.BinOp.TheVariants.{Add, Sub, Mul, Div, Rem, Shl, Shr, And, Or, Xor, Lt, Gt, Le, Ge, Eq, Ne}
use Rattle.p10_int.specs.declared.operators.UnOp.{UnOp}
use Rattle.p10_int.specs.declared.operators.UnOp.TheVariants.{Plus, Neg, Not, Com}
use Rattle.p10_int.specs.Types.{promoted, usual_of}
use Rattle.p10_core.specs.Types.{PlainType, void, integer, pointer, array, structure, PlainStructure, representative_of}
use Rattle.p10_core.specs.Rows.{same, same_form, same_integer, mark_of, is_array, is_complete, adds_const}

-- ## Shapes

-- whether two types are one where marks are left aside, with the structures that stand for theirs
abbrev pub is_bare_same : List PlainStructure → PlainType → PlainType → Bool
is_bare_same structures (void c) (void d) = true
is_bare_same structures (integer c i) (integer d j) = same_integer i j
is_bare_same structures (pointer c s) (pointer d t) = is_bare_same structures s t
is_bare_same structures (array c s m) (array d t n) = nat_eq m n && is_bare_same structures s t
is_bare_same structures (structure c m) (structure d n) = nat_eq (representative_of structures m) (representative_of structures n)
is_bare_same structures s t = false

-- whether a type is another one with one mark more
abbrev pub is_marked_same : Bool → PlainType → PlainType → Bool
is_marked_same q (array c s m) (array d t n) = beq c d && (nat_eq m n && is_marked_same q s t)
is_marked_same q s t = not (is_array t) && (same_form s t && beq (mark_of s) (q || mark_of t))

-- the kind of an integer type without a mark
abbrev pub integer_kind : PlainType → Option IntType
integer_kind (integer c i) = if c then None else Some i
integer_kind t = None

-- what a pointer type without a mark points to
abbrev pub target_type : PlainType → Option PlainType
target_type (pointer c t) = if c then None else Some t
target_type t = None

-- the number of the structure that a type is, if it is one
abbrev pub structure_number : PlainType → Option ℕ
structure_number (structure c n) = Some n
structure_number t = None

-- whether a kind that may be lacking is one
abbrev pub is_kind : IntType → Option IntType → Bool
is_kind i None = false
is_kind i (Some j) = same_integer j i

-- whether a pointer's target is a type
abbrev pub is_target : Option PlainType → PlainType → Bool
is_target None t = false
is_target (Some s) t = same s t

-- ## Conversions

-- whether `const` is added at the target of a pointer
abbrev pub adds_at_target : Option PlainType → Option PlainType → Bool
adds_at_target (Some s) (Some t) = adds_const s t
adds_at_target s t = false

-- whether a value is a null constant where a pointer is needed
abbrev pub is_null_at : Option PlainType → Bool → Bool
is_null_at None null = false
is_null_at (Some t) null = null

-- ## Operators

-- integers at their common type, which is the result's: the kinds of the result and of the operands
abbrev pub are_usual : Option IntType → Option IntType → Option IntType → Bool
are_usual (Some i) (Some j) (Some k) = same_integer i (usual_of j k) && (same_integer j (usual_of j k) && same_integer k (usual_of j k))
are_usual i j k = false

-- integers at their common type, and a result of `int`
abbrev pub are_compared : Option IntType → Option IntType → Option IntType → Bool
are_compared (Some i) (Some j) (Some k) = same_integer i Int && (same_integer j (usual_of j k) && same_integer k (usual_of j k))
are_compared i j k = false

-- integers that are promoted, and a result of the left one's type
abbrev pub are_shifted : Option IntType → Option IntType → Option IntType → Bool
are_shifted (Some i) (Some j) (Some k) = same_integer i (promoted j) && (same_integer j (promoted j) && same_integer k (promoted k))
are_shifted i j k = false

-- a pointer that is moved, by a promoted integer
abbrev pub is_moved : List PlainStructure → Option PlainType → Option PlainType → Option IntType → Bool
is_moved structures (Some r) (Some t) (Some k) = is_complete structures t && (same r t && same_integer k (promoted k))
is_moved structures r t k = false

-- the difference of pointers
abbrev pub is_difference : List PlainStructure → Option IntType → Option PlainType → Option PlainType → Bool
is_difference structures (Some i) (Some s) (Some t) = same_integer i Long && (same s t && is_complete structures t)
is_difference structures i s t = false

-- pointers that are compared
abbrev pub are_pointers : Option IntType → Option PlainType → Option PlainType → Bool
are_pointers (Some i) (Some s) (Some t) = same_integer i Int && same s t
are_pointers i s t = false

-- pointers of which one is chosen
abbrev pub are_chosen : Option PlainType → Option PlainType → Option PlainType → Bool
are_chosen (Some r) (Some s) (Some t) = same r s && same s t
are_chosen r s t = false

-- whether the types of the result and of the converted operands of a binary operator agree
abbrev pub is_binary : List PlainStructure → BinOp → PlainType → PlainType → PlainType → Bool
is_binary structures Add r s t =
    are_usual (integer_kind r) (integer_kind s) (integer_kind t)
    || (is_moved structures (target_type r) (target_type s) (integer_kind t) || is_moved structures (target_type r) (target_type t) (integer_kind s))
is_binary structures Sub r s t =
    are_usual (integer_kind r) (integer_kind s) (integer_kind t)
    || (is_moved structures (target_type r) (target_type s) (integer_kind t) || is_difference structures (integer_kind r) (target_type s) (target_type t))
is_binary structures Mul r s t = are_usual (integer_kind r) (integer_kind s) (integer_kind t)
is_binary structures Div r s t = are_usual (integer_kind r) (integer_kind s) (integer_kind t)
is_binary structures Rem r s t = are_usual (integer_kind r) (integer_kind s) (integer_kind t)
is_binary structures And r s t = are_usual (integer_kind r) (integer_kind s) (integer_kind t)
is_binary structures Or r s t = are_usual (integer_kind r) (integer_kind s) (integer_kind t)
is_binary structures Xor r s t = are_usual (integer_kind r) (integer_kind s) (integer_kind t)
is_binary structures Shl r s t = are_shifted (integer_kind r) (integer_kind s) (integer_kind t)
is_binary structures Shr r s t = are_shifted (integer_kind r) (integer_kind s) (integer_kind t)
is_binary structures Lt r s t = are_compared (integer_kind r) (integer_kind s) (integer_kind t) || are_pointers (integer_kind r) (target_type s) (target_type t)
is_binary structures Gt r s t = are_compared (integer_kind r) (integer_kind s) (integer_kind t) || are_pointers (integer_kind r) (target_type s) (target_type t)
is_binary structures Le r s t = are_compared (integer_kind r) (integer_kind s) (integer_kind t) || are_pointers (integer_kind r) (target_type s) (target_type t)
is_binary structures Ge r s t = are_compared (integer_kind r) (integer_kind s) (integer_kind t) || are_pointers (integer_kind r) (target_type s) (target_type t)
is_binary structures Eq r s t = are_compared (integer_kind r) (integer_kind s) (integer_kind t) || are_pointers (integer_kind r) (target_type s) (target_type t)
is_binary structures Ne r s t = are_compared (integer_kind r) (integer_kind s) (integer_kind t) || are_pointers (integer_kind r) (target_type s) (target_type t)

-- the same for `?:`
abbrev pub is_conditional : PlainType → PlainType → PlainType → Bool
is_conditional r s t = are_usual (integer_kind r) (integer_kind s) (integer_kind t) || are_chosen (target_type r) (target_type s) (target_type t)

-- an integer that is promoted, and a result of its type
abbrev pub is_promoted : Option IntType → Option IntType → Bool
is_promoted (Some i) (Some j) = same_integer i (promoted j) && same_integer j (promoted j)
is_promoted i j = false

-- the same for a unary operator
abbrev pub is_unary : UnOp → PlainType → PlainType → Bool
is_unary Plus r t = is_promoted (integer_kind r) (integer_kind t)
is_unary Neg r t = is_promoted (integer_kind r) (integer_kind t)
is_unary Com r t = is_promoted (integer_kind r) (integer_kind t)
is_unary Not r t = is_kind Int (integer_kind r) && (is_some (integer_kind t) || is_some (target_type t))
