-- Which types are scalar ones, marks aside.
use Rattle.std.proofs.Common.{◌≡◌, List, true, false, refl, subst}
use Rattle.p10_core.specs.Types.{PlainType, void, integer, pointer, array, structure, unqualified, bare, PlainStructure}
use Rattle.p10_core.specs.Rows.{is_void, is_array, is_integer, is_complete, is_scalar}
use Rattle.p10_core.specs.Typed.{PlainProgram}
use Rattle.p10_meaning.specs.Values.{is_structure}

-- a type that is a scalar one, marks aside, is a scalar type
pub scalar_alike : (p : PlainProgram) (s t : PlainType) → bare p.structures s ≡ bare p.structures t → is_scalar s ≡ true → is_scalar t ≡ true
scalar_alike p s (integer d j) e h = refl
scalar_alike p s (pointer d t) e h = refl
scalar_alike p (integer c i) (void d) e h = absurd cc
scalar_alike p (integer c i) (array d t n) e h = absurd cc
scalar_alike p (integer c i) (structure d n) e h = absurd cc
scalar_alike p (pointer c s) (void d) e h = absurd cc
scalar_alike p (pointer c s) (array d t n) e h = absurd cc
scalar_alike p (pointer c s) (structure d n) e h = absurd cc
scalar_alike p (void c) t e h = absurd cc
scalar_alike p (array c s n) t e h = absurd cc
scalar_alike p (structure c n) t e h = absurd cc

pub integer_scalar : (t : PlainType) → is_integer t ≡ true → is_scalar t ≡ true
integer_scalar (integer c i) e = refl
integer_scalar (void c) e = absurd cc
integer_scalar (pointer c t) e = refl
integer_scalar (array c t n) e = absurd cc
integer_scalar (structure c n) e = absurd cc

-- what is read where it is no structure is a scalar
pub read_scalar : (structures : List PlainStructure) (u t : PlainType) → t ≡ unqualified u → is_array u ≡ false → is_complete structures u ≡ true → is_structure t ≡ false → is_scalar u ≡ true
read_scalar structures (integer c i) t e a b h = refl
read_scalar structures (pointer c u) t e a b h = refl
read_scalar structures (void c) t e a b h = absurd cc
read_scalar structures (array c u n) t e a b h = absurd cc
read_scalar structures (structure c n) t e a b h = absurd (let g : is_structure (structure false n) ≡ false = subst (λ t. is_structure t ≡ false) e h in cc)

pub scalar_no_structure : (t : PlainType) → is_scalar t ≡ true → is_structure t ≡ false
scalar_no_structure (integer c i) e = refl
scalar_no_structure (pointer c t) e = refl
scalar_no_structure (void c) e = absurd cc
scalar_no_structure (array c t n) e = absurd cc
scalar_no_structure (structure c n) e = absurd cc

pub scalar_no_void : (t : PlainType) → is_scalar t ≡ true → is_void t ≡ false
scalar_no_void (integer c i) e = refl
scalar_no_void (pointer c t) e = refl
scalar_no_void (void c) e = absurd cc
scalar_no_void (array c t n) e = absurd cc
scalar_no_void (structure c n) e = absurd cc
