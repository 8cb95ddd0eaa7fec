-- What is asked of types is asked of erased ones too.
use Rattle.std.proofs.Common.{◌≡◌, ◌∙◌, ℕ, zero, suc, ◌+◌, ◌*◌, false, List, [], ◌∷◌, length, length-append, ap, sym, refl, arith}
use Rattle.p10_int.specs.declared.types.IntType.TheVariants.{Char}
use Rattle.p10_core.specs.Types.{PlainType, void, integer, pointer, array, structure}
use Rattle.p10_core.specs.Rows.{is_integer, is_pointer}
use Rattle.p10_core.specs.Constants.{integer_of}
use Rattle.p10_core.specs.Sizes.{repeated, layout_of}
use Rattle.p10_core.specs.Typed.{PlainValue, value, PlainPlace, place, type_of, place_type, PlainProgram}
use Rattle.p10_core.specs.WholePrograms.{AreWholeStructures, IsObjectType}
use Rattle.p10_meaning.specs.Values.{width}
use Rattle.p10_meaning.proofs.LaidOut.{lies_bare}
use Rattle.p10_views.specs.Erased.{own_width, erased_type, erased_value, erased_place, scalars_alone}

pub integer_erased : (p : PlainProgram) (t : PlainType) → is_integer (erased_type p t) ≡ is_integer t
integer_erased p (void c) = refl
integer_erased p (integer c kind) = refl
integer_erased p (pointer c t) = refl
integer_erased p (array c t n) = refl
integer_erased p (structure c n) = refl

pub pointer_erased : (p : PlainProgram) (t : PlainType) → is_pointer (erased_type p t) ≡ is_pointer t
pointer_erased p (void c) = refl
pointer_erased p (integer c kind) = refl
pointer_erased p (pointer c t) = refl
pointer_erased p (array c t n) = refl
pointer_erased p (structure c n) = refl

pub kind_erased : (p : PlainProgram) (t : PlainType) → integer_of (erased_type p t) ≡ integer_of t
kind_erased p (void c) = refl
kind_erased p (integer c kind) = refl
kind_erased p (pointer c t) = refl
kind_erased p (array c t n) = refl
kind_erased p (structure c n) = refl

pub type_erased : (p : PlainProgram) (v : PlainValue) → type_of (erased_value p v) ≡ erased_type p (type_of v)
type_erased p (value at t form) = refl

pub place_type_erased : (p : PlainProgram) (q : PlainPlace) → place_type (erased_place p q) ≡ erased_type p (place_type q)
place_type_erased p (place at t form) = refl

pub integer_value_erased : (p : PlainProgram) (v : PlainValue) → is_integer (type_of (erased_value p v)) ≡ is_integer (type_of v)
integer_value_erased p (value at t form) = integer_erased p t

pub pointer_value_erased : (p : PlainProgram) (v : PlainValue) → is_pointer (type_of (erased_value p v)) ≡ is_pointer (type_of v)
pointer_value_erased p (value at t form) = pointer_erased p t

-- ---- scalars

length_repeated : {A : Type 0} (n : ℕ) (xs : List A) → length (repeated n xs) ≡ n * length xs
length_repeated zero xs = omega arith
length_repeated (suc n) xs = length-append xs (repeated n xs) ∙ (ap (λ k. length xs + k) (length_repeated n xs) ∙ omega arith)

one_each : (n : ℕ) → n * 1 ≡ n
one_each n = omega arith

-- in each program
alone_has : (q p : PlainProgram) (t : PlainType) → width q (scalars_alone p t) ≡ own_width p t
unfolding layout_of
alone_has q p t = length_repeated (own_width p t) (integer false Char ∷ []) ∙ one_each (own_width p t)

-- an object has the scalars of its own structures
own_is : (p : PlainProgram) (t : PlainType) → AreWholeStructures p.structures → IsObjectType p.structures t → own_width p t ≡ width p t
own_is p t w object = ap (λ (ts : List PlainType). length ts) (sym (lies_bare p.structures w t object).same_scalars)

pub width_erased : (q p : PlainProgram) (t : PlainType) → AreWholeStructures p.structures → IsObjectType p.structures t → width q (erased_type p t) ≡ width p t
unfolding layout_of
width_erased q p (void c) w object = refl
width_erased q p (integer c kind) w object = refl
width_erased q p (pointer c t) w object = refl
width_erased q p (array c t n) w object = alone_has q p (array c t n) ∙ own_is p (array c t n) w object
width_erased q p (structure c n) w object = alone_has q p (structure c n) ∙ own_is p (structure c n) w object
