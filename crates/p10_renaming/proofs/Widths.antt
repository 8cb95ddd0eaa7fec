-- Types that are the same have as many scalars, and are erased to one type.
use Rattle.std.proofs.Common.{◌≡◌, ◌∙◌, ℕ, zero, suc, ◌+◌, ◌*◌, Bool, false, List, length, length-append, ap, sym, refl, arith}
use Rattle.p10_int.specs.declared.types.IntType.TheVariants.{Char}
use Rattle.p10_core.specs.Types.{PlainType, integer, array}
use Rattle.p10_core.specs.Sizes.{repeated, scalars_of, layout_of}
use Rattle.p10_core.specs.Typed.{PlainProgram}
use Rattle.p10_views.specs.Erased.{own_width, erased_type}
use Rattle.p10_renaming.specs.Renaming.{Pairing, SameType, SameParameterType, same_integer_passed, same_pointer_passed, same_void, same_integer, same_pointer, same_array, same_structure}
use Rattle.p10_renaming.specs.Laws.{HasWidths}

length_repeated : {A : Type 0} (n : ℕ) (xs : List A) → length (repeated n xs) ≡ n * length xs
length_repeated zero xs = omega arith
length_repeated (suc n) xs = length-append xs (repeated n xs) ∙ (ap (λ k. length xs + k) (length_repeated n xs) ∙ omega arith)

-- an array has the scalars of each element
array_width : (p : PlainProgram) (c : Bool) (t : PlainType) (n : ℕ) → own_width p (array c t n) ≡ n * own_width p t
unfolding layout_of
array_width p c t n = length_repeated n (scalars_of p.structures t)

pub width_same : (R : Pairing) (p q : PlainProgram) → HasWidths R p q → {t u : PlainType} → SameType R t u → own_width p t ≡ own_width q u
unfolding layout_of
width_same R p q widths same_void = refl
width_same R p q widths same_integer = refl
width_same R p q widths (same_pointer h) = refl
width_same R p q widths (same_array {c = c} {t = t} {u = u} {n = n} h) = array_width p c t n ∙ ap (λ k. n * k) (width_same R p q widths h) ∙ sym (array_width q c u n)
width_same R p q widths (same_structure {c = c} {n = n} {m = m} paired) = widths c n m paired

pub type_same : (R : Pairing) (p q : PlainProgram) → HasWidths R p q → {t u : PlainType} → SameType R t u → erased_type p t ≡ erased_type q u
type_same R p q widths same_void = refl
type_same R p q widths same_integer = refl
type_same R p q widths (same_pointer h) = refl
type_same R p q widths (same_array {c = c} {t = t} {u = u} {n = n} h) = ap (λ k. array false (integer false Char) k) (width_same R p q widths (same_array {c = c} {t = t} {u = u} {n = n} h))
type_same R p q widths (same_structure {c = c} {n = n} {m = m} paired) = ap (λ k. array false (integer false Char) k) (widths c n m paired)

-- so are types of parameters, whatever they point to
pub parameter_type_same : (R : Pairing) (p q : PlainProgram) {t u : PlainType} → SameParameterType R t u → erased_type p t ≡ erased_type q u
parameter_type_same R p q same_integer_passed = refl
parameter_type_same R p q (same_pointer_passed h) = refl
