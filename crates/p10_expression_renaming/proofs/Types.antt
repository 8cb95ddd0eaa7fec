-- Types that are the same: what is asked of them, and what is made of them.
use Rattle.std.proofs.Common.{◌≡◌, ℕ, ◌*◌, nat_eq, ◌&&◌, Bool, true, List, refl, ap}
use Rattle.std.specs.Bool.{beq}
use Rattle.p10_core.specs.Types.{PlainType, qualified, unqualified, PlainStructure}
use Rattle.p10_core.specs.Sizes.{size_of, layout_of}
use Rattle.p10_core.specs.Constants.{integer_of}
use Rattle.p10_core.specs.Rows.{mark_of, same_form, same, is_void, is_array, is_integer, is_pointer, is_scalar}
use Rattle.p10_renaming.specs.Renaming.{Pairing, passing, SameType, SameParameterType, same_integer_passed, same_pointer_passed, same_void, same_integer, same_pointer, same_array, same_structure}
use Rattle.p10_expression_renaming.specs.Knowing.{SameStructures, IsOneToOne}

pub mark_of_same : (R : Pairing) {t u : PlainType} → SameType R t u → mark_of t ≡ mark_of u
mark_of_same R same_void = refl
mark_of_same R same_integer = refl
mark_of_same R (same_pointer h) = refl
mark_of_same R (same_array h) = refl
mark_of_same R (same_structure paired) = refl

pub is_void_same : (R : Pairing) {t u : PlainType} → SameType R t u → is_void t ≡ is_void u
is_void_same R same_void = refl
is_void_same R same_integer = refl
is_void_same R (same_pointer h) = refl
is_void_same R (same_array h) = refl
is_void_same R (same_structure paired) = refl

pub is_array_same : (R : Pairing) {t u : PlainType} → SameType R t u → is_array t ≡ is_array u
is_array_same R same_void = refl
is_array_same R same_integer = refl
is_array_same R (same_pointer h) = refl
is_array_same R (same_array h) = refl
is_array_same R (same_structure paired) = refl

pub is_integer_same : (R : Pairing) {t u : PlainType} → SameType R t u → is_integer t ≡ is_integer u
is_integer_same R same_void = refl
is_integer_same R same_integer = refl
is_integer_same R (same_pointer h) = refl
is_integer_same R (same_array h) = refl
is_integer_same R (same_structure paired) = refl

pub is_pointer_same : (R : Pairing) {t u : PlainType} → SameType R t u → is_pointer t ≡ is_pointer u
is_pointer_same R same_void = refl
is_pointer_same R same_integer = refl
is_pointer_same R (same_pointer h) = refl
is_pointer_same R (same_array h) = refl
is_pointer_same R (same_structure paired) = refl

pub is_scalar_same : (R : Pairing) {t u : PlainType} → SameType R t u → is_scalar t ≡ is_scalar u
is_scalar_same R same_void = refl
is_scalar_same R same_integer = refl
is_scalar_same R (same_pointer h) = refl
is_scalar_same R (same_array h) = refl
is_scalar_same R (same_structure paired) = refl

pub integer_of_same : (R : Pairing) {t u : PlainType} → SameType R t u → integer_of t ≡ integer_of u
integer_of_same R same_void = refl
integer_of_same R same_integer = refl
integer_of_same R (same_pointer h) = refl
integer_of_same R (same_array h) = refl
integer_of_same R (same_structure paired) = refl

pub unqualified_same : (R : Pairing) {t u : PlainType} → SameType R t u → SameType R (unqualified t) (unqualified u)
unqualified_same R same_void = same_void
unqualified_same R same_integer = same_integer
unqualified_same R (same_pointer h) = same_pointer h
unqualified_same R (same_array h) = same_array h
unqualified_same R (same_structure paired) = same_structure paired

pub qualified_same : (R : Pairing) (q : Bool) {t u : PlainType} → SameType R t u → SameType R (qualified q t) (qualified q u)
qualified_same R q same_void = same_void
qualified_same R q same_integer = same_integer
qualified_same R q (same_pointer h) = same_pointer h
qualified_same R q (same_array h) = same_array (qualified_same R q h)
qualified_same R q (same_structure paired) = same_structure paired

-- ---- types of parameters

pub passing_one : (R : Pairing) → IsOneToOne R → IsOneToOne (passing R)
passing_one R one = record { numbers = one.numbers; within = λ n m e. e }

-- types that are used are the same among those of parameters
pub type_passed : (R : Pairing) → IsOneToOne R → {t u : PlainType} → SameType R t u → SameType (passing R) t u
type_passed R one same_void = same_void
type_passed R one same_integer = same_integer
type_passed R one (same_pointer h) = same_pointer (type_passed R one h)
type_passed R one (same_array h) = same_array (type_passed R one h)
type_passed R one (same_structure {n = n} {m = m} paired) = same_structure (one.within n m paired)

pub parameter_type : (R : Pairing) {t u : PlainType} → SameParameterType R t u → SameType R t u
parameter_type R same_integer_passed = same_integer
parameter_type R (same_pointer_passed h) = same_pointer h

pub parameter_passed : (R : Pairing) → IsOneToOne R → {t u : PlainType} → SameParameterType R t u → SameParameterType (passing R) t u
parameter_passed R one same_integer_passed = same_integer_passed
parameter_passed R one (same_pointer_passed h) = same_pointer_passed (type_passed R one h)

pub unqualified_parameter : (R : Pairing) {t u : PlainType} → SameParameterType R t u → SameParameterType R (unqualified t) (unqualified u)
unqualified_parameter R same_integer_passed = same_integer_passed
unqualified_parameter R (same_pointer_passed h) = same_pointer_passed h

-- ---- whether two types are one

pub used_numbers : (R : Pairing) → IsOneToOne R → (n m i j : ℕ) → R.used n i ≡ true → R.used m j ≡ true → nat_eq n m ≡ nat_eq i j
used_numbers R one n m i j p q = one.numbers n m i j (one.within n i p) (one.within m j q)

pub form_same : (R : Pairing) → IsOneToOne R → {t u a b : PlainType} → SameType R t u → SameType R a b → same_form t a ≡ same_form u b
form_same R one same_void same_void = refl
form_same R one same_void same_integer = refl
form_same R one same_void (same_pointer k) = refl
form_same R one same_void (same_array k) = refl
form_same R one same_void (same_structure other) = refl
form_same R one same_integer same_void = refl
form_same R one same_integer same_integer = refl
form_same R one same_integer (same_pointer k) = refl
form_same R one same_integer (same_array k) = refl
form_same R one same_integer (same_structure other) = refl
form_same R one (same_pointer h) same_void = refl
form_same R one (same_pointer h) same_integer = refl
form_same R one (same_pointer h) (same_pointer k) = λ i. beq (mark_of_same R h i) (mark_of_same R k i) && form_same R one h k i
form_same R one (same_pointer h) (same_array k) = refl
form_same R one (same_pointer h) (same_structure other) = refl
form_same R one (same_array h) same_void = refl
form_same R one (same_array h) same_integer = refl
form_same R one (same_array h) (same_pointer k) = refl
form_same R one (same_array {n = n} h) (same_array {n = m} k) = λ i. nat_eq n m && (beq (mark_of_same R h i) (mark_of_same R k i) && form_same R one h k i)
form_same R one (same_array h) (same_structure other) = refl
form_same R one (same_structure paired) same_void = refl
form_same R one (same_structure paired) same_integer = refl
form_same R one (same_structure paired) (same_pointer k) = refl
form_same R one (same_structure paired) (same_array k) = refl
form_same R one (same_structure {n = n} {m = i} paired) (same_structure {n = m} {m = j} other) = used_numbers R one n m i j paired other

pub one_same : (R : Pairing) → IsOneToOne R → {t u a b : PlainType} → SameType R t u → SameType R a b → same t a ≡ same u b
one_same R one h k = λ i. beq (mark_of_same R h i) (mark_of_same R k i) && form_same R one h k i

-- ---- sizes

pub size_same : (R : Pairing) (these others : List PlainStructure) → SameStructures R these others → {t u : PlainType} → SameType R t u → size_of these t ≡ size_of others u
unfolding layout_of
size_same R these others know same_void = refl
size_same R these others know same_integer = refl
size_same R these others know (same_pointer h) = refl
size_same R these others know (same_array {n = n} h) = ap (λ k. n * k) (size_same R these others know h)
size_same R these others know (same_structure {c = c} {n = n} {m = m} paired) = know.sizes c n m paired
