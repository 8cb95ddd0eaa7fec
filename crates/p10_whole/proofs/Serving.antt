-- Calls of library functions, by tests.
use Rattle.std.specs.Prelude.{◌≡◌, ℕ, suc, nat_eq, Bool, true, false, not, ◌&&◌, Option, Some, None, is_some, List, [], ◌∷◌, length, refl}
use Rattle.std.proofs.Common.{ap, sym, ◌∙◌, get_or, arith}
use Rattle.std.proofs.Math.Dec.{eqb-suc-zero}
use Rattle.p10_int.specs.declared.types.IntType.TheVariants.{Int, ULong}
use Rattle.p10_core.specs.declared.typed.Library.{Library}
use Rattle.p10_core.specs.declared.typed.Library.TheVariants.{Assert, CAssert, Getchar, Putchar, Malloc, Calloc, Free}
use Rattle.p10_core.specs.declared.typed.Value.{Value}
use Rattle.p10_core.specs.Types.{PlainType, PlainStructure, plain_type}
use Rattle.p10_core.specs.Typed.{PlainValues, no_values, more_values, type_of}
use Rattle.p10_core.specs.Views.{plain_values}
use Rattle.p10_core.specs.Rows.{is_scalar, is_void, mark_of}
use Rattle.p10_core.specs.Whole.{Surroundings, CallsLibrary, Allocates, CountsElements}
use Rattle.p10_whole.specs.private.Agreeing.{integer_kind, target_type, is_kind}
use Rattle.p10_whole.specs.private.Places.{only_type, has_none, is_pointer_at, is_sized, counts, is_library}
use Rattle.p10_whole.specs.private.Shows.{Shows}
use Rattle.p10_whole.proofs.Showing.{both_true}
use Rattle.p10_whole.proofs.TypeShapes.{target_is, kind_of_test, void_by_tests, pointer_there}

pub only_one : (vs : List Value) (d : Value) → length vs ≡ 1 → Some (plain_type (get_or vs 0 d).ty) ≡ only_type (plain_values vs)
only_one [] d n = absurd (omega (arith, n))
only_one (x ∷ []) d n = refl
only_one (x ∷ y ∷ vs) d n = absurd (omega (arith, n))

not_zero : (n : ℕ) → nat_eq (suc n) 0 ≡ false
not_zero n = eqb-suc-zero n

pub none_are : (vs : List Value) (b : Bool) → b ≡ nat_eq (length vs) 0 → b ≡ has_none (plain_values vs)
none_are [] b e = e
none_are (v ∷ vs) b e = e ∙ not_zero (length vs)

pub not_one : (vs : List Value) → (length vs ≡ 1 → ⊥) → None ≡ only_type (plain_values vs)
not_one [] n = refl
not_one (x ∷ []) n = absurd (n refl)
not_one (x ∷ y ∷ vs) n = refl

second : (a b : Bool) → (a && b) ≡ true → b ≡ true
second a b h = (both_true a b h).1

sized : (c : Surroundings) (t : PlainType) (o : Option PlainType) (vs : PlainValues) → target_type t ≡ o → is_sized c.structures o ≡ true → CountsElements vs → Allocates c t vs
sized c t None vs e h k = absurd cc
sized c t (Some s) vs e h k = record { element = s; type_is = target_is t s e; complete = h; counted = k }

counted : (vs : PlainValues) → counts vs ≡ true → CountsElements vs
counted no_values h = tt
counted (more_values v no_values) h = kind_of_test (type_of v) ULong h
counted (more_values v (more_values w vs)) h = absurd cc

library_is : (c : Surroundings) (t : PlainType) (f : Library) (vs : PlainValues) → is_library c.structures t f vs ≡ true → CallsLibrary c t f vs
library_is c t Assert vs h = absurd cc
library_is c t Getchar no_values h = kind_of_test t Int (both_true (is_kind Int (integer_kind t)) true h).0
library_is c t Getchar (more_values v vs) h = let k = second (is_kind Int (integer_kind t)) false h in absurd cc
library_is c t Putchar no_values h = let k = second (is_kind Int (integer_kind t)) false h in absurd cc
library_is c t Putchar (more_values v no_values) h =
    let k = both_true (is_kind Int (integer_kind t)) (is_kind Int (integer_kind (type_of v))) h in (kind_of_test t Int k.0, kind_of_test (type_of v) Int k.1)
library_is c t Putchar (more_values v (more_values w vs)) h = let k = second (is_kind Int (integer_kind t)) false h in absurd cc
library_is c t CAssert no_values h = let k = second (is_kind Int (integer_kind t)) false h in absurd cc
library_is c t CAssert (more_values v no_values) h =
    let k = both_true (is_kind Int (integer_kind t)) (is_scalar (type_of v)) h in (kind_of_test t Int k.0, k.1)
library_is c t CAssert (more_values v (more_values w vs)) h = let k = second (is_kind Int (integer_kind t)) false h in absurd cc
library_is c t Free no_values h = let k = second (is_void t && not (mark_of t)) false h in absurd cc
library_is c t Free (more_values v no_values) h =
    let k = both_true (is_void t && not (mark_of t)) (is_some (target_type (type_of v))) h in (void_by_tests t k.0, pointer_there (type_of v) k.1)
library_is c t Free (more_values v (more_values w vs)) h = let k = second (is_void t && not (mark_of t)) false h in absurd cc
library_is c t Malloc vs h = let k = both_true (is_sized c.structures (target_type t)) (counts vs) h in sized c t (target_type t) vs refl k.0 (counted vs k.1)
library_is c t Calloc vs h = let k = both_true (is_sized c.structures (target_type t)) (counts vs) h in sized c t (target_type t) vs refl k.0 (counted vs k.1)

pub library_shown : (c : Surroundings) (t : PlainType) (f : Library) (vs : PlainValues) (b : Bool) → b ≡ is_library c.structures t f vs → Shows b (CallsLibrary c t f vs)
library_shown c t f vs b e = record { shows = λ h. library_is c t f vs (sym e ∙ h) }

-- `free`
pub free_is : (ss : List PlainStructure) (t : PlainType) (f : Library) (vs : PlainValues) (x m y : Bool) → f ≡ Free → x ≡ is_void t → mark_of t ≡ m → y ≡ is_pointer_at (only_type vs) → ((x && not m) && y) ≡ is_library ss t f vs
free_is ss t f vs x m y e p q r =
    ap (λ a. (a && not m) && y) p ∙ ap (λ b. (is_void t && not b) && y) (sym q) ∙ ap (λ d. (is_void t && not (mark_of t)) && d) r ∙ ap (λ g. is_library ss t g vs) (sym e)
