-- String literals that are listed, by tests.
use Rattle.std.specs.Prelude.{◌≡◌, ℕ, ◌<◌, nat_eq, Bool, true, false, not, ◌&&◌, Some, slice_get, List, length, All, Contains, map, refl}
use Rattle.std.proofs.Common.{ap, sym, ◌∙◌, get_or, arith, Fits, w8}
use Rattle.std.proofs.lemmas.Bool.{eqb-true}
use Rattle.std.proofs.lemmas.Option.{slice_get-get_or, slice_get_within, get_or_from_slice_get}
use Rattle.p10_int.specs.declared.types.IntType.TheVariants.{Char}
use Rattle.p10_core.specs.declared.program.Literal.{Literal}
use Rattle.p10_core.specs.Types.{PlainType, integer, array}
use Rattle.p10_core.specs.Typed.{PlainLiteral}
use Rattle.p10_core.specs.Views.{plain_program, plain_literal}
use Rattle.p10_core.specs.Whole.{IsLiteral}
use Rattle.p10_whole.specs.declared.around.Around.{Around}
use Rattle.p10_whole.specs.private.Shows.{Shows}
use Rattle.p10_whole.specs.private.Surroundings.{surroundings_in}
use Rattle.p10_whole.proofs.Showing.{both_true}

not_true : (b : Bool) → not b ≡ true → b ≡ false
not_true true e = absurd cc
not_true false e = refl

pub array_shown : (t element : PlainType) (mark : Bool) (length count : ℕ) (x : Bool) → t ≡ array mark element length → Shows x (element ≡ integer false Char) →
    Shows (not mark && (x && nat_eq length count)) (t ≡ array false (integer false Char) count)
array_shown t element mark n count x e f = record {
  shows = λ h.
      let a = both_true (not mark) (x && nat_eq n count) h in
      let b = both_true x (nat_eq n count) a.1 in
      e ∙ ap (λ m. array m element n) (not_true mark a.0) ∙ ap (λ u. array false u n) (f.shows b.0) ∙ ap (array false (integer false Char)) (eqb-true n count b.1);
}

-- an element of a list
pub there_contains : {A : Type 0} (xs : List A) (i : ℕ) (x : A) → slice_get xs i ≡ Some x → Contains xs x
there_contains xs i x e = (i, slice_get_within xs i x e, get_or_from_slice_get xs i x x e)

pub literal_at_shown : (all : List Literal) (place number : ℕ) (bytes : List ℕ) (l : PlainLiteral) (y : Bool) → Some l ≡ slice_get (map plain_literal all) place → Shows y (l.bytes ≡ bytes) →
    Shows (nat_eq l.number number && y) (Contains (map plain_literal all) (record { number = number; bytes = bytes }))
literal_at_shown all place number bytes l y e g = record {
  shows = λ h.
      let a = both_true (nat_eq l.number number) y h in
      there_contains (map plain_literal all) place (record { number = number; bytes = bytes })
      (sym e ∙ ap (λ n. Some (record { number = n; bytes = l.bytes })) (eqb-true l.number number a.0) ∙ ap (λ b. Some (record { number = number; bytes = b })) (g.shows a.1));
}

-- the elements of a list of bytes
pub small_bytes : (bytes : List ℕ) → ((i : ℕ) → Fits w8 (get_or bytes i 0)) → All (λ b. b < 256) bytes
small_bytes bytes f k d h = omega (arith, f k, get_or_from_slice_get bytes k (get_or bytes k 0) d (slice_get-get_or bytes k 0 h))

pub literal_shown : (a : Around) (number : ℕ) (bytes : List ℕ) (t : PlainType) (x y : Bool) → All (λ b. b < 256) bytes → Shows x (t ≡ array false (integer false Char) (length bytes)) →
    Shows y (Contains (plain_program a.program.now).literals (record { number = number; bytes = bytes })) → Shows (x && y) (IsLiteral (surroundings_in a) number bytes t)
literal_shown a number bytes t x y small f g = record {
  shows = λ h. let b = both_true x y h in record { type_is = f.shows b.0; are_bytes = small; is_listed = g.shows b.1 };
}
