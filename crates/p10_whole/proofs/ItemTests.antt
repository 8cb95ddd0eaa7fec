-- Items of initialisers, by tests.
use Rattle.std.specs.Prelude.{◌≡◌, ℕ, zero, suc, ◌+◌, ◌<◌, ◌≤◌, nat_lt, Bool, ◌&&◌, List, [], ◌∷◌, Some, All, length, map, slice_get, refl}
use Rattle.std.proofs.Common.{ap, sym, ◌∙◌, get_or, drop, drop-cons, add-one, subst, arith, ◌⊎◌, inl, inr}
use Rattle.std.proofs.lemmas.List.{get_or-take, get_or-drop, length-take, length-drop, drop_all}
use Rattle.std.proofs.lemmas.Option.{slice_get_within, get_or_from_slice_get}
use Rattle.p10_int.specs.declared.types.IntType.TheVariants.{Bool as Truth, Char, SChar, UChar, Short, UShort, Int, UInt, Long, ULong, LLong, ULLong}
use Rattle.p10_core.specs.declared.statements.Item.{Item}
use Rattle.p10_core.specs.Types.{PlainType, void, integer, pointer, array, structure, bare, unqualified, PlainStructure}
use Rattle.p10_core.specs.Sizes.{scalars_of}
use Rattle.p10_core.specs.Typed.{PlainValue, type_of}
use Rattle.p10_core.specs.Views.{plain_item}
use Rattle.p10_core.specs.Whole.{Surroundings, IsWholeValue}
use Rattle.p10_core.specs.WholePrograms.{AreWholeItems, IsWholeWritten, IsScalarValue, IsScalarText, width_of_written, is_character}
use Rattle.p10_whole.specs.private.Scalars.{HasScalar, HasCharacter, HasCharacters}
use Rattle.p10_whole.specs.private.Shows.{Shows}
use Rattle.p10_whole.proofs.ScalarPlaces.{order_by}
use Rattle.p10_whole.proofs.Showing.{both_true}

-- the element at a place is the first one of those from it on
at_drop : {A : Type 0} (k : ℕ) (xs : List A) → slice_get (drop k xs) 0 ≡ slice_get xs k
at_drop zero [] = refl
at_drop zero (x ∷ xs) = refl
at_drop (suc k) [] = refl
at_drop (suc k) (x ∷ xs) = at_drop k xs

pub value_shown : (c : Surroundings) (t u : PlainType) (k : ℕ) (v : PlainValue) (x y z : Bool) → HasScalar c.structures t k u → Shows x (IsWholeValue c v) → Shows y (bare c.structures (type_of v) ≡ bare c.structures u) →
    Shows z (type_of v ≡ unqualified (type_of v)) → Shows (x && (y && z)) (IsScalarValue c (drop k (scalars_of c.structures t)) v)
value_shown c t u k v x y z s f g h = record {
  shows = λ e.
      let a = both_true x (y && z) e in
      let b = both_true y z a.1 in
      record { whole = f.shows a.0; type_is = at_drop k (scalars_of c.structures t) ∙ s.is ∙ sym (ap Some (g.shows b.0)); unmarked = h.shows b.1 };
}

-- ## Characters

-- marks and compatible structures don't count
bare_character : (ss : List PlainStructure) (t : PlainType) → is_character (bare ss t) ≡ is_character t
bare_character ss (void c) = refl
bare_character ss (integer c Truth) = refl
bare_character ss (integer c Char) = refl
bare_character ss (integer c SChar) = refl
bare_character ss (integer c UChar) = refl
bare_character ss (integer c Short) = refl
bare_character ss (integer c UShort) = refl
bare_character ss (integer c Int) = refl
bare_character ss (integer c UInt) = refl
bare_character ss (integer c Long) = refl
bare_character ss (integer c ULong) = refl
bare_character ss (integer c LLong) = refl
bare_character ss (integer c ULLong) = refl
bare_character ss (pointer c t) = refl
bare_character ss (array c t n) = refl
bare_character ss (structure c n) = refl

pub character_shown : (ss : List PlainStructure) (t u : PlainType) (k : ℕ) (x : Bool) → HasScalar ss t k u → x ≡ is_character u → Shows x (HasCharacter ss t k)
character_shown ss t u k x s e = record { shows = λ h. record { scalar = bare ss u; is = s.is; character = bare_character ss u ∙ sym e ∙ h } }

more_case : (ss : List PlainStructure) (t : PlainType) (from count place k : ℕ) → HasCharacters ss t from count → place ≡ from + count → HasCharacter ss t place → (k < count) ⊎ (count ≤ k) → k < count + 1 → HasCharacter ss t (from + k)
more_case ss t from count place k h e one (inl low) below = h.each k low
more_case ss t from count place k h e one (inr high) below = let P : ℕ → Type 0 = λ i. HasCharacter ss t i in subst P (e ∙ omega (arith, high, below)) one

pub characters_more : (ss : List PlainStructure) (t : PlainType) (from count place : ℕ) → HasCharacters ss t from count → place ≡ from + count → HasCharacter ss t place → HasCharacters ss t from (count + 1)
characters_more ss t from count place h e one = record { each = λ k below. more_case ss t from count place k h e one (order_by k count (nat_lt k count) refl) below }

text_room : (ss : List PlainStructure) (t : PlainType) (from count : ℕ) → HasCharacters ss t from count → count ≤ length (drop from (scalars_of ss t))
text_room ss t from zero h = omega arith
text_room ss t from (suc count) h =
    let last = h.each count (omega arith) in
    omega (arith, slice_get_within (scalars_of ss t) (from + count) last.scalar last.is, length-drop from (scalars_of ss t))

pub text_is : (ss : List PlainStructure) (t : PlainType) (from : ℕ) (bytes : List ℕ) → HasCharacters ss t from (length bytes) → All (λ b. b < 256) bytes → IsScalarText (drop from (scalars_of ss t)) bytes
text_is ss t from bytes h small = record {
  room = text_room ss t from (length bytes) h;
  characters = λ k d below.
      let low : k < length bytes = omega (arith, below, length-take (length bytes) (drop from (scalars_of ss t))) in
      let one = h.each k low in
      ap is_character (get_or-take (length bytes) (drop from (scalars_of ss t)) k d low ∙ get_or-drop from (scalars_of ss t) k d ∙ get_or_from_slice_get (scalars_of ss t) (from + k) one.scalar d one.is) ∙ one.character;
  are_bytes = small;
}

-- ## Items, one after the other

pub no_items_left : (c : Surroundings) (scalars : List PlainType) (from : ℕ) (items : List Item) (i : ℕ) → length items ≤ i → AreWholeItems c scalars from (map plain_item (drop i items))
no_items_left c scalars from items i h = let P : List Item → Type 0 = λ is. AreWholeItems c scalars from (map plain_item is) in subst P (sym (drop_all i items h)) tt

pub one_item : (c : Surroundings) (scalars : List PlainType) (from next : ℕ) (items : List Item) (i : ℕ) (item : Item) → i < length items → item ≡ get_or items i item → from ≤ item.scalar →
    IsWholeWritten c (drop item.scalar scalars) (plain_item item).written → next ≡ item.scalar + width_of_written (plain_item item).written →
    AreWholeItems c scalars next (map plain_item (drop (i + 1) items)) → AreWholeItems c scalars from (map plain_item (drop i items))
one_item c scalars from next items i item below is low whole n rest =
    let P : List Item → Type 0 = λ is. AreWholeItems c scalars from (map plain_item is) in
    let cut : drop i items ≡ item ∷ drop (i + 1) items = drop-cons items i item below ∙ ap (λ x. x ∷ drop (suc i) items) (sym is) ∙ ap (λ n. item ∷ drop n items) (sym (add-one i)) in
    let Q : ℕ → Type 0 = λ m. AreWholeItems c scalars m (map plain_item (drop (i + 1) items)) in
    subst P (sym cut) (low, whole, subst Q n rest)
