-- The test for dereferences finds them.
use Rattle.std.proofs.Common.{◌≡◌, List, [], ◌∷◌, ◌++◌, Bool, true, false, not, ◌&&◌, ◌||◌, refl, ◌∙◌, ap, inl, inr}
use Rattle.std.specs.List.{Contains}
use Rattle.std.proofs.lemmas.Bool.{and_parts}
use Rattle.p10_base.specs.Words.{PlainWord}
use Rattle.p10_pprules.specs.Dereferences.{ends_operand, is_star, is_arrow, Dereferences, arrow, first_star, later_star}
use Rattle.p10_pprules.specs.private.Scanning.{dereferences_behind}
use Rattle.p10_pprules.proofs.Members.{none_in, here, there, first_or_later}
use Rattle.p10_pprules.proofs.Booleans.{or_left, or_right, either, not_is}

-- a dereference in words that stand after an operand or not
data Found (operand : Bool) (words : List PlainWord) : Type 0 where
  by_arrow : (word : PlainWord) → Contains words word → is_arrow word ≡ true → Found operand words
  at_first : (star : PlainWord) (after : List PlainWord) → words ≡ star ∷ after → is_star star ≡ true → operand ≡ false → Found operand words
  at_later : (before : List PlainWord) (word star : PlainWord) (after : List PlainWord) → words ≡ before ++ word ∷ star ∷ after → ends_operand word ≡ false → is_star star ≡ true → Found operand words

one_later : (operand : Bool) (word : PlainWord) (words : List PlainWord) → Found (ends_operand word) words → Found operand (word ∷ words)
one_later operand word words (by_arrow x held is) = by_arrow x (there word words x held) is
one_later operand word words (at_first star after parts is ends) = at_later [] word star after (ap (λ l. word ∷ l) parts) ends is
one_later operand word words (at_later before x star after parts ends is) = at_later (word ∷ before) x star after (ap (λ l. word ∷ l) parts) ends is

finds : (operand : Bool) (words : List PlainWord) → dereferences_behind operand words ≡ true → Found operand words
finds operand [] e = absurd cc
finds operand (word ∷ words) e =
    elim (either (is_arrow word || (is_star word && not operand)) (dereferences_behind (ends_operand word) words) e) [
      | inl e ↦ elim (either (is_arrow word) (is_star word && not operand) e) [
        | inl is ↦ by_arrow word (here word words) is
        | inr e ↦ let h = and_parts (is_star word) (not operand) e in at_first word words refl h.0 (not_is operand h.1)
      ]
      | inr e ↦ one_later operand word words (finds (ends_operand word) words e)
    ]

pub dereference_is : (words : List PlainWord) → dereferences_behind false words ≡ true → Dereferences words
dereference_is words e = as_one words (finds false words e) where
  as_one : (words : List PlainWord) → Found false words → Dereferences words
  as_one words (by_arrow word held is) = arrow word held is
  as_one words (at_first star after parts is ends) = first_star star after parts is
  as_one words (at_later before word star after parts ends is) = later_star before word star after parts ends is

arrow_again : (operand : Bool) (words : List PlainWord) (word : PlainWord) → Contains words word → is_arrow word ≡ true → dereferences_behind operand words ≡ true
arrow_again operand [] word held is = absurd (none_in word held)
arrow_again operand (x ∷ words) word held is =
    elim (first_or_later x words word held) [
      | inl same ↦ or_left (is_arrow x || (is_star x && not operand)) _ (or_left (is_arrow x) _ (ap is_arrow same ∙ is))
      | inr later ↦ or_right (is_arrow x || (is_star x && not operand)) _ (arrow_again (ends_operand x) words word later is)
    ]

star_again : (operand : Bool) (star : PlainWord) (after : List PlainWord) → operand ≡ false → is_star star ≡ true → dereferences_behind operand (star ∷ after) ≡ true
star_again operand star after free is =
    or_left (is_arrow star || (is_star star && not operand)) _ (or_right (is_arrow star) _ (ap (λ b. is_star star && not b) free ∙ ap (λ b. b && true) is))

later_again : (operand : Bool) (before : List PlainWord) (word star : PlainWord) (after : List PlainWord) → ends_operand word ≡ false → is_star star ≡ true → dereferences_behind operand (before ++ word ∷ star ∷ after) ≡ true
later_again operand [] word star after ends is = or_right (is_arrow word || (is_star word && not operand)) _ (star_again (ends_operand word) star after ends is)
later_again operand (x ∷ before) word star after ends is = or_right (is_arrow x || (is_star x && not operand)) _ (later_again (ends_operand x) before word star after ends is)

pub is_dereference : (words : List PlainWord) → Dereferences words → dereferences_behind false words ≡ true
is_dereference words (arrow word held is) = arrow_again false words word held is
is_dereference words (first_star star after parts is) = ap (dereferences_behind false) parts ∙ star_again false star after refl is
is_dereference words (later_star before word star after parts ends is) = ap (dereferences_behind false) parts ∙ later_again false before word star after ends is
