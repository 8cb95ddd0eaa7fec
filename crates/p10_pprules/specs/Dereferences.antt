-- Dereferences in the list of a macro (Holzmann, "The Power of Ten", rule 9).
use Rattle.std.specs.Prelude.{◌≡◌, List, ◌∷◌, ◌++◌, Bool, true, false, ◌||◌, codes}
use Rattle.std.specs.List.{Contains}
use Rattle.p10_base.specs.Words.{PlainWord, is_name_kind, is_punctuator}
use Rattle.p10_pprules.specs.Units.{is_number_kind}

-- whether a `*` after the word may multiply: a name, a number, `)` or `]`
abbrev pub ends_operand : PlainWord → Bool
ends_operand word = is_name_kind word.kind || is_number_kind word.kind || is_punctuator (codes ")") word || is_punctuator (codes "]") word

-- whether a word is `*`, which may multiply or dereference (C99 6.5.5, 6.5.3.2)
abbrev pub is_star : PlainWord → Bool
is_star word = is_punctuator (codes "*") word

-- whether a word is `->`, which dereferences what stands before it (C99 6.5.2.3)
abbrev pub is_arrow : PlainWord → Bool
is_arrow word = is_punctuator (codes "->") word

-- The list has `->`, or a `*` that begins it or stands after a word that ends no operand.
pub data Dereferences (words : List PlainWord) : Type 0 where
  arrow : (word : PlainWord) → Contains words word → is_arrow word ≡ true → Dereferences words
  first_star : (star : PlainWord) (after : List PlainWord) → words ≡ star ∷ after → is_star star ≡ true → Dereferences words
  later_star : (before : List PlainWord) (word star : PlainWord) (after : List PlainWord) → words ≡ before ++ word ∷ star ∷ after
      → ends_operand word ≡ false → is_star star ≡ true → Dereferences words
