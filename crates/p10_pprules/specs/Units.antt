-- The forms of a replacement list that is a complete syntactic unit (Holzmann, "The Power of Ten", rule 8).
use Rattle.std.specs.Prelude.{◌≡◌, List, [], ◌∷◌, ◌++◌, Bool, true, false, ◌&&◌, codes, bytes_eq}
use Rattle.p10_base.specs.declared.word.Kind.{Kind}
use Rattle.p10_base.specs.declared.word.Kind.TheVariants.{Number}
use Rattle.p10_base.specs.Words.{PlainWord, Text, is_name, is_name_kind, is_punctuator}
use Rattle.p10_pprules.specs.declared.bracket.Bracket.TheVariants.{Round, Curly}
use Rattle.p10_pprules.specs.Groups.{IsGroup}

-- whether a word is an integer constant, by its kind (C99 6.4.4.1)
abbrev pub is_number_kind : Kind → Bool
is_number_kind Number = true
is_number_kind _ = false

-- whether the word is the number with this spelling
abbrev pub is_number : Text → PlainWord → Bool
is_number text word = is_number_kind word.kind && bytes_eq word.text text

-- `while`, `(`, `0`, `)`
abbrev pub is_while_zero : List PlainWord → Bool
is_while_zero (keyword ∷ opening ∷ zero ∷ closing ∷ []) =
    is_name (codes "while") keyword && is_punctuator (codes "(") opening && is_number (codes "0") zero && is_punctuator (codes ")") closing
is_while_zero _ = false

-- The words are a complete unit: nothing, one word, `-` and a number, one group in `( )` or `{ }`, a name and one group
-- in `( )`, or `do`, a group in `{ }` and `while (0)`.
pub data IsUnit : List PlainWord → Type 0 where
  nothing : IsUnit []
  one_word : (word : PlainWord) → IsUnit (word ∷ [])
  negative : (minus number : PlainWord) → is_punctuator (codes "-") minus ≡ true → is_number_kind number.kind ≡ true → IsUnit (minus ∷ number ∷ [])
  parentheses : (words : List PlainWord) → IsGroup Round words → IsUnit words
  braces : (words : List PlainWord) → IsGroup Curly words → IsUnit words
  call : (name : PlainWord) (words : List PlainWord) → is_name_kind name.kind ≡ true → IsGroup Round words → IsUnit (name ∷ words)
  do_while : (keyword : PlainWord) (group end words : List PlainWord) → is_name (codes "do") keyword ≡ true → IsGroup Curly group → is_while_zero end ≡ true
      → words ≡ group ++ end → IsUnit (keyword ∷ words)
