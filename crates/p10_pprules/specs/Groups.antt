-- Words in brackets that nest properly.
use Rattle.std.specs.Prelude.{◌≡◌, List, [], ◌∷◌, ◌++◌, Bool, true, false, ◌||◌, codes}
use Rattle.p10_base.specs.Words.{PlainWord, Text, is_punctuator}
use Rattle.p10_pprules.specs.declared.bracket.Bracket.{Bracket}
use Rattle.p10_pprules.specs.declared.bracket.Bracket.TheVariants.{Round, Square, Curly}

-- the spelling of the bracket that begins a group
abbrev pub opening_text : Bracket → Text
opening_text Round = codes "("
opening_text Square = codes "["
opening_text Curly = codes "{"

-- the spelling of the bracket that ends it
abbrev pub closing_text : Bracket → Text
closing_text Round = codes ")"
closing_text Square = codes "]"
closing_text Curly = codes "}"

-- whether a word begins a group in these brackets
abbrev pub opens : Bracket → PlainWord → Bool
opens bracket word = is_punctuator (opening_text bracket) word

-- whether a word ends a group in these brackets
abbrev pub closes : Bracket → PlainWord → Bool
closes bracket word = is_punctuator (closing_text bracket) word

-- whether a word is a bracket of any kind
abbrev pub is_bracket : PlainWord → Bool
is_bracket word = opens Round word || opens Square word || opens Curly word || closes Round word || closes Square word || closes Curly word

-- The brackets among the words are pairs of one kind that nest properly.
pub data IsBalanced : List PlainWord → Type 0 where
  empty : IsBalanced []
  single : (word : PlainWord) (words : List PlainWord) → is_bracket word ≡ false → IsBalanced words → IsBalanced (word ∷ words)
  pair : (bracket : Bracket) (opening : PlainWord) (inside : List PlainWord) (closing : PlainWord) (after words : List PlainWord)
      → opens bracket opening ≡ true → closes bracket closing ≡ true → IsBalanced inside → IsBalanced after
      → words ≡ inside ++ closing ∷ after → IsBalanced (opening ∷ words)

-- the words are one group in these brackets
pub record IsGroup (bracket : Bracket) (words : List PlainWord) : Type 0 where
  pub opening : PlainWord
  pub inside : List PlainWord
  pub closing : PlainWord
  pub parts : words ≡ opening ∷ (inside ++ closing ∷ [])
  pub opened : opens bracket opening ≡ true
  pub balanced : IsBalanced inside
  pub closed : closes bracket closing ≡ true
