-- Words without their places, as claims know them.
use Rattle.std.specs.Prelude.{◌≡◌, Bool, true, false, List, [], ◌∷◌, map, Some, slice_get}
use Rattle.std.specs.List.{All}
use Rattle.p10_base.specs.declared.word.Kind.{Kind}
use Rattle.p10_base.specs.declared.word.Kind.TheVariants.{Mark}
use Rattle.p10_base.specs.Words.{Text, PlainWord}

-- a word without its place: whether it is a mark, and its text
pub record BareWord : Type 0 where
  pub mark : Bool
  pub text : Text

-- whether a kind is that of marks
abbrev pub is_mark_kind : Kind → Bool
is_mark_kind Mark = true
is_mark_kind _ = false

-- a word without its place
abbrev pub bare_word : PlainWord → BareWord
bare_word word = record { mark = is_mark_kind word.kind; text = word.text }

-- words without their places
abbrev pub bare_words : List PlainWord → List BareWord
bare_words words = map bare_word words

-- a word as programs have them (C99 6.4): none has a line feed, and but for marks none begins with a number sign or with `@`
pub record IsProgramWord (word : PlainWord) : Type 0 where
  pub line : All (λ b. b ≡ 10 → ⊥) word.text
  pub sign : is_mark_kind word.kind ≡ false → slice_get word.text 0 ≡ Some 35 → ⊥
  pub body : is_mark_kind word.kind ≡ false → slice_get word.text 0 ≡ Some 64 → ⊥

-- words as programs have them
abbrev pub AreProgramWords : List PlainWord → Type 0
AreProgramWords [] = Unit {0}
AreProgramWords (w ∷ words) = IsProgramWord w × AreProgramWords words
