-- Words as definitions speak of them: without where their texts lie in memory.
use Rattle.std.specs.Prelude.{ℕ, Bool, true, false, ◌&&◌, List, map, bytes_eq, slice_range}
use Rattle.p10_base.specs.declared.span.Span.{Span}
use Rattle.p10_base.specs.declared.word.Kind.{Kind}
use Rattle.p10_base.specs.declared.word.Kind.TheVariants.{Name, Punct}
use Rattle.p10_base.specs.declared.word.Word.{Word}
use Rattle.p10_base.specs.declared.word.WordPlace.{WordPlace}

-- a text: its bytes in order
abbrev pub Text : Type 0
Text = List ℕ

-- a word of a program (C99 6.4): its kind, its spelling, its place, and whether no word stands before it on its line
pub record PlainWord : Type 0 where
  pub kind : Kind
  pub text : Text
  pub at : Span
  pub first : Bool

-- what a word of the code is
abbrev pub plain_word : Word → PlainWord
plain_word word = record { kind = word.kind; text = word.text.now; at = word.at; first = word.first }

-- what words of the code are
abbrev pub plain_words : List Word → List PlainWord
plain_words words = map plain_word words

-- the spellings of words
abbrev pub spellings_of : List PlainWord → List Text
spellings_of words = map (λ word. word.text) words

-- whether a kind is that of names (C99 6.4.2)
abbrev pub is_name_kind : Kind → Bool
is_name_kind Name = true
is_name_kind _ = false

-- whether a kind is that of punctuators (C99 6.4.6)
abbrev pub is_punctuator_kind : Kind → Bool
is_punctuator_kind Punct = true
is_punctuator_kind _ = false

-- whether a word is the name with this spelling
abbrev pub is_name : Text → PlainWord → Bool
is_name text word = is_name_kind word.kind && bytes_eq word.text text

-- whether a word is the punctuator with this spelling
abbrev pub is_punctuator : Text → PlainWord → Bool
is_punctuator text word = is_punctuator_kind word.kind && bytes_eq word.text text

-- a run of bytes of a file
abbrev pub span_of : ℕ → ℕ → ℕ → Span
span_of file start end = record { file = file; start = start; end = end }

-- the run from the first byte of one run to the end of another in the same file
abbrev pub span_to : Span → Span → Span
span_to first last = span_of first.file first.start last.end

-- a word without its text
abbrev pub place_of_word : PlainWord → WordPlace
place_of_word word = record { kind = word.kind; start = word.at.start; end = word.at.end; first = word.first }

-- the word at a place in the file with this number and text
abbrev pub word_at : ℕ → Text → WordPlace → PlainWord
word_at file text place = record { kind = place.kind; text = slice_range text place.start place.end; at = span_of file place.start place.end; first = place.first }

-- the words at places in the file with this number and text
abbrev pub words_at : ℕ → Text → List WordPlace → List PlainWord
words_at file text places = map (word_at file text) places
