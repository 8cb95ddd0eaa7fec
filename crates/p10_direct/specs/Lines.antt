-- The lines of a file: directives, and the text between them (C99 6.10p1, p2).
use Rattle.std.specs.Prelude.{◌≡◌, List, [], ◌∷◌, ◌++◌, map, Bool, true, false, ◌&&◌, codes}
use Rattle.p10_direct.specs.declared.line.Line.{Line}
use Rattle.p10_direct.specs.declared.line.Line.TheVariants.{Text, Directive}
use Rattle.p10_base.specs.Words.{PlainWord, plain_word, is_punctuator}

-- a directive line, or a run of lines that are none
pub data Piece : Type 0 where
  DirectiveLine : List PlainWord → Piece
  TextRun : List PlainWord → Piece

-- a line of the code, whose words are borrowed, as a plain one
abbrev pub piece_of : Line → Piece
piece_of (Directive words) = DirectiveLine (map plain_word words.now)
piece_of (Text words) = TextRun (map plain_word words.now)

-- the words of a piece
abbrev pub words_of : Piece → List PlainWord
words_of (DirectiveLine words) = words
words_of (TextRun words) = words

-- whether a directive begins at a word after the first: it begins its line, and is `#`
abbrev pub begins_directive : PlainWord → Bool
begins_directive word = word.first && is_punctuator (codes "#") word

-- no word passes the test
abbrev pub NonePasses : (PlainWord → Bool) → List PlainWord → Type 0
NonePasses test [] = Unit {0}
NonePasses test (word ∷ words) = (test word ≡ false) × NonePasses test words

-- nothing follows, or a word that passes the test
abbrev pub FollowedBy : (PlainWord → Bool) → List PlainWord → Type 0
FollowedBy test [] = Unit {0}
FollowedBy test (word ∷ rest) = test word ≡ true

-- a piece where these words follow: a directive line begins with `#` and goes on to the next word that begins a line; a run of
-- text begins with another word and goes on to the next directive
abbrev pub IsPiece : Piece → List PlainWord → Type 0
IsPiece (DirectiveLine (word ∷ words)) rest = (is_punctuator (codes "#") word ≡ true) × NonePasses (λ other. other.first) words × FollowedBy (λ next. next.first) rest
IsPiece (TextRun (word ∷ words)) rest = (is_punctuator (codes "#") word ≡ false) × NonePasses begins_directive words × FollowedBy begins_directive rest
IsPiece _ rest = ⊥

-- the words of a file are these pieces, one after the other
abbrev pub AreCut : List PlainWord → List Piece → Type 0
AreCut words [] = words ≡ []
AreCut words (piece ∷ pieces) = (rest : List PlainWord) × (words ≡ words_of piece ++ rest) × IsPiece piece rest × AreCut rest pieces

-- words are cut in one way only
abbrev pub LinesAreUnique : Type 0
LinesAreUnique = (words : List PlainWord) (these those : List Piece) → AreCut words these → AreCut words those → these ≡ those
