-- The pieces that a file is cut into: words, comments, splices and white space, and what begins none of these.
use Rattle.std.specs.Prelude.{ℕ, ◌≡◌, ◌==◌, ◌+◌, Bool, true, false, ◌&&◌, ◌||◌, if◌then◌else◌, ◌⊎◌, List, [], ◌∷◌, ◌++◌, length, codes, bytes_eq}
use Rattle.p10_base.specs.declared.word.Kind.{Kind}
use Rattle.p10_lex.specs.declared.pieces.Piece.{Piece}
use Rattle.p10_lex.specs.declared.pieces.Piece.TheVariants.{Blank, Splices, Comment, OpenComment, OpenLiteral, Stray, Lexeme}
use Rattle.p10_lex.specs.declared.pieces.Line.{Line}
use Rattle.p10_lex.specs.declared.pieces.Line.TheVariants.{Start, Hash, Include, Other}
use Rattle.p10_lex.specs.Bytes.{is_blank, is_quote}
use Rattle.p10_lex.specs.Splices.{joined, splice_length, AreSplices, ReachesLineEnd}
use Rattle.p10_lex.specs.Lexemes.{is_quotable, IsLexeme, IsLongest}
use Rattle.p10_base.specs.Words.{PlainWord, span_of}

-- whether `/*` or `//` stands at the beginning of a text
unfoldable pub begins_comment : List ℕ → Bool
begins_comment (a ∷ b ∷ rest) = (a == 47) && ((b == 42) || (b == 47))
begins_comment _ = false

-- whether a text begins with this byte
unfoldable pub begins_byte : ℕ → List ℕ → Bool
begins_byte c [] = false
begins_byte c (d ∷ rest) = d == c

-- whether `*/` stands in a text
unfoldable pub has_comment_end : List ℕ → Bool
has_comment_end [] = false
has_comment_end (c ∷ rest) = ((c == 42) && begins_byte 47 rest) || has_comment_end rest

-- `//` and what follows up to the end of its line (C99 6.4.9)
pub record IsLineComment (text rest : List ℕ) : Type 0 where
  pub inside : List ℕ
  pub parts : text ≡ 47 ∷ (47 ∷ inside)
  pub line : ReachesLineEnd text rest

-- `/*` and what follows up to the first `*/` (C99 6.4.9)
pub record IsBlockComment (text : List ℕ) : Type 0 where
  pub inside : List ℕ
  pub parts : text ≡ 47 ∷ (42 ∷ (inside ++ 42 ∷ (47 ∷ [])))
  pub first : has_comment_end inside ≡ false

-- `/*` and the rest of the file, which has no `*/`
pub record IsOpenComment (text rest : List ℕ) : Type 0 where
  pub inside : List ℕ
  pub parts : text ≡ 47 ∷ (42 ∷ inside)
  pub open_end : has_comment_end inside ≡ false
  pub last : rest ≡ []

-- a quote and the rest of its line, where no closing quote stands on that line
pub record IsOpenLiteral (text rest : List ℕ) : Type 0 where
  pub quote : ℕ
  pub body : List ℕ
  pub quoted : is_quote quote ≡ true
  pub parts : text ≡ quote ∷ body
  pub line : ReachesLineEnd text rest
  pub unclosed : (inside after : List ℕ) → body ++ rest ≡ inside ++ quote ∷ after → is_quotable quote false (joined inside) ≡ true → ⊥

-- a byte that begins nothing else
pub record IsStray (after_include : Bool) (text rest : List ℕ) : Type 0 where
  pub byte : ℕ
  pub parts : text ≡ byte ∷ []
  pub not_blank : is_blank byte ≡ false
  pub not_quote : is_quote byte ≡ false
  pub not_splice : splice_length (byte ∷ rest) ≡ 0
  pub no_word : (kind : Kind) (word after : List ℕ) → byte ∷ rest ≡ word ++ after → IsLexeme after_include kind word → ⊥

-- What a piece is, where `rest` stands after its text. A word is the longest lexeme where no comment begins.
-- `after_include` says that its line begins with `#` and `include` and has no other word yet.
abbrev pub IsPiece : Bool → Piece → List ℕ → List ℕ → Type 0
IsPiece after_include Blank text rest = (c : ℕ) × (text ≡ c ∷ []) × (is_blank c ≡ true)
IsPiece after_include Splices text rest = AreSplices text × (splice_length rest ≡ 0)
IsPiece after_include Comment text rest = IsLineComment text rest ⊎ IsBlockComment text
IsPiece after_include OpenComment text rest = IsOpenComment text rest
IsPiece after_include OpenLiteral text rest = IsOpenLiteral text rest
IsPiece after_include Stray text rest = IsStray after_include text rest
IsPiece after_include (Lexeme kind) text rest = IsLongest after_include kind text rest × (begins_comment (text ++ rest) ≡ false)

-- a piece with its text
pub record Cut : Type 0 where
  pub piece : Piece
  pub text : List ℕ

-- what a line's words are once this one joins them
unfoldable pub line_with : Line → List ℕ → Line
line_with Start word = if bytes_eq word (codes "#") then Hash else Other
line_with Hash word = if bytes_eq word (codes "include") then Include else Other
line_with Include word = Other
line_with Other word = Other

-- what the line's words are after a piece: an LF that stands in no other piece ends a line
unfoldable pub line_after : Line → Piece → List ℕ → Line
line_after line Blank text = if bytes_eq text (10 ∷ []) then Start else line
line_after line (Lexeme kind) text = line_with line text
line_after line _ text = line

-- whether what stands nearest before, splices passed over, is neither white space nor the file's beginning
unfoldable pub tight_after : Bool → Piece → Bool
tight_after tight Blank = false
tight_after tight Comment = false
tight_after tight Splices = tight
tight_after tight _ = true

-- whether a line begins with `#` and `include` and has no other word
unfoldable pub is_include : Line → Bool
is_include Include = true
is_include _ = false

-- whether a line has no word
unfoldable pub is_start : Line → Bool
is_start Start = true
is_start _ = false

-- Where a piece stands: its place in the file, the words before it on its line, and whether what stands
-- nearest before it, splices passed over, is neither white space nor the file's beginning.
pub record State : Type 0 where
  pub place : ℕ
  pub line : Line
  pub tight : Bool

-- the beginning of a file
abbrev pub beginning : State
beginning = record { place = 0; line = Start; tight = false }

-- where the next piece stands
abbrev pub advance : State → Piece → List ℕ → State
advance s piece text = record { place = s.place + length text; line = line_after s.line piece text; tight = tight_after s.tight piece }

-- where the piece after these stands
abbrev pub state_after : State → List Cut → State
state_after s [] = s
state_after s (p ∷ ps) = state_after (advance s p.piece p.text) ps

-- The bytes are the pieces, one after the other, and the rest.
abbrev pub Cuts : State → List ℕ → List Cut → List ℕ → Type 0
Cuts s bytes [] rest = bytes ≡ rest
Cuts s bytes (p ∷ ps) rest =
    (after : List ℕ) × (bytes ≡ p.text ++ after) × IsPiece (is_include s.line) p.piece p.text after
    × Cuts (advance s p.piece p.text) after ps rest

-- a piece that is a word, before other words: it is the first of its line where no word stands before it there
unfoldable pub word_before : ℕ → ℕ → Line → Piece → List ℕ → List PlainWord → List PlainWord
word_before file place line (Lexeme kind) text words =
    record { kind = kind; text = text; at = span_of file place (place + length text); first = is_start line } ∷ words
word_before file place line _ text words = words

-- the words among the pieces
abbrev pub words_of : ℕ → State → List Cut → List PlainWord
words_of file s [] = []
words_of file s (p ∷ ps) = word_before file s.place s.line p.piece p.text (words_of file (advance s p.piece p.text) ps)
