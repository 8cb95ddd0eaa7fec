-- Where exactly each row of X1 to X6 holds.
use Rattle.std.specs.Prelude.{ℕ, ◌≡◌, ◌==◌, ◌+◌, ◌<◌, ◌≤◌, Bool, true, false, ◌&&◌, ◌||◌, not, if◌then◌else◌, ◌⊎◌, List, [], ◌∷◌, ◌++◌, length, drop, codes}
use Rattle.std.specs.List.{list_any}
use Rattle.p10_base.specs.declared.word.Kind.{Kind}
use Rattle.p10_base.specs.declared.word.Kind.TheVariants.{Name, Char, Str}
use Rattle.p10_base.specs.declared.report.Family.TheVariants.{X}
use Rattle.p10_base.specs.declared.report.Refusal.{Refusal}
use Rattle.p10_lex.specs.declared.pieces.Piece.{Piece}
use Rattle.p10_lex.specs.declared.pieces.Piece.TheVariants.{Splices, Comment, OpenComment, OpenLiteral, Stray, Lexeme}
use Rattle.p10_lex.specs.Bytes.{is_blank, is_quote}
use Rattle.p10_lex.specs.Splices.{splice_length}
use Rattle.p10_lex.specs.Characters.{begins_with}
use Rattle.p10_lex.specs.Constants.{IsConstant}
use Rattle.p10_lex.specs.Pieces.{begins_comment, IsPiece, Cut, State, state_after, is_include, Cuts, words_of}
use Rattle.p10_base.specs.Words.{PlainWord, span_of}
use Rattle.p10_base.specs.Codes.{word_number}
use Rattle.p10_base.specs.declared.codes.WordCode.TheVariants.{BadByte, CommentWithoutEnd, LiteralWithoutEnd, BadConstant, Trigraph, SpliceInWord}

-- the bytes that end a trigraph
unfoldable pub ends_trigraph : ℕ → Bool
ends_trigraph c = list_any (λ d. c == d) (codes "=/'()!<>-")

-- whether a trigraph stands at the beginning of a text: `??` and one of nine bytes (C99 5.2.1.1)
unfoldable pub begins_trigraph : List ℕ → Bool
begins_trigraph (a ∷ b ∷ c ∷ rest) = (a == 63) && ((b == 63) && ends_trigraph c)
begins_trigraph _ = false

-- whether what stands here is neither white space nor the file's end
unfoldable pub is_tight : List ℕ → Bool
is_tight [] = false
is_tight (c ∷ rest) = not (is_blank c || begins_comment (c ∷ rest))

-- whether a piece is a literal, with its closing quote or without
unfoldable pub is_literal : Piece → Bool
is_literal (Lexeme Char) = true
is_literal (Lexeme Str) = true
is_literal OpenLiteral = true
is_literal _ = false

-- whether a piece is a comment, with its end or without
unfoldable pub is_comment : Piece → Bool
is_comment Comment = true
is_comment OpenComment = true
is_comment _ = false

-- A row of X1 to X6 holds at a piece: its number, how far from the piece's beginning, and over how many
-- bytes. `tight` says that what stands nearest before the piece is neither white space nor the file's beginning.
pub data Row (tight : Bool) (piece : Piece) (text rest : List ℕ) : ℕ → ℕ → ℕ → Type 0 where
  bad_byte : piece ≡ Stray → Row tight piece text rest (word_number BadByte) 0 1
  comment_without_end : piece ≡ OpenComment → Row tight piece text rest (word_number CommentWithoutEnd) 0 2
  literal_without_end : piece ≡ OpenLiteral → Row tight piece text rest (word_number LiteralWithoutEnd) 0 1
  bad_constant : (kind : Kind) → piece ≡ Lexeme kind → (IsConstant kind text → ⊥) → Row tight piece text rest (word_number BadConstant) 0 (length text)
  wide_literal : piece ≡ Lexeme Name → text ≡ codes "L" → begins_with is_quote rest ≡ true → Row tight piece text rest (word_number BadConstant) 0 1
  trigraph : (i : ℕ) → is_comment piece ≡ false → i < length text → begins_trigraph (drop i (text ++ rest)) ≡ true → Row tight piece text rest (word_number Trigraph) i 3
  splice_between : (i : ℕ) → piece ≡ Splices → tight ≡ true → is_tight rest ≡ true → i < length text
      → 0 < splice_length (drop i (text ++ rest)) → Row tight piece text rest (word_number SpliceInWord) i 1
  splice_in_literal : (i : ℕ) → is_literal piece ≡ true → i < length text → 0 < splice_length (drop i (text ++ rest)) → Row tight piece text rest (word_number SpliceInWord) i 1

-- the refusal of a row that holds at a place
abbrev pub refusal_at : ℕ → ℕ → ℕ → ℕ → Refusal
refusal_at file number start length = record { family = X; number = number; span = span_of file start (start + length) }

-- A row holds at a piece of a file, from a state on, and these words stand before that piece.
pub record Holds (file : ℕ) (s : State) (bytes : List ℕ) (words : List PlainWord) (refusal : Refusal) : Type 0 where
  pub before : List Cut
  pub here : Cut
  pub rest : List ℕ
  pub cuts : Cuts s bytes before (here.text ++ rest)
  pub is_piece : IsPiece (is_include (state_after s before).line) here.piece here.text rest
  pub words_before : words ≡ words_of file s before
  pub number : ℕ
  pub offset : ℕ
  pub extent : ℕ
  pub row : Row (state_after s before).tight here.piece here.text rest number offset extent
  pub refused : refusal ≡ refusal_at file number ((state_after s before).place + offset) extent

-- at one place X5 and X6 are answered before the others, and else the lower number
unfoldable pub rank_of : ℕ → ℕ
rank_of number = if number == word_number Trigraph then 0 else (if number == word_number SpliceInWord then 1 else number + 1)

-- The first refusal is answered before the second: it stands at an earlier place, or at the same one with a rank as low.
abbrev pub Precedes : Refusal → Refusal → Type 0
Precedes a b = (a.span.start < b.span.start) ⊎ ((a.span.start ≡ b.span.start) × (rank_of a.number ≤ rank_of b.number))
