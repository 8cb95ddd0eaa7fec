-- Reading functions: the piece at the beginning of a text, and its first refusal.
use Rattle.std.specs.Prelude.{is_some, ℕ, zero, suc, ◌==◌, ◌+◌, nat_lt, Bool, false, ◌&&◌, if◌then◌else◌, List, [], ◌∷◌, length, drop, codes, bytes_eq, Option, Some, None}
use Rattle.p10_base.specs.declared.word.Kind.{Kind}
use Rattle.p10_base.specs.declared.word.Kind.TheVariants.{Name, Number, Char, Str, Punct, Mark}
use Rattle.p10_lex.specs.declared.pieces.Piece.{Piece}
use Rattle.p10_lex.specs.declared.pieces.Piece.TheVariants.{Blank, Splices, Comment, OpenComment, OpenLiteral, Stray, Lexeme}
use Rattle.p10_lex.specs.declared.faults.Fault.{Fault}
use Rattle.p10_lex.specs.Bytes.{is_blank, is_nondigit, is_name_byte, is_quote}
use Rattle.p10_lex.specs.Splices.{splice_length}
use Rattle.p10_lex.specs.Lexemes.{begins_number}
use Rattle.p10_lex.specs.Characters.{begins_with}
use Rattle.p10_lex.specs.Pieces.{begins_byte}
use Rattle.p10_lex.specs.Refusals.{begins_trigraph, is_tight}
use Rattle.p10_lex.specs.private.Runs.{after_run, after_number, after_line, after_comment, after_literal, after_header, after_splices, punctuator_length}
use Rattle.p10_lex.specs.Integers.{integer_constant}
use Rattle.p10_lex.specs.private.Scanning.{is_literal_constant}
use Rattle.p10_base.specs.declared.codes.WordCode.{WordCode}
use Rattle.p10_base.specs.declared.codes.WordCode.TheVariants.{BadByte, CommentWithoutEnd, LiteralWithoutEnd, BadConstant, Trigraph, SpliceInWord}

-- the kind of a literal with this quote
unfoldable pub kind_of_quote : ℕ → Kind
kind_of_quote quote = if quote == 39 then Char else Str

-- what is left after a literal, or after its line where it has no end
unfoldable pub literal_at : ℕ → List ℕ → Piece × List ℕ
literal_at quote body = elim (after_literal quote 0 false body) [ Some rest ↦ (Lexeme (kind_of_quote quote), rest) | None ↦ (OpenLiteral, after_line 0 quote body) ]

-- what is left after a comment that begins with `/*`, or at the file's end where it has no end
unfoldable pub comment_at : List ℕ → Piece × List ℕ
comment_at body = elim (after_comment body) [ Some rest ↦ (Comment, rest) | None ↦ (OpenComment, []) ]

-- a punctuator, or a byte that begins nothing
unfoldable pub punctuator_at : List ℕ → Piece × List ℕ
punctuator_at text = if nat_lt 0 (punctuator_length text) then (Lexeme Punct, drop (punctuator_length text) text) else (Stray, drop 1 text)

-- an include name, or else a punctuator
unfoldable pub header_at : List ℕ → Piece × List ℕ
header_at [] = punctuator_at []
header_at (c ∷ name) = elim (after_header name) [ Some rest ↦ (Lexeme Str, rest) | None ↦ punctuator_at (c ∷ name) ]

-- the piece at the beginning of a text, and what is left after it
unfoldable pub cut_at : Bool → List ℕ → Piece × List ℕ
cut_at after_include [] = (Stray, [])
cut_at after_include (c ∷ rest) =
    if is_blank c then (Blank, rest)
    else (if is_nondigit c then (Lexeme Name, after_run is_name_byte rest)
    else (if begins_number (c ∷ rest) then (Lexeme Number, after_number c rest)
    else (if is_quote c then literal_at c rest
    else (if (c == 47) && begins_byte 47 rest then (Comment, after_line 0 0 (c ∷ rest))
    else (if (c == 47) && begins_byte 42 rest then comment_at (drop 1 rest)
    else (if nat_lt 0 (splice_length (c ∷ rest)) then (Splices, after_splices 0 (c ∷ rest))
    else (if after_include && (c == 60) then header_at (c ∷ rest)
    else punctuator_at (c ∷ rest))))))))

-- a row, how far from the piece it holds, and over how many bytes
abbrev pub fault_of : WordCode → ℕ → ℕ → Fault
fault_of code offset extent = record { code = code; offset = offset; extent = extent }

-- the first splice or trigraph at the first `count` places of a text, which stands `offset` bytes after the piece's beginning
unfoldable pub mark_at : ℕ → ℕ → List ℕ → Option Fault
mark_at offset zero text = None
mark_at offset (suc count) [] = None
mark_at offset (suc count) (c ∷ rest) =
    if nat_lt 0 (splice_length (c ∷ rest)) then Some (fault_of SpliceInWord offset 1)
    else (if begins_trigraph (c ∷ rest) then Some (fault_of Trigraph offset 3) else mark_at (offset + 1) count rest)

-- the first row that holds at a literal or an include name; `whole` is its text with what follows
unfoldable pub literal_fault : List ℕ → List ℕ → Option Fault
literal_fault text whole = if is_literal_constant text then mark_at 0 (length text) whole else Some (fault_of BadConstant 0 (length text))

-- the first row that holds at a word
unfoldable pub word_fault : Kind → List ℕ → List ℕ → List ℕ → Option Fault
word_fault Name text whole rest = if bytes_eq text (codes "L") && begins_with is_quote rest then Some (fault_of BadConstant 0 1) else None
word_fault Number text whole rest = if is_some (integer_constant text) then None else Some (fault_of BadConstant 0 (length text))
word_fault Char text whole rest = literal_fault text whole
word_fault Str text whole rest = literal_fault text whole
word_fault Punct text whole rest = if begins_trigraph whole then Some (fault_of Trigraph 0 3) else None
word_fault Mark text whole rest = None

-- the first row that holds at a piece; `whole` is its text with what follows, and `rest` what follows
unfoldable pub fault_at : Bool → Piece → List ℕ → List ℕ → List ℕ → Option Fault
fault_at tight Blank text whole rest = None
fault_at tight Comment text whole rest = None
fault_at tight Splices text whole rest = if tight && is_tight rest then Some (fault_of SpliceInWord 0 1) else None
fault_at tight OpenComment text whole rest = Some (fault_of CommentWithoutEnd 0 2)
fault_at tight OpenLiteral text whole rest = Some (fault_of LiteralWithoutEnd 0 1)
fault_at tight Stray text whole rest = Some (fault_of BadByte 0 1)
fault_at tight (Lexeme kind) text whole rest = word_fault kind text whole rest
