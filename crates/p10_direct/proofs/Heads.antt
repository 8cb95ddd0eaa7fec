-- The first word of each directive line that a file is cut into, for callers that read the lines.
use Rattle.std.proofs.Common.{ℕ, ◌<◌, zero, suc, List, [], ◌∷◌, length, map, get_or, arith}
use Rattle.p10_base.specs.Words.{PlainWord, plain_word}
use Rattle.p10_direct.specs.declared.line.Line.{Line}
use Rattle.p10_direct.specs.declared.line.Line.TheVariants.{Text, Directive}
use Rattle.p10_direct.specs.Form.{BeginsWithHash}
use Rattle.p10_direct.specs.Lines.{piece_of, DirectiveLine, IsPiece, AreCut}

-- a directive line begins with `#`, and so can be read
abbrev pub CanBeRead : Line → Type 0
CanBeRead (Directive words) = BeginsWithHash (map plain_word words.now)
CanBeRead (Text words) = Unit {0}

piece_hash : (words rest : List PlainWord) → IsPiece (DirectiveLine words) rest → BeginsWithHash words
piece_hash (hash ∷ words) rest (is, alone, ends) = is
piece_hash [] rest piece = piece

line_hash : (line : Line) (rest : List PlainWord) → IsPiece (piece_of line) rest → CanBeRead line
line_hash (Directive words) rest piece = piece_hash (map plain_word words.now) rest piece
line_hash (Text words) rest piece = tt

pub cut_hash : (words : List PlainWord) (lines : List Line) (place : ℕ) (d : Line) → AreCut words (map piece_of lines) → place < length lines → CanBeRead (get_or lines place d)
cut_hash words [] place d cut inside = absurd (omega (arith, inside))
cut_hash words (line ∷ lines) zero d (rest, parts, fits, more) inside = line_hash line rest fits
cut_hash words (line ∷ lines) (suc place) d (rest, parts, fits, more) inside = cut_hash rest lines place d more (omega (arith, inside))
