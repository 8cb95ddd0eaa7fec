-- The pieces of which a line is written.
use Rattle.std.specs.Prelude.{ℕ, List, ◌++◌, codes, decimal}
use Rattle.std.specs.Fmt.{signed_decimal}
use Rattle.p10_base.specs.Hex.{hex_text}
use Rattle.p10_cert.specs.Lines.{flag_number}
use Rattle.p10_cert.specs.Sealed.{bytes_of}
use Rattle.p10_cert.specs.declared.pieces.Piece.{Piece}
use Rattle.p10_cert.specs.declared.pieces.Piece.TheVariants.{Bytes, Name, Number, Index, Flag, Signed, Digest}

-- the text of a piece
abbrev pub piece_text : Piece → List ℕ
piece_text (Bytes bytes) = bytes.now
piece_text (Name name) = name.now
piece_text (Number n) = decimal n
piece_text (Index n) = decimal n
piece_text (Flag b) = decimal (flag_number b)
piece_text (Signed z) = signed_decimal z.now
piece_text (Digest d) = hex_text (bytes_of d.now)

-- a line of a digest, after its first word
abbrev pub digest_text : List ℕ → List ℕ → List ℕ
digest_text word digest = word ++ (hex_text digest ++ codes "\n")
