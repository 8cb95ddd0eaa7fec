-- The piece at the beginning of a text is found, and is the only one.
use Rattle.std.proofs.Common.{◌≡◌, ℕ, ◌<◌, List, [], ◌∷◌, ◌++◌, length, sym, ◌∙◌, ap, subst, arith, Bool}
use Rattle.std.proofs.lemmas.List.{append_cancel_right}
use Rattle.p10_lex.specs.declared.pieces.Piece.{Piece}
use Rattle.p10_lex.specs.Pieces.{IsPiece}
use Rattle.p10_lex.specs.private.Reading.{cut_at}
use Rattle.p10_lex.proofs.Found.{Found, found}
use Rattle.p10_lex.proofs.Again.{again, some_byte}

-- what is cut off is a piece
pub cut_takes : (after_include : Bool) (piece : Piece) (whole rest : List ℕ) → 0 < length whole → cut_at after_include whole ≡ (piece, rest)
    → (text : List ℕ) × (whole ≡ text ++ rest) × IsPiece after_include piece text rest
cut_takes after_include piece [] rest some e = absurd (omega arith)
cut_takes after_include piece (c ∷ t) rest some e = subst (Found after_include (c ∷ t)) e (found after_include c t)

-- a piece is cut off
pub cut_again : (after_include : Bool) (piece : Piece) (text rest : List ℕ) → IsPiece after_include piece text rest
    → cut_at after_include (text ++ rest) ≡ (piece, rest)
cut_again after_include piece text rest is = again after_include piece text rest is

-- a piece has a byte
pub piece_some : (after_include : Bool) (piece : Piece) (text rest : List ℕ) → IsPiece after_include piece text rest → 0 < length text
piece_some after_include piece text rest is = some_byte after_include piece text rest is

-- one piece stands at the beginning of a text
pub same_piece : (after_include : Bool) (piece other : Piece) (text more rest after : List ℕ) → IsPiece after_include piece text rest
    → IsPiece after_include other more after → text ++ rest ≡ more ++ after → (piece ≡ other) × (text ≡ more) × (rest ≡ after)
same_piece after_include piece other text more rest after is are e =
    let first = cut_again after_include piece text rest is in
    let second = cut_again after_include other more after are in
    let both : ◌≡◌ {A = Piece × List ℕ} (piece, rest) (other, after) = sym first ∙ ap (cut_at after_include) e ∙ second in
    let p : piece ≡ other = ap (λ (x : Piece × List ℕ). x.0) both in
    let r : rest ≡ after = ap (λ (x : Piece × List ℕ). x.1) both in
    (p, append_cancel_right text more rest (e ∙ ap (λ (x : List ℕ). more ++ x) (sym r)), r)
