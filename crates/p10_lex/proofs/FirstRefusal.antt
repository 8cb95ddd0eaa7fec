-- The pieces of a file are found one after the other, up to its end or to the first row that holds.
use Rattle.std.proofs.Common.{◌≡◌, ℕ, ◌+◌, ◌<◌, ◌≤◌, List, [], ◌∷◌, ◌++◌, length, refl, sym, ◌∙◌, ap, subst, arith, Bool, ◌⊎◌, inl, inr, length-append}
use Rattle.std.specs.Prelude.{Option, Some, None}
use Rattle.p10_base.specs.declared.report.Refusal.{Refusal}
use Rattle.p10_lex.specs.declared.pieces.Piece.{Piece}
use Rattle.p10_lex.specs.Pieces.{IsPiece, Cut, State, advance, state_after, is_include, Cuts, word_before, words_of}
use Rattle.p10_lex.specs.Refusals.{Row, refusal_at, rank_of, Holds, Precedes}
use Rattle.p10_lex.proofs.Cutting.{same_piece, piece_some}
use Rattle.p10_lex.proofs.Rows.{IsFirstRow, row_within, row_extent, row_number, same_rank}
use Rattle.p10_base.specs.Words.{PlainWord}

-- From a state on, the bytes give these words, and then end or are refused.
pub data Gives (file : ℕ) : State → List ℕ → List PlainWord → Option Refusal → Type 0 where
  ends : (s : State) → Gives file s [] [] None
  stops : (s : State) (piece : Piece) (text rest whole : List ℕ) (n i e : ℕ) → whole ≡ text ++ rest
      → IsPiece (is_include s.line) piece text rest → IsFirstRow s.tight piece text rest n i e
      → Gives file s whole [] (Some (refusal_at file n (s.place + i) e))
  goes_on : (s : State) (piece : Piece) (text rest whole : List ℕ) (words : List PlainWord) (end : Option Refusal) → whole ≡ text ++ rest
      → IsPiece (is_include s.line) piece text rest → ((n i e : ℕ) → Row s.tight piece text rest n i e → ⊥)
      → Gives file (advance s piece text) rest words end → Gives file s whole (word_before file s.place s.line piece text words) end

-- places only grow
pub place_grows : (s : State) (before : List Cut) → s.place ≤ (state_after s before).place
place_grows s [] = omega arith
place_grows s (p ∷ ps) = let h : s.place + length p.text ≤ (state_after (advance s p.piece p.text) ps).place = place_grows (advance s p.piece p.text) ps in omega arith

-- the words of a file that isn't refused are those among its pieces
pub cut_of : {file : ℕ} {s : State} {bytes : List ℕ} {words : List PlainWord} (end : Option Refusal) → Gives file s bytes words end → end ≡ None
    → (pieces : List Cut) × Cuts s bytes pieces [] × (words ≡ words_of file s pieces)
cut_of {file} _ (ends s) e = ([], refl, refl)
cut_of {file} _ (stops s piece text rest whole n i x parts is first) e = absurd (cc)
cut_of {file} _ (goes_on s piece text rest whole words end parts is none reads) e =
    let (pieces, cuts, are) = cut_of end reads e in
    (record { piece = piece; text = text } ∷ pieces, (rest, parts, is, cuts), ap (word_before file s.place s.line piece text) are)

-- the refusal of a file holds
pub holds_of : {file : ℕ} {s : State} {bytes : List ℕ} {words : List PlainWord} (end : Option Refusal) (r : Refusal) → Gives file s bytes words end → end ≡ Some r
    → Holds file s bytes words r
holds_of {file} _ r (ends s) e = absurd (cc)
holds_of {file} _ r (stops s piece text rest whole n i x parts is first) e = record {
  before = [];
  here = record { piece = piece; text = text };
  rest = rest;
  cuts = parts;
  is_piece = is;
  words_before = refl;
  number = n;
  offset = i;
  extent = x;
  row = first.row;
  refused = cc;
}
holds_of {file} _ r (goes_on s piece text rest whole words end parts is none reads) e =
    let h = holds_of end r reads e in record {
      before = record { piece = piece; text = text } ∷ h.before;
      here = h.here;
      rest = h.rest;
      cuts = (rest, parts, is, h.cuts);
      is_piece = h.is_piece;
      words_before = ap (word_before file s.place s.line piece text) h.words_before;
      number = h.number;
      offset = h.offset;
      extent = h.extent;
      row = h.row;
      refused = h.refused;
    }

-- a row of one piece is a row of an equal one
row_at : {tight other : Bool} {piece more : Piece} {text rest texts rests : List ℕ} {n i e : ℕ} → tight ≡ other → piece ≡ more → text ≡ texts → rest ≡ rests
    → Row tight piece text rest n i e → Row other more texts rests n i e
row_at {tight} {other} {piece} {more} {text} {rest} {texts} {rests} {n} {i} {e} a b c d row =
    let one = subst (λ (x : Bool). Row x piece text rest n i e) a row in
    let two = subst (λ (x : Piece). Row other x text rest n i e) b one in
    let three = subst (λ (x : List ℕ). Row other more x rest n i e) c two in
    subst (λ (x : List ℕ). Row other more texts x n i e) d three

-- refusals with equal parts are equal
same_refusal : (file m n a b d e : ℕ) → m ≡ n → a ≡ b → d ≡ e → refusal_at file m a d ≡ refusal_at file n b e
same_refusal file m n a b d e p q r =
    ap (λ (x : ℕ). refusal_at file x a d) p ∙ (ap (λ (x : ℕ). refusal_at file n x d) q ∙ ap (λ (x : ℕ). refusal_at file n b x) r)

-- the order of two rows at one piece is that of their refusals
precedes_from : (file p q n i x m j d : ℕ) → p ≡ q → (i < j) ⊎ ((i ≡ j) × (rank_of n ≤ rank_of m)) → Precedes (refusal_at file n (p + i) x) (refusal_at file m (q + j) d)
precedes_from file p q n i x m j d e (inl h) = inl (omega arith)
precedes_from file p q n i x m j d e (inr (h, k)) = inr (omega arith, k)

-- a row that is answered before the first one is the first one
same_from : {tight : Bool} {piece : Piece} {text rest : List ℕ} (file p q n i x m j d : ℕ) → p ≡ q → Row tight piece text rest n i x → Row tight piece text rest m j d
    → (i < j) ⊎ ((i ≡ j) × (rank_of n ≤ rank_of m)) → Precedes (refusal_at file m (q + j) d) (refusal_at file n (p + i) x)
    → refusal_at file m (q + j) d ≡ refusal_at file n (p + i) x
same_from file p q n i x m j d e row other (inl h) (inl k) = absurd (omega arith)
same_from file p q n i x m j d e row other (inl h) (inr (k, l)) = absurd (omega arith)
same_from file p q n i x m j d e row other (inr (h, g)) (inl k) = absurd (omega arith)
same_from {tight} {piece} {text} {rest} file p q n i x m j d e row other (inr (h, g)) (inr (k, l)) =
    let (a, b) = row_number row in
    let (c, f) = row_number other in
    let ranks : rank_of m ≡ rank_of n = omega arith in
    let numbers : m ≡ n = same_rank m n c f a b ranks in
    let there = subst (λ (y : ℕ). Row tight piece text rest y j d) numbers other in
    let here = subst (λ (y : ℕ). Row tight piece text rest n y d) (sym h) there in
    same_refusal file m n (q + j) (p + i) d x numbers (omega arith) (row_extent here row)

-- The refusal that was found is answered before a row that holds, or is that row's.
pub record IsAnswered (file : ℕ) (words : List PlainWord) (end : Option Refusal) (before : List PlainWord) (other : Refusal) : Type 0 where
  pub refusal : Refusal
  pub is : end ≡ Some refusal
  pub precedes : Precedes refusal other
  pub only : Precedes other refusal → (other ≡ refusal) × (before ≡ words)

-- where a row holds, a refusal was found that is answered before it
pub answered : {file : ℕ} {s : State} {bytes : List ℕ} {words : List PlainWord} (end : Option Refusal) → Gives file s bytes words end
    → (t : State) → t ≡ s → (before : List Cut) (piece : Piece) (text rest : List ℕ) (n i e : ℕ) → Cuts t bytes before (text ++ rest)
    → IsPiece (is_include (state_after t before).line) piece text rest → Row (state_after t before).tight piece text rest n i e
    → IsAnswered file words end (words_of file t before) (refusal_at file n ((state_after t before).place + i) e)
answered {file} _ (ends s) t same [] piece text rest n i e cuts is row =
    absurd (omega (arith, length-append text rest, ap length cuts, piece_some _ _ _ _ is))
answered {file} _ (ends s) t same (p ∷ ps) piece text rest n i e (after, parts, first, cuts) is row =
    absurd (omega (arith, length-append p.text after, ap length parts, piece_some _ _ _ _ first))
answered {file} _ (stops s there this that whole m j x parts is' found) t same [] piece text rest n i e cuts is row =
    let is_here = subst (λ (y : State). IsPiece (is_include y.line) piece text rest) same is in
    let (p, q, r) = same_piece _ there piece this text that rest is' is_here (sym parts ∙ cuts) in
    let row_here = row_at (ap (λ (y : State). y.tight) same) (sym p) (sym q) (sym r) row in
    let places : s.place ≡ t.place = ap (λ (y : State). y.place) (sym same) in
    let order = found.first n i e row_here in record {
      refusal = refusal_at file m (s.place + j) x;
      is = refl;
      precedes = precedes_from file s.place t.place m j x n i e places order;
      only = λ back. (same_from file s.place t.place m j x n i e places found.row row_here order back, refl);
    }
answered {file} _ (stops s there this that whole m j x parts is' found) t same (p ∷ ps) piece text rest n i e (after, parts', first, cuts) is row =
    let first_here = subst (λ (y : State). IsPiece (is_include y.line) p.piece p.text after) same first in
    let (a, b, c) = same_piece _ there p.piece this p.text that after is' first_here (sym parts ∙ parts') in
    let places : s.place ≡ t.place = ap (λ (y : State). y.place) (sym same) in
    let within : j < length this = row_within found.row (piece_some _ _ _ _ is') in
    let grows = place_grows (advance t p.piece p.text) ps in
    let lengths : length this ≡ length p.text = ap length b in
    let before : s.place + j < (state_after (advance t p.piece p.text) ps).place + i = omega arith in record {
      refusal = refusal_at file m (s.place + j) x;
      is = refl;
      precedes = inl before;
      only = λ back. absurd (elim back [ inl h ↦ omega arith | inr (h, k) ↦ omega arith ]);
    }
answered {file} end (goes_on s there this that whole words _ parts is' none gives) t same [] piece text rest n i e cuts is row =
    let is_here = subst (λ (y : State). IsPiece (is_include y.line) piece text rest) same is in
    let (p, q, r) = same_piece _ there piece this text that rest is' is_here (sym parts ∙ cuts) in
    absurd (none n i e (row_at (ap (λ (y : State). y.tight) same) (sym p) (sym q) (sym r) row))
answered {file} end (goes_on s there this that whole words _ parts is' none gives) t same (p ∷ ps) piece text rest n i e (after, parts', first, cuts) is row =
    let first_here = subst (λ (y : State). IsPiece (is_include y.line) p.piece p.text after) same first in
    let (a, b, c) = same_piece _ there p.piece this p.text that after is' first_here (sym parts ∙ parts') in
    let next : advance t p.piece p.text ≡ advance s there this =
    ap (λ (y : State). advance y p.piece p.text) same
    ∙ (ap (λ (y : Piece). advance s y p.text) (sym a) ∙ ap (λ (y : List ℕ). advance s there y) (sym b)) in
    let cuts_here = subst (λ (y : List ℕ). Cuts (advance t p.piece p.text) y ps (text ++ rest)) (sym c) cuts in
    let found = answered end gives (advance t p.piece p.text) next ps piece text rest n i e cuts_here is row in record {
      refusal = found.refusal;
      is = found.is;
      precedes = found.precedes;
      only = λ back.
          let (x, y) = found.only back in (
            x,
            ap (λ (z : State). word_before file z.place z.line p.piece p.text (words_of file (advance t p.piece p.text) ps)) same
                ∙ (ap (λ (z : Piece). word_before file s.place s.line z p.text (words_of file (advance t p.piece p.text) ps)) (sym a)
                ∙ (ap (λ (z : List ℕ). word_before file s.place s.line there z (words_of file (advance t p.piece p.text) ps)) (sym b)
                ∙ ap (word_before file s.place s.line there this) y)),
          );
    }
