-- Every file has words or one refusal, and which it is follows from the pieces up to the first row that holds.
use Rattle.std.proofs.Common.{◌≡◌, ℕ, zero, suc, ◌+◌, ◌≤◌, List, [], ◌∷◌, ◌++◌, length, refl, sym, ◌∙◌, ap, subst, arith, inl, inr, length-append}
use Rattle.std.specs.Prelude.{Option, Some, None}
use Rattle.p10_base.specs.declared.report.Refusal.{Refusal}
use Rattle.p10_lex.specs.declared.pieces.Piece.{Piece}
use Rattle.p10_lex.specs.declared.faults.Fault.{Fault}
use Rattle.p10_lex.specs.Pieces.{IsPiece, State, advance, beginning, is_include, word_before}
use Rattle.p10_lex.specs.Refusals.{refusal_at, Precedes}
use Rattle.p10_lex.specs.Lexes.{Lexes, Refuses, Begins}
use Rattle.p10_lex.specs.private.Reading.{cut_at, fault_at}
use Rattle.p10_lex.proofs.Cutting.{cut_takes, piece_some}
use Rattle.p10_lex.proofs.WordRows.{first_row, no_row}
use Rattle.p10_lex.proofs.FirstRefusal.{Gives, ends, stops, goes_on, cut_of, holds_of, answered}
use Rattle.p10_base.specs.Words.{PlainWord}
use Rattle.p10_base.specs.Codes.{word_number}

-- a file that isn't refused has its words
pub lexes_from : (file : ℕ) (bytes : List ℕ) (words : List PlainWord) → Gives file beginning bytes words None → Lexes file bytes words
lexes_from file bytes words gives =
    let (pieces, cuts, are) = cut_of None gives refl in record {
      pieces = pieces;
      cuts = cuts;
      are_words = are;
      none_holds = λ before refusal h.
          let a = answered None gives beginning refl h.before h.here.piece h.here.text h.rest h.number h.offset h.extent h.cuts h.is_piece h.row in
          let e = a.is in absurd (cc);
    }

-- a file that is refused has its refusal
pub refuses_from : (file : ℕ) (bytes : List ℕ) (words : List PlainWord) (refusal : Refusal) → Gives file beginning bytes words (Some refusal) → Refuses file bytes words refusal
refuses_from file bytes words refusal gives = record {
  holds = holds_of (Some refusal) refusal gives refl;
  first = λ before other h.
      let a = answered (Some refusal) gives beginning refl h.before h.here.piece h.here.text h.rest h.number h.offset h.extent h.cuts h.is_piece h.row in
      let same : a.refusal ≡ refusal = let e = a.is in cc in
      subst (λ (r : Refusal). Precedes r other) same
      (subst (λ (r : Refusal). Precedes a.refusal r) (sym h.refused) a.precedes);
}

-- what the bytes give is what they begin with
pub begins_from : (file : ℕ) (bytes : List ℕ) (words : List PlainWord) (end : Option Refusal) → Gives file beginning bytes words end → Begins file bytes words
begins_from file bytes words None gives = inl (lexes_from file bytes words gives)
begins_from file bytes words (Some refusal) gives = inr (refusal, refuses_from file bytes words refusal gives)

-- where the first piece has a row
pub stops_at : (file : ℕ) (s : State) (piece : Piece) (text rest whole : List ℕ) (fault : Fault) → whole ≡ text ++ rest → IsPiece (is_include s.line) piece text rest
    → fault_at s.tight piece text whole rest ≡ Some fault → Gives file s whole [] (Some (refusal_at file (word_number fault.code) (s.place + fault.offset) fault.extent))
stops_at file s piece text rest whole fault parts is e =
    stops s piece text rest whole (word_number fault.code) fault.offset fault.extent parts is
    (first_row (is_include s.line) s.tight piece text rest fault is (ap (λ (x : List ℕ). fault_at s.tight piece text x rest) (sym parts) ∙ e))

-- where the first piece has none
pub goes_on_at : (file : ℕ) (s : State) (piece : Piece) (text rest whole : List ℕ) (words : List PlainWord) (end : Option Refusal) → whole ≡ text ++ rest
    → IsPiece (is_include s.line) piece text rest → fault_at s.tight piece text whole rest ≡ None
    → Gives file (advance s piece text) rest words end → Gives file s whole (word_before file s.place s.line piece text words) end
goes_on_at file s piece text rest whole words end parts is e gives =
    goes_on s piece text rest whole words end parts is
    (no_row (is_include s.line) s.tight piece text rest is (ap (λ (x : List ℕ). fault_at s.tight piece text x rest) (sym parts) ∙ e)) gives

-- what the first piece gives, by its first row
given_by : (file : ℕ) (s : State) (piece : Piece) (text rest whole : List ℕ) → whole ≡ text ++ rest → IsPiece (is_include s.line) piece text rest
    → (found : Option Fault) → fault_at s.tight piece text whole rest ≡ found
    → ((words : List PlainWord) × (end : Option Refusal) × Gives file (advance s piece text) rest words end)
    → (words : List PlainWord) × (end : Option Refusal) × Gives file s whole words end
given_by file s piece text rest whole parts is (Some fault) e next = ([], Some (refusal_at file (word_number fault.code) (s.place + fault.offset) fault.extent), stops_at file s piece text rest whole fault parts is e)
given_by file s piece text rest whole parts is None e (words, end, gives) = (word_before file s.place s.line piece text words, end, goes_on_at file s piece text rest whole words end parts is e gives)

-- all bytes give words and an end
pub total : (most : ℕ) (file : ℕ) (s : State) (bytes : List ℕ) → length bytes ≤ most → (words : List PlainWord) × (end : Option Refusal) × Gives file s bytes words end
total most file s [] h = ([], None, ends s)
total zero file s (c ∷ t) h = absurd (omega arith)
total (suc most) file s (c ∷ t) h =
    let found = cut_at (is_include s.line) (c ∷ t) in
    let (text, parts, is) = cut_takes (is_include s.line) found.0 (c ∷ t) found.1 (omega arith) refl in
    let some = piece_some _ _ _ _ is in
    let shorter : length found.1 ≤ most = omega (arith, ap length parts, length-append text found.1) in
    given_by file s found.0 text found.1 (c ∷ t) parts is _ refl (total most file (advance s found.0 text) found.1 shorter)
