-- One turn of the loop over pieces.
use Rattle.std.proofs.Common.{◌≡◌, ℕ, zero, suc, ◌+◌, ◌<◌, ◌≤◌, List, [], ◌∷◌, ◌++◌, length, refl, sym, ◌∙◌, ap, subst, arith, Bool, true, false, inr, append_assoc, length-append}
use Rattle.std.specs.Prelude.{◌==◌, Option, Some, None, Ok, Err}
use Rattle.std.proofs.lemmas.Bool.Decides.{nat_tests}
use Rattle.std.proofs.lemmas.List.{append-nil}
use Rattle.p10_base.specs.declared.report.Refusal.{Refusal}
use Rattle.p10_lex.specs.declared.pieces.Piece.{Piece}
use Rattle.p10_lex.specs.declared.pieces.Piece.TheVariants.{Blank, Splices, Comment, OpenComment, OpenLiteral, Stray, Lexeme}
use Rattle.p10_lex.specs.declared.pieces.Line.{Line}
use Rattle.p10_lex.specs.declared.faults.Fault.{Fault}
use Rattle.p10_lex.specs.declared.fault.LexFault.{LexFault}
use Rattle.p10_lex.specs.declared.fault.LexFault.TheVariants.{Refused, Over, Memory}
use Rattle.p10_lex.specs.Bytes.{is_blank}
use Rattle.p10_lex.specs.Pieces.{IsPiece, State, advance, beginning, is_include, line_after, tight_after, word_before}
use Rattle.p10_lex.specs.Refusals.{refusal_at}
use Rattle.p10_lex.specs.Lexes.{Answers}
use Rattle.p10_lex.specs.private.Adding.{IsTooMany}
use Rattle.p10_lex.specs.private.Reading.{cut_at, fault_at}
use Rattle.p10_lex.specs.private.Runs.{front_of}
use Rattle.p10_lex.proofs.Fronts.{front_is}
use Rattle.p10_lex.proofs.Cutting.{cut_takes, piece_some}
use Rattle.p10_lex.proofs.FirstRefusal.{Gives, ends}
use Rattle.p10_lex.proofs.Answering.{lexes_from, refuses_from, begins_from, stops_at, goes_on_at, total}
use Rattle.p10_base.specs.Words.{PlainWord}
use Rattle.p10_base.specs.Codes.{word_number}
use Rattle.p10_base.specs.declared.report.TheConstants.Limit.{MOST_FILE_BYTES, MOST_FILE_WORDS}

-- the piece that was cut off
pub record IsFront (after_include : Bool) (piece : Piece) (whole rest : List ℕ) : Type 0 where
  pub parts : whole ≡ front_of whole rest ++ rest
  pub is : IsPiece after_include piece (front_of whole rest) rest
  pub shorter : length (front_of whole rest) + length rest ≡ length whole
  pub some : length rest < length whole

-- what is cut off is such a piece
pub front_at : (after_include : Bool) (piece : Piece) (whole rest : List ℕ) → 0 < length whole → (piece, rest) ≡ cut_at after_include whole
    → IsFront after_include piece whole rest
front_at after_include piece whole rest some e =
    let (text, parts, is) = cut_takes after_include piece whole rest some (sym e) in
    let front = sym (front_is text rest whole parts) in
    let there = piece_some after_include piece text rest is in
    let lengths : length whole ≡ length text + length rest = ap length parts ∙ length-append text rest in
    let same : length text ≡ length (front_of whole rest) = ap length front in record {
      parts = parts ∙ ap (λ (x : List ℕ). x ++ rest) front;
      is = subst (λ (x : List ℕ). IsPiece after_include piece x rest) front is;
      shorter = omega arith;
      some = omega arith;
    }

-- a word before others is that word and then the others
word_joins : (file place : ℕ) (line : Line) (piece : Piece) (text : List ℕ) (words : List PlainWord)
    → word_before file place line piece text words ≡ word_before file place line piece text [] ++ words
unfolding word_before
word_joins file place line Blank text words = refl
word_joins file place line Splices text words = refl
word_joins file place line Comment text words = refl
word_joins file place line OpenComment text words = refl
word_joins file place line OpenLiteral text words = refl
word_joins file place line Stray text words = refl
word_joins file place line (Lexeme kind) text words = refl

-- a space leaves the words of its line as they are
after_space : (s : State) → advance s Blank (32 ∷ []) ≡ (record { place = s.place + 1; line = s.line; tight = false })
unfolding line_after tight_after
after_space s = refl

-- What the bytes give is `so`, and then what the rest gives.
abbrev pub Continues : ℕ → List ℕ → List PlainWord → State → List ℕ → Type 0
Continues file bytes so s rest = (words : List PlainWord) (end : Option Refusal) → Gives file s rest words end → Gives file beginning bytes (so ++ words) end

-- a turn that goes on
pub next_turn : (file : ℕ) (bytes : List ℕ) (so now : List PlainWord) (s next : State) (piece : Piece) (whole rest : List ℕ)
    → Continues file bytes so s whole → IsFront (is_include s.line) piece whole rest
    → fault_at s.tight piece (front_of whole rest) whole rest ≡ None
    → now ≡ so ++ word_before file s.place s.line piece (front_of whole rest) []
    → next ≡ advance s piece (front_of whole rest) → Continues file bytes now next rest
next_turn file bytes so now s next piece whole rest inv front none grown moved words end gives =
    let here = subst (λ (t : State). Gives file t rest words end) moved gives in
    let before = goes_on_at file s piece (front_of whole rest) rest whole words end front.parts front.is none here in
    let all = inv _ end before in
    let e : so ++ word_before file s.place s.line piece (front_of whole rest) words ≡ now ++ words =
    ap (λ (x : List PlainWord). so ++ x) (word_joins file s.place s.line piece (front_of whole rest) words)
    ∙ (sym (append_assoc so _ words) ∙ ap (λ (x : List PlainWord). x ++ words) (sym grown)) in
    subst (λ (x : List PlainWord). Gives file beginning bytes x end) e all

-- a turn that passes a space
pub space_turn : (file : ℕ) (bytes : List ℕ) (so : List PlainWord) (s next : State) (rest : List ℕ)
    → Continues file bytes so s (32 ∷ rest) → next ≡ (record { place = s.place + 1; line = s.line; tight = false }) → Continues file bytes so next rest
unfolding fault_at word_before is_blank
space_turn file bytes so s next rest inv moved words end gives =
    let here = subst (λ (t : State). Gives file t rest words end) (moved ∙ sym (after_space s)) gives in
    inv words end (goes_on_at file s Blank (32 ∷ []) rest (32 ∷ rest) words end refl (32, refl, refl) refl here)

-- a turn that finds a refusal
pub refused_turn : (file : ℕ) (bytes : List ℕ) (so : List PlainWord) (s : State) (piece : Piece) (whole rest : List ℕ) (fault : Fault) (outcome : LexFault)
    → length bytes ≤ MOST_FILE_BYTES → length so ≤ MOST_FILE_WORDS → Continues file bytes so s whole → IsFront (is_include s.line) piece whole rest
    → fault_at s.tight piece (front_of whole rest) whole rest ≡ Some fault
    → outcome ≡ Refused (refusal_at file (word_number fault.code) (s.place + fault.offset) fault.extent) → Answers file bytes (Err outcome)
refused_turn file bytes so s piece whole rest fault outcome small few inv front found is =
    let r = refusal_at file (word_number fault.code) (s.place + fault.offset) fault.extent in
    let gives = inv [] (Some r) (stops_at file s piece (front_of whole rest) rest whole fault front.parts front.is found) in
    let here = subst (λ (x : List PlainWord). Gives file beginning bytes x (Some r)) (append-nil so) gives in
    subst (λ (x : LexFault). Answers file bytes (Err x)) (sym is) (small, so, few, refuses_from file bytes so r here)

-- a turn that finds too many words, or no memory
pub full_turn : (file : ℕ) (bytes : List ℕ) (so : List PlainWord) (s : State) (piece : Piece) (whole rest : List ℕ) (outcome : LexFault)
    → length bytes ≤ MOST_FILE_BYTES → Continues file bytes so s whole → IsFront (is_include s.line) piece whole rest
    → fault_at s.tight piece (front_of whole rest) whole rest ≡ None
    → IsTooMany so (word_before file s.place s.line piece (front_of whole rest) []) outcome → Answers file bytes (Err outcome)
full_turn file bytes so s piece whole rest (Refused refusal) small inv front none many = absurd many
full_turn file bytes so s piece whole rest (Over limit) small inv front none (is, most, one) =
    let (words, end, gives) = total (length rest) file (advance s piece (front_of whole rest)) rest (omega arith) in
    let before = goes_on_at file s piece (front_of whole rest) rest whole words end front.parts front.is none gives in
    let more = word_before file s.place s.line piece (front_of whole rest) words in
    let longer : length more ≡ length (word_before file s.place s.line piece (front_of whole rest) []) + length words =
    ap length (word_joins file s.place s.line piece (front_of whole rest) words) ∙ length-append _ words in
    inr (is, small, so ++ more, omega (arith, length-append so more), begins_from file bytes (so ++ more) end (inv more end before))
full_turn file bytes so s piece whole rest Memory small inv front none many = tt

-- the end
pub last_turn : (file : ℕ) (bytes : List ℕ) (so : List PlainWord) (s : State) (whole : List ℕ)
    → length bytes ≤ MOST_FILE_BYTES → length so ≤ MOST_FILE_WORDS → Continues file bytes so s whole → whole ≡ [] → Answers file bytes (Ok so)
last_turn file bytes so s whole small few inv e =
    let gives = inv [] None (subst (λ (x : List ℕ). Gives file s x [] None) (sym e) (ends s)) in
    (small, few, lexes_from file bytes so (subst (λ (x : List PlainWord). Gives file beginning bytes x None) (append-nil so) gives))

-- a text that isn't empty has a byte
has_byte : (n : ℕ) → false ≡ (n == 0) → 0 < n
has_byte zero e = absurd (cc)
has_byte (suc n) e = omega arith

-- a text that is empty
pub is_nil : (whole : List ℕ) → true ≡ (length whole == 0) → whole ≡ []
is_nil [] e = refl
is_nil (c ∷ t) e = absurd (grind (arith, nat_tests))

-- the piece that the code cut off
pub front_from : (asked : Bool) (line : Line) (piece : Piece) (whole rest : List ℕ) → asked ≡ is_include line → (piece, rest) ≡ cut_at asked whole
    → false ≡ (length whole == 0) → IsFront (is_include line) piece whole rest
front_from asked line piece whole rest a e some =
    front_at (is_include line) piece whole rest (has_byte (length whole) some) (e ∙ ap (λ (b : Bool). cut_at b whole) a)

-- states with equal parts are equal
pub same_state : (place : ℕ) (line more : Line) (tight other : Bool) → line ≡ more → tight ≡ other
    → ◌≡◌ {A = State} (record { place = place; line = line; tight = tight }) (record { place = place; line = more; tight = other })
same_state place line more tight other a b =
    ap (λ (x : Line). let s : State = record { place = place; line = x; tight = tight } in s) a
    ∙ ap (λ (x : Bool). let s : State = record { place = place; line = more; tight = x } in s) b
