-- Words are slices of their file, and refusals have their places in it.
use Rattle.std.proofs.Common.{◌≡◌, ℕ, ◌+◌, ◌-◌, ◌<◌, ◌≤◌, List, [], ◌∷◌, ◌++◌, length, take, drop, refl, sym, ◌∙◌, ap, subst, arith, append_assoc, length-append}
use Rattle.std.specs.Prelude.{Ok, Err, slice_range}
use Rattle.std.proofs.lemmas.List.{take_at, drop_at}
use Rattle.p10_base.specs.declared.report.Refusal.{Refusal}
use Rattle.p10_base.specs.declared.word.Kind.{Kind}
use Rattle.p10_lex.specs.declared.pieces.Piece.{Piece}
use Rattle.p10_lex.specs.declared.pieces.Piece.TheVariants.{Blank, Splices, Comment, OpenComment, OpenLiteral, Stray, Lexeme}
use Rattle.p10_lex.specs.declared.fault.LexFault.{LexFault}
use Rattle.p10_lex.specs.declared.fault.LexFault.TheVariants.{Refused, Over, Memory}
use Rattle.p10_lex.specs.Pieces.{Cut, State, advance, beginning, state_after, Cuts, word_before, words_of, is_start}
use Rattle.p10_lex.specs.Refusals.{Holds}
use Rattle.p10_lex.specs.Lexes.{Lexes, Answers}
use Rattle.p10_lex.specs.Slices.{IsSlice, AreSlices, IsPlaced}
use Rattle.p10_lex.proofs.Cutting.{piece_some}
use Rattle.p10_lex.proofs.Rows.{row_within}
use Rattle.p10_base.specs.Words.{PlainWord, span_of}

-- slices after a place are slices after an earlier one
earlier : (file : ℕ) (bytes : List ℕ) (place other : ℕ) (words : List PlainWord) → place ≤ other → AreSlices file bytes other words → AreSlices file bytes place words
earlier file bytes place other [] h are = tt
earlier file bytes place other (word ∷ words) h (a, b, c) = (omega arith, b, c)

-- the part of a text between two others
middle : (before text after : List ℕ) (n : ℕ) → length before ≡ n → text ≡ slice_range (before ++ (text ++ after)) n (n + length text)
middle before text after n e =
    let rest : drop n (before ++ (text ++ after)) ≡ text ++ after = drop_at before (text ++ after) n e in
    let count : n + length text - n ≡ length text = omega arith in
    sym (ap (λ (x : List ℕ). take (n + length text - n) x) rest ∙ (ap (λ (k : ℕ). take k (text ++ after)) count ∙ take_at text after (length text) refl))

-- a word is a slice
one_slice : (file : ℕ) (s : State) (kind : Kind) (whole before text after : List ℕ) → whole ≡ before ++ (text ++ after) → length before ≡ s.place → 0 < length text
    → IsSlice file whole (record { kind = kind; text = text; at = span_of file s.place (s.place + length text); first = is_start s.line })
one_slice file s kind whole before text after parts place some = record {
  of_file = refl;
  some = omega arith;
  within = omega (arith, ap length parts, length-append before (text ++ after), length-append text after);
  slice = middle before text after s.place place ∙ ap (λ (x : List ℕ). slice_range x s.place (s.place + length text)) (sym parts);
}

-- a piece before slices gives slices
word_slices : (file : ℕ) (s : State) (piece : Piece) (whole before text after : List ℕ) (words : List PlainWord)
    → whole ≡ before ++ (text ++ after) → length before ≡ s.place → 0 < length text → AreSlices file whole (s.place + length text) words
    → AreSlices file whole s.place (word_before file s.place s.line piece text words)
unfolding word_before
word_slices file s (Lexeme kind) whole before text after words parts place some are = (omega arith, one_slice file s kind whole before text after parts place some, are)
word_slices file s Blank whole before text after words parts place some are = earlier file whole s.place (s.place + length text) words (omega arith) are
word_slices file s Splices whole before text after words parts place some are = earlier file whole s.place (s.place + length text) words (omega arith) are
word_slices file s Comment whole before text after words parts place some are = earlier file whole s.place (s.place + length text) words (omega arith) are
word_slices file s OpenComment whole before text after words parts place some are = earlier file whole s.place (s.place + length text) words (omega arith) are
word_slices file s OpenLiteral whole before text after words parts place some are = earlier file whole s.place (s.place + length text) words (omega arith) are
word_slices file s Stray whole before text after words parts place some are = earlier file whole s.place (s.place + length text) words (omega arith) are

-- the words among pieces are slices
pieces_slices : (file : ℕ) (whole : List ℕ) (pieces : List Cut) (s : State) (before bytes rest : List ℕ) → whole ≡ before ++ bytes → length before ≡ s.place
    → Cuts s bytes pieces rest → AreSlices file whole s.place (words_of file s pieces)
pieces_slices file whole [] s before bytes rest parts place cuts = tt
pieces_slices file whole (p ∷ ps) s before bytes rest parts place (after, e, is, cuts) =
    let whole_is : whole ≡ before ++ (p.text ++ after) = parts ∙ ap (λ (x : List ℕ). before ++ x) e in
    let next : whole ≡ (before ++ p.text) ++ after = whole_is ∙ sym (append_assoc before p.text after) in
    word_slices file s p.piece whole before p.text after (words_of file (advance s p.piece p.text) ps) whole_is place (piece_some _ _ _ _ is)
    (pieces_slices file whole ps (advance s p.piece p.text) (before ++ p.text) after rest next (omega (arith, length-append before p.text)) cuts)

-- the words of a file are slices
lexes_slices : (file : ℕ) (bytes : List ℕ) (words : List PlainWord) → Lexes file bytes words → AreSlices file bytes 0 words
lexes_slices file bytes words is =
    subst (λ (x : List PlainWord). AreSlices file bytes 0 x) (sym is.are_words) (pieces_slices file bytes is.pieces beginning [] bytes [] refl refl is.cuts)

-- a place after pieces is within the file
place_after : (pieces : List Cut) (s : State) (bytes rest : List ℕ) → Cuts s bytes pieces rest → (state_after s pieces).place + length rest ≡ s.place + length bytes
place_after [] s bytes rest cuts = omega (arith, ap length cuts)
place_after (p ∷ ps) s bytes rest (after, e, is, cuts) =
    let h = place_after ps (advance s p.piece p.text) after rest cuts in
    omega (arith, ap length e, length-append p.text after)

-- a refusal has its place in the file
holds_place : (file : ℕ) (bytes : List ℕ) (words : List PlainWord) (refusal : Refusal) → Holds file beginning bytes words refusal
    → (refusal.span.file ≡ file) × (refusal.span.start < length bytes)
holds_place file bytes words refusal is =
    let place = place_after is.before beginning bytes (is.here.text ++ is.rest) is.cuts in
    let within = row_within is.row (piece_some _ _ _ _ is.is_piece) in
    let start : refusal.span.start ≡ (state_after beginning is.before).place + is.offset = ap (λ (r : Refusal). r.span.start) is.refused in
    (ap (λ (r : Refusal). r.span.file) is.refused, omega (arith, length-append is.here.text is.rest))

-- what an answer with words says of them
pub answer_slices : (file : ℕ) (bytes : List ℕ) (words : List PlainWord) → Answers file bytes (Ok words) → AreSlices file bytes 0 words
answer_slices file bytes words (small, few, is) = lexes_slices file bytes words is

-- what an answer with a refusal says of its place
pub answer_place : (file : ℕ) (bytes : List ℕ) (fault : LexFault) → Answers file bytes (Err fault) → IsPlaced file bytes fault
answer_place file bytes (Refused refusal) (small, words, few, is) = holds_place file bytes words refusal is.holds
answer_place file bytes (Over limit) is = tt
answer_place file bytes Memory is = tt
