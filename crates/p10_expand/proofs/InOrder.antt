-- Words that come in order.
use Rattle.std.proofs.Common.{◌≡◌, ℕ, suc, ◌≤◌, List, [], ◌∷◌, ◌++◌, Bool, true, false, if◌then◌else◌, Result, Ok, refl, ap, ◌∙◌, sym, subst, arith}
use Rattle.std.specs.List.{AllByRecursion}
use Rattle.p10_base.specs.Gathered.{Gathered, text_of}
use Rattle.p10_base.specs.Words.{PlainWord, Text}
use Rattle.p10_lex.specs.Slices.{AreSlices}
use Rattle.p10_lex.specs.Lexes.{Answers}
use Rattle.p10_lex.proofs.SliceLaws.{answer_slices}
use Rattle.p10_direct.specs.Lines.{Piece, AreCut, words_of}
use Rattle.p10_expand.specs.Items.{lines_of, onto_line, ends_line, item_name, is_among, given_after, new_words}
use Rattle.p10_expand.specs.declared.expansion.fault.ExpandFault.{ExpandFault}
use Rattle.p10_expand.specs.declared.expansion.state.State.{State as CodedState}
use Rattle.p10_expand.specs.declared.expansion.step.Step.{Step}
use Rattle.p10_expand.specs.Obeying.{State, TextGives, RunGives}
use Rattle.p10_expand.specs.Before.{ComeInOrder}
use Rattle.p10_expand.specs.private.Steps.{Steps}

-- those that come after a place come after an earlier one
earlier : (place before : ℕ) (words : List PlainWord) → before ≤ place → ComeInOrder place words → ComeInOrder before words
earlier place before [] less order = tt
earlier place before (word ∷ words) less order = (omega (arith, less, order.0), order.1)

-- the words of a file come in order
slices_in_order : (file : ℕ) (bytes : List ℕ) (place : ℕ) (words : List PlainWord) → AreSlices file bytes place words → ComeInOrder place words
slices_in_order file bytes place [] slices = tt
slices_in_order file bytes place (word ∷ words) slices =
    (slices.0, earlier word.at.end (suc word.at.start) words (omega (arith, slices.1.some)) (slices_in_order file bytes word.at.end words slices.2))

front_in_order : (place : ℕ) (front back : List PlainWord) → ComeInOrder place (front ++ back) → ComeInOrder place front
front_in_order place [] back order = tt
front_in_order place (word ∷ front) back order = (order.0, front_in_order (suc word.at.start) front back order.1)

back_in_order : (place : ℕ) (front back : List PlainWord) → ComeInOrder place (front ++ back) → ComeInOrder place back
back_in_order place [] back order = order
back_in_order place (word ∷ front) back order = earlier (suc word.at.start) place back (omega (arith, order.0)) (back_in_order (suc word.at.start) front back order.1)

-- the words of each piece of a file come in order
abbrev pub PiecesInOrder : List Piece → Type 0
PiecesInOrder pieces = AllByRecursion (λ piece. ComeInOrder 0 (words_of piece)) pieces

pieces_in_order : (place : ℕ) (words : List PlainWord) (pieces : List Piece) → AreCut words pieces → ComeInOrder place words → PiecesInOrder pieces
pieces_in_order place words [] cut order = tt
pieces_in_order place words (piece ∷ pieces) (rest, same, is, cut) order =
    let whole : ComeInOrder place (words_of piece ++ rest) = subst (ComeInOrder place) same order in
    (earlier place 0 (words_of piece) (omega arith) (front_in_order place (words_of piece) rest whole), pieces_in_order place rest pieces cut (back_in_order place (words_of piece) rest whole))

pub file_in_order : (g : Gathered) (number : ℕ) (words : List PlainWord) (pieces : List Piece) → Answers number (text_of g number) (Ok words) → AreCut words pieces → PiecesInOrder pieces
file_in_order g number words pieces lexed cut =
    pieces_in_order 0 words pieces cut (slices_in_order number (text_of g number) 0 words (answer_slices number (text_of g number) words lexed))

-- ## Items

-- the words of lines
abbrev joined : List (List PlainWord) → List PlainWord
joined [] = []
joined (line ∷ lines) = line ++ joined lines

joined_if : (b : Bool) (x y : List (List PlainWord)) (words : List PlainWord) → joined x ≡ words → joined y ≡ words → joined (if b then x else y) ≡ words
joined_if true x y words p q = p
joined_if false x y words p q = q

joined_onto : (word : PlainWord) (lines : List (List PlainWord)) → joined (onto_line word lines) ≡ word ∷ joined lines
joined_onto word [] = refl
joined_onto word (line ∷ lines) = refl

-- the lines of a run are its words
joined_lines : (words : List PlainWord) → joined (lines_of words) ≡ words
joined_lines [] = refl
joined_lines (word ∷ words) =
    let others : word ∷ joined (lines_of words) ≡ word ∷ words = ap (λ (others : List PlainWord). word ∷ others) (joined_lines words) in
    joined_if (ends_line words) ((word ∷ []) ∷ lines_of words) (onto_line word (lines_of words)) (word ∷ words) others (joined_onto word (lines_of words) ∙ others)

-- other words after the first ones
behind_in_order : (place : ℕ) (front these those : List PlainWord) → ((from : ℕ) → ComeInOrder from these → ComeInOrder from those) → ComeInOrder place (front ++ these) → ComeInOrder place (front ++ those)
behind_in_order place [] these those change order = change place order
behind_in_order place (word ∷ front) these those change order = (order.0, behind_in_order (suc word.at.start) front these those change order.1)

order_if : (place : ℕ) (b : Bool) (x y : List PlainWord) → ComeInOrder place x → ComeInOrder place y → ComeInOrder place (if b then x else y)
order_if place true x y p q = p
order_if place false x y p q = q

lines_in_order : (given : List Text) (place : ℕ) (lines : List (List PlainWord)) → ComeInOrder place (joined lines) → ComeInOrder place (new_words given lines)
lines_in_order given place [] order = tt
lines_in_order given place (line ∷ lines) order =
    order_if place (is_among given (item_name line)) (new_words given lines) (line ++ new_words (given ++ item_name line ∷ []) lines)
    (lines_in_order given place lines (back_in_order place line (joined lines) order))
    (behind_in_order place line (joined lines) (new_words (given ++ item_name line ∷ []) lines) (λ from. lines_in_order (given ++ item_name line ∷ []) from lines) order)

-- the words of the items that weren't given come in order
pub new_in_order : (given : List Text) (words : List PlainWord) → ComeInOrder 0 words → ComeInOrder 0 (new_words given (lines_of words))
new_in_order given words order = lines_in_order given 0 (lines_of words) (subst (ComeInOrder 0) (sym (joined_lines words)) order)

-- what comes of those words comes of the run of a built-in header
pub items_run : (built_in : Bool) (s : State) (words items : List PlainWord) (given : List Text) (answer : Result Step ExpandFault) (new : CodedState) → built_in ≡ true → items ≡ new_words s.given (lines_of words) → given ≡ given_after s.given (lines_of words) →
    (ComeInOrder 0 items → Steps (TextGives (record s { given = given }) items) answer new) → ComeInOrder 0 words → Steps (RunGives built_in s words) answer new
items_run built_in s words items given answer new header these names gives order =
    let ordered : ComeInOrder 0 items = subst (ComeInOrder 0) (sym these) (new_in_order s.given words order) in
    let named : Steps (TextGives (record s { given = given_after s.given (lines_of words) }) items) answer new = subst (λ (names : List Text). Steps (TextGives (record s { given = names }) items) answer new) names (gives ordered) in
    subst (λ (header : Bool). Steps (RunGives header s words) answer new) (sym header)
    (subst (λ (run : List PlainWord). Steps (TextGives (record s { given = given_after s.given (lines_of words) }) run) answer new) these named)
