-- The words of a file are cut in exactly one way.
use Rattle.std.proofs.Common.{◌≡◌, ℕ, ◌-◌, ◌<◌, ◌≤◌, List, [], ◌∷◌, ◌++◌, Bool, true, false, cond, length, take, drop, map, refl, sym, ◌∙◌, ap, subst, arith, codes, Option, Some, append_assoc, append-nil, length-append, length-drop, take-append-drop}
use Rattle.std.proofs.lemmas.List.{map-append, length-map, take-map, drop-map}
use Rattle.std.proofs.Math.ListN.{drop_of_length-le}
use Rattle.std.proofs.Math.Seq.{take-append_seam, drop-append_seam, take-length}
use Rattle.std.proofs.lemmas.Option.{none-some, same_Some}
use Rattle.p10_base.specs.declared.word.Word.{Word}
use Rattle.p10_base.specs.Words.{PlainWord, plain_word, is_punctuator}
use Rattle.p10_direct.specs.declared.line.Line.{Line}
use Rattle.p10_direct.specs.Lines.{piece_of, Piece, DirectiveLine, TextRun, words_of, begins_directive, NonePasses, FollowedBy, IsPiece, AreCut}
use Rattle.p10_direct.specs.Cutting.{before, behind, split}
use Rattle.p10_direct.specs.private.Pieces.{first_piece_of}

-- ## Words before and after the first that passes a test

pub joined : (test : PlainWord → Bool) (words : List PlainWord) → before test words ++ behind test words ≡ words
joined test [] = refl
joined test (word ∷ words) =
    elim (test word) as (λ t. cond t [] (word ∷ before test words) ++ cond t (word ∷ words) (behind test words) ≡ word ∷ words)
    [ true ↦ refl | false ↦ ap (λ ws. word ∷ ws) (joined test words) ]

pub before_fails : (test : PlainWord → Bool) (words : List PlainWord) → NonePasses test (before test words)
before_fails test [] = tt
before_fails test (word ∷ words) =
    elim (test word) as (λ t. test word ≡ t → NonePasses test (cond t [] (word ∷ before test words)))
    [ true ↦ λ e. tt | false ↦ λ e. (e, before_fails test words) ] refl

pub behind_passes : (test : PlainWord → Bool) (words : List PlainWord) → FollowedBy test (behind test words)
behind_passes test [] = tt
behind_passes test (word ∷ words) =
    elim (test word) as (λ t. test word ≡ t → FollowedBy test (cond t (word ∷ words) (behind test words)))
    [ true ↦ λ e. e | false ↦ λ e. behind_passes test words ] refl

pub behind_shorter : (test : PlainWord → Bool) (words : List PlainWord) → length (behind test words) ≤ length words
behind_shorter test [] = omega arith
behind_shorter test (word ∷ words) =
    elim (test word) as (λ t. length (cond t (word ∷ words) (behind test words)) ≤ length (word ∷ words))
    [ true ↦ omega arith | false ↦ let h = behind_shorter test words in omega arith ]

nothing_before : (test : PlainWord → Bool) (rest : List PlainWord) → FollowedBy test rest → before test rest ≡ []
nothing_before test [] passes = refl
nothing_before test (word ∷ rest) passes = ap (λ t. cond t [] (word ∷ before test rest)) passes

all_behind : (test : PlainWord → Bool) (rest : List PlainWord) → FollowedBy test rest → behind test rest ≡ rest
all_behind test [] passes = refl
all_behind test (word ∷ rest) passes = ap (λ t. cond t (word ∷ rest) (behind test rest)) passes

pub before_again : (test : PlainWord → Bool) (words rest : List PlainWord) → NonePasses test words → FollowedBy test rest → before test (words ++ rest) ≡ words
before_again test [] rest fails passes = nothing_before test rest passes
before_again test (word ∷ words) rest fails passes =
    ap (λ t. cond t [] (word ∷ before test (words ++ rest))) fails.0 ∙ ap (λ ws. word ∷ ws) (before_again test words rest fails.1 passes)

pub behind_again : (test : PlainWord → Bool) (words rest : List PlainWord) → NonePasses test words → FollowedBy test rest → behind test (words ++ rest) ≡ rest
behind_again test [] rest fails passes = all_behind test rest passes
behind_again test (word ∷ words) rest fails passes =
    ap (λ t. cond t (word ∷ words ++ rest) (behind test (words ++ rest))) fails.0 ∙ behind_again test words rest fails.1 passes

-- what stands before the rest, by lengths
taken : (front rest all : List PlainWord) → front ++ rest ≡ all → take (length all - length rest) all ≡ front
taken front rest all e =
    let short : length all - length rest ≡ length front = omega (arith, length-append front rest, ap length e) in
    ap (λ n. take n all) short ∙ ap (take (length front)) (sym e) ∙ take-append_seam front rest

pub front_taken : (test : PlainWord → Bool) (word : PlainWord) (words : List PlainWord) → take (length (word ∷ words) - length (behind test words)) (word ∷ words) ≡ word ∷ before test words
front_taken test word words = taken (word ∷ before test words) (behind test words) (word ∷ words) (ap (λ ws. word ∷ ws) (joined test words))

abbrev pair : {A B : Type 0} → A → B → A × B
pair a b = (a, b)

-- what a slice has from a place on
pub rest_from : {A : Type 0} (place : ℕ) (words : List A) → place ≤ length words → take (length words - place) (drop place words) ≡ drop place words
rest_from place words inside = ap (λ n. take n (drop place words)) (sym (length-drop place words)) ∙ take-length (drop place words)

-- there are as many words of the code as plain ones
lengths : (words after : List Word) → length (map plain_word words) - length (map plain_word after) ≡ length words - length after
lengths words after = ap (λ n. n - length (map plain_word after)) (length-map words plain_word) ∙ ap (λ n. length words - n) (length-map after plain_word)

pub behind_below : (test : PlainWord → Bool) (words after : List Word) → 1 ≤ length words → map plain_word after ≡ behind test (map plain_word (take (length words - 1) (drop 1 words))) → length after < length words
behind_below test [] after some e = absurd (omega (arith, some))
behind_below test (word ∷ words) after some e =
    let same : map plain_word after ≡ behind test (map plain_word words) = e ∙ ap (λ ws. behind test (map plain_word ws)) (rest_from 1 (word ∷ words) some) in
    omega (arith, behind_shorter test (map plain_word words), ap length same, length-map after plain_word, length-map words plain_word)

pub split_taken : (test : PlainWord → Bool) (words after : List Word) → 1 ≤ length words → map plain_word after ≡ behind test (map plain_word (take (length words - 1) (drop 1 words)))
    → pair (map plain_word (take (length words - length after) words)) (map plain_word after) ≡ split test (map plain_word words)
split_taken test [] after some e = absurd (omega (arith, some))
split_taken test (word ∷ words) after some e =
    let all = map plain_word (word ∷ words) in
    let same : map plain_word after ≡ behind test (map plain_word words) = e ∙ ap (λ ws. behind test (map plain_word ws)) (rest_from 1 (word ∷ words) some) in
    let front : map plain_word (take (length (word ∷ words) - length after) (word ∷ words)) ≡ take (length all - length (map plain_word after)) all
    = sym (take-map plain_word (length (word ∷ words) - length after) (word ∷ words)) ∙ ap (λ n. take n all) (sym (lengths (word ∷ words) after)) in
    ap (λ ws. pair ws (map plain_word after)) front
    ∙ ap (λ ws. pair (take (length all - length ws) all) ws) same
    ∙ ap (λ ws. pair ws (behind test (map plain_word words))) (front_taken test (plain_word word) (map plain_word words))

-- ## The first piece

record Begins (words : List PlainWord) (piece : Piece) (rest : List PlainWord) : Type 0 where
  parts : words ≡ words_of piece ++ rest
  fits : IsPiece piece rest

abbrev both : {A B : Type 0} → A → B → Option (A × B)
both a b = Some (a, b)

pair_some : {A B P : Type 0} (a c : A) (b d : B) → both a b ≡ both c d → (a ≡ c → b ≡ d → P) → P
pair_some {A} {B} a c b d e go =
    let one : A × B = (a, b) in
    let two : A × B = (c, d) in
    let same : one ≡ two = same_Some one two e in
    go (ap (λ (p : A × B). p.0) same) (ap (λ (p : A × B). p.1) same)

to_piece : (words : List PlainWord) (made piece : Piece) (left rest : List PlainWord) → made ≡ piece → left ≡ rest → Begins words made left → Begins words piece rest
to_piece words made piece left rest p r b = subst (λ q. Begins words q rest) p (subst (λ l. Begins words made l) r b)

first_takes : (words : List PlainWord) (piece : Piece) (rest : List PlainWord) → first_piece_of words ≡ Some (piece, rest) → Begins words piece rest
first_takes [] piece rest e = absurd (none-some _ e)
first_takes (word ∷ words) piece rest e =
    elim (is_punctuator (codes "#") word) as (λ t. is_punctuator (codes "#") word ≡ t → cond t (both (DirectiveLine (word ∷ before (λ w. w.first) words)) (behind (λ w. w.first) words)) (both (TextRun (word ∷ before begins_directive words)) (behind begins_directive words)) ≡ both piece rest → Begins (word ∷ words) piece rest) [
      | true ↦ λ yes e. pair_some (DirectiveLine (word ∷ before (λ w. w.first) words)) piece (behind (λ w. w.first) words) rest e (λ p r. to_piece _ _ piece _ rest p r (record {
        parts = ap (λ ws. word ∷ ws) (sym (joined (λ w. w.first) words));
        fits = (yes, before_fails (λ w. w.first) words, behind_passes (λ w. w.first) words);
      }))
      | false ↦ λ no e. pair_some (TextRun (word ∷ before begins_directive words)) piece (behind begins_directive words) rest e (λ p r. to_piece _ _ piece _ rest p r (record {
        parts = ap (λ ws. word ∷ ws) (sym (joined begins_directive words));
        fits = (no, before_fails begins_directive words, behind_passes begins_directive words);
      }))
    ] refl e

first_again : (piece : Piece) (rest : List PlainWord) → IsPiece piece rest → first_piece_of (words_of piece ++ rest) ≡ Some (piece, rest)
first_again (DirectiveLine (word ∷ words)) rest (hash, fails, passes) =
    ap (λ t. cond t (Some (DirectiveLine (word ∷ before (λ w. w.first) (words ++ rest)), behind (λ w. w.first) (words ++ rest))) (Some (TextRun (word ∷ before begins_directive (words ++ rest)), behind begins_directive (words ++ rest)))) hash
    ∙ ap (λ ws. Some (DirectiveLine (word ∷ ws), behind (λ w. w.first) (words ++ rest))) (before_again (λ w. w.first) words rest fails passes)
    ∙ ap (λ ws. Some (DirectiveLine (word ∷ words), ws)) (behind_again (λ w. w.first) words rest fails passes)
first_again (TextRun (word ∷ words)) rest (other, fails, passes) =
    ap (λ t. cond t (Some (DirectiveLine (word ∷ before (λ w. w.first) (words ++ rest)), behind (λ w. w.first) (words ++ rest))) (Some (TextRun (word ∷ before begins_directive (words ++ rest)), behind begins_directive (words ++ rest)))) other
    ∙ ap (λ ws. Some (TextRun (word ∷ ws), behind begins_directive (words ++ rest))) (before_again begins_directive words rest fails passes)
    ∙ ap (λ ws. Some (TextRun (word ∷ words), ws)) (behind_again begins_directive words rest fails passes)
first_again (DirectiveLine []) rest piece = absurd piece
first_again (TextRun []) rest piece = absurd piece

first_of : (words : List PlainWord) (piece : Piece) (rest : List PlainWord) → words ≡ words_of piece ++ rest → IsPiece piece rest → first_piece_of words ≡ Some (piece, rest)
first_of words piece rest e fits = ap first_piece_of e ∙ first_again piece rest fits

-- ## All pieces

pub cut_once : (words : List PlainWord) (these those : List Piece) → AreCut words these → AreCut words those → these ≡ those
cut_once words [] [] a b = refl
cut_once words [] (piece ∷ pieces) none (rest, parts, fits, more) = absurd (none-some _ (sym (ap first_piece_of none) ∙ first_of words piece rest parts fits))
cut_once words (piece ∷ pieces) [] (rest, parts, fits, more) none = absurd (none-some _ (sym (ap first_piece_of none) ∙ first_of words piece rest parts fits))
cut_once words (piece ∷ pieces) (other ∷ others) (rest, parts, fits, more) (left, parts2, fits2, more2) =
    pair_some piece other rest left (sym (first_of words piece rest parts fits) ∙ first_of words other left parts2 fits2)
    (λ p r. let again : AreCut rest others = subst (λ l. AreCut l others) (sym r) more2 in
    ap (λ q. q ∷ pieces) p ∙ ap (λ qs. other ∷ qs) (cut_once rest pieces others more again))

-- one more piece
pub cut_more : (words rest after : List PlainWord) (pieces : List Piece) (piece : Piece) → first_piece_of rest ≡ Some (piece, after)
    → ((more : List Piece) → AreCut rest more → AreCut words (pieces ++ more)) → (more : List Piece) → AreCut after more → AreCut words ((pieces ++ piece ∷ []) ++ more)
cut_more words rest after pieces piece e so_far more cut =
    let b = first_takes rest piece after e in
    subst (λ ps. AreCut words ps) (sym (append_assoc pieces (piece ∷ []) more)) (so_far (piece ∷ more) (after, b.parts, b.fits, cut))

-- no further piece
pub cut_all : (words rest : List PlainWord) (pieces : List Piece) → rest ≡ [] → ((more : List Piece) → AreCut rest more → AreCut words (pieces ++ more)) → AreCut words pieces
cut_all words rest pieces none so_far = subst (λ ps. AreCut words ps) (append-nil pieces) (so_far [] none)

-- what is left after, by lengths
left : (front rest all : List PlainWord) → all ≡ front ++ rest → drop (length all - length rest) all ≡ rest
left front rest all e =
    let short : length all - length rest ≡ length front = omega (arith, length-append front rest, ap length e) in
    ap (λ n. drop n all) short ∙ ap (drop (length front)) e ∙ drop-append_seam front rest

left_behind : (words : List PlainWord) (place : ℕ) (piece : Piece) (after : List PlainWord) → drop place words ≡ words_of piece ++ after → drop (length words - length after) words ≡ after
left_behind words place piece after e =
    left (take place words ++ words_of piece) after words
    (sym (take-append-drop place words) ∙ ap (λ ws. take place words ++ ws) e ∙ sym (append_assoc (take place words) (words_of piece) after))

-- one more line
pub lines_more : (words : List Word) (place : ℕ) (lines next : List Line) (line : Line) (after : List Word) → place ≤ length words
    → both (piece_of line) (map plain_word after) ≡ first_piece_of (map plain_word (take (length words - place) (drop place words))) → next ≡ lines ++ line ∷ []
    → ((more : List Piece) → AreCut (map plain_word (drop place words)) more → AreCut (map plain_word words) (map piece_of lines ++ more))
    → (more : List Piece) → AreCut (map plain_word (drop (length words - length after) words)) more → AreCut (map plain_word words) (map piece_of next ++ more)
lines_more words place lines next line after inside first pushed so_far more cut =
    let rest = map plain_word (drop place words) in
    let found : first_piece_of rest ≡ both (piece_of line) (map plain_word after) = ap (λ ws. first_piece_of (map plain_word ws)) (sym (rest_from place words inside)) ∙ sym first in
    let begins : Begins rest (piece_of line) (map plain_word after) = first_takes rest (piece_of line) (map plain_word after) found in
    let rest_is : map plain_word (drop (length words - length after) words) ≡ map plain_word after
    = sym (drop-map plain_word (length words - length after) words) ∙ ap (λ n. drop n (map plain_word words)) (sym (lengths words after))
    ∙ left_behind (map plain_word words) place (piece_of line) (map plain_word after) (drop-map plain_word place words ∙ begins.parts) in
    let lines_are : map piece_of next ≡ map piece_of lines ++ piece_of line ∷ [] = ap (map piece_of) pushed ∙ map-append piece_of lines (line ∷ []) in
    subst (λ ps. AreCut (map plain_word words) (ps ++ more)) (sym lines_are)
    (cut_more (map plain_word words) rest (map plain_word after) (map piece_of lines) (piece_of line) found so_far more (subst (λ ws. AreCut ws more) rest_is cut))

-- no further line
pub lines_all : (words : List Word) (place : ℕ) (lines : List Line) → length words ≤ place
    → ((more : List Piece) → AreCut (map plain_word (drop place words)) more → AreCut (map plain_word words) (map piece_of lines ++ more)) → AreCut (map plain_word words) (map piece_of lines)
lines_all words place lines past so_far =
    cut_all (map plain_word words) (map plain_word (drop place words)) (map piece_of lines) (ap (map plain_word) (drop_of_length-le words past)) so_far
