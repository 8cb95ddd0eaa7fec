-- A file has one answer.
use Rattle.std.proofs.Common.{◌≡◌, ◌≢◌, ℕ, List, [], ◌∷◌, length, refl, sym, ◌∙◌, ap, subst, arith, inl, inr, length-append}
use Rattle.std.specs.Prelude.{Option, Some, None, Result, Ok, Err}
use Rattle.p10_base.specs.declared.report.Refusal.{Refusal}
use Rattle.p10_base.specs.declared.report.Limit.{Limit}
use Rattle.p10_lex.specs.declared.pieces.Piece.{Piece}
use Rattle.p10_lex.specs.declared.fault.LexFault.{LexFault}
use Rattle.p10_lex.specs.declared.fault.LexFault.TheVariants.{Refused, Over, Memory}
use Rattle.p10_lex.specs.Pieces.{IsPiece, Cut, State, advance, beginning, is_include, Cuts, word_before, words_of}
use Rattle.p10_lex.specs.Refusals.{Precedes}
use Rattle.p10_lex.specs.Lexes.{Lexes, Refuses, Begins, Answers, HasWordsOrOneRefusal}
use Rattle.p10_lex.proofs.Cutting.{same_piece, piece_some}
use Rattle.p10_lex.proofs.FirstRefusal.{Gives, ends, stops, goes_on, holds_of, answered}
use Rattle.p10_lex.proofs.Answering.{lexes_from, refuses_from, total}
use Rattle.p10_base.specs.Words.{PlainWord}

-- the words among the pieces of a whole file are those that were found
cut_words : {file : ℕ} {s : State} {bytes : List ℕ} {words : List PlainWord} (end : Option Refusal) → Gives file s bytes words end → end ≡ None
    → (t : State) → t ≡ s → (pieces : List Cut) → Cuts t bytes pieces [] → words_of file t pieces ≡ words
cut_words {file} _ (ends s) e t same [] cuts = refl
cut_words {file} _ (ends s) e t same (p ∷ ps) (after, parts, first, cuts) =
    absurd (omega (arith, length-append p.text after, ap length parts, piece_some _ _ _ _ first))
cut_words {file} _ (stops s piece text rest whole n i x parts is first) e t same pieces cuts = absurd (cc)
cut_words {file} end (goes_on s piece text rest whole words _ parts is none gives) e t same [] cuts =
    absurd (omega (arith, length-append text rest, ap length (sym parts ∙ cuts), piece_some _ _ _ _ is))
cut_words {file} end (goes_on s piece text rest whole words _ parts is none gives) e t same (p ∷ ps) (after, parts', first, cuts) =
    let first_here = subst (λ (y : State). IsPiece (is_include y.line) p.piece p.text after) same first in
    let (a, b, c) = same_piece _ piece p.piece text p.text rest after is first_here (sym parts ∙ parts') in
    let next : advance t p.piece p.text ≡ advance s piece text =
    ap (λ (y : State). advance y p.piece p.text) same
    ∙ (ap (λ (y : Piece). advance s y p.text) (sym a) ∙ ap (λ (y : List ℕ). advance s piece y) (sym b)) in
    let cuts_here = subst (λ (y : List ℕ). Cuts (advance t p.piece p.text) y ps []) (sym c) cuts in
    let y = cut_words end gives e (advance t p.piece p.text) next ps cuts_here in
    ap (λ (z : State). word_before file z.place z.line p.piece p.text (words_of file (advance t p.piece p.text) ps)) same
    ∙ (ap (λ (z : Piece). word_before file s.place s.line z p.text (words_of file (advance t p.piece p.text) ps)) (sym a)
    ∙ (ap (λ (z : List ℕ). word_before file s.place s.line piece z (words_of file (advance t p.piece p.text) ps)) (sym b)
    ∙ ap (word_before file s.place s.line piece text) y))

-- the words of a file are those that were found
pub lexes_is : (file : ℕ) (bytes : List ℕ) (words found : List PlainWord) (end : Option Refusal) → Gives file beginning bytes found end → Lexes file bytes words
    → (end ≡ None) × (words ≡ found)
lexes_is file bytes words found None gives is = (refl, is.are_words ∙ cut_words None gives refl beginning refl is.pieces is.cuts)
lexes_is file bytes words found (Some r) gives is = absurd (is.none_holds found r (holds_of (Some r) r gives refl))

-- the refusal of a file is the one that was found
pub refuses_is : (file : ℕ) (bytes : List ℕ) (words found : List PlainWord) (refusal : Refusal) (end : Option Refusal) → Gives file beginning bytes found end
    → Refuses file bytes words refusal → (end ≡ Some refusal) × (words ≡ found)
refuses_is file bytes words found refusal end gives is =
    let h = is.holds in
    let a = answered end gives beginning refl h.before h.here.piece h.here.text h.rest h.number h.offset h.extent h.cuts h.is_piece h.row in
    let earlier = is.first found a.refusal (holds_of end a.refusal gives a.is) in
    let (same, before) = a.only (subst (λ (r : Refusal). Precedes r a.refusal) h.refused earlier) in
    (a.is ∙ ap (λ (r : Refusal). let o : Option Refusal = Some r in o) (sym same ∙ sym h.refused), h.words_before ∙ before)

-- what a file begins with are the words that were found
begins_is : (file : ℕ) (bytes : List ℕ) (words found : List PlainWord) (end : Option Refusal) → Gives file beginning bytes found end → Begins file bytes words → words ≡ found
begins_is file bytes words found end gives (inl is) = (lexes_is file bytes words found end gives is).1
begins_is file bytes words found end gives (inr (refusal, is)) = (refuses_is file bytes words found refusal end gives is).1

-- the words of a file are unique
pub same_words : (file : ℕ) (bytes : List ℕ) (words others : List PlainWord) → Lexes file bytes words → Lexes file bytes others → words ≡ others
same_words file bytes words others is are =
    let (found, end, gives) = total (length bytes) file beginning bytes (omega arith) in
    (lexes_is file bytes words found end gives is).1 ∙ sym (lexes_is file bytes others found end gives are).1

-- words or one refusal, by how the file ends
has_by_end : (file : ℕ) (bytes : List ℕ) (found : List PlainWord) (end : Option Refusal) → Gives file beginning bytes found end → HasWordsOrOneRefusal file bytes
has_by_end file bytes found None gives = inl (found, lexes_from file bytes found gives)
has_by_end file bytes found (Some refusal) gives =
    inr (
      refusal,
      found,
      refuses_from file bytes found refusal gives,
      (λ others other is. let e = (refuses_is file bytes others found other (Some refusal) gives is).0 in cc),
      (λ words is. let e = (lexes_is file bytes words found (Some refusal) gives is).0 in cc),
    )

-- a file has words, or one refusal
pub words_or_refusal : (file : ℕ) (bytes : List ℕ) → HasWordsOrOneRefusal file bytes
words_or_refusal file bytes =
    let (found, end, gives) = total (length bytes) file beginning bytes (omega arith) in has_by_end file bytes found end gives

-- answers with equal words
same_ok : (words others : List PlainWord) → words ≡ others → ◌≡◌ {A = Result (List PlainWord) LexFault} (Ok words) (Ok others)
same_ok words others e = ap (λ (x : List PlainWord). let r : Result (List PlainWord) LexFault = Ok x in r) e

-- answers with equal refusals
same_refused : (r q : Refusal) → r ≡ q → ◌≡◌ {A = Result (List PlainWord) LexFault} (Err (Refused r)) (Err (Refused q))
same_refused r q e = ap (λ (x : Refusal). let o : Result (List PlainWord) LexFault = Err (Refused x) in o) e

-- answers with equal limits
same_over : (l m : Limit) → l ≡ m → ◌≡◌ {A = Result (List PlainWord) LexFault} (Err (Over l)) (Err (Over m))
same_over l m e = ap (λ (x : Limit). let o : Result (List PlainWord) LexFault = Err (Over x) in o) e

-- two answers, each compared with what was found
same_by : (file : ℕ) (bytes : List ℕ) (found : List PlainWord) (end : Option Refusal) → Gives file beginning bytes found end
    → (a b : Result (List PlainWord) LexFault) → a ≢ Err Memory → b ≢ Err Memory → Answers file bytes a → Answers file bytes b → a ≡ b
same_by file bytes found end gives (Err Memory) b x y is are = absurd (x refl)
same_by file bytes found end gives (Ok words) (Err Memory) x y is are = absurd (y refl)
same_by file bytes found end gives (Err (Refused r)) (Err Memory) x y is are = absurd (y refl)
same_by file bytes found end gives (Err (Over l)) (Err Memory) x y is are = absurd (y refl)
same_by file bytes found end gives (Ok words) (Ok others) x y (a, b, is) (c, d, are) =
    same_ok words others ((lexes_is file bytes words found end gives is).1 ∙ sym (lexes_is file bytes others found end gives are).1)
same_by file bytes found end gives (Ok words) (Err (Refused r)) x y (a, b, is) (c, others, d, are) =
    absurd (let e = (lexes_is file bytes words found end gives is).0 in let f = (refuses_is file bytes others found r end gives are).0 in cc)
same_by file bytes found end gives (Ok words) (Err (Over l)) x y (a, b, is) (inl (c, d)) = absurd (omega arith)
same_by file bytes found end gives (Ok words) (Err (Over l)) x y (a, b, is) (inr (c, d, others, more, are)) =
    absurd (let e = (lexes_is file bytes words found end gives is).1 in let f = begins_is file bytes others found end gives are in
    omega (arith, ap length e, ap length f))
same_by file bytes found end gives (Err (Refused r)) (Ok words) x y (c, others, d, are) (a, b, is) =
    absurd (let e = (lexes_is file bytes words found end gives is).0 in let f = (refuses_is file bytes others found r end gives are).0 in cc)
same_by file bytes found end gives (Err (Refused r)) (Err (Refused q)) x y (a, words, b, is) (c, others, d, are) =
    let e = (refuses_is file bytes words found r end gives is).0 in
    let f = (refuses_is file bytes others found q end gives are).0 in
    same_refused r q (cc)
same_by file bytes found end gives (Err (Refused r)) (Err (Over l)) x y (a, words, b, is) (inl (c, d)) = absurd (omega arith)
same_by file bytes found end gives (Err (Refused r)) (Err (Over l)) x y (a, words, b, is) (inr (c, d, others, more, are)) =
    absurd (let e = (refuses_is file bytes words found r end gives is).1 in let f = begins_is file bytes others found end gives are in
    omega (arith, ap length e, ap length f))
same_by file bytes found end gives (Err (Over l)) (Ok words) x y (inl (c, d)) (a, b, is) = absurd (omega arith)
same_by file bytes found end gives (Err (Over l)) (Ok words) x y (inr (c, d, others, more, are)) (a, b, is) =
    absurd (let e = (lexes_is file bytes words found end gives is).1 in let f = begins_is file bytes others found end gives are in
    omega (arith, ap length e, ap length f))
same_by file bytes found end gives (Err (Over l)) (Err (Refused r)) x y (inl (c, d)) (a, words, b, is) = absurd (omega arith)
same_by file bytes found end gives (Err (Over l)) (Err (Refused r)) x y (inr (c, d, others, more, are)) (a, words, b, is) =
    absurd (let e = (refuses_is file bytes words found r end gives is).1 in let f = begins_is file bytes others found end gives are in
    omega (arith, ap length e, ap length f))
same_by file bytes found end gives (Err (Over l)) (Err (Over m)) x y (inl (a, b)) (inl (c, d)) = same_over l m (a ∙ sym c)
same_by file bytes found end gives (Err (Over l)) (Err (Over m)) x y (inl (a, b)) (inr (c, d, others, more, are)) = absurd (omega arith)
same_by file bytes found end gives (Err (Over l)) (Err (Over m)) x y (inr (c, d, others, more, are)) (inl (a, b)) = absurd (omega arith)
same_by file bytes found end gives (Err (Over l)) (Err (Over m)) x y (inr (a, b, words, h, is)) (inr (c, d, others, more, are)) = same_over l m (a ∙ sym c)

-- a file has one answer
pub same_answer : (file : ℕ) (bytes : List ℕ) (a b : Result (List PlainWord) LexFault) → a ≢ Err Memory → b ≢ Err Memory → Answers file bytes a → Answers file bytes b → a ≡ b
same_answer file bytes a b x y is are =
    let (found, end, gives) = total (length bytes) file beginning bytes (omega arith) in same_by file bytes found end gives a b x y is are
