-- The include lines of a file.
use Rattle.std.proofs.Common.{◌≡◌, ℕ, zero, suc, ◌<◌, Bool, List, [], ◌∷◌, ◌++◌, length, map, get_or, Option, Some, None, Bor, refl, ap, sym, ◌∙◌, subst, inl, inr, arith}
use Rattle.p10_base.specs.declared.word.Word.{Word}
use Rattle.p10_base.specs.Words.{PlainWord, plain_word}
use Rattle.p10_base.specs.declared.report.Refusal.{Refusal}
use Rattle.p10_direct.specs.declared.line.Line.{Line}
use Rattle.p10_direct.specs.declared.line.Line.TheVariants as form
use Rattle.p10_direct.specs.Lines.{Piece, DirectiveLine, TextRun, piece_of, AreCut, IsPiece}
use Rattle.p10_direct.specs.Directives.{Include, Spells, Read, refusal_of, place_of, IsRefused, LinesHaveOneOutcome}
use Rattle.p10_expand.specs.declared.place.Include.{Include as Wanted}
use Rattle.p10_expand.specs.Includes.{Begins, IsNamedBy, NamedIn}

-- a line that is refused is no include line
pub refused_none : (line : List PlainWord) (refusal : Refusal) → LinesHaveOneOutcome → IsRefused line refusal →
    (name : List ℕ) (angle : Bool) → Spells (Include name angle) line → ⊥
refused_none line refusal one refused name angle spells =
    let here : Read (Include name angle) ≡ (one line).outcome = (one line).only (Read (Include name angle)) spells in
    let there : refused.outcome ≡ (one line).outcome = (one line).only refused.outcome refused.is_outcome in
    let same : Read (Include name angle) ≡ refused.outcome = here ∙ sym there in
    let none : None ≡ Some refusal = ap (refusal_of (place_of line)) same ∙ refused.refused in
    absurd cc

piece_begins : (piece : Piece) (rest : List PlainWord) → IsPiece piece rest → Begins piece
piece_begins (TextRun words) rest is = tt
piece_begins (DirectiveLine []) rest is = absurd is
piece_begins (DirectiveLine (word ∷ words)) rest is = is.0

-- the directive lines of a file begin with `#`
pub lines_begin : (lines : List Line) (words : List PlainWord) → AreCut words (map piece_of lines) → (k : ℕ) (d : Line) → k < length lines → Begins (piece_of (get_or lines k d))
lines_begin [] words cut k d below = absurd (omega (arith, below))
lines_begin (line ∷ lines) words (rest, parts, piece, cut) zero d below = piece_begins (piece_of line) rest piece
lines_begin (line ∷ lines) words (rest, parts, piece, cut) (suc k) d below = lines_begin lines rest cut k d (omega (arith, below))

pub named_text : (pieces : List Piece) (includes : List Wanted) (words : List PlainWord) → NamedIn pieces includes → NamedIn (pieces ++ TextRun words ∷ []) includes
named_text [] includes words named = named
named_text (TextRun other ∷ pieces) includes words named = named_text pieces includes words named
named_text (DirectiveLine line ∷ pieces) includes words (inl named) = inl (named.0, named_text pieces includes words named.1)
named_text (DirectiveLine line ∷ pieces) includes words (inr (include, rest, is, parts, named)) = inr (include, rest, is, parts, named_text pieces rest words named)

pub named_none : (pieces : List Piece) (includes : List Wanted) (words : List PlainWord) → IsNamedBy words None → NamedIn pieces includes → NamedIn (pieces ++ DirectiveLine words ∷ []) includes
named_none [] includes words none named = inl (none, named)
named_none (TextRun other ∷ pieces) includes words none named = named_none pieces includes words none named
named_none (DirectiveLine line ∷ pieces) includes words none (inl named) = inl (named.0, named_none pieces includes words none named.1)
named_none (DirectiveLine line ∷ pieces) includes words none (inr (include, rest, is, parts, named)) = inr (include, rest, is, parts, named_none pieces rest words none named)

pub named_some : (pieces : List Piece) (includes : List Wanted) (words : List PlainWord) (last : Wanted) → IsNamedBy words (Some last) → NamedIn pieces includes →
    NamedIn (pieces ++ DirectiveLine words ∷ []) (includes ++ last ∷ [])
named_some [] includes words last some named = inr (last, [], some, ap (λ xs. xs ++ last ∷ []) named, refl)
named_some (TextRun other ∷ pieces) includes words last some named = named_some pieces includes words last some named
named_some (DirectiveLine line ∷ pieces) includes words last some (inl named) = inl (named.0, named_some pieces includes words last some named.1)
named_some (DirectiveLine line ∷ pieces) includes words last some (inr (include, rest, is, parts, named)) =
    inr (include, rest ++ last ∷ [], is, ap (λ xs. xs ++ last ∷ []) parts, named_some pieces rest words last some named)

pub push_text : (line : Line) (w : Bor (List Word)) (pieces : List Piece) (includes : List Wanted) → line ≡ form.Text w → NamedIn pieces includes → NamedIn (pieces ++ piece_of line ∷ []) includes
push_text line w pieces includes is named = subst (λ l. NamedIn (pieces ++ piece_of l ∷ []) includes) (sym is) (named_text pieces includes (map plain_word w.now) named)

pub push_none : (line : Line) (w : Bor (List Word)) (found : Option Wanted) (pieces : List Piece) (includes : List Wanted) → line ≡ form.Directive w → IsNamedBy (map plain_word w.now) found → found ≡ None →
    NamedIn pieces includes → NamedIn (pieces ++ piece_of line ∷ []) includes
push_none line w found pieces includes is by none named =
    subst (λ l. NamedIn (pieces ++ piece_of l ∷ []) includes) (sym is) (named_none pieces includes (map plain_word w.now) (subst (λ o. IsNamedBy (map plain_word w.now) o) none by) named)

pub push_some : (line : Line) (w : Bor (List Word)) (found : Option Wanted) (include : Wanted) (pieces : List Piece) (includes more : List Wanted) → line ≡ form.Directive w → IsNamedBy (map plain_word w.now) found → found ≡ Some include →
    more ≡ includes ++ include ∷ [] → NamedIn pieces includes → NamedIn (pieces ++ piece_of line ∷ []) more
push_some line w found include pieces includes more is by some more_is named =
    subst (λ l. NamedIn (pieces ++ piece_of l ∷ []) more) (sym is) (subst (λ xs. NamedIn (pieces ++ piece_of (form.Directive w) ∷ []) xs) (sym more_is)
    (named_some pieces includes (map plain_word w.now) include (subst (λ o. IsNamedBy (map plain_word w.now) o) some by) named))
