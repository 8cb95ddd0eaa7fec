-- The words before a refused use of a macro.
use Rattle.std.specs.Prelude.{ℕ, suc, ◌≤◌, List, [], ◌∷◌}
use Rattle.p10_base.specs.declared.span.Span.{Span}
use Rattle.p10_macros.specs.Table.{Table}
use Rattle.p10_macros.specs.Uses.{Sourced}
use Rattle.p10_macros.specs.Endings.{Gives, Refused}
use Rattle.p10_expand.specs.Conditionals.{RunEnds}
use Rattle.p10_expand.specs.Obeying.{words_before}
use Rattle.p10_base.specs.Words.{PlainWord}

-- each word begins after the beginning of the one before it, as the words of a file do, and the first not before this place
abbrev pub ComeInOrder : ℕ → List PlainWord → Type 0
ComeInOrder place [] = Unit {0}
ComeInOrder place (word ∷ words) = (place ≤ word.at.start) × ComeInOrder (suc word.at.start) words

-- where a run of words that come in order is refused, the words before the refused use have a replacement: none of them is refused,
-- and they don't give too many words
abbrev pub WordsBeforeGive : Type 0
WordsBeforeGive =
    (macros : Table) (words : List PlainWord) (left number : ℕ) (at : Span) → ComeInOrder 0 words → RunEnds macros words left (Refused number at) →
    (made : List Sourced) × (remaining : ℕ) × RunEnds macros (words_before at words) left (Gives made remaining)
