-- The places of the words of a replacement: that of the outermost use.
use Rattle.std.specs.Prelude.{ℕ, ◌≡◌, ◌⊎◌, List, Contains, map, None}
use Rattle.std.specs.List.{AllByRecursion}
use Rattle.p10_base.specs.Words.{PlainWord}
use Rattle.p10_macros.specs.Table.{Table}
use Rattle.p10_macros.specs.Uses.{Sourced, written}
use Rattle.p10_macros.specs.Endings.{Gives}
use Rattle.p10_macros.specs.Ends.{Ends}
use Rattle.p10_expand.specs.Meeting.{IsOutermostUse}

-- a word of these words as it was written: it comes from no macro
abbrev pub IsOwn : List PlainWord → Sourced → Type 0
IsOwn words sourced = (word : PlainWord) × Contains words word × (sourced ≡ written word)

-- a word stands at the place of an outermost use: of a name among these words that began a use when it was met
abbrev pub IsAtUse : Table → List PlainWord → Sourced → Type 0
IsAtUse table words sourced = (name : PlainWord) × IsOutermostUse table words name × (sourced.word.at ≡ name.at)

-- each word of the replacement of a run of words is one of the run, or stands at the place of an outermost use
abbrev pub WordsStandAtUses : Type 0
WordsStandAtUses =
    (table : Table) (words : List PlainWord) (made : List Sourced) (left remaining : ℕ) → Ends table None (map written words) left (Gives made remaining) →
    AllByRecursion (λ word. IsOwn words word ⊎ IsAtUse table words word) made
