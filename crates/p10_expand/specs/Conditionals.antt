-- What comes of the condition of an `#if` or `#elif` (C99 6.10.1).
use Rattle.std.specs.Prelude.{ℕ, ◌≡◌, ◌⊎◌, zero, suc, List, [], ◌∷◌, Bool, ◌&&◌, map, Option, Some, None, is_some, if◌then◌else◌, codes}
use Rattle.p10_base.specs.declared.span.Span.{Span}
use Rattle.p10_base.specs.declared.word.Kind.TheVariants.{Number}
use Rattle.p10_base.specs.declared.report.Refusal.{Refusal}
use Rattle.p10_base.specs.declared.report.Family.TheVariants.{D}
use Rattle.p10_base.specs.Words.{PlainWord, Text, is_name, is_name_kind, is_punctuator}
use Rattle.p10_direct.specs.Conditions.{HasTruth}
use Rattle.p10_macros.specs.Table.{Table, macro_named}
use Rattle.p10_macros.specs.Uses.{Sourced, written, sourced_words}
use Rattle.p10_macros.specs.Endings.{Ending, Gives, Refused, TooMany}
use Rattle.p10_macros.specs.Ends.{Ends}
use Rattle.p10_base.specs.Codes.{directive_refusal}
use Rattle.p10_base.specs.declared.codes.DirectiveCode.TheVariants.{BadCondition}

-- the refusal with this number among those of directives and macros
abbrev pub refusal_of : ℕ → Span → Refusal
refusal_of number at = record { family = D; number = number; span = at }

-- a name is that of a macro that is defined
abbrev pub is_defined : Table → Text → Bool
is_defined macros name = is_some (macro_named name macros)

-- what comes of a run of words of a source (C99 6.10.3)
abbrev pub RunEnds : Table → List PlainWord → ℕ → Ending (List Sourced) → Type 0
RunEnds macros words left ending = Ends macros None (map written words) left ending

-- ## `defined X` and `defined(X)`

-- the name in parentheses for which the words after `defined (` ask, and how many words after `defined` that takes
abbrev pub asked_inside : List PlainWord → Option (Text × ℕ)
asked_inside (name ∷ closing ∷ words) = if is_name_kind name.kind && is_punctuator (codes ")") closing then Some (name.text, 3) else None
asked_inside _ = None

-- what the words after `defined` ask for: a name, and how many words that takes
abbrev pub asked : List PlainWord → Option (Text × ℕ)
asked [] = None
asked (word ∷ words) =
    if is_name_kind word.kind then Some (word.text, 1)
    else if is_punctuator (codes "(") word then asked_inside words
    else None

-- what a word and those after it ask for
abbrev pub asked_at : PlainWord → List PlainWord → Option (Text × ℕ)
asked_at word words = if is_name (codes "defined") word then asked words else None

-- the number that stands for `defined` and its name (C99 6.10.1p1)
abbrev pub digit_at : PlainWord → Bool → PlainWord
digit_at word truth = record word { kind = Number; text = if truth then codes "1" else codes "0" }

-- a word, or the number that stands for the question that it begins, before the others; these depend on how many words are asked with
abbrev pub answered_at : Table → PlainWord → (ℕ → List PlainWord) → Option (Text × ℕ) → List PlainWord
answered_at macros word others None = word ∷ others 0
answered_at macros word others (Some (name, more)) = digit_at word (is_defined macros name) ∷ others more

-- a condition where these questions are answered, before macros are replaced; the first `more` words belong to the last question
abbrev pub answered : Table → ℕ → List PlainWord → List PlainWord
answered macros more [] = []
answered macros (suc more) (word ∷ words) = answered macros more words
answered macros zero (word ∷ words) = answered_at macros word (λ more. answered macros more words) (asked_at word words)

-- ## Truth

-- what comes of a condition
pub data Judged : Type 0 where
  -- its truth, and how many words of replacements may still be made
  Holds : Bool → ℕ → Judged
  Fails : Refusal → Judged
  -- too many words of replacements were made
  Exceeds : Judged

-- what comes of the words of a condition of a directive at this place, after replacement
abbrev pub Judges : Span → Ending (List Sourced) → Judged → Type 0
Judges whole (Gives made left) judged =
    ((truth : Bool) × HasTruth (sourced_words made) truth × (judged ≡ Holds truth left))
    ⊎ (((truth : Bool) → HasTruth (sourced_words made) truth → ⊥) × (judged ≡ Fails (directive_refusal BadCondition whole)))
Judges whole (Refused number at) judged = judged ≡ Fails (refusal_of number at)
Judges whole TooMany judged = judged ≡ Exceeds

-- what comes of a condition of a directive at this place: `defined` is answered, then macros are replaced in what is left of the line (C99 6.10.1p4)
abbrev pub JudgesCondition : Table → Span → List PlainWord → ℕ → Judged → Type 0
JudgesCondition macros whole words left judged =
    (ending : Ending (List Sourced)) × RunEnds macros (answered macros 0 words) left ending × Judges whole ending judged
