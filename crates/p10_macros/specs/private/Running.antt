-- A replacement that is under way, and what can come of it.
use Rattle.std.specs.Prelude.{ℕ, ◌≡◌, ◌+◌, ◌<◌, List, [], ◌∷◌, ◌++◌, length, Option, Some, None, ◌⊎◌}
use Rattle.p10_base.specs.declared.span.Span.{Span}
use Rattle.p10_direct.specs.Directives.{PlainMacro}
use Rattle.p10_macros.specs.Table.{Table}
use Rattle.p10_macros.specs.Uses.{Sourced, replacement}
use Rattle.p10_macros.specs.Endings.{Ending, Gives, Refused, TooMany, after}
use Rattle.p10_macros.specs.Ends.{Ends, EndsAll}

-- a use whose arguments are being replaced
pub record OpenUse : Type 0 where
  pub plain : PlainMacro
  pub name : Sourced
  -- the name of the outermost use
  pub place : Span
  -- what came of the words before the use
  pub before : List Sourced
  -- what came of the arguments before the one that is being replaced
  pub values : List (List Sourced)
  -- the arguments after that one, and the words after the use
  pub waiting : List (List Sourced)
  pub rest : List Sourced

-- the place of refusals, where these uses are open, the innermost one first
abbrev pub outer_of : List OpenUse → Option Span
outer_of [] = None
outer_of (use' ∷ uses) = Some use'.place

-- the same ending, with these words before those that it gives
abbrev pub after_words : List Sourced → Ending (List Sourced) → Ending (List Sourced)
after_words done ending = after (λ words. done ++ words) ending

-- what comes of words, where `done` came of those before them, and `Closes` says what comes of what comes of all these words
abbrev pub ComesBy : Table → Option Span → (Ending (List Sourced) → Ending (List Sourced) → Type 0) → List Sourced → List Sourced → ℕ → Ending (List Sourced) → Type 0
ComesBy table outer Closes todo done left ending =
    (level : Ending (List Sourced)) × Ends table outer todo left level × Closes (after_words done level) ending

-- what comes of a use with these values: `Comes` says what comes of the words that then stand in the place of the use
abbrev pub Replaces : (List Sourced → List Sourced → ℕ → Ending (List Sourced) → Type 0) → OpenUse → Ending (List (List Sourced)) → Ending (List Sourced) → Type 0
Replaces Comes use' (Gives values left) ending =
    ((left < length (replacement use'.plain use'.name values)) × (ending ≡ TooMany))
    ⊎ ((remaining : ℕ) × (left ≡ length (replacement use'.plain use'.name values) + remaining) × Comes (replacement use'.plain use'.name values ++ use'.rest) use'.before remaining ending)
Replaces Comes use' (Refused number at) ending = ending ≡ Refused number at
Replaces Comes use' TooMany ending = ending ≡ TooMany

-- what comes of an open use, where this comes of the argument that is being replaced
abbrev pub Returns : Table → (List Sourced → List Sourced → ℕ → Ending (List Sourced) → Type 0) → OpenUse → Ending (List Sourced) → Ending (List Sourced) → Type 0
Returns table Comes use' (Gives value left) ending =
    (values : Ending (List (List Sourced))) × EndsAll table (Some use'.place) use'.waiting left values × Replaces Comes use' (after (λ more. use'.values ++ value ∷ more) values) ending
Returns table Comes use' (Refused number at) ending = ending ≡ Refused number at
Returns table Comes use' TooMany ending = ending ≡ TooMany

-- what comes of open uses, where this comes of the innermost argument
abbrev pub Closes : Table → List OpenUse → Ending (List Sourced) → Ending (List Sourced) → Type 0
Closes table [] level ending = ending ≡ level
Closes table (use' ∷ uses) level ending = Returns table (ComesBy table (outer_of uses) (Closes table uses)) use' level ending

-- what comes of words in the innermost argument of open uses
abbrev pub Comes : Table → List OpenUse → List Sourced → List Sourced → ℕ → Ending (List Sourced) → Type 0
Comes table uses todo done left ending = ComesBy table (outer_of uses) (Closes table uses) todo done left ending
