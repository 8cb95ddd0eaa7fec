-- The words that replacement meets in a run of words, and the uses that begin among the run's own words (C99 6.10.3, 6.10.3.4).
use Rattle.std.specs.Prelude.{ℕ, ◌≡◌, List, ◌∷◌, ◌++◌, Contains, map, Option}
use Rattle.p10_base.specs.declared.span.Span.{Span}
use Rattle.p10_base.specs.Words.{PlainWord}
use Rattle.p10_direct.specs.Directives.{PlainMacro}
use Rattle.p10_macros.specs.Table.{Table}
use Rattle.p10_macros.specs.Uses.{Sourced, written, use_of, Stays, Calls, replacement}
use Rattle.p10_macros.specs.Endings.{Gives}
use Rattle.p10_macros.specs.Ends.{EndsAll}

-- replacement, from left to right, comes from these words to those: a word that begins no use is passed, and a use is replaced, and then its
-- replacement is looked through with the words after it (C99 6.10.3.4p1)
pub data AreMet (macros : Table) : List Sourced → List Sourced → Type 0 where
  there : {words : List Sourced} → AreMet macros words words
  past_word : {word : Sourced} {words those : List Sourced} → use_of macros word words ≡ Stays → AreMet macros words those → AreMet macros (word ∷ words) those
  past_use : {word : Sourced} {words rest those : List Sourced} {plain : PlainMacro} {arguments values : List (List Sourced)} {outer : Option Span} {left remaining : ℕ} →
      use_of macros word words ≡ Calls plain arguments rest → EndsAll macros outer arguments left (Gives values remaining) → AreMet macros (replacement plain word values ++ rest) those →
      AreMet macros (word ∷ words) those

-- a name of a run of words, as it was written, begins a use when it is met: it is the name of a macro that is defined, and where that is
-- function-like the word that then follows is a `(` (C99 6.10.3p9, p10)
pub record IsOutermostUse (macros : Table) (run : List PlainWord) (name : PlainWord) : Type 0 where
  pub among : Contains run name
  pub following : List Sourced
  pub met : AreMet macros (map written run) (written name ∷ following)
  pub plain : PlainMacro
  pub arguments : List (List Sourced)
  pub rest : List Sourced
  pub calls : use_of macros (written name) following ≡ Calls plain arguments rest
