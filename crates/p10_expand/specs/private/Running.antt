-- What the functions on runs of text answer.
use Rattle.std.specs.Prelude.{ℕ, ◌≡◌, ◌≤◌, List, ◌∷◌, ◌++◌, length}
use Rattle.p10_macros.specs.Uses.{Sourced, sourced_words}
use Rattle.p10_macros.specs.Endings.{Gives}
use Rattle.p10_base.specs.Words.{PlainWord, Text}
use Rattle.p10_macros.specs.Table.{Table}
use Rattle.p10_expand.specs.Conditionals.{RunEnds, answered}
use Rattle.p10_expand.specs.Items.{given_after, new_words}
use Rattle.p10_expand.specs.Obeying.{State, with_words}

-- the words before a refused use were replaced, if they have a replacement
abbrev pub GivesBefore : State → List PlainWord → State → Type 0
GivesBefore old before new = (made : List Sourced) (left : ℕ) → RunEnds old.macros before old.left (Gives made left) → new ≡ with_words old (sourced_words made)

-- a line was put after the words, unless its item was given before: whatever lines follow
pub record PutsItem (out : List PlainWord) (given : List Text) (line : List PlainWord) (new : List PlainWord) (new_given : List Text) : Type 0 where
  pub words : (lines : List (List PlainWord)) → new ++ new_words new_given lines ≡ out ++ new_words given (line ∷ lines)
  pub names : (lines : List (List PlainWord)) → given_after new_given lines ≡ given_after given (line ∷ lines)

-- a word of a condition was answered, and `more` words after it with it
pub record PutsAnswer (macros : Table) (out : List PlainWord) (word : PlainWord) (words : List PlainWord) (new : List PlainWord) (more : ℕ) : Type 0 where
  pub within : more ≤ length words
  pub same : new ++ answered macros more words ≡ out ++ answered macros 0 (word ∷ words)
