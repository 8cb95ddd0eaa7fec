-- How the replacement of macros ends.
use Rattle.std.specs.Prelude.{ℕ, List, ◌∷◌}
use Rattle.p10_base.specs.declared.span.Span.{Span}
use Rattle.p10_macros.specs.Uses.{Sourced}

-- what comes of a replacement: words, or lists of words
pub data Ending (A : Type 0) : Type 0 where
  -- this, and this many words of replacements may still be made
  Gives : A → ℕ → Ending A
  -- the refusal D6, D7 or D8 at a place
  Refused : ℕ → Span → Ending A
  -- more words of replacements than may be made
  TooMany : Ending A

-- the same ending, with what is made of what it gives
abbrev pub after : {A B : Type 0} → (A → B) → Ending A → Ending B
after change (Gives made left) = Gives (change made) left
after change (Refused number at) = Refused number at
after change TooMany = TooMany

-- with this word before the others
abbrev pub after_word : Sourced → Ending (List Sourced) → Ending (List Sourced)
after_word word ending = after (λ words. word ∷ words) ending

-- with this argument before the others
abbrev pub after_argument : List Sourced → Ending (List (List Sourced)) → Ending (List (List Sourced))
after_argument argument ending = after (λ arguments. argument ∷ arguments) ending
