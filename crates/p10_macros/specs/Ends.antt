-- The replacement of all macros in a list of words (C99 6.10.3.1, 6.10.3.4).
use Rattle.std.specs.Prelude.{ℕ, ◌≡◌, ◌+◌, ◌<◌, List, [], ◌∷◌, ◌++◌, length, Option, Some, None}
use Rattle.p10_base.specs.declared.span.Span.{Span}
use Rattle.p10_direct.specs.Directives.{PlainMacro}
use Rattle.p10_macros.specs.Table.{Table}
use Rattle.p10_macros.specs.Uses.{Sourced, use_of, Stays, Wrong, Calls, replacement}
use Rattle.p10_macros.specs.Endings.{Ending, Gives, Refused, TooMany, after_word, after_argument}

-- the place of a use: its name, or the name of the outermost use where it stands in an argument of that one
abbrev pub place_of_use : Option Span → Sourced → Span
place_of_use None name = name.word.at
place_of_use (Some outermost) name = outermost

mutual
  -- what comes of words, where a number of words of replacements may still be made; the place is that of the outermost use where
  -- the words are an argument of it
  pub data Ends (table : Table) : Option Span → List Sourced → ℕ → Ending (List Sourced) → Type 0 where
    no_words : {outer : Option Span} {left : ℕ} → Ends table outer [] left (Gives [] left)
    -- a word that begins no use stays
    word_stays : {outer : Option Span} {word : Sourced} {words : List Sourced} {left : ℕ} {others ending : Ending (List Sourced)} →
        use_of table word words ≡ Stays → Ends table outer words left others → ending ≡ after_word word others → Ends table outer (word ∷ words) left ending
    use_refused : {outer : Option Span} {word : Sourced} {words : List Sourced} {left number : ℕ} {ending : Ending (List Sourced)} →
        use_of table word words ≡ Wrong number → ending ≡ Refused number (place_of_use outer word) → Ends table outer (word ∷ words) left ending
    -- the arguments of a use are replaced first, each as if it were all that there is; then the use is
    use_replaced : {outer : Option Span} {word : Sourced} {words : List Sourced} {left : ℕ} {ending : Ending (List Sourced)}
        {plain : PlainMacro} {arguments : List (List Sourced)} {rest : List Sourced} {values : Ending (List (List Sourced))} →
        use_of table word words ≡ Calls plain arguments rest → EndsAll table (Some (place_of_use outer word)) arguments left values →
        Follows table outer plain word rest values ending → Ends table outer (word ∷ words) left ending

  -- what comes of arguments, from left to right
  pub data EndsAll (table : Table) : Option Span → List (List Sourced) → ℕ → Ending (List (List Sourced)) → Type 0 where
    no_arguments : {outer : Option Span} {left : ℕ} → EndsAll table outer [] left (Gives [] left)
    argument_given : {outer : Option Span} {argument value : List Sourced} {arguments : List (List Sourced)} {left middle : ℕ} {others ending : Ending (List (List Sourced))} →
        Ends table outer argument left (Gives value middle) → EndsAll table outer arguments middle others → ending ≡ after_argument value others →
        EndsAll table outer (argument ∷ arguments) left ending
    argument_refused : {outer : Option Span} {argument : List Sourced} {arguments : List (List Sourced)} {left number : ℕ} {at : Span} →
        Ends table outer argument left (Refused number at) → EndsAll table outer (argument ∷ arguments) left (Refused number at)
    argument_too_long : {outer : Option Span} {argument : List Sourced} {arguments : List (List Sourced)} {left : ℕ} →
        Ends table outer argument left TooMany → EndsAll table outer (argument ∷ arguments) left TooMany

  -- what comes of a use with these values of its arguments, and of the words after it: the replacement takes its words from
  -- those that may be made, and is looked through again with the words after the use
  pub data Follows (table : Table) : Option Span → PlainMacro → Sourced → List Sourced → Ending (List (List Sourced)) → Ending (List Sourced) → Type 0 where
    replacement_made : {outer : Option Span} {plain : PlainMacro} {name : Sourced} {rest : List Sourced} {values : List (List Sourced)} {left remaining : ℕ} {ending : Ending (List Sourced)} →
        left ≡ length (replacement plain name values) + remaining → Ends table outer (replacement plain name values ++ rest) remaining ending →
        Follows table outer plain name rest (Gives values left) ending
    replacement_too_long : {outer : Option Span} {plain : PlainMacro} {name : Sourced} {rest : List Sourced} {values : List (List Sourced)} {left : ℕ} →
        left < length (replacement plain name values) → Follows table outer plain name rest (Gives values left) TooMany
    values_refused : {outer : Option Span} {plain : PlainMacro} {name : Sourced} {rest : List Sourced} {number : ℕ} {at : Span} →
        Follows table outer plain name rest (Refused number at) (Refused number at)
    values_too_long : {outer : Option Span} {plain : PlainMacro} {name : Sourced} {rest : List Sourced} →
        Follows table outer plain name rest TooMany TooMany

-- words end in one way only: where they have a replacement, it is the only one
abbrev pub WordsEndInOneWay : Type 0
WordsEndInOneWay = (table : Table) (outer : Option Span) (words : List Sourced) (left : ℕ) (this that : Ending (List Sourced)) → Ends table outer words left this → Ends table outer words left that → this ≡ that
