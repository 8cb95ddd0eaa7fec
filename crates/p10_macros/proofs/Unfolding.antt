-- What comes of words, by what the first of them begins.
use Rattle.std.proofs.Common.{◌≡◌, ℕ, List, ◌∷◌, Option, Some, sym, subst}
use Rattle.p10_base.specs.declared.span.Span.{Span}
use Rattle.p10_macros.specs.Table.{Table}
use Rattle.p10_macros.specs.Uses.{Sourced, Use, use_of, Stays, Wrong, Calls}
use Rattle.p10_macros.specs.Endings.{Ending, Refused, after_word}
use Rattle.p10_macros.specs.Ends.{Ends, EndsAll, Follows, place_of_use, word_stays, use_refused, use_replaced}

-- what comes of a word that begins this, and of the words after it
abbrev pub Unfolds : Table → Option Span → Sourced → List Sourced → ℕ → Ending (List Sourced) → Use → Type 0
Unfolds table outer word words left ending Stays = (behind : Ending (List Sourced)) × Ends table outer words left behind × (ending ≡ after_word word behind)
Unfolds table outer word words left ending (Wrong number) = ending ≡ Refused number (place_of_use outer word)
Unfolds table outer word words left ending (Calls plain arguments rest) =
    (values : Ending (List (List Sourced))) × EndsAll table (Some (place_of_use outer word)) arguments left values × Follows table outer plain word rest values ending

unfolds_by_use : (table : Table) (outer : Option Span) (word : Sourced) (words : List Sourced) (left : ℕ) (ending : Ending (List Sourced)) →
    Ends table outer (word ∷ words) left ending → Unfolds table outer word words left ending (use_of table word words)
unfolds_by_use table outer word words left ending (word_stays is ends gives) = subst (λ (use' : Use). Unfolds table outer word words left ending use') (sym is) (_, ends, gives)
unfolds_by_use table outer word words left ending (use_refused is refused) = subst (λ (use' : Use). Unfolds table outer word words left ending use') (sym is) refused
unfolds_by_use table outer word words left ending (use_replaced is ends follows) = subst (λ (use' : Use). Unfolds table outer word words left ending use') (sym is) (_, ends, follows)

pub unfolds : {table : Table} {outer : Option Span} {word : Sourced} {words : List Sourced} {left : ℕ} {ending : Ending (List Sourced)} {use' : Use} →
    Ends table outer (word ∷ words) left ending → use_of table word words ≡ use' → Unfolds table outer word words left ending use'
unfolds {table} {outer} {word} {words} {left} {ending} ends is = subst (λ (use' : Use). Unfolds table outer word words left ending use') is (unfolds_by_use table outer word words left ending ends)
