-- A run of words has an ending: each replacement takes from the words that may be made, or leaves fewer words.
use Rattle.std.proofs.Common.{◌≡◌, ℕ, zero, suc, ◌+◌, ◌-◌, ◌<◌, ◌≤◌, List, [], ◌∷◌, ◌++◌, length, Option, Some, refl, subst, inl, inr, ◌⊎◌, arith, length-append}
use Rattle.p10_base.specs.declared.span.Span.{Span}
use Rattle.p10_direct.specs.Directives.{PlainMacro}
use Rattle.p10_macros.specs.Table.{Table}
use Rattle.p10_macros.specs.Uses.{Sourced, Use, use_of, Stays, Wrong, Calls, replacement}
use Rattle.p10_macros.specs.Endings.{Ending, Gives, Refused, TooMany, after_word, after_argument}
use Rattle.p10_macros.specs.Ends.{Ends, EndsAll, Follows, place_of_use, no_words, word_stays, use_refused, use_replaced, no_arguments, argument_given, argument_refused, argument_too_long, replacement_made, replacement_too_long, values_refused, values_too_long}
use Rattle.p10_expand.proofs.Counting.{together, UseFew, use_few, Few, ends_few}
use Rattle.p10_expansion_laws.specs.Existing.{WordsEnd}

module _ (table : Table) where
  -- an ending of words
  abbrev EndingOf : Option Span → List Sourced → ℕ → Type 0
  EndingOf outer words left = (ending : Ending (List Sourced)) × Ends table outer words left ending

  -- up to `size` words end, where up to `budget` may be made
  abbrev UpTo : ℕ → ℕ → Type 0
  UpTo budget size = (outer : Option Span) (words : List Sourced) (left : ℕ) → left ≤ budget → length words ≤ size → EndingOf outer words left

  -- all words end where fewer may be made
  abbrev Lower : ℕ → Type 0
  Lower zero = Unit {0}
  Lower (suc budget) = (size : ℕ) → UpTo budget size

  -- ## Arguments

  -- no more words may be made after than before
  abbrev LeavesAtMost : ℕ → Ending (List (List Sourced)) → Type 0
  LeavesAtMost left (Gives values remaining) = remaining ≤ left
  LeavesAtMost left (Refused number at) = Unit {0}
  LeavesAtMost left TooMany = Unit {0}

  abbrev EndingOfAll : Option Span → List (List Sourced) → ℕ → Type 0
  EndingOfAll outer arguments left = (ending : Ending (List (List Sourced))) × EndsAll table outer arguments left ending × LeavesAtMost left ending

  leaves_less : (left middle : ℕ) (value : List Sourced) (ending : Ending (List (List Sourced))) → middle ≤ left → LeavesAtMost middle ending → LeavesAtMost left (after_argument value ending)
  leaves_less left middle value (Gives values remaining) less p = omega (arith, less, p)
  leaves_less left middle value (Refused number at) less p = tt
  leaves_less left middle value TooMany less p = tt

  first_ends : (outer : Option Span) (argument : List Sourced) (arguments : List (List Sourced)) (left : ℕ) (ending : Ending (List Sourced)) → Ends table outer argument left ending →
      ((middle : ℕ) → middle ≤ left → EndingOfAll outer arguments middle) → EndingOfAll outer (argument ∷ arguments) left
  first_ends outer argument arguments left (Gives value middle) first others =
      let few : Few (length argument + left) left (Gives value middle) = ends_few first in
      let rest = others middle few.1 in
      (after_argument value rest.0, argument_given first rest.1 refl, leaves_less left middle value rest.0 few.1 rest.2)
  first_ends outer argument arguments left (Refused number at) first others = (Refused number at, argument_refused first, tt)
  first_ends outer argument arguments left TooMany first others = (TooMany, argument_too_long first, tt)

  all_end : (budget size : ℕ) → UpTo budget size → (outer : Option Span) (arguments : List (List Sourced)) (left : ℕ) → left ≤ budget → together arguments ≤ size → EndingOfAll outer arguments left
  all_end budget size each outer [] left p q = (Gives [] left, no_arguments, omega arith)
  all_end budget size each outer (argument ∷ arguments) left p q =
      let first = each outer argument left p (omega (arith, q)) in
      first_ends outer argument arguments left first.0 first.1 (λ middle less. all_end budget size each outer arguments middle (omega (arith, p, less)) (omega (arith, q)))

  -- ## Uses

  -- after the replacement, which gives no words
  none_made : (budget size : ℕ) → UpTo budget size → (outer : Option Span) (plain : PlainMacro) (name : Sourced) (rest : List Sourced) (values : List (List Sourced)) (left : ℕ) (made : List Sourced) →
      made ≡ replacement plain name values → length made ≡ 0 → left ≤ budget → length rest ≤ size → (ending : Ending (List Sourced)) × Follows table outer plain name rest (Gives values left) ending
  none_made budget size each outer plain name rest values left made is none p q =
      let words = each outer (replacement plain name values ++ rest) left p (omega (arith, q, none, length-append (replacement plain name values) rest, subst (λ m. length m ≡ length made) is refl)) in
      (words.0, replacement_made (omega (arith, none, subst (λ m. length m ≡ length made) is refl)) words.1)

  -- after one that gives some
  some_made : (budget : ℕ) → Lower budget → (outer : Option Span) (plain : PlainMacro) (name : Sourced) (rest : List Sourced) (values : List (List Sourced)) (left remaining : ℕ) →
      left ≡ length (replacement plain name values) + remaining → remaining < left → left ≤ budget → (ending : Ending (List Sourced)) × Follows table outer plain name rest (Gives values left) ending
  some_made zero lower outer plain name rest values left remaining costs less p = absurd (omega (arith, less, p))
  some_made (suc budget) lower outer plain name rest values left remaining costs less p =
      let words = lower (length (replacement plain name values ++ rest)) outer (replacement plain name values ++ rest) remaining (omega (arith, less, p)) (omega arith) in
      (words.0, replacement_made costs words.1)

  made_by : (budget size : ℕ) → Lower budget → UpTo budget size → (outer : Option Span) (plain : PlainMacro) (name : Sourced) (rest : List Sourced) (values : List (List Sourced)) (left : ℕ) →
      left ≤ budget → length rest ≤ size → (length (replacement plain name values) ≡ 0) ⊎ ((0 < length (replacement plain name values)) × (length (replacement plain name values) ≤ left)) ⊎ (left < length (replacement plain name values)) →
      (ending : Ending (List Sourced)) × Follows table outer plain name rest (Gives values left) ending
  made_by budget size lower each outer plain name rest values left p q (inl none) = none_made budget size each outer plain name rest values left (replacement plain name values) refl none p q
  made_by budget size lower each outer plain name rest values left p q (inr (inl some)) =
      some_made budget lower outer plain name rest values left (left - length (replacement plain name values)) (omega (arith, some.0, some.1)) (omega (arith, some.0, some.1)) p
  made_by budget size lower each outer plain name rest values left p q (inr (inr less)) = (TooMany, replacement_too_long less)

  three_ways : (count left : ℕ) → (count ≡ 0) ⊎ ((0 < count) × (count ≤ left)) ⊎ (left < count)
  three_ways zero left = inl refl
  three_ways (suc count) zero = inr (inr (omega arith))
  three_ways (suc count) (suc left) = more (three_ways count left)
    where
      more : (count ≡ 0) ⊎ ((0 < count) × (count ≤ left)) ⊎ (left < count) → (suc count ≡ 0) ⊎ ((0 < suc count) × (suc count ≤ suc left)) ⊎ (suc left < suc count)
      more (inl none) = inr (inl (omega arith, omega (arith, none)))
      more (inr (inl some)) = inr (inl (omega arith, omega (arith, some.1)))
      more (inr (inr less)) = inr (inr (omega (arith, less)))

  values_follow : (budget size : ℕ) → Lower budget → UpTo budget size → (outer : Option Span) (plain : PlainMacro) (name : Sourced) (rest : List Sourced) (values : Ending (List (List Sourced))) (left : ℕ) →
      LeavesAtMost left values → left ≤ budget → length rest ≤ size → (ending : Ending (List Sourced)) × Follows table outer plain name rest values ending
  values_follow budget size lower each outer plain name rest (Gives values remaining) left few p q =
      made_by budget size lower each outer plain name rest values remaining (omega (arith, few, p)) q (three_ways (length (replacement plain name values)) remaining)
  values_follow budget size lower each outer plain name rest (Refused number at) left few p q = (Refused number at, values_refused)
  values_follow budget size lower each outer plain name rest TooMany left few p q = (TooMany, values_too_long)

  -- ## Words

  word_ends : (budget size : ℕ) → Lower budget → UpTo budget size → (outer : Option Span) (word : Sourced) (words : List Sourced) (left : ℕ) (use' : Use) → use_of table word words ≡ use' →
      left ≤ budget → length words ≤ size → EndingOf outer (word ∷ words) left
  word_ends budget size lower each outer word words left Stays is p q =
      let rest = each outer words left p q in
      (after_word word rest.0, word_stays is rest.1 refl)
  word_ends budget size lower each outer word words left (Wrong number) is p q = (Refused number (place_of_use outer word), use_refused is refl)
  word_ends budget size lower each outer word words left (Calls plain arguments rest) is p q =
      let within : together arguments + length rest ≤ length words = subst (UseFew (length words)) is (use_few table word words) in
      let values = all_end budget size each (Some (place_of_use outer word)) arguments left p (omega (arith, within, q)) in
      let follows = values_follow budget size lower each outer plain word rest values.0 left values.2 p (omega (arith, within, q)) in
      (follows.0, use_replaced is values.1 follows.1)

  up_to : (budget : ℕ) → Lower budget → (size : ℕ) → UpTo budget size
  up_to budget lower size outer [] left p q = (Gives [] left, no_words)
  up_to budget lower zero outer (word ∷ words) left p q = absurd (omega (arith, q))
  up_to budget lower (suc size) outer (word ∷ words) left p q = word_ends budget size lower (up_to budget lower size) outer word words left (use_of table word words) refl p (omega (arith, q))

  each_budget : (budget : ℕ) → Lower (suc budget)
  each_budget zero size = up_to zero tt size
  each_budget (suc budget) size = up_to (suc budget) (each_budget budget) size

-- words end in some way
pub words_end : WordsEnd
words_end table outer words left = each_budget table left (length words) outer words left (omega arith) (omega arith)
