-- The steps of a replacement: whatever comes of what a step leaves comes of what was there before.
use Rattle.std.proofs.Common.{◌≡◌, ℕ, ◌+◌, ◌<◌, List, [], ◌∷◌, ◌++◌, length, Option, Some, None, inl, inr, sym, subst, ap, ◌∙◌, refl, append_assoc, append-nil}
use Rattle.p10_base.specs.declared.span.Span.{Span}
use Rattle.p10_direct.specs.Directives.{PlainMacro}
use Rattle.p10_macros.specs.Table.{Table}
use Rattle.p10_macros.specs.Uses.{Sourced, use_of, Stays, Wrong, Calls, replacement}
use Rattle.p10_macros.specs.Endings.{Ending, Gives, Refused, TooMany, after, after_word, after_argument}
use Rattle.p10_macros.specs.Ends.{Ends, EndsAll, place_of_use, no_words, word_stays, use_refused, use_replaced, no_arguments, argument_given, argument_refused, argument_too_long, replacement_made, replacement_too_long, values_refused, values_too_long}
use Rattle.p10_macros.specs.private.Running.{OpenUse, outer_of, after_words, Replaces, Returns, Closes, Comes}

closes_refused : (table : Table) (uses : List OpenUse) (number : ℕ) (at : Span) → Closes table uses (Refused number at) (Refused number at)
closes_refused table [] number at = refl
closes_refused table (use' ∷ uses) number at = refl

closes_too_many : (table : Table) (uses : List OpenUse) → Closes table uses TooMany TooMany
closes_too_many table [] = refl
closes_too_many table (use' ∷ uses) = refl

pub behind_one_more : (done : List Sourced) (word : Sourced) (level : Ending (List Sourced)) → after_words (done ++ word ∷ []) level ≡ after_words done (after_word word level)
behind_one_more done word (Gives words left) = ap (λ (all : List Sourced). Gives all left) (append_assoc done (word ∷ []) words)
behind_one_more done word (Refused number at) = refl
behind_one_more done word TooMany = refl

pub behind_none : (level : Ending (List Sourced)) → after_words [] level ≡ level
behind_none (Gives words left) = refl
behind_none (Refused number at) = refl
behind_none TooMany = refl

-- a word that begins no use goes to those that are done
pub step_stays : (table : Table) (uses : List OpenUse) (word : Sourced) (words done : List Sourced) (left : ℕ) → use_of table word words ≡ Stays →
    (ending : Ending (List Sourced)) → Comes table uses words (done ++ word ∷ []) left ending → Comes table uses (word ∷ words) done left ending
step_stays table uses word words done left is ending (level, ends, closes) =
    (after_word word level, word_stays is ends refl, subst (λ (l : Ending (List Sourced)). Closes table uses l ending) (behind_one_more done word level) closes)

-- a word that begins no use and stands in none is given
pub step_given : (table : Table) (word : Sourced) (words : List Sourced) (left : ℕ) → use_of table word words ≡ Stays →
    (level : Ending (List Sourced)) → Comes table [] words [] left level → Comes table [] (word ∷ words) [] left (after_word word level)
step_given table word words left is level (last, ends, closes) =
    (after_word word last, word_stays is ends refl, ap (λ (l : Ending (List Sourced)). after_word word l) (closes ∙ behind_none last) ∙ sym (behind_none (after_word word last)))

-- a use is refused
pub step_refused : (table : Table) (uses : List OpenUse) (word : Sourced) (words done : List Sourced) (left number : ℕ) → use_of table word words ≡ Wrong number →
    Comes table uses (word ∷ words) done left (Refused number (place_of_use (outer_of uses) word))
step_refused table uses word words done left number is = (Refused number (place_of_use (outer_of uses) word), use_refused is refl, closes_refused table uses number _)

-- a use without arguments is replaced
pub step_replaced : (table : Table) (uses : List OpenUse) (word : Sourced) (words done : List Sourced) (left remaining : ℕ) (plain : PlainMacro) (rest : List Sourced) →
    use_of table word words ≡ Calls plain [] rest → left ≡ length (replacement plain word []) + remaining →
    (ending : Ending (List Sourced)) → Comes table uses (replacement plain word [] ++ rest) done remaining ending → Comes table uses (word ∷ words) done left ending
step_replaced table uses word words done left remaining plain rest is costs ending (level, ends, closes) =
    (level, use_replaced is no_arguments (replacement_made costs ends), closes)

pub step_too_long : (table : Table) (uses : List OpenUse) (word : Sourced) (words done : List Sourced) (left : ℕ) (plain : PlainMacro) (rest : List Sourced) →
    use_of table word words ≡ Calls plain [] rest → left < length (replacement plain word []) → Comes table uses (word ∷ words) done left TooMany
step_too_long table uses word words done left plain rest is less =
    (TooMany, use_replaced is no_arguments (replacement_too_long less), closes_too_many table uses)

-- the use that is opened for a word
abbrev pub opened : Option Span → PlainMacro → Sourced → List Sourced → List (List Sourced) → List Sourced → OpenUse
opened outer plain word done others rest =
    record { plain = plain; name = word; place = place_of_use outer word; before = done; values = []; waiting = others; rest = rest }

module _ (table : Table) (uses : List OpenUse) (word : Sourced) (words done : List Sourced) (plain : PlainMacro) (first : List Sourced) (others : List (List Sourced)) (rest : List Sourced)
    (is : use_of table word words ≡ Calls plain (first ∷ others) rest) where
  opened_made : (left : ℕ) (values : Ending (List (List Sourced))) → EndsAll table (Some (place_of_use (outer_of uses) word)) (first ∷ others) left values →
      (ending : Ending (List Sourced)) → Replaces (Comes table uses) (opened (outer_of uses) plain word done others rest) values ending → Comes table uses (word ∷ words) done left ending
  opened_made left (Gives values left') ends ending (inl (less, e)) =
      (TooMany, use_replaced is ends (replacement_too_long less), subst (λ (l : Ending (List Sourced)). Closes table uses TooMany l) (sym e) (closes_too_many table uses))
  opened_made left (Gives values left') ends ending (inr (remaining, costs, (level, ends', closes))) = (level, use_replaced is ends (replacement_made costs ends'), closes)
  opened_made left (Refused number at) ends ending e =
      (Refused number at, use_replaced is ends values_refused, subst (λ (l : Ending (List Sourced)). Closes table uses (Refused number at) l) (sym e) (closes_refused table uses number at))
  opened_made left TooMany ends ending e =
      (TooMany, use_replaced is ends values_too_long, subst (λ (l : Ending (List Sourced)). Closes table uses TooMany l) (sym e) (closes_too_many table uses))

  opened_returns : (left : ℕ) (value : Ending (List Sourced)) → Ends table (Some (place_of_use (outer_of uses) word)) first left value →
      (ending : Ending (List Sourced)) → Returns table (Comes table uses) (opened (outer_of uses) plain word done others rest) value ending → Comes table uses (word ∷ words) done left ending
  opened_returns left (Gives value left') ends ending (values, ends', replaces) =
      opened_made left (after_argument value values) (argument_given ends ends' refl) ending replaces
  opened_returns left (Refused number at) ends ending e = opened_made left (Refused number at) (argument_refused ends) ending e
  opened_returns left TooMany ends ending e = opened_made left TooMany (argument_too_long ends) ending e

  -- a use with arguments is opened
  pub step_opened : (left : ℕ) (ending : Ending (List Sourced)) → Comes table (opened (outer_of uses) plain word done others rest ∷ uses) first [] left ending → Comes table uses (word ∷ words) done left ending
  step_opened left ending (value, ends, returns) =
      opened_returns left value ends ending (subst (λ (l : Ending (List Sourced)). Returns table (Comes table uses) (opened (outer_of uses) plain word done others rest) l ending) (behind_none value) returns)

-- the use with one more value, where the next argument is being replaced
abbrev pub with_value : OpenUse → List Sourced → List (List Sourced) → OpenUse
with_value use' value others = record use' { values = use'.values ++ value ∷ []; waiting = others }

module _ (table : Table) (uses : List OpenUse) (plain : PlainMacro) (name : Sourced) (place : Span) (before : List Sourced) (earlier : List (List Sourced)) (rest done : List Sourced) where
  -- the use whose arguments are being replaced, where these wait
  abbrev pub waits_for : List (List Sourced) → OpenUse
  waits_for waiting = record { plain = plain; name = name; place = place; before = before; values = earlier; waiting = waiting; rest = rest }

  values_again : (value : List Sourced) (more : List (List Sourced)) → (earlier ++ done ∷ []) ++ value ∷ more ≡ earlier ++ (done ++ []) ∷ (value ∷ more)
  values_again value more = append_assoc earlier (done ∷ []) (value ∷ more) ∙ ap (λ (d : List Sourced). earlier ++ d ∷ (value ∷ more)) (sym (append-nil done))

  next_makes : (next : List Sourced) (others : List (List Sourced)) (value : List Sourced) (values : Ending (List (List Sourced))) (ending : Ending (List Sourced)) →
      Replaces (Comes table uses) (with_value (waits_for (next ∷ others)) done others) (after (λ more. (earlier ++ done ∷ []) ++ value ∷ more) values) ending →
      Replaces (Comes table uses) (waits_for (next ∷ others)) (after (λ more. earlier ++ (done ++ []) ∷ more) (after_argument value values)) ending
  next_makes next others value (Gives more left) ending replaces =
      subst (λ (all : List (List Sourced)). Replaces (Comes table uses) (waits_for (next ∷ others)) (Gives all left) ending) (values_again value more) replaces
  next_makes next others value (Refused number at) ending e = e
  next_makes next others value TooMany ending e = e

  next_returns : (next : List Sourced) (others : List (List Sourced)) (left : ℕ) (value : Ending (List Sourced)) → Ends table (Some place) next left value → (ending : Ending (List Sourced)) →
      Returns table (Comes table uses) (with_value (waits_for (next ∷ others)) done others) value ending →
      Returns table (Comes table uses) (waits_for (next ∷ others)) (Gives (done ++ []) left) ending
  next_returns next others left (Gives value left') ends ending (values, ends', replaces) =
      (after_argument value values, argument_given ends ends' refl, next_makes next others value values ending replaces)
  next_returns next others left (Refused number at) ends ending e = (Refused number at, argument_refused ends, e)
  next_returns next others left TooMany ends ending e = (TooMany, argument_too_long ends, e)

  -- the next argument of a use follows
  pub step_next : (next : List Sourced) (others : List (List Sourced)) (left : ℕ) (ending : Ending (List Sourced)) →
      Comes table (with_value (waits_for (next ∷ others)) done others ∷ uses) next [] left ending → Comes table (waits_for (next ∷ others) ∷ uses) [] done left ending
  step_next next others left ending (value, ends, returns) =
      (Gives [] left, no_words, next_returns next others left value ends ending (subst (λ (l : Ending (List Sourced)). Returns table (Comes table uses) (with_value (waits_for (next ∷ others)) done others) l ending) (behind_none value) returns))

  last_values : earlier ++ (done ++ []) ∷ [] ≡ earlier ++ done ∷ []
  last_values = ap (λ (d : List Sourced). earlier ++ d ∷ []) (append-nil done)

  -- the last argument of a use is replaced, and then the use
  pub step_closed : (left remaining : ℕ) → left ≡ length (replacement plain name (earlier ++ done ∷ [])) + remaining → (ending : Ending (List Sourced)) →
      Comes table uses (replacement plain name (earlier ++ done ∷ []) ++ rest) before remaining ending → Comes table (waits_for [] ∷ uses) [] done left ending
  step_closed left remaining costs ending comes =
      (Gives [] left, no_words, (Gives [] left, no_arguments, subst (λ (all : List (List Sourced)). Replaces (Comes table uses) (waits_for []) (Gives all left) ending) (sym last_values) (inr (remaining, costs, comes))))

  pub step_closed_too_long : (left : ℕ) → left < length (replacement plain name (earlier ++ done ∷ [])) → Comes table (waits_for [] ∷ uses) [] done left TooMany
  step_closed_too_long left less =
      (Gives [] left, no_words, (Gives [] left, no_arguments, subst (λ (all : List (List Sourced)). Replaces (Comes table uses) (waits_for []) (Gives all left) TooMany) (sym last_values) (inl (less, refl))))

-- without words and open uses what is done has come of all
pub step_ended : (table : Table) (done : List Sourced) (left : ℕ) → Comes table [] [] done left (Gives done left)
step_ended table done left = (Gives [] left, no_words, ap (λ (words : List Sourced). Gives words left) (sym (append-nil done)))

-- at the beginning nothing is done
pub step_begun : (table : Table) (words : List Sourced) (left : ℕ) (ending : Ending (List Sourced)) → Comes table [] words [] left ending → Ends table None words left ending
step_begun table words left ending (level, ends, e) = subst (λ (l : Ending (List Sourced)). Ends table None words left l) (sym (e ∙ behind_none level)) ends
