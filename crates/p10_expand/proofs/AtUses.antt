-- The words of a replacement stand at the places of the outermost uses.
use Rattle.std.proofs.Common.{◌≡◌, ℕ, suc, ◌==◌, List, [], ◌∷◌, ◌++◌, length, map, Bool, true, false, ◌&&◌, cond, Option, Some, None, refl, sym, subst, ap, inl, inr, ◌⊎◌, arith}
use Rattle.std.specs.Prelude.{Contains}
use Rattle.std.specs.List.{AllByRecursion}
use Rattle.p10_base.specs.declared.span.Span.{Span}
use Rattle.p10_base.specs.Words.{PlainWord, Text, is_name_kind}
use Rattle.p10_direct.specs.Directives.{PlainMacro}
use Rattle.p10_macros.specs.Table.{Table, macro_named}
use Rattle.p10_macros.specs.Uses.{Sourced, written, Arguments, Use, Stays, Wrong, Calls, opens, closes, separates, depth_after, word_before, argument_before, arguments_in, fitting, fitted, called, use_as, use_by, use_of, given, replacement}
use Rattle.p10_macros.specs.Endings.{Ending, Gives, Refused, TooMany, after_word}
use Rattle.p10_macros.specs.Ends.{Ends, EndsAll, Follows, no_words, word_stays, use_refused, use_replaced, replacement_made, replacement_too_long, values_refused, values_too_long}
use Rattle.p10_expand.specs.Meeting.{AreMet, there, past_word, past_use, IsOutermostUse}

-- ## Words after a use

module _ (P : Sourced → Type 0) where
  abbrev Each : List Sourced → Type 0
  Each words = AllByRecursion P words

  -- each word after the arguments
  abbrev EachAfter : Option Arguments → Type 0
  EachAfter None = Unit {0}
  EachAfter (Some found) = Each found.rest

  abbrev EachRest : Use → Type 0
  EachRest (Calls plain arguments rest) = Each rest
  EachRest _ = Unit {0}

  after_if : (b : Bool) (x y : Option Arguments) → EachAfter x → EachAfter y → EachAfter (cond b x y)
  after_if true x y p q = p
  after_if false x y p q = q

  rest_if : (b : Bool) (x y : Use) → EachRest x → EachRest y → EachRest (cond b x y)
  rest_if true x y p q = p
  rest_if false x y p q = q

  after_one : (word : Sourced) (found : Option Arguments) → EachAfter found → EachAfter (word_before word found)
  after_one word None p = tt
  after_one word (Some found) p = p

  after_first : (found : Option Arguments) → EachAfter found → EachAfter (argument_before found)
  after_first None p = tt
  after_first (Some found) p = p

  after_arguments : (depth : ℕ) (words : List Sourced) → Each words → EachAfter (arguments_in depth words)
  after_arguments depth [] each = tt
  after_arguments depth (word ∷ words) each =
      after_if (closes word.word && (depth == 0)) (Some (record { first = []; others = []; rest = words })) _ each.1
      (after_if (separates word.word && (depth == 0)) (argument_before (arguments_in 0 words)) (word_before word (arguments_in (depth_after depth word.word) words))
      (after_first (arguments_in 0 words) (after_arguments 0 words each.1))
      (after_one word (arguments_in (depth_after depth word.word) words) (after_arguments (depth_after depth word.word) words each.1)))

  fitted_rest : (plain : PlainMacro) (rest : List Sourced) (arguments : Option (List (List Sourced))) → Each rest → EachRest (fitted plain rest arguments)
  fitted_rest plain rest None each = tt
  fitted_rest plain rest (Some arguments) each = each

  called_rest : (plain : PlainMacro) (parameters : ℕ) (found : Option Arguments) → EachAfter found → EachRest (called plain parameters found)
  called_rest plain parameters None each = tt
  called_rest plain parameters (Some found) each = fitted_rest plain found.rest (fitting parameters (found.first ∷ found.others)) each

  as_rest : (plain : PlainMacro) (parameters : Option (List Text)) (name : Sourced) (words : List Sourced) → Each words → EachRest (use_as plain parameters name words)
  as_rest plain None name words each = rest_if (name.from plain.name) (Wrong 6) (Calls plain [] words) tt each
  as_rest plain (Some parameters) name [] each = tt
  as_rest plain (Some parameters) name (word ∷ words) each =
      rest_if (opens word.word) _ Stays (rest_if (name.from plain.name) (Wrong 6) (called plain (length parameters) (arguments_in 0 words)) tt (called_rest plain (length parameters) (arguments_in 0 words) (after_arguments 0 words each.1))) tt

  by_rest : (found : Option PlainMacro) (name : Sourced) (words : List Sourced) → Each words → EachRest (use_by found name words)
  by_rest None name words each = tt
  by_rest (Some plain) name words each = as_rest plain plain.parameters name words each

  -- what holds of words holds of those after a use that begins before them
  rest_each : (table : Table) (name : Sourced) (words : List Sourced) → Each words → EachRest (use_of table name words)
  rest_each table name words each = rest_if (is_name_kind name.word.kind) (use_by (macro_named name.word.text table) name words) Stays (by_rest (macro_named name.word.text table) name words each) tt

  each_joined : (front back : List Sourced) → Each front → Each back → Each (front ++ back)
  each_joined [] back p q = q
  each_joined (word ∷ front) back p q = (p.0, each_joined front back p.1 q)

  each_given : (plain : PlainMacro) (name : Sourced) (parts : List Sourced) → ((part : Sourced) → P (given plain name part)) → Each (map (given plain name) parts)
  each_given plain name [] p = tt
  each_given plain name (part ∷ parts) p = (p part, each_given plain name parts p)

-- ## Where replacement comes

comes_on : {table : Table} {words those last : List Sourced} → AreMet table words those → AreMet table those last → AreMet table words last
comes_on there more = more
comes_on (past_word is comes) more = past_word is (comes_on comes more)
comes_on (past_use is ends comes) more = past_use is ends (comes_on comes more)

-- a word of these words as it was written: it comes from no macro
abbrev pub IsOwn : List PlainWord → Sourced → Type 0
IsOwn words sourced = (word : PlainWord) × Contains words word × (sourced ≡ written word)

-- a word stands at the place of an outermost use
abbrev pub IsAtUse : Table → List PlainWord → Sourced → Type 0
IsAtUse table words sourced = (name : PlainWord) × IsOutermostUse table words name × (sourced.word.at ≡ name.at)

module _ (table : Table) (words : List PlainWord) where
  -- a word of the run, or one at the place of an outermost use
  abbrev Placed : Sourced → Type 0
  Placed word = IsOwn words word ⊎ IsAtUse table words word

  abbrev AllPlaced : Ending (List Sourced) → Type 0
  AllPlaced (Gives made remaining) = AllByRecursion Placed made
  AllPlaced (Refused number at) = Unit {0}
  AllPlaced TooMany = Unit {0}

  -- what a use of a placed name gives stands at the place of an outermost use
  given_placed : (name : Sourced) (following : List Sourced) (plain : PlainMacro) (arguments : List (List Sourced)) (rest : List Sourced) → Placed name → AreMet table (map written words) (name ∷ following) →
      use_of table name following ≡ Calls plain arguments rest → (part : Sourced) → Placed (given plain name part)
  given_placed name following plain arguments rest (inl (word, among, same)) comes calls part =
      let begins : IsOutermostUse table words word = record {
        among = among;
        following = following;
        met = subst (λ n. AreMet table (map written words) (n ∷ following)) same comes;
        plain = plain;
        arguments = arguments;
        rest = rest;
        calls = subst (λ n. use_of table n following ≡ Calls plain arguments rest) same calls;
      } in
      inr (word, begins, ap (λ (n : Sourced). n.word.at) same)
  given_placed name following plain arguments rest (inr at) comes calls part = inr at

  word_placed : (word : Sourced) (behind : Ending (List Sourced)) → Placed word → AllPlaced behind → AllPlaced (after_word word behind)
  word_placed word (Gives made remaining) p all = (p, all)
  word_placed word (Refused number at) p all = tt
  word_placed word TooMany p all = tt

mutual
  all_placed : {table : Table} {outer : Option Span} {those : List Sourced} {left : ℕ} {ending : Ending (List Sourced)} (words : List PlainWord) → Ends table outer those left ending →
      AllByRecursion (Placed table words) those → AreMet table (map written words) those → AllPlaced table words ending
  all_placed words no_words each comes = tt
  all_placed {table} words (word_stays {word = word} {words = others} {others = behind} is ends gives) each comes =
      subst (AllPlaced table words) (sym gives) (word_placed table words word behind each.0 (all_placed words ends each.1 (comes_on comes (past_word is there))))
  all_placed {table} words (use_refused is refused) each comes = subst (AllPlaced table words) (sym refused) tt
  all_placed words (use_replaced {word = word} {words = others} is ends follows) each comes = follows_placed words word others is ends follows each comes

  follows_placed : {table : Table} {outer within : Option Span} {plain : PlainMacro} {arguments : List (List Sourced)} {rest : List Sourced} {left : ℕ} {values : Ending (List (List Sourced))} {ending : Ending (List Sourced)}
      (words : List PlainWord) (name : Sourced) (others : List Sourced) → use_of table name others ≡ Calls plain arguments rest → EndsAll table within arguments left values → Follows table outer plain name rest values ending →
      AllByRecursion (Placed table words) (name ∷ others) → AreMet table (map written words) (name ∷ others) → AllPlaced table words ending
  follows_placed {table} {plain = plain} {arguments = arguments} {rest = rest} words name others is ends (replacement_made {values = made} costs more) each comes =
      let after : AllByRecursion (Placed table words) rest = subst (EachRest (Placed table words)) is (rest_each (Placed table words) table name others each.1) in
      let front : AllByRecursion (Placed table words) (replacement plain name made) = each_given (Placed table words) plain name _ (given_placed table words name others plain arguments rest each.0 comes is) in
      all_placed words more (each_joined (Placed table words) (replacement plain name made) rest front after) (comes_on comes (past_use is ends there))
  follows_placed words name others is ends (replacement_too_long less) each comes = tt
  follows_placed words name others is ends values_refused each comes = tt
  follows_placed words name others is ends values_too_long each comes = tt

-- ## A run of words

each_own : (all words : List PlainWord) → ((word : PlainWord) → Contains words word → Contains all word) → AllByRecursion (IsOwn all) (map written words)
each_own all [] within = tt
each_own all (word ∷ words) within =
    ((word, within word (0, omega arith, refl), refl), each_own all words (λ other among. within other (suc among.0, omega (arith, among.1), among.2)))

own_placed : (table : Table) (all : List PlainWord) (those : List Sourced) → AllByRecursion (IsOwn all) those → AllByRecursion (Placed table all) those
own_placed table all [] own = tt
own_placed table all (word ∷ those) own = (inl own.0, own_placed table all those own.1)

-- each word of a replacement is one of the run, or stands at the place of an outermost use
pub words_stand_at_uses : (table : Table) (words : List PlainWord) (made : List Sourced) (left remaining : ℕ) → Ends table None (map written words) left (Gives made remaining) →
    AllByRecursion (λ word. IsOwn words word ⊎ IsAtUse table words word) made
words_stand_at_uses table words made left remaining ends =
    all_placed words ends (own_placed table words (map written words) (each_own words words (λ word among. among))) there
