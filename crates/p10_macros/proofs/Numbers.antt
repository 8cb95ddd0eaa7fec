-- A use that is refused is refused by D6, D7 or D8.
use Rattle.std.proofs.Common.{ℕ, ◌≤◌, List, [], ◌∷◌, length, Bool, true, false, if◌then◌else◌, Option, Some, None, sym, subst, arith}
use Rattle.p10_base.specs.declared.span.Span.{Span}
use Rattle.p10_base.specs.Words.{Text, is_name_kind}
use Rattle.p10_direct.specs.Directives.{PlainMacro}
use Rattle.p10_macros.specs.Table.{Table, macro_named}
use Rattle.p10_macros.specs.Uses.{Sourced, Arguments, opens, arguments_in, fitting, Use, Stays, Wrong, Calls, fitted, called, unless_recursive, use_as, use_by, use_of}
use Rattle.p10_macros.specs.Endings.{Ending, Gives, Refused, TooMany, after_word, after_argument}
use Rattle.p10_macros.specs.Ends.{Ends, EndsAll, Follows, no_words, word_stays, use_refused, use_replaced, no_arguments, argument_given, argument_refused, argument_too_long, replacement_made, replacement_too_long, values_refused, values_too_long}

-- ## Uses

abbrev UseNumbered : Use → Type 0
UseNumbered (Wrong number) = (6 ≤ number) × (number ≤ 8)
UseNumbered _ = Unit {0}

use_if : (b : Bool) (x y : Use) → UseNumbered x → UseNumbered y → UseNumbered (if b then x else y)
use_if true x y p q = p
use_if false x y p q = q

fitted_numbered : (plain : PlainMacro) (rest : List Sourced) (arguments : Option (List (List Sourced))) → UseNumbered (fitted plain rest arguments)
fitted_numbered plain rest None = (omega arith, omega arith)
fitted_numbered plain rest (Some arguments) = tt

called_numbered : (plain : PlainMacro) (parameters : ℕ) (found : Option Arguments) → UseNumbered (called plain parameters found)
called_numbered plain parameters None = (omega arith, omega arith)
called_numbered plain parameters (Some found) = fitted_numbered plain found.rest (fitting parameters (found.first ∷ found.others))

unless_numbered : (plain : PlainMacro) (name : Sourced) (other : Use) → UseNumbered other → UseNumbered (unless_recursive plain name other)
unless_numbered plain name other numbered = use_if (name.from plain.name) (Wrong 6) other (omega arith, omega arith) numbered

use_as_numbered : (plain : PlainMacro) (parameters : Option (List Text)) (name : Sourced) (words : List Sourced) → UseNumbered (use_as plain parameters name words)
use_as_numbered plain None name words = unless_numbered plain name (Calls plain [] words) tt
use_as_numbered plain (Some parameters) name [] = tt
use_as_numbered plain (Some parameters) name (word ∷ words) =
    use_if (opens word.word) _ Stays (unless_numbered plain name (called plain (length parameters) (arguments_in 0 words)) (called_numbered plain (length parameters) (arguments_in 0 words))) tt

use_by_numbered : (known : Option PlainMacro) (name : Sourced) (words : List Sourced) → UseNumbered (use_by known name words)
use_by_numbered None name words = tt
use_by_numbered (Some plain) name words = use_as_numbered plain plain.parameters name words

use_numbered : (table : Table) (name : Sourced) (words : List Sourced) → UseNumbered (use_of table name words)
use_numbered table name words = use_if (is_name_kind name.word.kind) _ Stays (use_by_numbered (macro_named name.word.text table) name words) tt

-- ## How the replacement ends

abbrev pub EndNumbered : {A : Type 0} → Ending A → Type 0
EndNumbered (Gives made left) = Unit {0}
EndNumbered (Refused number at) = (6 ≤ number) × (number ≤ 8)
EndNumbered TooMany = Unit {0}

word_numbered : (word : Sourced) (behind : Ending (List Sourced)) → EndNumbered behind → EndNumbered (after_word word behind)
word_numbered word (Gives made left) numbered = tt
word_numbered word (Refused number at) numbered = numbered
word_numbered word TooMany numbered = tt

argument_numbered : (value : List Sourced) (behind : Ending (List (List Sourced))) → EndNumbered behind → EndNumbered (after_argument value behind)
argument_numbered value (Gives values left) numbered = tt
argument_numbered value (Refused number at) numbered = numbered
argument_numbered value TooMany numbered = tt

mutual
  -- words are refused by D6, D7 or D8
  pub ends_numbered : {table : Table} {outer : Option Span} {words : List Sourced} {left : ℕ} {ending : Ending (List Sourced)} → Ends table outer words left ending → EndNumbered ending
  ends_numbered no_words = tt
  ends_numbered (word_stays {word = word} {others = behind} is ends gives) = subst (λ (e : Ending (List Sourced)). EndNumbered e) (sym gives) (word_numbered word behind (ends_numbered ends))
  ends_numbered {table} (use_refused {word = word} {words = words} is gives) = subst (λ (e : Ending (List Sourced)). EndNumbered e) (sym gives) (subst UseNumbered is (use_numbered table word words))
  ends_numbered (use_replaced is ends follows) = follows_numbered follows (all_numbered ends)

  all_numbered : {table : Table} {outer : Option Span} {arguments : List (List Sourced)} {left : ℕ} {ending : Ending (List (List Sourced))} → EndsAll table outer arguments left ending → EndNumbered ending
  all_numbered no_arguments = tt
  all_numbered (argument_given {value = value} {others = behind} first others gives) = subst (λ (e : Ending (List (List Sourced))). EndNumbered e) (sym gives) (argument_numbered value behind (all_numbered others))
  all_numbered (argument_refused first) = ends_numbered first
  all_numbered (argument_too_long first) = tt

  follows_numbered : {table : Table} {outer : Option Span} {plain : PlainMacro} {name : Sourced} {rest : List Sourced} {values : Ending (List (List Sourced))} {ending : Ending (List Sourced)} →
      Follows table outer plain name rest values ending → EndNumbered values → EndNumbered ending
  follows_numbered (replacement_made costs ends) numbered = ends_numbered ends
  follows_numbered (replacement_too_long less) numbered = tt
  follows_numbered values_refused numbered = numbered
  follows_numbered values_too_long numbered = tt
