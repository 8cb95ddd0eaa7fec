-- Replacement gives no more words than it is given, except for those that it counts.
use Rattle.std.proofs.Common.{◌≡◌, ℕ, zero, suc, ◌+◌, ◌≤◌, ◌==◌, List, [], ◌∷◌, ◌++◌, length, map, Bool, true, false, ◌&&◌, if◌then◌else◌, Option, Some, None, sym, subst, arith, length-append}
use Rattle.std.proofs.lemmas.List.{length-map}
use Rattle.p10_base.specs.declared.span.Span.{Span}
use Rattle.p10_base.specs.Words.{PlainWord, Text, is_name_kind}
use Rattle.p10_direct.specs.Directives.{PlainMacro}
use Rattle.p10_macros.specs.Table.{Table, macro_named}
use Rattle.p10_macros.specs.Uses.{Sourced, written, sourced_words, Arguments, opens, closes, separates, depth_after, word_before, argument_before, arguments_in, fitting, Use, Stays, Wrong, Calls, fitted, called, unless_recursive, use_as, use_by, use_of, replacement}
use Rattle.p10_macros.specs.Endings.{Ending, Gives, Refused, TooMany, after_word, after_argument}
use Rattle.p10_macros.specs.Ends.{Ends, EndsAll, Follows, no_words, word_stays, use_refused, use_replaced, no_arguments, argument_given, argument_refused, argument_too_long, replacement_made, replacement_too_long, values_refused, values_too_long}

-- how many words stand in these lists
abbrev pub together : {A : Type 0} → List (List A) → ℕ
together [] = 0
together (words ∷ lists) = length words + together lists

-- ## Uses

abbrev ArgumentsFew : ℕ → Option Arguments → Type 0
ArgumentsFew count None = Unit {0}
ArgumentsFew count (Some found) = length found.first + together found.others + length found.rest ≤ count

abbrev ListsFew : ℕ → Option (List (List Sourced)) → Type 0
ListsFew count None = Unit {0}
ListsFew count (Some lists) = together lists ≤ count

abbrev pub UseFew : ℕ → Use → Type 0
UseFew count (Calls plain arguments rest) = together arguments + length rest ≤ count
UseFew count _ = Unit {0}

arguments_if : (count : ℕ) (b : Bool) (x y : Option Arguments) → ArgumentsFew count x → ArgumentsFew count y → ArgumentsFew count (if b then x else y)
arguments_if count true x y p q = p
arguments_if count false x y p q = q

use_if : (count : ℕ) (b : Bool) (x y : Use) → UseFew count x → UseFew count y → UseFew count (if b then x else y)
use_if count true x y p q = p
use_if count false x y p q = q

lists_if : (count : ℕ) (b : Bool) (lists : List (List Sourced)) → together lists ≤ count → ListsFew count (if b then Some lists else None)
lists_if count true lists p = p
lists_if count false lists p = tt

word_more : (count : ℕ) (word : Sourced) (found : Option Arguments) → ArgumentsFew count found → ArgumentsFew (suc count) (word_before word found)
word_more count word None p = tt
word_more count word (Some found) p = omega (arith, p)

argument_more : (count : ℕ) (found : Option Arguments) → ArgumentsFew count found → ArgumentsFew (suc count) (argument_before found)
argument_more count None p = tt
argument_more count (Some found) p = omega (arith, p)

arguments_few : (depth : ℕ) (words : List Sourced) → ArgumentsFew (length words) (arguments_in depth words)
arguments_few depth [] = tt
arguments_few depth (word ∷ words) =
    arguments_if (suc (length words)) (closes word.word && (depth == 0)) (Some (record { first = []; others = []; rest = words })) _ (omega arith)
    (arguments_if (suc (length words)) (separates word.word && (depth == 0)) (argument_before (arguments_in 0 words)) (word_before word (arguments_in (depth_after depth word.word) words))
    (argument_more (length words) (arguments_in 0 words) (arguments_few 0 words))
    (word_more (length words) word (arguments_in (depth_after depth word.word) words) (arguments_few (depth_after depth word.word) words)))

fitting_few : (count parameters : ℕ) (lists : List (List Sourced)) → together lists ≤ count → ListsFew count (fitting parameters lists)
fitting_few count zero [] p = p
fitting_few count zero ([] ∷ []) p = omega arith
fitting_few count zero ([] ∷ other ∷ lists) p = lists_if count (0 == length ([] ∷ other ∷ lists)) ([] ∷ other ∷ lists) p
fitting_few count zero ((word ∷ words) ∷ lists) p = lists_if count (0 == length ((word ∷ words) ∷ lists)) ((word ∷ words) ∷ lists) p
fitting_few count (suc n) lists p = lists_if count (suc n == length lists) lists p

fitted_few : (count more : ℕ) (plain : PlainMacro) (rest : List Sourced) (lists : Option (List (List Sourced))) → ListsFew more lists → more + length rest ≤ count → UseFew count (fitted plain rest lists)
fitted_few count more plain rest None p q = tt
fitted_few count more plain rest (Some lists) p q = omega (arith, p, q)

called_few : (count : ℕ) (plain : PlainMacro) (parameters : ℕ) (found : Option Arguments) → ArgumentsFew count found → UseFew count (called plain parameters found)
called_few count plain parameters None p = tt
called_few count plain parameters (Some found) p =
    fitted_few count (length found.first + together found.others) plain found.rest (fitting parameters (found.first ∷ found.others))
    (fitting_few _ parameters (found.first ∷ found.others) (omega arith)) p

recursive_few : (count : ℕ) (plain : PlainMacro) (name : Sourced) (other : Use) → UseFew count other → UseFew count (unless_recursive plain name other)
recursive_few count plain name other p = use_if count (name.from plain.name) (Wrong 6) other tt p

use_more : (count : ℕ) (other : Use) → UseFew count other → UseFew (suc count) other
use_more count Stays p = tt
use_more count (Wrong number) p = tt
use_more count (Calls plain arguments rest) p = omega (arith, p)

use_as_few : (plain : PlainMacro) (parameters : Option (List Text)) (name : Sourced) (words : List Sourced) → UseFew (length words) (use_as plain parameters name words)
use_as_few plain None name words = recursive_few (length words) plain name (Calls plain [] words) (omega arith)
use_as_few plain (Some parameters) name [] = tt
use_as_few plain (Some parameters) name (word ∷ words) =
    use_if (suc (length words)) (opens word.word) (unless_recursive plain name (called plain (length parameters) (arguments_in 0 words))) Stays
    (recursive_few (suc (length words)) plain name _ (use_more (length words) _ (called_few (length words) plain (length parameters) (arguments_in 0 words) (arguments_few 0 words)))) tt

use_by_few : (found : Option PlainMacro) (name : Sourced) (words : List Sourced) → UseFew (length words) (use_by found name words)
use_by_few None name words = tt
use_by_few (Some plain) name words = use_as_few plain plain.parameters name words

pub use_few : (table : Table) (name : Sourced) (words : List Sourced) → UseFew (length words) (use_of table name words)
use_few table name words = use_if (length words) (is_name_kind name.word.kind) _ Stays (use_by_few (macro_named name.word.text table) name words) tt

-- ## How replacement ends

-- the words that it gives, and those that may still be made, are no more than `count`; and no more may be made than before
abbrev pub Few : ℕ → ℕ → Ending (List Sourced) → Type 0
Few count before (Gives made left) = (length made + left ≤ count) × (left ≤ before)
Few count before _ = Unit {0}

abbrev AllFew : ℕ → ℕ → Ending (List (List Sourced)) → Type 0
AllFew count before (Gives values left) = (together values + left ≤ count) × (left ≤ before)
AllFew count before _ = Unit {0}

few_more : (less more middle before : ℕ) (ending : Ending (List Sourced)) → less ≤ more → middle ≤ before → Few less middle ending → Few more before ending
few_more less more middle before (Gives made left) p q few = (omega (arith, p, few.0), omega (arith, q, few.1))
few_more less more middle before (Refused number at) p q few = tt
few_more less more middle before TooMany p q few = tt

word_few : (count before : ℕ) (word : Sourced) (behind : Ending (List Sourced)) → Few count before behind → Few (suc count) before (after_word word behind)
word_few count before word (Gives made left) few = (omega (arith, few.0), few.1)
word_few count before word (Refused number at) few = tt
word_few count before word TooMany few = tt

value_few : (count middle more before : ℕ) (value : List Sourced) (behind : Ending (List (List Sourced))) → length value + middle ≤ more → middle ≤ before →
    AllFew (count + middle) middle behind → AllFew (count + more) before (after_argument value behind)
value_few count middle more before value (Gives values left) p q few = (omega (arith, p, few.0), omega (arith, q, few.1))
value_few count middle more before value (Refused number at) p q few = tt
value_few count middle more before value TooMany p q few = tt

all_same : (less more before : ℕ) (ending : Ending (List (List Sourced))) → less ≤ more → AllFew less before ending → AllFew more before ending
all_same less more before (Gives made left) p few = (omega (arith, p, few.0), few.1)
all_same less more before (Refused number at) p few = tt
all_same less more before TooMany p few = tt

mutual
  pub ends_few : {table : Table} {outer : Option Span} {words : List Sourced} {left : ℕ} {ending : Ending (List Sourced)} → Ends table outer words left ending → Few (length words + left) left ending
  ends_few no_words = (omega arith, omega arith)
  ends_few (word_stays {word = word} {words = words} {left = left} {others = behind} is ends gives) =
      subst (λ (e : Ending (List Sourced)). Few (suc (length words) + left) left e) (sym gives)
      (few_more (suc (length words + left)) (suc (length words) + left) left left (after_word word behind) (omega arith) (omega arith) (word_few (length words + left) left word behind (ends_few ends)))
  ends_few (use_refused {word = word} {words = words} {left = left} is gives) = subst (λ (e : Ending (List Sourced)). Few (suc (length words) + left) left e) (sym gives) tt
  ends_few {table} (use_replaced {word = word} {words = words} {left = left} {ending = ending} {arguments = arguments} {rest = rest} is ends follows) =
      let within : together arguments + length rest ≤ length words = subst (UseFew (length words)) is (use_few table word words) in
      few_more (length rest + (together arguments + left)) (suc (length words) + left) left left ending (omega (arith, within)) (omega arith) (follows_few (together arguments + left) left follows (all_few ends))

  all_few : {table : Table} {outer : Option Span} {arguments : List (List Sourced)} {left : ℕ} {ending : Ending (List (List Sourced))} → EndsAll table outer arguments left ending → AllFew (together arguments + left) left ending
  all_few no_arguments = (omega arith, omega arith)
  all_few (argument_given {argument = argument} {value = value} {arguments = arguments} {left = left} {middle = middle} {others = behind} first others gives) =
      let one : (length value + middle ≤ length argument + left) × (middle ≤ left) = ends_few first in
      subst (λ (e : Ending (List (List Sourced))). AllFew (together (argument ∷ arguments) + left) left e) (sym gives)
      (all_same (together arguments + (length argument + left)) (together (argument ∷ arguments) + left) left (after_argument value behind) (omega arith)
      (value_few (together arguments) middle (length argument + left) left value behind one.0 one.1 (all_few others)))
  all_few (argument_refused first) = tt
  all_few (argument_too_long first) = tt

  follows_few : {table : Table} {outer : Option Span} {plain : PlainMacro} {name : Sourced} {rest : List Sourced} {values : Ending (List (List Sourced))} {ending : Ending (List Sourced)} (count before : ℕ) →
      Follows table outer plain name rest values ending → AllFew count before values → Few (length rest + count) before ending
  follows_few count before (replacement_made {plain = plain} {name = name} {rest = rest} {values = values} {remaining = remaining} {ending = ending} costs ends) few =
      few_more (length (replacement plain name values ++ rest) + remaining) (length rest + count) remaining before ending
      (omega (arith, costs, few.0, length-append (replacement plain name values) rest)) (omega (arith, costs, few.1)) (ends_few ends)
  follows_few count before (replacement_too_long less) few = tt
  follows_few count before values_refused few = tt
  follows_few count before values_too_long few = tt

-- a run of words of a source
pub run_few : (table : Table) (words : List PlainWord) (left : ℕ) (ending : Ending (List Sourced)) → Ends table None (map written words) left ending → Few (length words + left) left ending
run_few table words left ending ends = subst (λ count. Few (count + left) left ending) (length-map words written) (ends_few ends)

pub made_few : (made : List Sourced) → length (sourced_words made) ≡ length made
made_few made = length-map made (λ sourced. sourced.word)
