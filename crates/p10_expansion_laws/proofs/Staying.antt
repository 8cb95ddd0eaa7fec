-- The name of a function-like macro stays where no `(` follows it when it is met.
use Rattle.std.proofs.Common.{◌≡◌, ℕ, List, [], ◌∷◌, ◌++◌, Bool, true, false, cond, Option, Some, None, sym, subst, ap, ◌∙◌}
use Rattle.std.specs.List.{AllByRecursion}
use Rattle.p10_base.specs.declared.span.Span.{Span}
use Rattle.p10_base.specs.Words.{Text}
use Rattle.p10_direct.specs.Directives.{PlainMacro}
use Rattle.p10_macros.specs.Table.{Table, macro_named}
use Rattle.p10_macros.specs.Uses.{Sourced, Use, Stays, Wrong, Calls, Arguments, opens, arguments_in, called, fitted, fitting, use_of, use_by, use_as, replacement}
use Rattle.p10_macros.specs.Endings.{Ending, Gives, Refused, TooMany, after_word}
use Rattle.p10_macros.specs.Ends.{Ends, EndsAll, Follows, no_words, word_stays, use_refused, use_replaced, replacement_made, replacement_too_long, values_refused, values_too_long}
use Rattle.p10_expand.specs.Meeting.{AreMet, there, past_word, past_use}
use Rattle.p10_expansion_laws.specs.Staying.{NamesFunction, IsCalled, WasMet, NamesStayUncalled}

-- ## A called name is a use

-- the use isn't that of a word that stays
abbrev IsUse : Use → Type 0
IsUse Stays = ⊥
IsUse (Wrong number) = Unit {0}
IsUse (Calls plain arguments rest) = Unit {0}

fitted_uses : (plain : PlainMacro) (rest : List Sourced) (arguments : Option (List (List Sourced))) → IsUse (fitted plain rest arguments)
fitted_uses plain rest None = tt
fitted_uses plain rest (Some arguments) = tt

called_uses : (plain : PlainMacro) (parameters : ℕ) (found : Option Arguments) → IsUse (called plain parameters found)
called_uses plain parameters None = tt
called_uses plain parameters (Some found) = fitted_uses plain found.rest (fitting parameters (found.first ∷ found.others))

uses_if : (b : Bool) (x y : Use) → IsUse x → IsUse y → IsUse (cond b x y)
uses_if true x y p q = p
uses_if false x y p q = q

opened_uses : (b : Bool) (x : Use) → b ≡ true → IsUse x → IsUse (cond b x Stays)
opened_uses true x e p = p
opened_uses false x e p = absurd cc

as_uses : (plain : PlainMacro) (parameters : List Text) (name : Sourced) (words : List Sourced) → IsCalled words → IsUse (use_as plain (Some parameters) name words)
as_uses plain parameters name [] p = absurd p
as_uses plain parameters name (word ∷ words) p =
    opened_uses (opens word.word) _ p (uses_if (name.from plain.name) (Wrong 6) _ tt (called_uses plain _ (arguments_in 0 words)))

names_use : (table : Table) (word : Sourced) (words : List Sourced) → NamesFunction table word → IsCalled words → use_of table word words ≡ Stays → ⊥
names_use table word words names calls stays =
    let is : use_of table word words ≡ use_as names.plain (Some names.parameters) word words =
    ap (λ (b : Bool). cond b (use_by (macro_named word.word.text table) word words) Stays) names.name
    ∙ ap (λ (o : Option PlainMacro). use_by o word words) names.defined
    ∙ ap (λ (o : Option (List Text)). use_as names.plain o word words) names.function_like in
    subst IsUse (sym is ∙ stays) (as_uses names.plain names.parameters word words calls)

-- ## Words that are given

-- each word of an ending that gives words was met
abbrev AllMet : Table → List Sourced → Ending (List Sourced) → Type 0
AllMet table words (Gives made remaining) = AllByRecursion (WasMet table words) made
AllMet table words (Refused number at) = Unit {0}
AllMet table words TooMany = Unit {0}

-- what was met from words to which replacement comes was met from the first ones
met_from : (table : Table) (words those made : List Sourced) → ((last : List Sourced) → AreMet table those last → AreMet table words last) → AllByRecursion (WasMet table those) made → AllByRecursion (WasMet table words) made
met_from table words those [] comes met = tt
met_from table words those (word ∷ made) comes met =
    (record { following = met.0.following; comes = comes (word ∷ met.0.following) met.0.comes; stays = met.0.stays }, met_from table words those made comes met.1)

ending_from : (table : Table) (words those : List Sourced) (ending : Ending (List Sourced)) → ((last : List Sourced) → AreMet table those last → AreMet table words last) → AllMet table those ending → AllMet table words ending
ending_from table words those (Gives made remaining) comes met = met_from table words those made comes met
ending_from table words those (Refused number at) comes met = tt
ending_from table words those TooMany comes met = tt

word_met : (table : Table) (word : Sourced) (words : List Sourced) (behind : Ending (List Sourced)) → use_of table word words ≡ Stays → AllMet table words behind → AllMet table (word ∷ words) (after_word word behind)
word_met table word words (Gives made remaining) is met =
    (record { following = words; comes = there; stays = λ names calls. names_use table word words names calls is }, met_from table (word ∷ words) words made (λ last comes. past_word is comes) met)
word_met table word words (Refused number at) is met = tt
word_met table word words TooMany is met = tt

mutual
  all_met : {table : Table} {outer : Option Span} {words : List Sourced} {left : ℕ} {ending : Ending (List Sourced)} → Ends table outer words left ending → AllMet table words ending
  all_met no_words = tt
  all_met {table} (word_stays {word = word} {words = words} {others = behind} is ends gives) =
      subst (λ (e : Ending (List Sourced)). AllMet table (word ∷ words) e) (sym gives) (word_met table word words behind is (all_met ends))
  all_met {table} (use_refused {word = word} {words = words} is refused) = subst (λ (e : Ending (List Sourced)). AllMet table (word ∷ words) e) (sym refused) tt
  all_met {table} (use_replaced {word = word} {words = words} is ends follows) = follows_met word words is ends follows

  follows_met : {table : Table} {outer within : Option Span} {plain : PlainMacro} {arguments : List (List Sourced)} {rest : List Sourced} {left : ℕ} {values : Ending (List (List Sourced))} {ending : Ending (List Sourced)}
      (word : Sourced) (words : List Sourced) → use_of table word words ≡ Calls plain arguments rest → EndsAll table within arguments left values → Follows table outer plain word rest values ending →
      AllMet table (word ∷ words) ending
  follows_met {table} {plain = plain} {rest = rest} {ending = ending} word words is ends (replacement_made {values = made} costs more) =
      ending_from table (word ∷ words) (replacement plain word made ++ rest) ending (λ last comes. past_use is ends comes) (all_met more)
  follows_met word words is ends (replacement_too_long less) = tt
  follows_met word words is ends values_refused = tt
  follows_met word words is ends values_too_long = tt

-- each word that a replacement gives was met so
pub names_stay_uncalled : NamesStayUncalled
names_stay_uncalled table outer words made left remaining ends = all_met ends
