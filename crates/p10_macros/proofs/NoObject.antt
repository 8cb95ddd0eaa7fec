-- No name of an object-like macro is left.
use Rattle.std.proofs.Common.{◌≡◌, ℕ, List, [], Bool, true, false, cond, Option, sym, subst, ap, ◌∙◌}
use Rattle.p10_base.specs.declared.span.Span.{Span}
use Rattle.p10_base.specs.Words.{Text}
use Rattle.p10_direct.specs.Directives.{PlainMacro}
use Rattle.p10_macros.specs.Table.{Table, macro_named}
use Rattle.p10_macros.specs.Uses.{Sourced, Stays, Wrong, Calls, use_of, use_by, use_as}
use Rattle.p10_macros.specs.Endings.{Ending, Gives, Refused, TooMany, after_word}
use Rattle.p10_macros.specs.Ends.{Ends, Follows, no_words, word_stays, use_refused, use_replaced, replacement_made, replacement_too_long, values_refused, values_too_long}
use Rattle.p10_macros.specs.Left.{NamesObject, NoneNamesObject, NoObjectIsLeft}

-- the name of an object-like macro is a use
object_used : (plain : PlainMacro) (word : Sourced) (words : List Sourced) (b : Bool) → cond b (Wrong 6) (Calls plain [] words) ≡ Stays → ⊥
object_used plain word words true e = cc
object_used plain word words false e = cc

names_use : (table : Table) (word : Sourced) (words : List Sourced) → NamesObject table word → use_of table word words ≡ Stays → ⊥
names_use table word words names stays =
    object_used names.plain word words (word.from names.plain.name)
    (sym (ap (λ (b : Bool). cond b (use_by (macro_named word.word.text table) word words) Stays) names.name
    ∙ ap (λ (o : Option PlainMacro). use_by o word words) names.defined
    ∙ ap (λ (o : Option (List Text)). use_as names.plain o word words) names.object_like) ∙ stays)

-- where an ending gives words, none of them is such a name
abbrev LeavesNone : Table → Ending (List Sourced) → Type 0
LeavesNone table (Gives made remaining) = NoneNamesObject table made
LeavesNone table (Refused number at) = Unit {0}
LeavesNone table TooMany = Unit {0}

behind_none : (table : Table) (word : Sourced) (behind : Ending (List Sourced)) → (NamesObject table word → ⊥) → LeavesNone table behind → LeavesNone table (after_word word behind)
behind_none table word (Gives made remaining) other leaves = (other, leaves)
behind_none table word (Refused number at) other leaves = tt
behind_none table word TooMany other leaves = tt

mutual
  leaves_none : {table : Table} {outer : Option Span} {words : List Sourced} {left : ℕ} {ending : Ending (List Sourced)} → Ends table outer words left ending → LeavesNone table ending
  leaves_none no_words = tt
  leaves_none {table} (word_stays {word = word} {words = words} {others = behind} is ends gives) =
      subst (λ (e : Ending (List Sourced)). LeavesNone table e) (sym gives) (behind_none table word behind (λ names. names_use table word words names is) (leaves_none ends))
  leaves_none {table} (use_refused is refused) = subst (λ (e : Ending (List Sourced)). LeavesNone table e) (sym refused) tt
  leaves_none (use_replaced is ends follows) = follows_none follows

  follows_none : {table : Table} {outer : Option Span} {plain : PlainMacro} {name : Sourced} {rest : List Sourced} {values : Ending (List (List Sourced))} {ending : Ending (List Sourced)} →
      Follows table outer plain name rest values ending → LeavesNone table ending
  follows_none (replacement_made costs ends) = leaves_none ends
  follows_none (replacement_too_long less) = tt
  follows_none values_refused = tt
  follows_none values_too_long = tt

pub no_object_is_left : NoObjectIsLeft
no_object_is_left table outer words made left remaining ends = leaves_none ends
