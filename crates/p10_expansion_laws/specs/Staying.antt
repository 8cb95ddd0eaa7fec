-- What is left of the names of function-like macros: a name stays where no `(` follows it when it is met (C99 6.10.3p10).
use Rattle.std.specs.Prelude.{ℕ, ◌≡◌, List, [], ◌∷◌, true, Option, Some}
use Rattle.std.specs.List.{AllByRecursion}
use Rattle.p10_base.specs.declared.span.Span.{Span}
use Rattle.p10_base.specs.Words.{Text, is_name_kind}
use Rattle.p10_direct.specs.Directives.{PlainMacro}
use Rattle.p10_macros.specs.Table.{Table, macro_named}
use Rattle.p10_macros.specs.Uses.{Sourced, opens}
use Rattle.p10_macros.specs.Endings.{Gives}
use Rattle.p10_macros.specs.Ends.{Ends}
use Rattle.p10_expand.specs.Meeting.{AreMet}

-- a word is the name of a function-like macro
pub record NamesFunction (table : Table) (sourced : Sourced) : Type 0 where
  pub name : is_name_kind sourced.word.kind ≡ true
  pub plain : PlainMacro
  pub defined : macro_named sourced.word.text table ≡ Some plain
  pub parameters : List Text
  pub function_like : plain.parameters ≡ Some parameters

-- the next word is a `(`
abbrev pub IsCalled : List Sourced → Type 0
IsCalled [] = ⊥
IsCalled (word ∷ words) = opens word.word ≡ true

-- a word of these words' replacement was met there: before the words that followed it then; no `(` followed the name of a function-like macro
pub record WasMet (table : Table) (words : List Sourced) (word : Sourced) : Type 0 where
  pub following : List Sourced
  pub comes : AreMet table words (word ∷ following)
  pub stays : NamesFunction table word → IsCalled following → ⊥

-- each word that a replacement gives was met, and where it is the name of a function-like macro no `(` followed it then
abbrev pub NamesStayUncalled : Type 0
NamesStayUncalled =
    (table : Table) (outer : Option Span) (words made : List Sourced) (left remaining : ℕ) → Ends table outer words left (Gives made remaining) →
    AllByRecursion (WasMet table words) made
