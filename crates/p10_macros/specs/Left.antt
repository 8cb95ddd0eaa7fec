-- What is left of the names of macros.
use Rattle.std.specs.Prelude.{ℕ, ◌≡◌, List, [], ◌∷◌, true, Option, Some, None}
use Rattle.p10_base.specs.declared.span.Span.{Span}
use Rattle.p10_base.specs.Words.{is_name_kind}
use Rattle.p10_direct.specs.Directives.{PlainMacro}
use Rattle.p10_macros.specs.Table.{Table, macro_named}
use Rattle.p10_macros.specs.Uses.{Sourced}
use Rattle.p10_macros.specs.Endings.{Gives}
use Rattle.p10_macros.specs.Ends.{Ends}

-- a word is the name of an object-like macro
pub record NamesObject (table : Table) (sourced : Sourced) : Type 0 where
  pub name : is_name_kind sourced.word.kind ≡ true
  pub plain : PlainMacro
  pub defined : macro_named sourced.word.text table ≡ Some plain
  pub object_like : plain.parameters ≡ None

-- no word is the name of an object-like macro of the table
abbrev pub NoneNamesObject : Table → List Sourced → Type 0
NoneNamesObject table [] = Unit {0}
NoneNamesObject table (word ∷ words) = (NamesObject table word → ⊥) × NoneNamesObject table words

-- in a replacement no name of an object-like macro is left; names of function-like ones may be
abbrev pub NoObjectIsLeft : Type 0
NoObjectIsLeft = (table : Table) (outer : Option Span) (words made : List Sourced) (left remaining : ℕ) → Ends table outer words left (Gives made remaining) → NoneNamesObject table made
