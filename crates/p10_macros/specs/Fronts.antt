-- What stands before a refused use.
use Rattle.std.specs.Prelude.{ℕ, ◌≡◌, List, ◌∷◌, ◌++◌, None}
use Rattle.p10_base.specs.declared.span.Span.{Span}
use Rattle.p10_macros.specs.Table.{Table}
use Rattle.p10_macros.specs.Uses.{Sourced}
use Rattle.p10_macros.specs.Endings.{Gives, Refused}
use Rattle.p10_macros.specs.Ends.{Ends}

-- one of the words stands at the place, and those before it have a replacement
pub record StandsAfter (table : Table) (words : List Sourced) (left : ℕ) (at : Span) : Type 0 where
  pub front : List Sourced
  pub name : Sourced
  pub rest : List Sourced
  pub is : words ≡ front ++ name ∷ rest
  pub place : name.word.at ≡ at
  pub made : List Sourced
  pub remaining : ℕ
  pub gives : Ends table None front left (Gives made remaining)

-- a refusal is at one of the words, and those before it have a replacement
abbrev pub FrontsGive : Type 0
FrontsGive = (table : Table) (words : List Sourced) (left number : ℕ) (at : Span) → Ends table None words left (Refused number at) → StandsAfter table words left at
