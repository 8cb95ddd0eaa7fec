-- What reads each part of the grammar.
use Rattle.std.specs.Prelude.{ℕ, List, Bool}
use Rattle.p10_syn.specs.declared.setting.Naming.{Naming}
use Rattle.p10_syn.specs.declared.setting.Setting.{Setting}
use Rattle.p10_syn.specs.Symbols.{Symbol}
use Rattle.p10_syn.specs.Scopes.{Scope}
use Rattle.p10_syn.specs.declared.setting.Said.{Said}
use Rattle.p10_syn.specs.Trees.{Bare, Expression, Specifier, MemberDeclaration, Field, Enumerator, Declarator, Parameter}
use Rattle.p10_pexpr.specs.Heads.{Read}

-- readers; those of lists are given the elements that were read before
pub record Readers : Type 0 where
  -- an expression of this level at least
  pub expression : Scope → ℕ → List Symbol → Read (Expression Bare)
  -- what goes on with an expression, where one of this level at least is read
  pub chain : Scope → ℕ → Expression Bare → List Symbol → Read (Expression Bare)
  -- expressions with commas between them
  pub list : Scope → List (Expression Bare) → List Symbol → Read (List (Expression Bare))
  -- further specifiers, after those that said this of the type
  pub specifiers : Scope → Setting → Said → List (Specifier Bare) → List Symbol → Read (List (Specifier Bare))
  -- members of a structure, with the `}`
  pub members : Scope → List (MemberDeclaration Bare) → List Symbol → Read (List (MemberDeclaration Bare))
  -- declarators of members with commas between them, with the `;`
  pub fields : Scope → List (Field Bare) → List Symbol → Read (List (Field Bare))
  -- constants of an enumeration and whether a comma stands after the last, with the `}`
  pub enumerators : Scope → List (Enumerator Bare) → List Symbol → Read (List (Enumerator Bare) × Bool)
  pub declarator : Scope → Setting → Naming → List Symbol → Read (Declarator Bare)
  -- arrays and functions of a declarator
  pub suffixes : Scope → Setting → Declarator Bare → List Symbol → Read (Declarator Bare)
  -- parameters and whether `...` stands after the last, with the `)`
  pub parameters : Scope → Setting → List (Parameter Bare) → List Symbol → Read (List (Parameter Bare) × Bool)
