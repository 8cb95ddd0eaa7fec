-- What it means that what was read is spelled.
use Rattle.std.proofs.Common.{◌≡◌, List, ◌∷◌, ◌++◌, Bool, true, false, Some}
use Rattle.p10_syn.specs.declared.sign.Sign.TheVariants as sign
use Rattle.p10_syn.specs.Symbols.{Symbol, Fixed}
use Rattle.p10_syn.specs.Scopes.{Scope}
use Rattle.p10_syn.specs.Spelling.{spell_initializer, spell_more_initializers, spell_last_comma, spell_more_declarators, spell_statement, spell_statements}
use Rattle.p10_syn.specs.StatementForms.{IsInitializer, AreInitializers, AreInitDeclarators, is_open, Part, IsStatement, AreItems}
use Rattle.p10_syn.specs.Trees.{Bare, Specifiers, Initializer, Initializers, MoreInitializers, InitDeclarator, Statement, Statements}
use Rattle.p10_pexpr.specs.Heads.{heads}
use Rattle.p10_parse.specs.DeclarationReading.{Builders}
use Rattle.p10_parse.proofs.Rows.{initializer_list, statement_list}

pub record TookInitializer (names : Scope) (symbols : List Symbol) (p : Initializer Bare × List Symbol) : Type 0 where
  pub formed : IsInitializer names p.0
  pub spelled : symbols ≡ spell_initializer p.0 p.1

pub record TookInitializers (names : Scope) (done : List (Initializer Bare)) (symbols : List Symbol) (p : (List (Initializer Bare) × Bool) × List Symbol) : Type 0 where
  pub first : Initializer Bare
  pub others : Initializers Bare
  pub formed : AreInitializers names (MoreInitializers first others)
  pub items : p.0.0 ≡ done ++ first ∷ initializer_list others
  pub spelled : symbols ≡ spell_initializer first (spell_more_initializers others (spell_last_comma p.0.1 (Fixed sign.CloseBrace ∷ p.1)))

pub record TookDeclarators (names : Scope) (ss : Specifiers Bare) (done : List (InitDeclarator Bare)) (symbols : List Symbol) (p : List (InitDeclarator Bare) × List Symbol) : Type 0 where
  pub others : List (InitDeclarator Bare)
  pub formed : AreInitDeclarators names ss others
  pub items : p.0 ≡ done ++ others
  pub spelled : symbols ≡ spell_more_declarators others p.1

pub record TookStatement (names : Scope) (symbols : List Symbol) (p : Statement Bare × List Symbol) : Type 0 where
  pub formed : IsStatement names Part p.0
  pub spelled : symbols ≡ spell_statement p.0 p.1
  -- no `else` that would belong to it stands after it
  pub clear : is_open p.0 ≡ true → heads sign.Else p.1 ≡ false

pub record TookItems (names : Scope) (done : List (Statement Bare)) (symbols : List Symbol) (p : List (Statement Bare) × List Symbol) : Type 0 where
  pub others : Statements Bare
  pub formed : AreItems names others
  pub items : p.0 ≡ done ++ statement_list others
  pub spelled : symbols ≡ spell_statements others (Fixed sign.CloseBrace ∷ p.1)

-- builders that read only what is spelled
pub record TakesAll (r : Builders) : Type 0 where
  pub initializer : (names : Scope) (symbols : List Symbol) (p : Initializer Bare × List Symbol) → r.initializer names symbols ≡ Some p → TookInitializer names symbols p
  pub initializers : (names : Scope) (done : List (Initializer Bare)) (symbols : List Symbol) (p : (List (Initializer Bare) × Bool) × List Symbol) → r.initializers names done symbols ≡ Some p → TookInitializers names done symbols p
  pub declarators : (names : Scope) (ss : Specifiers Bare) (done : List (InitDeclarator Bare)) (symbols : List Symbol) (p : List (InitDeclarator Bare) × List Symbol) → r.declarators names ss done symbols ≡ Some p → TookDeclarators names ss done symbols p
  pub statement : (names : Scope) (symbols : List Symbol) (p : Statement Bare × List Symbol) → r.statement names symbols ≡ Some p → TookStatement names symbols p
  pub items : (names : Scope) (done : List (Statement Bare)) (symbols : List Symbol) (p : List (Statement Bare) × List Symbol) → r.items names done symbols ≡ Some p → TookItems names done symbols p
