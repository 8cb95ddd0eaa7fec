-- Which declarations, statements and functions there are where names are in scope: the conditions of the grammar (C99
-- 6.7 to 6.9), in its order.
use Rattle.std.specs.Prelude.{◌≡◌, ◌≤◌, List, [], ◌∷◌, Bool, true, false, Option, Some, None}
use Rattle.p10_syn.specs.declared.setting.Naming.TheVariants.{Required}
use Rattle.p10_syn.specs.declared.setting.Said.{Said}
use Rattle.p10_syn.specs.declared.setting.Said.TheVariants.{Nothing}
use Rattle.p10_syn.specs.declared.setting.Setting.TheVariants.{Outside}
use Rattle.p10_syn.specs.Scopes.{Scope}
use Rattle.p10_syn.specs.Precedence.{level_of}
use Rattle.p10_syn.specs.Declaring.{after_specifiers, after_declarator, after_statement, in_body, after_external}
use Rattle.p10_syn.specs.Forms.{said_by, IsExpression, IsOptional, AreSpecifiers, HasSpecifiers, IsApart, IsDeclarator}
use Rattle.p10_syn.specs.Trees.{Bare, Specifiers, Initializer, Value, Braced, Initializers, NoInitializers, MoreInitializers, InitDeclarator, Declaration, Statement, Empty, Evaluate, Block, If, IfElse, Switch, While, Do, For, Case, Default, Label, Goto, Break, Continue, Return, Declare, Pragma, Statements, NoStatements, MoreStatements, Definition, External, Outer, Defines}

-- ## Declarations

-- at least one initialiser is there (C99 6.7.8)
abbrev pub HasInitializers : {P : Type 0} → Initializers P → Type 0
HasInitializers NoInitializers = ⊥
HasInitializers (MoreInitializers i is) = Unit {0}

abbrev mutual
  -- an assignment expression, or at least one initialiser in braces (C99 6.7.8)
  pub IsInitializer : Scope → Initializer Bare → Type 0
  IsInitializer names (Value t) = IsExpression names t × (2 ≤ level_of t)
  IsInitializer names (Braced p is comma) = AreInitializers names is × HasInitializers is

  -- each initialiser of a list in the same scope
  pub AreInitializers : Scope → Initializers Bare → Type 0
  AreInitializers names NoInitializers = Unit {0}
  AreInitializers names (MoreInitializers i is) = IsInitializer names i × AreInitializers names is

-- an initialiser, unless there is none
abbrev pub IsInitial : Scope → Option (Initializer Bare) → Type 0
IsInitial names None = Unit {0}
IsInitial names (Some i) = IsInitializer names i

-- the declared name is in scope in its own initialiser
abbrev pub IsInitDeclarator : Scope → Specifiers Bare → InitDeclarator Bare → Type 0
IsInitDeclarator names ss d = IsDeclarator names Outside Required d.declarator × IsInitial (after_declarator names ss d.declarator) d.initial

-- each in the scope after those before it
abbrev pub AreInitDeclarators : Scope → Specifiers Bare → List (InitDeclarator Bare) → Type 0
AreInitDeclarators names ss [] = Unit {0}
AreInitDeclarators names ss (d ∷ ds) = IsInitDeclarator names ss d × AreInitDeclarators (after_declarator names ss d.declarator) ss ds

-- of the declarators only the one directly after the specifiers is told apart from them
abbrev pub IsFirstApart : Scope → Said → List (InitDeclarator Bare) → Type 0
IsFirstApart names said [] = Unit {0}
IsFirstApart names said (d ∷ ds) = IsApart names said d.declarator

-- specifiers, and declarators after them, of which the first is told apart from them (C99 6.7)
abbrev pub IsDeclaration : Scope → Declaration Bare → Type 0
IsDeclaration names d =
    AreSpecifiers names Outside Nothing d.specifiers
    × HasSpecifiers d.specifiers
    × IsFirstApart (after_specifiers names d.specifiers) (said_by Nothing d.specifiers) d.declarators
    × AreInitDeclarators (after_specifiers names d.specifiers) d.specifiers d.declarators

-- ## Statements

-- whether an `else` after it would belong to it
abbrev pub is_open : {P : Type 0} → Statement P → Bool
is_open (If p t s) = true
is_open (IfElse p t s u) = is_open u
is_open (Switch p k t s) = is_open s
is_open (While p k t s) = is_open s
is_open (For p k start test step s) = is_open s
is_open (Case p t s) = is_open s
is_open (Default p s) = is_open s
is_open (Label p x s) = is_open s
is_open _ = false

-- the first part of a `for`
abbrev pub IsStart : Scope → Statement Bare → Type 0
IsStart names (Empty p) = Unit {0}
IsStart names (Evaluate p t) = IsExpression names t
IsStart names (Declare d) = IsDeclaration names d
IsStart names _ = ⊥

-- whether a statement is an item of a block or a part of another statement
pub data Role : Type 0 where
  Item : Role
  Part : Role

-- declarations and p10 pragmas stand in blocks
abbrev pub IsInBlock : Role → Type 0
IsInBlock Item = Unit {0}
IsInBlock Part = ⊥

abbrev mutual
  -- a statement that may stand here, as an item of a block or as a part of another statement (C99 6.8)
  pub IsStatement : Scope → Role → Statement Bare → Type 0
  IsStatement names role (Empty p) = Unit {0}
  IsStatement names role (Evaluate p t) = IsExpression names t
  IsStatement names role (Block p ss) = AreItems names ss
  IsStatement names role (If p t s) = IsExpression names t × IsStatement names Part s
  -- an `else` belongs to the nearest `if`
  IsStatement names role (IfElse p t s u) = IsExpression names t × IsStatement names Part s × (is_open s ≡ false) × IsStatement names Part u
  IsStatement names role (Switch p k t s) = IsExpression names t × IsStatement names Part s
  IsStatement names role (While p k t s) = IsExpression names t × IsStatement names Part s
  IsStatement names role (Do p k s t) = IsStatement names Part s × IsExpression names t
  -- what its first part declares is in scope in all of it
  IsStatement names role (For p k start test step s) =
      IsStart names start × IsOptional (after_statement names start) 1 test × IsOptional (after_statement names start) 1 step × IsStatement (after_statement names start) Part s
  IsStatement names role (Case p t s) = IsExpression names t × (3 ≤ level_of t) × IsStatement names Part s
  IsStatement names role (Default p s) = IsStatement names Part s
  IsStatement names role (Label p x s) = IsStatement names Part s
  IsStatement names role (Goto p x) = Unit {0}
  IsStatement names role (Break p) = Unit {0}
  IsStatement names role (Continue p) = Unit {0}
  IsStatement names role (Return p k t) = IsOptional names 1 t
  IsStatement names role (Declare d) = IsInBlock role × IsDeclaration names d
  IsStatement names role (Pragma p x) = IsInBlock role

  -- the items of a block, each in the scope after those before it
  pub AreItems : Scope → Statements Bare → Type 0
  AreItems names NoStatements = Unit {0}
  AreItems names (MoreStatements s ss) = IsStatement names Item s × AreItems (after_statement names s) ss

-- ## Declarations and functions outside of functions

-- specifiers, a declarator with a name, and a body in the scope of its name and parameters (C99 6.9.1)
abbrev pub IsDefinition : Scope → Definition Bare → Type 0
IsDefinition names d =
    AreSpecifiers names Outside Nothing d.specifiers
    × HasSpecifiers d.specifiers
    × IsApart (after_specifiers names d.specifiers) (said_by Nothing d.specifiers) d.declarator
    × IsDeclarator (after_specifiers names d.specifiers) Outside Required d.declarator
    × AreItems (in_body (after_declarator (after_specifiers names d.specifiers) d.specifiers d.declarator) d.declarator) d.body

-- a declaration outside of functions, or a function, that may stand here (C99 6.9)
abbrev pub IsExternal : Scope → External Bare → Type 0
IsExternal names (Outer p d) = IsDeclaration names d
IsExternal names (Defines d) = IsDefinition names d

-- each in the scope after those before it
abbrev pub AreExternals : Scope → List (External Bare) → Type 0
AreExternals names [] = Unit {0}
AreExternals names (e ∷ es) = IsExternal names e × AreExternals (after_external names e) es
