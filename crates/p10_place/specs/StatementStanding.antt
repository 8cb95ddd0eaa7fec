-- Where the parts of a declaration, statement or function stand, said by the words that are left where a part begins and
-- where it ends.
use Rattle.std.specs.Prelude.{List, [], ◌∷◌, drop, Option, Some, None}
use Rattle.p10_base.specs.declared.at.At.{At}
use Rattle.p10_syn.specs.declared.sign.Sign.TheVariants as sign
use Rattle.p10_syn.specs.Symbols.{Symbol, Fixed}
use Rattle.p10_syn.specs.Symbols as symbol
use Rattle.p10_syn.specs.Trees.{Initializer, Value, Braced, Initializers, NoInitializers, MoreInitializers, InitDeclarator, Declaration, Statement, Empty, Evaluate, Block, If, IfElse, Switch, While, Do, For, Case, Default, Label, Goto, Break, Continue, Return, Declare, Pragma, Statements, NoStatements, MoreStatements, Definition, External, Outer, Defines}
use Rattle.p10_syn.specs.Bare.{bare, bare_optional, bare_initializer, bare_initializers, bare_initial, bare_init_declarator, bare_init_declarators, bare_declaration, bare_declarator, bare_statement, bare_statements, bare_definition, bare_externals}
use Rattle.p10_syn.specs.Spelling.{spell_last_comma, spell_declarator, spell, spell_optional, spell_initializer, spell_more_initializers, spell_initial, spell_init_declarator, spell_more_declarators, spell_declarators, spell_declaration, spell_statement, spell_statements, spell_definition, spell_externals}
use Rattle.p10_syn.specs.Places.{Source}
use Rattle.p10_place.specs.Standing.{IsBetween, NameStands, Stands, OptionalStands, SpecifiersStand, DeclaratorStands}

abbrev mutual
  -- an initialiser and its parts, before these words
  pub InitializerStands : Source → Initializer At → List Symbol → Type 0
  InitializerStands s (Value t) rest = Stands s t rest
  InitializerStands s (Braced p is comma) rest =
      IsBetween s p (spell_initializer (bare_initializer (Braced p is comma)) rest) rest × InitializersStand s is (spell_last_comma comma (Fixed sign.CloseBrace ∷ rest))

  -- initialisers with commas between them
  pub InitializersStand : Source → Initializers At → List Symbol → Type 0
  InitializersStand s NoInitializers rest = Unit {0}
  InitializersStand s (MoreInitializers i is) rest = InitializerStands s i (spell_more_initializers (bare_initializers is) rest) × InitializersStand s is rest

-- an initialiser, if there is one
abbrev pub InitialStands : Source → Option (Initializer At) → List Symbol → Type 0
InitialStands s None rest = Unit {0}
InitialStands s (Some i) rest = InitializerStands s i rest

-- a declarator with its initialiser
abbrev pub InitDeclaratorStands : Source → InitDeclarator At → List Symbol → Type 0
InitDeclaratorStands s d rest =
    IsBetween s d.place (spell_init_declarator (bare_init_declarator d) rest) rest × DeclaratorStands s d.declarator (spell_initial (bare_initial d.initial) rest) × InitialStands s d.initial rest

-- what a declaration declares, before these words and the `;`
abbrev pub InitDeclaratorsStand : Source → List (InitDeclarator At) → List Symbol → Type 0
InitDeclaratorsStand s [] rest = Unit {0}
InitDeclaratorsStand s (d ∷ ds) rest = InitDeclaratorStands s d (spell_more_declarators (bare_init_declarators ds) rest) × InitDeclaratorsStand s ds rest

-- a declaration
abbrev pub DeclarationStands : Source → Declaration At → List Symbol → Type 0
DeclarationStands s d rest =
    IsBetween s d.place (spell_declaration (bare_declaration d) rest) rest × SpecifiersStand s d.specifiers (spell_declarators (bare_init_declarators d.declarators) rest) × InitDeclaratorsStand s d.declarators rest

abbrev mutual
  -- a statement, its keyword where it is kept, and its parts
  pub StatementStands : Source → Statement At → List Symbol → Type 0
  StatementStands s (Empty p) rest = IsBetween s p (Fixed sign.Semicolon ∷ rest) rest
  StatementStands s (Evaluate p t) rest = IsBetween s p (spell (bare t) (Fixed sign.Semicolon ∷ rest)) rest × Stands s t (Fixed sign.Semicolon ∷ rest)
  StatementStands s (Block p us) rest =
      IsBetween s p (Fixed sign.OpenBrace ∷ spell_statements (bare_statements us) (Fixed sign.CloseBrace ∷ rest)) rest × StatementsStand s us (Fixed sign.CloseBrace ∷ rest)
  StatementStands s (If p t u) rest =
      IsBetween s p (spell_statement (bare_statement (If p t u)) rest) rest × Stands s t (Fixed sign.Close ∷ spell_statement (bare_statement u) rest) × StatementStands s u rest
  StatementStands s (IfElse p t u v) rest =
      IsBetween s p (spell_statement (bare_statement (IfElse p t u v)) rest) rest
      × Stands s t (Fixed sign.Close ∷ spell_statement (bare_statement u) (Fixed sign.Else ∷ spell_statement (bare_statement v) rest))
      × StatementStands s u (Fixed sign.Else ∷ spell_statement (bare_statement v) rest) × StatementStands s v rest
  StatementStands s (Switch p k t u) rest =
      IsBetween s p (spell_statement (bare_statement (Switch p k t u)) rest) rest
      × IsBetween s k (spell_statement (bare_statement (Switch p k t u)) rest) (Fixed sign.Open ∷ spell (bare t) (Fixed sign.Close ∷ spell_statement (bare_statement u) rest))
      × Stands s t (Fixed sign.Close ∷ spell_statement (bare_statement u) rest) × StatementStands s u rest
  StatementStands s (While p k t u) rest =
      IsBetween s p (spell_statement (bare_statement (While p k t u)) rest) rest
      × IsBetween s k (spell_statement (bare_statement (While p k t u)) rest) (Fixed sign.Open ∷ spell (bare t) (Fixed sign.Close ∷ spell_statement (bare_statement u) rest))
      × Stands s t (Fixed sign.Close ∷ spell_statement (bare_statement u) rest) × StatementStands s u rest
  StatementStands s (Do p k u t) rest =
      IsBetween s p (spell_statement (bare_statement (Do p k u t)) rest) rest
      × IsBetween s k (spell_statement (bare_statement (Do p k u t)) rest)
      (spell_statement (bare_statement u) (Fixed sign.While ∷ (Fixed sign.Open ∷ spell (bare t) (Fixed sign.Close ∷ (Fixed sign.Semicolon ∷ rest)))))
      × StatementStands s u (Fixed sign.While ∷ (Fixed sign.Open ∷ spell (bare t) (Fixed sign.Close ∷ (Fixed sign.Semicolon ∷ rest))))
      × Stands s t (Fixed sign.Close ∷ (Fixed sign.Semicolon ∷ rest))
  StatementStands s (For p k start test step u) rest =
      IsBetween s p (spell_statement (bare_statement (For p k start test step u)) rest) rest
      × IsBetween s k (spell_statement (bare_statement (For p k start test step u)) rest)
      (Fixed sign.Open ∷ spell_statement (bare_statement start) (spell_optional (bare_optional test) (Fixed sign.Semicolon ∷ spell_optional (bare_optional step) (Fixed sign.Close ∷ spell_statement (bare_statement u) rest))))
      × StatementStands s start (spell_optional (bare_optional test) (Fixed sign.Semicolon ∷ spell_optional (bare_optional step) (Fixed sign.Close ∷ spell_statement (bare_statement u) rest)))
      × OptionalStands s test (Fixed sign.Semicolon ∷ spell_optional (bare_optional step) (Fixed sign.Close ∷ spell_statement (bare_statement u) rest))
      × OptionalStands s step (Fixed sign.Close ∷ spell_statement (bare_statement u) rest)
      × StatementStands s u rest
  StatementStands s (Case p t u) rest =
      IsBetween s p (spell_statement (bare_statement (Case p t u)) rest) rest × Stands s t (Fixed sign.Colon ∷ spell_statement (bare_statement u) rest) × StatementStands s u rest
  StatementStands s (Default p u) rest = IsBetween s p (spell_statement (bare_statement (Default p u)) rest) rest × StatementStands s u rest
  StatementStands s (Label p x u) rest =
      IsBetween s p (spell_statement (bare_statement (Label p x u)) rest) rest × NameStands s x (Fixed sign.Colon ∷ spell_statement (bare_statement u) rest) × StatementStands s u rest
  StatementStands s (Goto p x) rest = IsBetween s p (spell_statement (bare_statement (Goto p x)) rest) rest × NameStands s x (Fixed sign.Semicolon ∷ rest)
  StatementStands s (Break p) rest = IsBetween s p (Fixed sign.Break ∷ (Fixed sign.Semicolon ∷ rest)) rest
  StatementStands s (Continue p) rest = IsBetween s p (Fixed sign.Continue ∷ (Fixed sign.Semicolon ∷ rest)) rest
  StatementStands s (Return p k t) rest =
      IsBetween s p (spell_statement (bare_statement (Return p k t)) rest) rest
      × IsBetween s k (spell_statement (bare_statement (Return p k t)) rest) (spell_optional (bare_optional t) (Fixed sign.Semicolon ∷ rest))
      × OptionalStands s t (Fixed sign.Semicolon ∷ rest)
  StatementStands s (Declare d) rest = DeclarationStands s d rest
  StatementStands s (Pragma p x) rest = IsBetween s p (symbol.Pragma x ∷ rest) rest

  -- statements one after the other
  pub StatementsStand : Source → Statements At → List Symbol → Type 0
  StatementsStand s NoStatements rest = Unit {0}
  StatementsStand s (MoreStatements u us) rest = StatementStands s u (spell_statements (bare_statements us) rest) × StatementsStand s us rest

-- the words of a function that rules ask for, counted in its root: all of them, the first, the `{` of its body, and the last
abbrev pub LandmarksStand : Source → Definition At → List Symbol → Type 0
LandmarksStand s d rest =
    let root : Source = record { words = s.words; before = 0 } in
    IsBetween root d.landmarks.whole (spell_definition (bare_definition d) rest) rest
    × IsBetween root d.landmarks.first_word (spell_definition (bare_definition d) rest) (drop 1 (spell_definition (bare_definition d) rest))
    × IsBetween root d.landmarks.brace (Fixed sign.OpenBrace ∷ spell_statements (bare_statements d.body) (Fixed sign.CloseBrace ∷ rest)) (spell_statements (bare_statements d.body) (Fixed sign.CloseBrace ∷ rest))
    × IsBetween root d.landmarks.last_word (Fixed sign.CloseBrace ∷ rest) rest

-- a function
abbrev pub DefinitionStands : Source → Definition At → List Symbol → Type 0
DefinitionStands s d rest =
    IsBetween s d.place (spell_definition (bare_definition d) rest) rest
    × LandmarksStand s d rest
    × SpecifiersStand s d.specifiers (spell_declarator (bare_declarator d.declarator) (Fixed sign.OpenBrace ∷ spell_statements (bare_statements d.body) (Fixed sign.CloseBrace ∷ rest)))
    × DeclaratorStands s d.declarator (Fixed sign.OpenBrace ∷ spell_statements (bare_statements d.body) (Fixed sign.CloseBrace ∷ rest))
    × IsBetween s d.body_place (Fixed sign.OpenBrace ∷ spell_statements (bare_statements d.body) (Fixed sign.CloseBrace ∷ rest)) rest
    × StatementsStand s d.body (Fixed sign.CloseBrace ∷ rest)

-- a declaration outside of functions, or a function
abbrev pub ExternalStands : Source → External At → List Symbol → Type 0
ExternalStands s (Outer p d) rest =
    IsBetween (record { words = s.words; before = 0 }) p (spell_declaration (bare_declaration d) rest) rest × DeclarationStands s d rest
ExternalStands s (Defines d) rest = DefinitionStands s d rest

-- one after the other
abbrev pub ExternalsStand : Source → List (External At) → List Symbol → Type 0
ExternalsStand s [] rest = Unit {0}
ExternalsStand s (e ∷ es) rest = ExternalStands s e (spell_externals (bare_externals es) rest) × ExternalsStand s es rest
