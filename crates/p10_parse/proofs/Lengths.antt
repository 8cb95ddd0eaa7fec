-- How large a tree is, by the number of its words.
use Rattle.std.proofs.Common.{ℕ, ◌+◌, ◌*◌, ◌<◌, ◌≤◌, List, [], ◌∷◌, length, Option, Some, None, arith}
use Rattle.p10_syn.specs.declared.sign.Sign.TheVariants as sign
use Rattle.p10_syn.specs.declared.setting.Naming.TheVariants.{Required}
use Rattle.p10_syn.specs.declared.setting.Setting.TheVariants.{Outside}
use Rattle.p10_syn.specs.declared.setting.Said.TheVariants.{Nothing}
use Rattle.p10_syn.specs.Symbols.{Symbol, Fixed}
use Rattle.p10_syn.specs.Scopes.{Scope}
use Rattle.p10_syn.specs.Declaring.{after_specifiers, after_declarator, after_statement, in_body}
use Rattle.p10_syn.specs.Spelling.{spell, spell_optional, spell_last_comma, spell_declarator, spell_initializer, spell_more_initializers, spell_initial, spell_init_declarator, spell_more_declarators, spell_declarators, spell_declaration, spell_statement, spell_statements, spell_external}
use Rattle.p10_syn.specs.Forms.{IsOptional}
use Rattle.p10_syn.specs.StatementForms.{IsInitializer, AreInitializers, IsInitial, IsInitDeclarator, AreInitDeclarators, IsDeclaration, IsStart, Role, Item, Part, IsStatement, AreItems, IsExternal}
use Rattle.p10_syn.specs.Trees.{Bare, Specifiers, Optional, Absent, Present, Initializer, Value, Braced, Initializers, NoInitializers, MoreInitializers, InitDeclarator, Declaration, Statement, Empty, Evaluate, Block, If, IfElse, Switch, While, Do, For, Case, Default, Label, Goto, Break, Continue, Return, Declare, Pragma, Statements, NoStatements, MoreStatements, External, Outer, Defines}
use Rattle.p10_pexpr.proofs.Sizes.{optional_size}
use Rattle.p10_pexpr.proofs.Lengths.{words, specifiers_words, declarator_words, spare_some, last_comma_words}
use Rattle.p10_parse.proofs.Sizes.{initializer_size, initializers_size, initial_size, init_declarator_size, declarators_size, declaration_size, statement_size, statements_size, external_size}

mutual
  initializer_words : (i : Initializer Bare) (names : Scope) (rest : List Symbol) → IsInitializer names i → initializer_size i + 4 * length rest ≤ 4 * length (spell_initializer i rest) + 1
  initializer_words (Value t) names rest h = omega (arith, words t names rest h.0)
  initializer_words (Braced p NoInitializers comma) names rest h = absurd h.1
  initializer_words (Braced p (MoreInitializers i is) comma) names rest h =
      let last = spell_last_comma comma (Fixed sign.CloseBrace ∷ rest) in
      omega (arith, initializer_words i names (spell_more_initializers is last) h.0.0, initializers_words is names last h.0.1, last_comma_words comma (Fixed sign.CloseBrace ∷ rest))

  initializers_words : (is : Initializers Bare) (names : Scope) (rest : List Symbol) → AreInitializers names is → initializers_size is + 4 * length rest ≤ 4 * length (spell_more_initializers is rest)
  initializers_words NoInitializers names rest h = omega arith
  initializers_words (MoreInitializers i is) names rest h = omega (arith, initializer_words i names (spell_more_initializers is rest) h.0, initializers_words is names rest h.1)

initial_words : (i : Option (Initializer Bare)) (names : Scope) (rest : List Symbol) → IsInitial names i → initial_size i + 4 * length rest ≤ 4 * length (spell_initial i rest)
initial_words None names rest h = omega arith
initial_words (Some i) names rest h = omega (arith, initializer_words i names rest h)

init_declarator_words : (d : InitDeclarator Bare) (names : Scope) (ss : Specifiers Bare) (rest : List Symbol) → IsInitDeclarator names ss d → init_declarator_size d + 4 * length rest ≤ 4 * length (spell_init_declarator d rest) + 2
init_declarator_words d names ss rest h =
    omega (arith, declarator_words d.declarator names Outside Required (spell_initial d.initial rest) h.0, initial_words d.initial (after_declarator names ss d.declarator) rest h.1)

more_words : (ds : List (InitDeclarator Bare)) (names : Scope) (ss : Specifiers Bare) (rest : List Symbol) → AreInitDeclarators names ss ds → declarators_size ds + 4 + 4 * length rest ≤ 4 * length (spell_more_declarators ds rest)
more_words [] names ss rest h = omega arith
more_words (d ∷ ds) names ss rest h = omega (arith, init_declarator_words d names ss (spell_more_declarators ds rest) h.0, more_words ds (after_declarator names ss d.declarator) ss rest h.1)

declarators_words : (ds : List (InitDeclarator Bare)) (names : Scope) (ss : Specifiers Bare) (rest : List Symbol) → AreInitDeclarators names ss ds → declarators_size ds + 1 + 4 * length rest ≤ 4 * length (spell_declarators ds rest)
declarators_words [] names ss rest h = omega arith
declarators_words (d ∷ ds) names ss rest h = omega (arith, init_declarator_words d names ss (spell_more_declarators ds rest) h.0, more_words ds (after_declarator names ss d.declarator) ss rest h.1)

pub declaration_words : (d : Declaration Bare) (names : Scope) (rest : List Symbol) → IsDeclaration names d → declaration_size d + 2 + 4 * length rest ≤ 4 * length (spell_declaration d rest)
declaration_words d names rest h =
    omega (
      arith,
      spare_some d.specifiers h.1,
      specifiers_words d.specifiers names Outside Nothing (spell_declarators d.declarators rest) h.0,
      declarators_words d.declarators (after_specifiers names d.specifiers) d.specifiers rest h.3,
    )

optional_words : (t : Optional Bare) (names : Scope) (level : ℕ) (rest : List Symbol) → IsOptional names level t → optional_size t + 4 * length rest ≤ 4 * length (spell_optional t rest) + 1
optional_words Absent names level rest h = omega arith
optional_words (Present t) names level rest h = omega (arith, words t names rest h.0)

start_words : (s : Statement Bare) (names : Scope) (rest : List Symbol) → IsStart names s → statement_size s + 4 * length rest ≤ 4 * length (spell_statement s rest)
start_words (Empty p) names rest h = omega arith
start_words (Evaluate p t) names rest h = omega (arith, words t names (Fixed sign.Semicolon ∷ rest) h)
start_words (Declare d) names rest h = omega (arith, declaration_words d names rest h)
start_words _ names rest h = absurd h

mutual
  pub statement_words : (s : Statement Bare) (names : Scope) (role : Role) (rest : List Symbol) → IsStatement names role s → statement_size s + 1 + 4 * length rest ≤ 4 * length (spell_statement s rest)
  statement_words (Empty p) names role rest h = omega arith
  statement_words (Evaluate p t) names role rest h = omega (arith, words t names (Fixed sign.Semicolon ∷ rest) h)
  statement_words (Block p ss) names role rest h = omega (arith, statements_words ss names (Fixed sign.CloseBrace ∷ rest) h)
  statement_words (If p t s) names role rest h = omega (arith, words t names (Fixed sign.Close ∷ spell_statement s rest) h.0, statement_words s names Part rest h.1)
  statement_words (IfElse p t s u) names role rest h =
      omega (arith, words t names (Fixed sign.Close ∷ spell_statement s (Fixed sign.Else ∷ spell_statement u rest)) h.0, statement_words s names Part (Fixed sign.Else ∷ spell_statement u rest) h.1, statement_words u names Part rest h.3)
  statement_words (Switch p k t s) names role rest h = omega (arith, words t names (Fixed sign.Close ∷ spell_statement s rest) h.0, statement_words s names Part rest h.1)
  statement_words (While p k t s) names role rest h = omega (arith, words t names (Fixed sign.Close ∷ spell_statement s rest) h.0, statement_words s names Part rest h.1)
  statement_words (Do p k s t) names role rest h =
      omega (arith, statement_words s names Part (Fixed sign.While ∷ (Fixed sign.Open ∷ spell t (Fixed sign.Close ∷ (Fixed sign.Semicolon ∷ rest)))) h.0, words t names (Fixed sign.Close ∷ (Fixed sign.Semicolon ∷ rest)) h.1)
  statement_words (For p k start test step s) names role rest h =
      let within = after_statement names start in
      let body = spell_statement s rest in
      let third = spell_optional step (Fixed sign.Close ∷ body) in
      omega (
        arith,
        start_words start names (spell_optional test (Fixed sign.Semicolon ∷ third)) h.0,
        optional_words test within 1 (Fixed sign.Semicolon ∷ third) h.1,
        optional_words step within 1 (Fixed sign.Close ∷ body) h.2,
        statement_words s within Part rest h.3,
      )
  statement_words (Case p t s) names role rest h = omega (arith, words t names (Fixed sign.Colon ∷ spell_statement s rest) h.0, statement_words s names Part rest h.2)
  statement_words (Default p s) names role rest h = omega (arith, statement_words s names Part rest h)
  statement_words (Label p x s) names role rest h = omega (arith, statement_words s names Part rest h)
  statement_words (Goto p x) names role rest h = omega arith
  statement_words (Break p) names role rest h = omega arith
  statement_words (Continue p) names role rest h = omega arith
  statement_words (Return p k t) names role rest h = omega (arith, optional_words t names 1 (Fixed sign.Semicolon ∷ rest) h)
  statement_words (Declare d) names role rest h = omega (arith, declaration_words d names rest h.1)
  statement_words (Pragma p x) names role rest h = omega arith

  pub statements_words : (ss : Statements Bare) (names : Scope) (rest : List Symbol) → AreItems names ss → statements_size ss + 4 * length rest ≤ 4 * length (spell_statements ss rest)
  statements_words NoStatements names rest h = omega arith
  statements_words (MoreStatements s ss) names rest h = omega (arith, statement_words s names Item (spell_statements ss rest) h.0, statements_words ss (after_statement names s) rest h.1)

pub external_words : (e : External Bare) (names : Scope) (rest : List Symbol) → IsExternal names e → external_size e + 4 * length rest ≤ 4 * length (spell_external e rest)
external_words (Outer p d) names rest h = omega (arith, declaration_words d names rest h)
external_words (Defines f) names rest h =
    let within = after_specifiers names f.specifiers in
    let body = spell_statements f.body (Fixed sign.CloseBrace ∷ rest) in
    omega (
      arith,
      spare_some f.specifiers h.1,
      specifiers_words f.specifiers names Outside Nothing (spell_declarator f.declarator (Fixed sign.OpenBrace ∷ body)) h.0,
      declarator_words f.declarator within Outside Required (Fixed sign.OpenBrace ∷ body) h.3,
      statements_words f.body (in_body (after_declarator within f.specifiers f.declarator) f.declarator) (Fixed sign.CloseBrace ∷ rest) h.4,
    )

pub external_some : (e : External Bare) → 0 < external_size e
external_some (Outer p d) = omega arith
external_some (Defines f) = omega arith
