-- Reading initialisers and declarations (C99 6.7, 6.7.8).
use Rattle.std.specs.Prelude.{List, [], ◌∷◌, ◌++◌, drop, Bool, true, false, Option, Some, None, option_map, option_and_then, cond}
use Rattle.p10_syn.specs.declared.sign.Sign.TheVariants as sign
use Rattle.p10_syn.specs.declared.setting.Naming.TheVariants.{Required}
use Rattle.p10_syn.specs.declared.setting.Setting.TheVariants.{Outside}
use Rattle.p10_syn.specs.Symbols.{Symbol}
use Rattle.p10_syn.specs.Scopes.{Scope}
use Rattle.p10_syn.specs.Declaring.{after_specifiers, after_declarator}
use Rattle.p10_syn.specs.Trees.{Bare, Specifiers, Declarator, Initializer, Value, Braced, InitDeclarator, Declaration, Statement, initializer_row}
use Rattle.p10_pexpr.specs.Heads.{Read, heads, closed_by}
use Rattle.p10_pexpr.specs.Readers.{Readers}
use Rattle.p10_pexpr.specs.DeclaratorReading.{specifiers_at}

-- readers of what is built from expressions and declarators; those of lists are given the elements that were read before
pub record Builders : Type 0 where
  pub initializer : Scope → List Symbol → Read (Initializer Bare)
  -- initialisers in braces and whether a comma stands after the last, with the `}`
  pub initializers : Scope → List (Initializer Bare) → List Symbol → Read (List (Initializer Bare) × Bool)
  -- further declarators of a declaration with these specifiers, with the `;`
  pub declarators : Scope → Specifiers Bare → List (InitDeclarator Bare) → List Symbol → Read (List (InitDeclarator Bare))
  -- a statement that is part of another or an item of a block
  pub statement : Scope → List Symbol → Read (Statement Bare)
  -- items of a block, with the `}`
  pub items : Scope → List (Statement Bare) → List Symbol → Read (List (Statement Bare))

-- a declarator of a declaration, with this initialiser or with none
abbrev pub with_initial : Declarator Bare → Option (Initializer Bare) → InitDeclarator Bare
with_initial d i = record { place = tt; declarator = d; initial = i }

-- a declaration of these declarators after these specifiers, without its places
abbrev pub declaring : Specifiers Bare → List (InitDeclarator Bare) → Declaration Bare
declaring ss ds = record { place = tt; specifiers = ss; declarators = ds }

module _ (e : Readers) (r : Builders) where
  -- ## Initialisers

  -- an initialiser without braces: an assignment expression (C99 6.7.8)
  abbrev pub value_of : Scope → List Symbol → Read (Initializer Bare)
  value_of names symbols = option_map (λ t. (Value t.0, t.1)) (e.expression names 2 symbols)

  -- after a `{`
  abbrev pub braced_at : Scope → List Symbol → Read (Initializer Bare)
  braced_at names rest = option_map (λ is. (Braced tt (initializer_row is.0.0) is.0.1, is.1)) (r.initializers names [] rest)

  -- a list where a `{` stands, or else a value (C99 6.7.8)
  abbrev pub initializer_once : Scope → List Symbol → Read (Initializer Bare)
  initializer_once names symbols = cond (heads sign.OpenBrace symbols) (braced_at names (drop 1 symbols)) (value_of names symbols)

  -- after a `,`
  abbrev pub initializers_on : Scope → List (Initializer Bare) → List Symbol → Read (List (Initializer Bare) × Bool)
  initializers_on names done rest = cond (heads sign.CloseBrace rest) (Some ((done, true), drop 1 rest)) (r.initializers names done rest)

  -- after an initialiser of a list: a `,` and what is after it, or the `}`
  abbrev pub initializers_more : Scope → List (Initializer Bare) → List Symbol → Read (List (Initializer Bare) × Bool)
  initializers_more names done rest = cond (heads sign.Comma rest) (initializers_on names done (drop 1 rest)) (closed_by sign.CloseBrace (done, false) rest)

  -- one initialiser of a list and those after it
  abbrev pub initializers_once : Scope → List (Initializer Bare) → List Symbol → Read (List (Initializer Bare) × Bool)
  initializers_once names done symbols = option_and_then (λ i. initializers_more names (done ++ i.0 ∷ []) i.1) (r.initializer names symbols)

  -- ## Declarations

  -- after a declarator, where its name is in scope
  abbrev pub initial_at : Scope → Declarator Bare → List Symbol → Read (InitDeclarator Bare)
  initial_at names d rest =
      cond (heads sign.Assign rest) (option_map (λ i. (with_initial d (Some i.0), i.1)) (r.initializer names (drop 1 rest))) (Some (with_initial d None, rest))

  -- a declarator with a name, and its initialiser, in which the name is in scope
  abbrev pub init_declarator_at : Scope → Specifiers Bare → List Symbol → Read (InitDeclarator Bare)
  init_declarator_at names ss symbols =
      option_and_then (λ d. initial_at (after_declarator names ss d.0) d.0 d.1) (e.declarator names Outside Required symbols)

  -- after a declarator with its initialiser
  abbrev pub declarators_after : Scope → Specifiers Bare → List (InitDeclarator Bare) → InitDeclarator Bare → List Symbol → Read (List (InitDeclarator Bare))
  declarators_after names ss done d rest = r.declarators (after_declarator names ss d.declarator) ss (done ++ d ∷ []) rest

  -- after a declarator of a declaration: a `,` and what is after it, or the `;`
  abbrev pub declarators_once : Scope → Specifiers Bare → List (InitDeclarator Bare) → List Symbol → Read (List (InitDeclarator Bare))
  declarators_once names ss done symbols =
      cond (heads sign.Comma symbols) (option_and_then (λ d. declarators_after names ss done d.0 d.1) (init_declarator_at names ss (drop 1 symbols)))
      (closed_by sign.Semicolon done symbols)

  -- all declarators of a declaration, with the `;`
  abbrev pub declarators_at : Scope → Specifiers Bare → List Symbol → Read (List (InitDeclarator Bare))
  declarators_at names ss symbols =
      cond (heads sign.Semicolon symbols) (Some ([], drop 1 symbols)) (option_and_then (λ d. declarators_after names ss [] d.0 d.1) (init_declarator_at names ss symbols))

  -- specifiers, and then what they declare up to the `;` (C99 6.7)
  abbrev pub declaration_at : Scope → List Symbol → Read (Declaration Bare)
  declaration_at names symbols =
      option_and_then (λ ss. option_map (λ ds. (declaring ss.0 ds.0, ds.1)) (declarators_at (after_specifiers names ss.0) ss.0 ss.1)) (specifiers_at e names Outside symbols)
