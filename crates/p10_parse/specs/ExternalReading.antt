-- Reading declarations outside of functions, and functions (C99 6.9).
use Rattle.std.specs.Prelude.{ℕ, zero, suc, List, [], drop, Some, None, option_map, option_and_then, cond}
use Rattle.p10_syn.specs.declared.sign.Sign.TheVariants as sign
use Rattle.p10_syn.specs.declared.setting.Naming.TheVariants.{Required}
use Rattle.p10_syn.specs.declared.setting.Setting.TheVariants.{Outside}
use Rattle.p10_syn.specs.Symbols.{Symbol}
use Rattle.p10_syn.specs.Scopes.{Scope}
use Rattle.p10_syn.specs.Declaring.{after_specifiers, after_declarator, in_body}
use Rattle.p10_syn.specs.Trees.{Bare, Specifiers, Declarator, Statements, External, Outer, Defines, statement_row}
use Rattle.p10_pexpr.specs.Heads.{Read, heads}
use Rattle.p10_pexpr.specs.Readers.{Readers}
use Rattle.p10_pexpr.specs.DeclaratorReading.{specifiers_at}
use Rattle.p10_pexpr.specs.Reading.{readers}
use Rattle.p10_parse.specs.DeclarationReading.{Builders, declaring, initializer_once, initializers_once, declarators_once, initial_at, declarators_after}
use Rattle.p10_parse.specs.StatementReading.{statement_once, items_once}

-- builders that read nothing
abbrev pub no_builders : Builders
no_builders = record {
  initializer = λ names symbols. None;
  initializers = λ names done symbols. None;
  declarators = λ names ss done symbols. None;
  statement = λ names symbols. None;
  items = λ names done symbols. None;
}

-- builders over readers, one step over these
abbrev pub built_over : Readers → Builders → Builders
built_over e r = record {
  initializer = initializer_once e r;
  initializers = initializers_once e r;
  declarators = declarators_once e r;
  statement = statement_once e r;
  items = items_once e r;
}

-- builders that go this deep
unfoldable pub builders : ℕ → Builders
builders zero = no_builders
builders (suc n) = built_over (readers n) (builders n)

-- a function with these specifiers, this declarator and this body, without its places
abbrev pub defining : Specifiers Bare → Declarator Bare → Statements Bare → External Bare
defining ss d body = Defines (record {
  place = tt;
  landmarks = record { whole = tt; first_word = tt; brace = tt; last_word = tt };
  specifiers = ss;
  declarator = d;
  body_place = tt;
  body = body;
})

module _ (e : Readers) (r : Builders) where
  -- after the `{` of a function's body
  abbrev pub definition_at : Scope → Specifiers Bare → Declarator Bare → List Symbol → Read (External Bare)
  definition_at names ss d rest = option_map (λ body. (defining ss d (statement_row body.0), body.1)) (r.items (in_body (after_declarator names ss d) d) [] rest)

  -- after the first declarator of a declaration
  abbrev pub outer_at : Scope → Specifiers Bare → Declarator Bare → List Symbol → Read (External Bare)
  outer_at names ss d rest =
      option_and_then (λ v. option_map (λ ds. (Outer tt (declaring ss ds.0), ds.1)) (declarators_after e r names ss [] v.0 v.1)) (initial_at e r (after_declarator names ss d) d rest)

  -- after a first declarator
  abbrev pub external_with : Scope → Specifiers Bare → Declarator Bare → List Symbol → Read (External Bare)
  external_with names ss d rest = cond (heads sign.OpenBrace rest) (definition_at names ss d (drop 1 rest)) (outer_at names ss d rest)

  -- after specifiers
  abbrev pub external_after : Scope → Specifiers Bare → List Symbol → Read (External Bare)
  external_after names ss symbols =
      cond (heads sign.Semicolon symbols) (Some (Outer tt (declaring ss []), drop 1 symbols)) (option_and_then (λ d. external_with names ss d.0 d.1) (e.declarator names Outside Required symbols))

  -- a declaration or a function
  abbrev pub external_at : Scope → List Symbol → Read (External Bare)
  external_at names symbols = option_and_then (λ ss. external_after (after_specifiers names ss.0) ss.0 ss.1) (specifiers_at e names Outside symbols)
