-- Each part of a tree of a declaration, statement or function stands on the words that it spells.
use Rattle.std.proofs.Common.{◌≡◌, ℕ, ◌+◌, length, List, [], ◌∷◌, drop, Option, Some, None, sym, subst, arith, length-drop}
use Rattle.p10_syn.specs.declared.sign.Sign.TheVariants as sign
use Rattle.p10_syn.specs.Symbols.{Symbol, Fixed}
use Rattle.p10_syn.specs.Symbols as symbol
use Rattle.p10_syn.specs.Trees.{Bare, Initializer, Value, Braced, Initializers, NoInitializers, MoreInitializers, InitDeclarator, Declaration, Statement, Empty, Evaluate, Block, If, IfElse, Switch, While, Do, For, Case, Default, Label, Goto, Break, Continue, Return, Declare, Pragma, Statements, NoStatements, MoreStatements, Definition, External, Outer, Defines}
use Rattle.p10_syn.specs.Counts.{count_bool, count, count_optional, count_specifiers, count_declarator, count_initializer, count_initializers, count_init_declarator, count_declaration, count_statement, count_statements, count_head, count_definition, count_external}
use Rattle.p10_syn.specs.Spelling.{spell_last_comma, spell, spell_optional, spell_declarator, spell_initializer, spell_initializers, spell_more_initializers, spell_initial, spell_init_declarator, spell_more_declarators, spell_declarators, spell_declaration, spell_statement, spell_statements, spell_definition, spell_external, spell_externals}
use Rattle.p10_syn.specs.Places.{Source, locate_initializer, locate_initializers, locate_initial, locate_init_declarator, locate_init_declarators, locate_declaration, locate_statement, locate_statements, locate_definition, locate_external, locate_externals}
use Rattle.p10_place.specs.StatementStanding.{InitializerStands, InitializersStand, InitialStands, InitDeclaratorStands, InitDeclaratorsStand, DeclarationStands, StatementStands, StatementsStand, DefinitionStands, ExternalStands, ExternalsStand}
use Rattle.p10_place.proofs.Counting.{counts, counts_optional, counts_specifiers, counts_declarator, counts_initializer, counts_init_declarator, counts_declaration, counts_statement, counts_statements, counts_definition, counts_external}
use Rattle.p10_place.proofs.Same.{same, same_optional, same_specifiers, same_declarator, same_initializer, same_initializers, same_initial, same_init_declarators, same_statement, same_statements, same_externals}
use Rattle.p10_place.proofs.Standings.{between, name_stands, stands, optional_stands, specifiers_stand, declarator_stands}

mutual
  initializer_stands : (s : Source) (n : ℕ) (i : Initializer Bare) (rest : List Symbol) → n + length (spell_initializer i rest) ≡ length s.words → InitializerStands s (locate_initializer s n i) rest
  initializer_stands s n (Value t) rest h = stands s n t rest h
  initializer_stands s n (Braced p is comma) rest h =
      rw (same_initializers s (n + 1) is) (
        between s n (1 + count_initializers is + count_bool comma + 1) (Fixed sign.OpenBrace ∷ spell_initializers is (spell_last_comma comma (Fixed sign.CloseBrace ∷ rest))) rest h (counts_initializer (Braced tt is comma) rest),
        initializers_stand s (n + 1) is (spell_last_comma comma (Fixed sign.CloseBrace ∷ rest)) (omega (arith, h)),
      )

  initializers_stand : (s : Source) (n : ℕ) (is : Initializers Bare) (rest : List Symbol) → n + length (spell_initializers is rest) ≡ length s.words → InitializersStand s (locate_initializers s n is) rest
  initializers_stand s n NoInitializers rest h = tt
  initializers_stand s n (MoreInitializers i NoInitializers) rest h = (initializer_stands s n i rest h, tt)
  initializers_stand s n (MoreInitializers i (MoreInitializers j js)) rest h = (
    rw (same_initializer s (n + count_initializer i + 1) j, same_initializers s (n + count_initializer i + 1 + count_initializer j + 1) js) (initializer_stands s n i (Fixed sign.Comma ∷ spell_initializer j (spell_more_initializers js rest)) h),
    initializers_stand s (n + count_initializer i + 1) (MoreInitializers j js) rest (omega (arith, h, counts_initializer i (Fixed sign.Comma ∷ spell_initializer j (spell_more_initializers js rest)))),
  )

-- after the declarator, which ends at word n
initial_stands : (s : Source) (n : ℕ) (i : Option (Initializer Bare)) (rest : List Symbol) → n + length (spell_initial i rest) ≡ length s.words → InitialStands s (locate_initial s (n + 1) i) rest
initial_stands s n None rest h = tt
initial_stands s n (Some i) rest h = initializer_stands s (n + 1) i rest (omega (arith, h))

init_declarator_stands : (s : Source) (n : ℕ) (d : InitDeclarator Bare) (rest : List Symbol) → n + length (spell_init_declarator d rest) ≡ length s.words → InitDeclaratorStands s (locate_init_declarator s n d) rest
init_declarator_stands s n d rest h =
    rw (same_declarator s n d.declarator, same_initial s (n + count_declarator d.declarator + 1) d.initial) (
      between s n (count_init_declarator d) (spell_init_declarator d rest) rest h (counts_init_declarator d rest),
      declarator_stands s n d.declarator (spell_initial d.initial rest) h,
      initial_stands s (n + count_declarator d.declarator) d.initial rest (omega (arith, h, counts_declarator d.declarator (spell_initial d.initial rest))),
    )

init_declarators_stand : (s : Source) (n : ℕ) (ds : List (InitDeclarator Bare)) (rest : List Symbol) → n + length (spell_declarators ds rest) ≡ length s.words → InitDeclaratorsStand s (locate_init_declarators s n ds) rest
init_declarators_stand s n [] rest h = tt
init_declarators_stand s n (d ∷ []) rest h = (init_declarator_stands s n d (Fixed sign.Semicolon ∷ rest) h, tt)
init_declarators_stand s n (d ∷ e ∷ es) rest h = (
  subst (λ (xs : List (InitDeclarator Bare)). InitDeclaratorStands s (locate_init_declarator s n d) (spell_more_declarators xs rest)) (sym (same_init_declarators s (n + count_init_declarator d + 1) (e ∷ es)))
      (init_declarator_stands s n d (Fixed sign.Comma ∷ spell_init_declarator e (spell_more_declarators es rest)) h),
  init_declarators_stand s (n + count_init_declarator d + 1) (e ∷ es) rest (omega (arith, h, counts_init_declarator d (Fixed sign.Comma ∷ spell_init_declarator e (spell_more_declarators es rest)))),
)

declaration_stands : (s : Source) (n : ℕ) (d : Declaration Bare) (rest : List Symbol) → n + length (spell_declaration d rest) ≡ length s.words → DeclarationStands s (locate_declaration s n d) rest
declaration_stands s n d rest h =
    rw (same_specifiers s n d.specifiers, same_init_declarators s (n + count_specifiers d.specifiers) d.declarators) (
      between s n (count_declaration d) (spell_declaration d rest) rest h (counts_declaration d rest),
      specifiers_stand s n d.specifiers (spell_declarators d.declarators rest) h,
      init_declarators_stand s (n + count_specifiers d.specifiers) d.declarators rest (omega (arith, h, counts_specifiers d.specifiers (spell_declarators d.declarators rest))),
    )

mutual
  pub statement_stands : (s : Source) (n : ℕ) (u : Statement Bare) (rest : List Symbol) → n + length (spell_statement u rest) ≡ length s.words → StatementStands s (locate_statement s n u) rest
  statement_stands s n (Empty p) rest h = between s n 1 (Fixed sign.Semicolon ∷ rest) rest h (omega arith)
  statement_stands s n (Evaluate p t) rest h =
      rw (same s n t) (between s n (count t + 1) (spell t (Fixed sign.Semicolon ∷ rest)) rest h (counts_statement (Evaluate tt t) rest), stands s n t (Fixed sign.Semicolon ∷ rest) h)
  statement_stands s n (Block p us) rest h =
      rw (same_statements s (n + 1) us) (
        between s n (1 + count_statements us + 1) (Fixed sign.OpenBrace ∷ spell_statements us (Fixed sign.CloseBrace ∷ rest)) rest h (counts_statement (Block tt us) rest),
        statements_stand s (n + 1) us (Fixed sign.CloseBrace ∷ rest) (omega (arith, h)),
      )
  statement_stands s n (If p t u) rest h =
      rw (same s (n + 2) t, same_statement s (n + 2 + count t + 1) u) (
        between s n (2 + count t + 1 + count_statement u) (spell_statement (If tt t u) rest) rest h (counts_statement (If tt t u) rest),
        stands s (n + 2) t (Fixed sign.Close ∷ spell_statement u rest) (omega (arith, h)),
        statement_stands s (n + 2 + count t + 1) u rest (omega (arith, h, counts t (Fixed sign.Close ∷ spell_statement u rest))),
      )
  statement_stands s n (IfElse p t u v) rest h =
      let e = counts t (Fixed sign.Close ∷ spell_statement u (Fixed sign.Else ∷ spell_statement v rest)) in
      rw (same s (n + 2) t, same_statement s (n + 2 + count t + 1) u, same_statement s (n + 2 + count t + 1 + count_statement u + 1) v) (
        between s n (2 + count t + 1 + count_statement u + 1 + count_statement v) (spell_statement (IfElse tt t u v) rest) rest h (counts_statement (IfElse tt t u v) rest),
        stands s (n + 2) t (Fixed sign.Close ∷ spell_statement u (Fixed sign.Else ∷ spell_statement v rest)) (omega (arith, h)),
        statement_stands s (n + 2 + count t + 1) u (Fixed sign.Else ∷ spell_statement v rest) (omega (arith, h, e)),
        statement_stands s (n + 2 + count t + 1 + count_statement u + 1) v rest (omega (arith, h, e, counts_statement u (Fixed sign.Else ∷ spell_statement v rest))),
      )
  statement_stands s n (Switch p k t u) rest h =
      rw (same s (n + 2) t, same_statement s (n + 2 + count t + 1) u) (
        between s n (2 + count t + 1 + count_statement u) (spell_statement (Switch tt tt t u) rest) rest h (counts_statement (Switch tt tt t u) rest),
        between s n 1 (spell_statement (Switch tt tt t u) rest) (Fixed sign.Open ∷ spell t (Fixed sign.Close ∷ spell_statement u rest)) h (omega arith),
        stands s (n + 2) t (Fixed sign.Close ∷ spell_statement u rest) (omega (arith, h)),
        statement_stands s (n + 2 + count t + 1) u rest (omega (arith, h, counts t (Fixed sign.Close ∷ spell_statement u rest))),
      )
  statement_stands s n (While p k t u) rest h =
      rw (same s (n + 2) t, same_statement s (n + 2 + count t + 1) u) (
        between s n (2 + count t + 1 + count_statement u) (spell_statement (While tt tt t u) rest) rest h (counts_statement (While tt tt t u) rest),
        between s n 1 (spell_statement (While tt tt t u) rest) (Fixed sign.Open ∷ spell t (Fixed sign.Close ∷ spell_statement u rest)) h (omega arith),
        stands s (n + 2) t (Fixed sign.Close ∷ spell_statement u rest) (omega (arith, h)),
        statement_stands s (n + 2 + count t + 1) u rest (omega (arith, h, counts t (Fixed sign.Close ∷ spell_statement u rest))),
      )
  statement_stands s n (Do p k u t) rest h =
      rw (same_statement s (n + 1) u, same s (n + 1 + count_statement u + 2) t) (
        between s n (1 + count_statement u + 2 + count t + 2) (spell_statement (Do tt tt u t) rest) rest h (counts_statement (Do tt tt u t) rest),
        between s n 1 (spell_statement (Do tt tt u t) rest) (spell_statement u (Fixed sign.While ∷ (Fixed sign.Open ∷ spell t (Fixed sign.Close ∷ (Fixed sign.Semicolon ∷ rest))))) h (omega arith),
        statement_stands s (n + 1) u (Fixed sign.While ∷ (Fixed sign.Open ∷ spell t (Fixed sign.Close ∷ (Fixed sign.Semicolon ∷ rest)))) (omega (arith, h)),
        stands s (n + 1 + count_statement u + 2) t (Fixed sign.Close ∷ (Fixed sign.Semicolon ∷ rest))
            (omega (arith, h, counts_statement u (Fixed sign.While ∷ (Fixed sign.Open ∷ spell t (Fixed sign.Close ∷ (Fixed sign.Semicolon ∷ rest)))))),
      )
  statement_stands s n (For p k start test step u) rest h =
      let last = Fixed sign.Close ∷ spell_statement u rest in
      let after = Fixed sign.Semicolon ∷ spell_optional step (Fixed sign.Close ∷ spell_statement u rest) in
      let e = counts_statement start (spell_optional test (Fixed sign.Semicolon ∷ spell_optional step (Fixed sign.Close ∷ spell_statement u rest))) in
      let f = counts_optional test (Fixed sign.Semicolon ∷ spell_optional step (Fixed sign.Close ∷ spell_statement u rest)) in
      let g = counts_optional step (Fixed sign.Close ∷ spell_statement u rest) in
      rw (
        same_statement s (n + 2) start,
        same_optional s (n + 2 + count_statement start) test,
        same_optional s (n + 2 + count_statement start + count_optional test + 1) step,
        same_statement s (n + 2 + count_statement start + count_optional test + 1 + count_optional step + 1) u,
      ) (
        between s n (2 + count_statement start + count_optional test + 1 + count_optional step + 1 + count_statement u) (spell_statement (For tt tt start test step u) rest) rest h (counts_statement (For tt tt start test step u) rest),
        between s n 1 (spell_statement (For tt tt start test step u) rest) (Fixed sign.Open ∷ spell_statement start (spell_optional test after)) h (omega arith),
        statement_stands s (n + 2) start (spell_optional test after) (omega (arith, h)),
        optional_stands s (n + 2 + count_statement start) test after (omega (arith, h, e)),
        optional_stands s (n + 2 + count_statement start + count_optional test + 1) step last (omega (arith, h, e, f)),
        statement_stands s (n + 2 + count_statement start + count_optional test + 1 + count_optional step + 1) u rest (omega (arith, h, e, f, g)),
      )
  statement_stands s n (Case p t u) rest h =
      rw (same s (n + 1) t, same_statement s (n + 1 + count t + 1) u) (
        between s n (1 + count t + 1 + count_statement u) (spell_statement (Case tt t u) rest) rest h (counts_statement (Case tt t u) rest),
        stands s (n + 1) t (Fixed sign.Colon ∷ spell_statement u rest) (omega (arith, h)),
        statement_stands s (n + 1 + count t + 1) u rest (omega (arith, h, counts t (Fixed sign.Colon ∷ spell_statement u rest))),
      )
  statement_stands s n (Default p u) rest h =
      rw (same_statement s (n + 2) u)
      (between s n (2 + count_statement u) (spell_statement (Default tt u) rest) rest h (counts_statement (Default tt u) rest), statement_stands s (n + 2) u rest (omega (arith, h)))
  statement_stands s n (Label p x u) rest h =
      rw (same_statement s (n + 2) u) (
        between s n (2 + count_statement u) (spell_statement (Label tt x u) rest) rest h (counts_statement (Label tt x u) rest),
        name_stands s n x (Fixed sign.Colon ∷ spell_statement u rest) (omega (arith, h)),
        statement_stands s (n + 2) u rest (omega (arith, h)),
      )
  statement_stands s n (Goto p x) rest h =
      (between s n 3 (spell_statement (Goto tt x) rest) rest h (omega arith), name_stands s (n + 1) x (Fixed sign.Semicolon ∷ rest) (omega (arith, h)))
  statement_stands s n (Break p) rest h = between s n 2 (spell_statement (Break tt) rest) rest h (omega arith)
  statement_stands s n (Continue p) rest h = between s n 2 (spell_statement (Continue tt) rest) rest h (omega arith)
  statement_stands s n (Return p k t) rest h =
      rw (same_optional s (n + 1) t) (
        between s n (1 + count_optional t + 1) (spell_statement (Return tt tt t) rest) rest h (counts_statement (Return tt tt t) rest),
        between s n 1 (spell_statement (Return tt tt t) rest) (spell_optional t (Fixed sign.Semicolon ∷ rest)) h (omega arith),
        optional_stands s (n + 1) t (Fixed sign.Semicolon ∷ rest) (omega (arith, h)),
      )
  statement_stands s n (Declare d) rest h = declaration_stands s n d rest h
  statement_stands s n (Pragma p x) rest h = between s n 1 (symbol.Pragma x ∷ rest) rest h (omega arith)

  statements_stand : (s : Source) (n : ℕ) (us : Statements Bare) (rest : List Symbol) → n + length (spell_statements us rest) ≡ length s.words → StatementsStand s (locate_statements s n us) rest
  statements_stand s n NoStatements rest h = tt
  statements_stand s n (MoreStatements u us) rest h =
      rw (same_statements s (n + count_statement u) us) (
        statement_stands s n u (spell_statements us rest) h,
        statements_stand s (n + count_statement u) us rest (omega (arith, h, counts_statement u (spell_statements us rest))),
      )

definition_stands : (s : Source) (n : ℕ) (d : Definition Bare) (rest : List Symbol) → n + length (spell_definition d rest) ≡ length s.words → DefinitionStands s (locate_definition s n d) rest
definition_stands s n d rest h =
    let root : Source = record { words = s.words; before = 0 } in
    let body = spell_statements d.body (Fixed sign.CloseBrace ∷ rest) in
    let e = counts_definition d rest in
    let f = counts_specifiers d.specifiers (spell_declarator d.declarator (Fixed sign.OpenBrace ∷ spell_statements d.body (Fixed sign.CloseBrace ∷ rest))) in
    let g = counts_declarator d.declarator (Fixed sign.OpenBrace ∷ spell_statements d.body (Fixed sign.CloseBrace ∷ rest)) in
    let b = counts_statements d.body (Fixed sign.CloseBrace ∷ rest) in
    let first : length (spell_definition d rest) ≡ 1 + length (drop 1 (spell_definition d rest)) = omega (arith, e, length-drop 1 (spell_definition d rest)) in
    let brace : n + count_head d + length (Fixed sign.OpenBrace ∷ body) ≡ length s.words = omega (arith, h, f, g) in
    rw (same_specifiers s n d.specifiers, same_declarator s (n + count_specifiers d.specifiers) d.declarator, same_statements s (n + count_head d + 1) d.body) (
      between s n (count_definition d) (spell_definition d rest) rest h e,
      (
        between root n (count_definition d) (spell_definition d rest) rest h e,
        between root n 1 (spell_definition d rest) (drop 1 (spell_definition d rest)) h first,
        between root (n + count_head d) 1 (Fixed sign.OpenBrace ∷ body) body brace (omega arith),
        between root (n + count_head d + 1 + count_statements d.body) 1 (Fixed sign.CloseBrace ∷ rest) rest (omega (arith, brace, b)) (omega arith),
      ),
      specifiers_stand s n d.specifiers (spell_declarator d.declarator (Fixed sign.OpenBrace ∷ body)) h,
      declarator_stands s (n + count_specifiers d.specifiers) d.declarator (Fixed sign.OpenBrace ∷ body) (omega (arith, h, f)),
      between s (n + count_head d) (1 + count_statements d.body + 1) (Fixed sign.OpenBrace ∷ body) rest brace (omega (arith, b)),
      statements_stand s (n + count_head d + 1) d.body (Fixed sign.CloseBrace ∷ rest) (omega (arith, brace)),
    )

external_stands : (s : Source) (n : ℕ) (e : External Bare) (rest : List Symbol) → n + length (spell_external e rest) ≡ length s.words → ExternalStands s (locate_external s n e) rest
external_stands s n (Outer p d) rest h =
    (rw (same_specifiers s n d.specifiers, same_init_declarators s (n + count_specifiers d.specifiers) d.declarators) (between (record { words = s.words; before = 0 }) n (count_declaration d) (spell_declaration d rest) rest h (counts_declaration d rest)), declaration_stands s n d rest h)
external_stands s n (Defines d) rest h = definition_stands s n d rest h

pub externals_stand : (s : Source) (n : ℕ) (es : List (External Bare)) (rest : List Symbol) → n + length (spell_externals es rest) ≡ length s.words → ExternalsStand s (locate_externals s n es) rest
externals_stand s n [] rest h = tt
externals_stand s n (e ∷ es) rest h =
    rw (same_externals s (n + count_external e) es) (
      external_stands s n e (spell_externals es rest) h,
      externals_stand s (n + count_external e) es rest (omega (arith, h, counts_external e (spell_externals es rest))),
    )
