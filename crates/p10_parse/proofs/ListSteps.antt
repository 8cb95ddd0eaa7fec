-- Steps of the readers of lists, as loops take them.
use Rattle.std.proofs.Common.{◌≡◌, ℕ, ◌-◌, ◌<◌, ◌≤◌, zero, suc, List, [], ◌∷◌, ◌++◌, drop, map, Bool, true, false, ◌||◌, not, cond, refl, sym, ◌∙◌, ap, arith, Option, Some, None, option_map, option_and_then}
use Rattle.std.proofs.lemmas.List.{map-append}
use Rattle.p10_syn.specs.declared.sign.Sign.TheVariants as sign
use Rattle.p10_syn.specs.declared.statement.Init.{Init}
use Rattle.p10_syn.specs.declared.statement.InitDeclarator.{InitDeclarator}
use Rattle.p10_syn.specs.declared.statement.Stmt.{Stmt}
use Rattle.p10_syn.specs.Symbols.{Symbol}
use Rattle.p10_syn.specs.Scopes.{Scope}
use Rattle.p10_syn.specs.Declaring.{after_declarator, after_init_declarators, after_statement}
use Rattle.p10_syn.specs.Trees.{Bare, Specifiers, Initializer, Statement}
use Rattle.p10_syn.specs.Trees as tree
use Rattle.p10_syn.specs.BuiltStatements.{bare_initializer_of, bare_init_declarator_of, bare_statement_of}
use Rattle.p10_pexpr.specs.Heads.{Read, heads, expected, closed_by}
use Rattle.p10_pexpr.specs.Reading.{readers}
use Rattle.p10_pexpr.specs.Readers.{Readers}
use Rattle.p10_parse.specs.private.Cut.{no_initializer, initializers_end}
use Rattle.p10_parse.specs.DeclarationReading.{Builders, init_declarator_at, declarators_after, declarators_once, initializers_on, initializers_more, initializers_once}
use Rattle.p10_parse.specs.StatementReading.{item_at, items_once}
use Rattle.p10_parse.specs.ExternalReading.{builders}

pub added : {A B : Type 0} (f : A → B) (all pushed : List A) (e : A) → pushed ≡ all ++ e ∷ [] → map f all ++ f e ∷ [] ≡ map f pushed
added f all pushed e items = sym (map-append f all (e ∷ [])) ∙ ap (map f) (sym items)

-- ## Initialisers

-- a list, and what its end is
abbrev with_end : {A : Type 0} → List A → Bool × List Symbol → (List A × Bool) × List Symbol
with_end done e = ((done, e.0), e.1)

map_twice : {A B C : Type 0} (f : B → C) (g : A → B) (o : Option A) → option_map f (option_map g o) ≡ option_map (λ a. f (g a)) o
map_twice f g None = refl
map_twice f g (Some a) = refl

initializers_by : (e : Readers) (r : Builders) (names : Scope) (done : List (Initializer Bare)) (rest : List Symbol) (c d : Bool) → heads sign.Comma rest ≡ c → heads sign.CloseBrace (drop 1 rest) ≡ d →
    initializers_more e r names done rest ≡ cond (not c || d) (option_map (with_end done) (initializers_end rest)) (r.initializers names done (drop 1 rest))
initializers_by x r names done rest false d e f =
    ap (λ c. cond c (initializers_on x r names done (drop 1 rest)) (closed_by sign.CloseBrace (done, false) rest)) e
    ∙ sym (map_twice (with_end done) (λ more. (false, more)) (expected sign.CloseBrace rest))
    ∙ sym (ap (λ c. option_map (with_end done) (cond c (closed_by sign.CloseBrace true (drop 1 rest)) (closed_by sign.CloseBrace false rest))) e)
initializers_by x r names done rest true true e f =
    ap (λ c. cond c (initializers_on x r names done (drop 1 rest)) (closed_by sign.CloseBrace (done, false) rest)) e
    ∙ ap (λ c. cond c (Some ((done, true), drop 1 (drop 1 rest))) (r.initializers names done (drop 1 rest))) f
    ∙ sym (ap (λ c. option_map (with_end done) (option_map (λ more. (true, more)) (cond c (Some (drop 1 (drop 1 rest))) None))) f)
    ∙ sym (ap (λ c. option_map (with_end done) (cond c (closed_by sign.CloseBrace true (drop 1 rest)) (closed_by sign.CloseBrace false rest))) e)
initializers_by x r names done rest true false e f =
    ap (λ c. cond c (initializers_on x r names done (drop 1 rest)) (closed_by sign.CloseBrace (done, false) rest)) e
    ∙ ap (λ c. cond c (Some ((done, true), drop 1 (drop 1 rest))) (r.initializers names done (drop 1 rest))) f

initializers_step : (n : ℕ) (names : Scope) (done : List (Initializer Bare)) (symbols : List Symbol) → 0 < n → (builders n).initializers names done symbols ≡ initializers_once (readers (n - 1)) (builders (n - 1)) names done symbols
unfolding builders
initializers_step zero names done symbols some = absurd (omega (arith, some))
initializers_step (suc n) names done symbols some = let less : n ≡ suc n - 1 = omega arith in ap (λ k. initializers_once (readers k) (builders k) names done symbols) less

pub initializers_over : (n : ℕ) (names : Scope) (done : List (Initializer Bare)) (symbols : List Symbol) (x : Read (List (Initializer Bare) × Bool)) → n ≤ 0 → (builders n).initializers names done symbols ≡ x → x ≡ None
unfolding builders
initializers_over zero names done symbols x none same = sym same
initializers_over (suc n) names done symbols x none same = absurd (omega (arith, none))

abbrev initializer_go : ℕ → Scope → List (Initializer Bare) → Initializer Bare × List Symbol → Read (List (Initializer Bare) × Bool)
initializer_go k names done i = initializers_more (readers k) (builders k) names (done ++ i.0 ∷ []) i.1

pub initializers_fail : (n : ℕ) (names : Scope) (done : List (Initializer Bare)) (symbols : List Symbol) → 0 < n → (builders (n - 1)).initializer names symbols ≡ None → (builders n).initializers names done symbols ≡ None
initializers_fail n names done symbols some e = initializers_step n names done symbols some ∙ ap (option_and_then (initializer_go (n - 1) names done)) e

initializers_read : (n : ℕ) (names : Scope) (all pushed : List Init) (i : Init) (symbols rest : List Symbol) (b : Bool) → 0 < n → (builders (n - 1)).initializer names symbols ≡ Some (bare_initializer_of i, rest) → pushed ≡ all ++ i ∷ [] → no_initializer rest ≡ b →
    (builders n).initializers names (map bare_initializer_of all) symbols ≡ cond b (option_map (with_end (map bare_initializer_of pushed)) (initializers_end rest)) ((builders (n - 1)).initializers names (map bare_initializer_of pushed) (drop 1 rest))
initializers_read n names all pushed i symbols rest b some e items h =
    initializers_step n names (map bare_initializer_of all) symbols some ∙ ap (option_and_then (initializer_go (n - 1) names (map bare_initializer_of all))) e
    ∙ ap (λ xs. initializers_more (readers (n - 1)) (builders (n - 1)) names xs rest) (added bare_initializer_of all pushed i items)
    ∙ initializers_by (readers (n - 1)) (builders (n - 1)) names (map bare_initializer_of pushed) rest (heads sign.Comma rest) (heads sign.CloseBrace (drop 1 rest)) refl refl
    ∙ ap (λ c. cond c (option_map (with_end (map bare_initializer_of pushed)) (initializers_end rest)) ((builders (n - 1)).initializers names (map bare_initializer_of pushed) (drop 1 rest))) h

pub initializers_done : (n : ℕ) (names : Scope) (all pushed : List Init) (i : Init) (symbols rest more : List Symbol) (comma : Bool) (y : Read (List (Initializer Bare) × Bool)) → 0 < n → (builders (n - 1)).initializer names symbols ≡ Some (bare_initializer_of i, rest) → pushed ≡ all ++ i ∷ [] → no_initializer rest ≡ true →
    initializers_end rest ≡ Some (comma, more) → (builders n).initializers names (map bare_initializer_of all) symbols ≡ y → y ≡ Some ((map bare_initializer_of pushed, comma), more)
initializers_done n names all pushed i symbols rest more comma y some e items h ends same =
    sym same ∙ initializers_read n names all pushed i symbols rest true some e items h ∙ ap (option_map (with_end (map bare_initializer_of pushed))) ends

pub initializers_unclosed : (n : ℕ) (names : Scope) (done : List (Initializer Bare)) (symbols rest : List Symbol) (x : Initializer Bare) → 0 < n → (builders (n - 1)).initializer names symbols ≡ Some (x, rest) → no_initializer rest ≡ true → initializers_end rest ≡ None → (builders n).initializers names done symbols ≡ None
initializers_unclosed n names done symbols rest x some e h ends =
    initializers_step n names done symbols some
    ∙ ap (option_and_then (initializer_go (n - 1) names done)) e
    ∙ initializers_by (readers (n - 1)) (builders (n - 1)) names (done ++ x ∷ []) rest (heads sign.Comma rest) (heads sign.CloseBrace (drop 1 rest)) refl refl
    ∙ ap (λ c. cond c (option_map (with_end (done ++ x ∷ [])) (initializers_end rest)) ((builders (n - 1)).initializers names (done ++ x ∷ []) (drop 1 rest))) h
    ∙ ap (option_map (with_end (done ++ x ∷ []))) ends

pub initializers_goes : (n : ℕ) (names now : Scope) (all pushed : List Init) (i : Init) (symbols rest more : List Symbol) (y : Read (List (Initializer Bare) × Bool)) → 0 < n → (builders (n - 1)).initializer names symbols ≡ Some (bare_initializer_of i, rest) → pushed ≡ all ++ i ∷ [] → no_initializer rest ≡ false →
    more ≡ drop 1 rest → now ≡ names → (builders n).initializers names (map bare_initializer_of all) symbols ≡ y → (builders (n - 1)).initializers now (map bare_initializer_of pushed) more ≡ y
initializers_goes n names now all pushed i symbols rest more y some e items h after scoped same =
    ap (λ a. (builders (n - 1)).initializers a (map bare_initializer_of pushed) more) scoped ∙ ap ((builders (n - 1)).initializers names (map bare_initializer_of pushed)) after
    ∙ sym (initializers_read n names all pushed i symbols rest false some e items h) ∙ same

-- ## Further declarators

declarators_step : (n : ℕ) (names : Scope) (ss : Specifiers Bare) (done : List (tree.InitDeclarator Bare)) (symbols : List Symbol) (b : Bool) → 0 < n → heads sign.Comma symbols ≡ b →
    (builders n).declarators names ss done symbols
    ≡ cond b (option_and_then (λ d. declarators_after (readers (n - 1)) (builders (n - 1)) names ss done d.0 d.1) (init_declarator_at (readers (n - 1)) (builders (n - 1)) names ss (drop 1 symbols))) (closed_by sign.Semicolon done symbols)
unfolding builders
declarators_step zero names ss done symbols b some e = absurd (omega (arith, some))
declarators_step (suc n) names ss done symbols b some e =
    let less : n ≡ suc n - 1 = omega arith in
    let k = suc n - 1 in
    ap (λ k. declarators_once (readers k) (builders k) names ss done symbols) less
    ∙ ap (λ c. cond c (option_and_then (λ d. declarators_after (readers k) (builders k) names ss done d.0 d.1) (init_declarator_at (readers k) (builders k) names ss (drop 1 symbols))) (closed_by sign.Semicolon done symbols)) e

pub declarators_over : (n : ℕ) (names : Scope) (ss : Specifiers Bare) (done : List (tree.InitDeclarator Bare)) (symbols : List Symbol) (x : Read (List (tree.InitDeclarator Bare))) → n ≤ 0 → (builders n).declarators names ss done symbols ≡ x → x ≡ None
unfolding builders
declarators_over zero names ss done symbols x none same = sym same
declarators_over (suc n) names ss done symbols x none same = absurd (omega (arith, none))

pub declarators_done : (n : ℕ) (names : Scope) (ss : Specifiers Bare) (done : List (tree.InitDeclarator Bare)) (symbols more : List Symbol) → 0 < n → heads sign.Comma symbols ≡ false → expected sign.Semicolon symbols ≡ Some more →
    (builders n).declarators names ss done symbols ≡ Some (done, more)
declarators_done n names ss done symbols more some e closes = declarators_step n names ss done symbols false some e ∙ ap (option_map (λ y. (done, y))) closes

pub declarators_open : (n : ℕ) (names : Scope) (ss : Specifiers Bare) (done : List (tree.InitDeclarator Bare)) (symbols : List Symbol) → 0 < n → heads sign.Comma symbols ≡ false → expected sign.Semicolon symbols ≡ None →
    (builders n).declarators names ss done symbols ≡ None
declarators_open n names ss done symbols some e closes = declarators_step n names ss done symbols false some e ∙ ap (option_map (λ y. (done, y))) closes

pub declarators_fail : (n : ℕ) (names : Scope) (ss : Specifiers Bare) (done : List (tree.InitDeclarator Bare)) (symbols more : List Symbol) → 0 < n → heads sign.Comma symbols ≡ true → more ≡ drop 1 symbols →
    init_declarator_at (readers (n - 1)) (builders (n - 1)) names ss more ≡ None → (builders n).declarators names ss done symbols ≡ None
declarators_fail n names ss done symbols more some e after none =
    declarators_step n names ss done symbols true some e
    ∙ ap (option_and_then (λ d. declarators_after (readers (n - 1)) (builders (n - 1)) names ss done d.0 d.1)) (ap (init_declarator_at (readers (n - 1)) (builders (n - 1)) names ss) (sym after) ∙ none)

pub declarators_goes : (n : ℕ) (names now : Scope) (ss : Specifiers Bare) (all pushed : List InitDeclarator) (d : InitDeclarator) (symbols more rest : List Symbol) (x : Read (List (tree.InitDeclarator Bare))) → 0 < n → heads sign.Comma symbols ≡ true → more ≡ drop 1 symbols →
    init_declarator_at (readers (n - 1)) (builders (n - 1)) names ss more ≡ Some (bare_init_declarator_of d, rest) → pushed ≡ all ++ d ∷ [] → now ≡ after_declarator names ss (bare_init_declarator_of d).declarator →
    (builders n).declarators names ss (map bare_init_declarator_of all) symbols ≡ x → (builders (n - 1)).declarators now ss (map bare_init_declarator_of pushed) rest ≡ x
declarators_goes n names now ss all pushed d symbols more rest x some e after is items scoped same =
    ap (λ ds. (builders (n - 1)).declarators now ss ds rest) (sym (added bare_init_declarator_of all pushed d items))
    ∙ ap (λ a. (builders (n - 1)).declarators a ss (map bare_init_declarator_of all ++ bare_init_declarator_of d ∷ []) rest) scoped
    ∙ sym (declarators_step n names ss (map bare_init_declarator_of all) symbols true some e
    ∙ ap (option_and_then (λ d. declarators_after (readers (n - 1)) (builders (n - 1)) names ss (map bare_init_declarator_of all) d.0 d.1)) (ap (init_declarator_at (readers (n - 1)) (builders (n - 1)) names ss) (sym after) ∙ is))
    ∙ same

after_more_declarators : (ds : List (tree.InitDeclarator Bare)) (names : Scope) (ss : Specifiers Bare) (d : tree.InitDeclarator Bare) → after_init_declarators names ss (ds ++ d ∷ []) ≡ after_declarator (after_init_declarators names ss ds) ss d.declarator
after_more_declarators [] names ss d = refl
after_more_declarators (x ∷ ds) names ss d = after_more_declarators ds (after_declarator names ss x.declarator) ss d

pub declarators_scoped : (names old now : Scope) (ss : Specifiers Bare) (all pushed : List InitDeclarator) (d : InitDeclarator) → old ≡ after_init_declarators names ss (map bare_init_declarator_of all) → now ≡ after_declarator old ss (bare_init_declarator_of d).declarator → pushed ≡ all ++ d ∷ [] →
    now ≡ after_init_declarators names ss (map bare_init_declarator_of pushed)
declarators_scoped names old now ss all pushed d e f items =
    f ∙ ap (λ a. after_declarator a ss (bare_init_declarator_of d).declarator) e ∙ sym (after_more_declarators (map bare_init_declarator_of all) names ss (bare_init_declarator_of d))
    ∙ ap (after_init_declarators names ss) (added bare_init_declarator_of all pushed d items)

-- ## Items of a block

items_step : (n : ℕ) (names : Scope) (done : List (Statement Bare)) (symbols : List Symbol) (b : Bool) → 0 < n → heads sign.CloseBrace symbols ≡ b →
    (builders n).items names done symbols
    ≡ cond b (Some (done, drop 1 symbols)) (option_and_then (λ s. (builders (n - 1)).items (after_statement names s.0) (done ++ s.0 ∷ []) s.1) (item_at (readers (n - 1)) (builders (n - 1)) names symbols))
unfolding builders
items_step zero names done symbols b some e = absurd (omega (arith, some))
items_step (suc n) names done symbols b some e =
    let less : n ≡ suc n - 1 = omega arith in
    let k = suc n - 1 in
    ap (λ k. items_once (readers k) (builders k) names done symbols) less
    ∙ ap (λ c. cond c (Some (done, drop 1 symbols)) (option_and_then (λ s. (builders k).items (after_statement names s.0) (done ++ s.0 ∷ []) s.1) (item_at (readers k) (builders k) names symbols))) e

pub items_over : (n : ℕ) (names : Scope) (done : List (Statement Bare)) (symbols : List Symbol) (x : Read (List (Statement Bare))) → n ≤ 0 → (builders n).items names done symbols ≡ x → x ≡ None
unfolding builders
items_over zero names done symbols x none same = sym same
items_over (suc n) names done symbols x none same = absurd (omega (arith, none))

pub items_stop : (n : ℕ) (names : Scope) (done : List (Statement Bare)) (symbols more : List Symbol) → 0 < n → heads sign.CloseBrace symbols ≡ true → more ≡ drop 1 symbols → (builders n).items names done symbols ≡ Some (done, more)
items_stop n names done symbols more some e after = items_step n names done symbols true some e ∙ ap (λ y. Some (done, y)) (sym after)

pub items_fail : (n : ℕ) (names : Scope) (done : List (Statement Bare)) (symbols : List Symbol) → 0 < n → heads sign.CloseBrace symbols ≡ false → item_at (readers (n - 1)) (builders (n - 1)) names symbols ≡ None → (builders n).items names done symbols ≡ None
items_fail n names done symbols some e none =
    items_step n names done symbols false some e ∙ ap (option_and_then (λ s. (builders (n - 1)).items (after_statement names s.0) (done ++ s.0 ∷ []) s.1)) none

pub items_goes : (n : ℕ) (names now : Scope) (all pushed : List Stmt) (s : Stmt) (symbols rest : List Symbol) (x : Read (List (Statement Bare))) → 0 < n → heads sign.CloseBrace symbols ≡ false → item_at (readers (n - 1)) (builders (n - 1)) names symbols ≡ Some (bare_statement_of s, rest) → pushed ≡ all ++ s ∷ [] →
    now ≡ after_statement names (bare_statement_of s) → (builders n).items names (map bare_statement_of all) symbols ≡ x → (builders (n - 1)).items now (map bare_statement_of pushed) rest ≡ x
items_goes n names now all pushed s symbols rest x some e is items scoped same =
    ap (λ ss. (builders (n - 1)).items now ss rest) (sym (added bare_statement_of all pushed s items))
    ∙ ap (λ a. (builders (n - 1)).items a (map bare_statement_of all ++ bare_statement_of s ∷ []) rest) scoped
    ∙ sym (items_step n names (map bare_statement_of all) symbols false some e
    ∙ ap (option_and_then (λ s. (builders (n - 1)).items (after_statement names s.0) (map bare_statement_of all ++ s.0 ∷ []) s.1)) is)
    ∙ same
