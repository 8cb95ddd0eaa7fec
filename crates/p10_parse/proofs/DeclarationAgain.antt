-- Initialisers and declarations that are spelled are read.
use Rattle.std.proofs.Common.{◌≡◌, ℕ, ◌+◌, ◌-◌, ◌*◌, ◌<◌, ◌≤◌, zero, suc, List, [], ◌∷◌, ◌++◌, drop, Bool, true, false, cond, refl, sym, ◌∙◌, ap, arith, Option, Some, None, option_map, option_and_then}
use Rattle.std.proofs.lemmas.Bool.{false≢true}
use Rattle.std.proofs.lemmas.List.{append_assoc, append-nil}
use Rattle.p10_syn.specs.declared.sign.Sign.TheVariants as sign
use Rattle.p10_syn.specs.declared.setting.Naming.TheVariants.{Required}
use Rattle.p10_syn.specs.declared.setting.Setting.TheVariants.{Outside}
use Rattle.p10_syn.specs.declared.setting.Said.{Said}
use Rattle.p10_syn.specs.declared.setting.Said.TheVariants.{Nothing}
use Rattle.p10_syn.specs.Symbols.{Symbol, Fixed}
use Rattle.p10_syn.specs.Scopes.{Scope}
use Rattle.p10_syn.specs.Precedence.{level_of}
use Rattle.p10_syn.specs.Declaring.{after_specifiers, after_declarator}
use Rattle.p10_syn.specs.Spelling.{spell, spell_declarator, spell_initializer, spell_more_initializers, spell_last_comma, spell_initial, spell_init_declarator, spell_more_declarators, spell_declarators, spell_declaration}
use Rattle.p10_syn.specs.Forms.{said_by, IsExpression, IsDeclarator}
use Rattle.p10_syn.specs.StatementForms.{IsInitializer, AreInitializers, IsInitial, IsInitDeclarator, AreInitDeclarators, IsFirstApart, IsDeclaration}
use Rattle.p10_syn.specs.Trees.{Bare, Specifiers, Declarator, Named, Unnamed, Pointer, Parenthesised, Array, Function, Expression, Initializer, Value, Braced, Initializers, NoInitializers, MoreInitializers, InitDeclarator, Declaration, initializer_row}
use Rattle.p10_pexpr.specs.Heads.{Read, heads}
use Rattle.p10_pexpr.specs.Tables.{next_at, pull, specifying_at, is_other}
use Rattle.p10_pexpr.specs.Reading.{readers}
use Rattle.p10_pexpr.proofs.Marks.{begins_no, ends_declarator, end_is}
use Rattle.p10_pexpr.proofs.FirstWords.{first_is, declarator_other, declarator_no_brace, apart_leads}
use Rattle.p10_pexpr.proofs.DeclaratorAgain.{specifiers_at_again}
use Rattle.p10_pexpr.proofs.Again.{again, declarator_again, specifiers_again}
use Rattle.p10_parse.specs.DeclarationReading.{with_initial, declaring, value_of, braced_at, initializers_more, initial_at, init_declarator_at, declarators_after, declarators_once, declarators_at, declaration_at, initializer_once, initializers_once}
use Rattle.p10_parse.specs.ExternalReading.{builders}
use Rattle.p10_parse.proofs.Rows.{initializer_list, initializer_again}
use Rattle.p10_parse.proofs.Sizes.{initializer_size, initializers_size, initial_size, init_declarator_size, declarators_size, declaration_size}

-- ## Steps

initializer_suc : (n : ℕ) (names : Scope) (symbols : List Symbol) → (builders (suc n)).initializer names symbols ≡ initializer_once (readers n) (builders n) names symbols
unfolding builders
initializer_suc n names symbols = refl

initializers_suc : (n : ℕ) (names : Scope) (done : List (Initializer Bare)) (symbols : List Symbol) → (builders (suc n)).initializers names done symbols ≡ initializers_once (readers n) (builders n) names done symbols
unfolding builders
initializers_suc n names done symbols = refl

declarators_suc : (n : ℕ) (names : Scope) (ss : Specifiers Bare) (done : List (InitDeclarator Bare)) (symbols : List Symbol) →
    (builders (suc n)).declarators names ss done symbols ≡ declarators_once (readers n) (builders n) names ss done symbols
unfolding builders
declarators_suc n names ss done symbols = refl

-- ## Initialisers

abbrev InitializerRead : Scope → Initializer Bare → Type 0
InitializerRead names i = (n : ℕ) (rest : List Symbol) → 2 * initializer_size i < n → pull (next_at rest) < 2 → (builders n).initializer names (spell_initializer i rest) ≡ Some (i, rest)

abbrev InitializersRead : Scope → Initializer Bare → Initializers Bare → Type 0
InitializersRead names i is = (m : ℕ) (done : List (Initializer Bare)) (comma : Bool) (rest : List Symbol) → 2 * (1 + (initializer_size i + initializers_size is)) ≤ m →
    (builders m).initializers names done (spell_initializer i (spell_more_initializers is (spell_last_comma comma (Fixed sign.CloseBrace ∷ rest)))) ≡ Some ((done ++ i ∷ initializer_list is, comma), rest)

abbrev AllRead : Scope → Initializers Bare → Type 0
AllRead names NoInitializers = Unit {0}
AllRead names (MoreInitializers i is) = InitializersRead names i is

value_read : (names : Scope) (t : Expression Bare) → IsExpression names t → 2 ≤ level_of t → InitializerRead names (Value t)
value_read names t is high zero rest enough low = absurd (omega (arith, enough))
value_read names t is high (suc n) rest enough low =
    let symbols = spell t rest in
    initializer_suc n names symbols
    ∙ ap (λ b. cond b (braced_at (readers n) (builders n) names (drop 1 symbols)) (value_of (readers n) (builders n) names symbols)) (begins_no sign.OpenBrace names symbols (first_is names t rest is) refl)
    ∙ ap (option_map (λ x. (Value x.0, x.1))) (again t names is n 2 rest (omega (arith, enough)) high low)

braced_read : (names : Scope) (p : Bare) (i : Initializer Bare) (is : Initializers Bare) (comma : Bool) → InitializersRead names i is → InitializerRead names (Braced p (MoreInitializers i is) comma)
braced_read names p i is comma read zero rest enough low = absurd (omega (arith, enough))
braced_read names p i is comma read (suc n) rest enough low =
    initializer_suc n names (Fixed sign.OpenBrace ∷ spell_initializer i (spell_more_initializers is (spell_last_comma comma (Fixed sign.CloseBrace ∷ rest))))
    ∙ ap (option_map (λ x. (Braced tt (initializer_row x.0.0) x.0.1, x.1))) (read n [] comma rest (omega (arith, enough)))
    ∙ ap (λ (xs : Initializers Bare). Some (Braced tt xs comma, rest)) (initializer_again (MoreInitializers i is))

initializers_low : (is : Initializers Bare) (comma : Bool) (rest : List Symbol) → pull (next_at (spell_more_initializers is (spell_last_comma comma (Fixed sign.CloseBrace ∷ rest)))) < 2
initializers_low NoInitializers true rest = omega arith
initializers_low NoInitializers false rest = omega arith
initializers_low (MoreInitializers i is) comma rest = omega arith

initializers_first : (names : Scope) (i : Initializer Bare) (is : Initializers Bare) (m : ℕ) (done : List (Initializer Bare)) (comma : Bool) (rest : List Symbol) → InitializerRead names i → 2 * (1 + initializer_size i) ≤ m →
    let more = spell_more_initializers is (spell_last_comma comma (Fixed sign.CloseBrace ∷ rest)) in
    (builders m).initializers names done (spell_initializer i more) ≡ initializers_more (readers (m - 1)) (builders (m - 1)) names (done ++ i ∷ []) more
initializers_first names i is zero done comma rest read enough = absurd (omega (arith, enough))
initializers_first names i is (suc n) done comma rest read enough =
    let less : n ≡ suc n - 1 = omega arith in
    let more = spell_more_initializers is (spell_last_comma comma (Fixed sign.CloseBrace ∷ rest)) in
    initializers_suc n names done (spell_initializer i more)
    ∙ ap (option_and_then (λ y. initializers_more (readers n) (builders n) names (done ++ y.0 ∷ []) y.1)) (read n more (omega (arith, enough)) (initializers_low is comma rest))
    ∙ ap (λ k. initializers_more (readers k) (builders k) names (done ++ i ∷ []) more) less

initializers_close : (n : ℕ) (names : Scope) (done : List (Initializer Bare)) (comma : Bool) (rest : List Symbol) →
    initializers_more (readers n) (builders n) names done (spell_last_comma comma (Fixed sign.CloseBrace ∷ rest)) ≡ Some ((done, comma), rest)
initializers_close n names done true rest = refl
initializers_close n names done false rest = refl

initializers_last : (names : Scope) (i : Initializer Bare) → InitializerRead names i → InitializersRead names i NoInitializers
initializers_last names i read m done comma rest enough =
    initializers_first names i NoInitializers m done comma rest read (omega (arith, enough)) ∙ initializers_close (m - 1) names (done ++ i ∷ []) comma rest

initializer_no_brace : (i : Initializer Bare) (names : Scope) (rest : List Symbol) → IsInitializer names i → heads sign.CloseBrace (spell_initializer i rest) ≡ false
initializer_no_brace (Value t) names rest h = begins_no sign.CloseBrace names (spell t rest) (first_is names t rest h.0) refl
initializer_no_brace (Braced p is comma) names rest h = refl

initializers_next : (names : Scope) (i j : Initializer Bare) (js : Initializers Bare) → InitializerRead names i → IsInitializer names j → InitializersRead names j js → InitializersRead names i (MoreInitializers j js)
initializers_next names i j js read is all m done comma rest enough =
    let inner = spell_initializer j (spell_more_initializers js (spell_last_comma comma (Fixed sign.CloseBrace ∷ rest))) in
    initializers_first names i (MoreInitializers j js) m done comma rest read (omega (arith, enough))
    ∙ ap (λ b. cond b (Some ((done ++ i ∷ [], true), drop 1 inner)) ((builders (m - 1)).initializers names (done ++ i ∷ []) inner)) (initializer_no_brace j names _ is)
    ∙ all (m - 1) (done ++ i ∷ []) comma rest (omega (arith, enough))
    ∙ ap (λ (xs : List (Initializer Bare)). Some ((xs, comma), rest)) (append_assoc done (i ∷ []) (j ∷ initializer_list js))

mutual
  initializer_read : (i : Initializer Bare) (names : Scope) → IsInitializer names i → InitializerRead names i
  initializer_read (Value t) names h = value_read names t h.0 h.1
  initializer_read (Braced p NoInitializers comma) names h = absurd h.1
  initializer_read (Braced p (MoreInitializers i is) comma) names h = braced_read names p i is comma (initializers_read (MoreInitializers i is) names h.0)

  initializers_read : (is : Initializers Bare) (names : Scope) → AreInitializers names is → AllRead names is
  initializers_read NoInitializers names h = tt
  initializers_read (MoreInitializers i NoInitializers) names h = initializers_last names i (initializer_read i names h.0)
  initializers_read (MoreInitializers i (MoreInitializers j js)) names h = initializers_next names i j js (initializer_read i names h.0) h.1.0 (initializers_read (MoreInitializers j js) names h.1)

-- ## Declarators

-- what may stand after a declarator with its initialiser
pub record IsAfter (more : List Symbol) : Type 0 where
  pub ends : ends_declarator more ≡ true
  pub no_assign : heads sign.Assign more ≡ false
  pub low : pull (next_at more) < 2

pub more_after : (ds : List (InitDeclarator Bare)) (rest : List Symbol) → IsAfter (spell_more_declarators ds rest)
more_after [] rest = record { ends = refl; no_assign = refl; low = omega arith }
more_after (d ∷ ds) rest = record { ends = refl; no_assign = refl; low = omega arith }

pub initial_again : (i : Option (Initializer Bare)) (n : ℕ) (names : Scope) (d : Declarator Bare) (more : List Symbol) → IsInitial names i → 2 * initial_size i ≤ n → IsAfter more →
    initial_at (readers n) (builders n) names d (spell_initial i more) ≡ Some (with_initial d i, more)
initial_again None n names d more h enough after =
    ap (λ b. cond b (option_map (λ x. (with_initial d (Some x.0), x.1)) ((builders n).initializer names (drop 1 more))) (Some (with_initial d None, more))) after.no_assign
initial_again (Some i) n names d more h enough after =
    ap (option_map (λ x. (with_initial d (Some x.0), x.1))) (initializer_read i names h n more (omega (arith, enough)) after.low)

pub initial_ends : (i : Option (Initializer Bare)) (more : List Symbol) → ends_declarator more ≡ true → ends_declarator (spell_initial i more) ≡ true
initial_ends None more h = h
initial_ends (Some i) more h = refl

init_declarator_again : (d : InitDeclarator Bare) (n : ℕ) (names : Scope) (ss : Specifiers Bare) (more : List Symbol) → IsInitDeclarator names ss d → 2 * init_declarator_size d ≤ n → IsAfter more →
    init_declarator_at (readers n) (builders n) names ss (spell_init_declarator d more) ≡ Some (d, more)
init_declarator_again d n names ss more h enough after =
    ap (option_and_then (λ x. initial_at (readers n) (builders n) (after_declarator names ss x.0) x.0 x.1))
    (declarator_again d.declarator names Outside Required h.0 n (spell_initial d.initial more) (omega (arith, enough)) (initial_ends d.initial more after.ends))
    ∙ initial_again d.initial n (after_declarator names ss d.declarator) d.declarator more h.1 (omega (arith, enough)) after

pub declarators_again : (ds : List (InitDeclarator Bare)) (n : ℕ) (names : Scope) (ss : Specifiers Bare) (done : List (InitDeclarator Bare)) (rest : List Symbol) → AreInitDeclarators names ss ds → 2 * declarators_size ds < n →
    (builders n).declarators names ss done (spell_more_declarators ds rest) ≡ Some (done ++ ds, rest)
declarators_again [] zero names ss done rest h enough = absurd (omega (arith, enough))
declarators_again [] (suc n) names ss done rest h enough =
    declarators_suc n names ss done (Fixed sign.Semicolon ∷ rest) ∙ ap (λ (xs : List (InitDeclarator Bare)). Some (xs, rest)) (sym (append-nil done))
declarators_again (d ∷ ds) zero names ss done rest h enough = absurd (omega (arith, enough))
declarators_again (d ∷ ds) (suc n) names ss done rest h enough =
    let more = spell_more_declarators ds rest in
    declarators_suc n names ss done (Fixed sign.Comma ∷ spell_init_declarator d more)
    ∙ ap (option_and_then (λ x. declarators_after (readers n) (builders n) names ss done x.0 x.1)) (init_declarator_again d n names ss more h.0 (omega (arith, enough)) (more_after ds rest))
    ∙ declarators_again ds n (after_declarator names ss d.declarator) ss (done ++ d ∷ []) rest h.1 (omega (arith, enough))
    ∙ ap (λ (xs : List (InitDeclarator Bare)). Some (xs, rest)) (append_assoc done (d ∷ []) ds)

-- a declarator with a name doesn't begin with `;`
pub no_semicolon : (d : Declarator Bare) (names : Scope) (rest : List Symbol) → IsDeclarator names Outside Required d → heads sign.Semicolon (spell_declarator d rest) ≡ false
no_semicolon (Named x) names rest h = refl
no_semicolon (Unnamed p) names rest h = absurd (false≢true h)
no_semicolon (Pointer p qs d) names rest h = refl
no_semicolon (Parenthesised p d) names rest h = refl
no_semicolon (Array p d b length) names rest h = no_semicolon d names _ h.0
no_semicolon (Function p d b ps ellipsis) names rest h = no_semicolon d names _ h.0

-- nor with `{`
pub declarator_no_brace_named : (d : Declarator Bare) (names : Scope) (rest : List Symbol) → IsDeclarator names Outside Required d → heads sign.OpenBrace (spell_declarator d rest) ≡ false
declarator_no_brace_named (Named x) names rest h = refl
declarator_no_brace_named (Unnamed p) names rest h = absurd (false≢true h)
declarator_no_brace_named (Pointer p qs d) names rest h = refl
declarator_no_brace_named (Parenthesised p d) names rest h = refl
declarator_no_brace_named (Array p d b length) names rest h = declarator_no_brace_named d names _ h.0
declarator_no_brace_named (Function p d b ps ellipsis) names rest h = declarator_no_brace_named d names _ h.0

declarators_at_again : (ds : List (InitDeclarator Bare)) (n : ℕ) (names : Scope) (ss : Specifiers Bare) (rest : List Symbol) → AreInitDeclarators names ss ds → 2 * declarators_size ds ≤ n →
    declarators_at (readers n) (builders n) names ss (spell_declarators ds rest) ≡ Some (ds, rest)
declarators_at_again [] n names ss rest h enough = refl
declarators_at_again (d ∷ ds) n names ss rest h enough =
    let more = spell_more_declarators ds rest in
    let symbols = spell_init_declarator d more in
    let go : InitDeclarator Bare × List Symbol → Read (List (InitDeclarator Bare)) = λ x. declarators_after (readers n) (builders n) names ss [] x.0 x.1 in
    ap (λ b. cond {A = Read (List (InitDeclarator Bare))} b (Some ([], drop 1 symbols)) (option_and_then go (init_declarator_at (readers n) (builders n) names ss symbols))) (no_semicolon d.declarator names _ h.0.0)
    ∙ ap (option_and_then go) (init_declarator_again d n names ss more h.0 (omega (arith, enough)) (more_after ds rest))
    ∙ declarators_again ds n (after_declarator names ss d.declarator) ss (d ∷ []) rest h.1 (omega (arith, enough))

-- what stands after the specifiers of a declaration is no specifier, and no body
pub declarators_other : (ds : List (InitDeclarator Bare)) (names : Scope) (said : Said) (rest : List Symbol) → IsFirstApart names said ds → is_other (specifying_at names Outside said (spell_declarators ds rest)) ≡ true
declarators_other [] names said rest h = refl
declarators_other (d ∷ ds) names said rest h =
    let more = spell_initial d.initial (spell_more_declarators ds rest) in
    declarator_other names Outside said d.declarator more (apart_leads names said d.declarator h) ((end_is names more (initial_ends d.initial _ (more_after ds rest).ends)).no_specifier Outside said)

initial_no_brace : (i : Option (Initializer Bare)) (ds : List (InitDeclarator Bare)) (rest : List Symbol) → heads sign.OpenBrace (spell_initial i (spell_more_declarators ds rest)) ≡ false
initial_no_brace None [] rest = refl
initial_no_brace None (d ∷ ds) rest = refl
initial_no_brace (Some i) ds rest = refl

pub initial_apart : (d : InitDeclarator Bare) (ds : List (InitDeclarator Bare)) (rest : List Symbol) → heads sign.OpenBrace (spell_initial d.initial (spell_more_declarators ds rest)) ≡ false
initial_apart d ds rest = initial_no_brace d.initial ds rest

pub declarators_no_brace : (ds : List (InitDeclarator Bare)) (rest : List Symbol) → heads sign.OpenBrace (spell_declarators ds rest) ≡ false
declarators_no_brace [] rest = refl
declarators_no_brace (d ∷ ds) rest = declarator_no_brace d.declarator _ (initial_no_brace d.initial ds rest)

pub declaration_again : (d : Declaration Bare) (n : ℕ) (names : Scope) (rest : List Symbol) → IsDeclaration names d → 2 * declaration_size d ≤ n →
    declaration_at (readers n) (builders n) names (spell_declaration d rest) ≡ Some (d, rest)
declaration_again d n names rest h enough =
    let ss = d.specifiers in
    let within = after_specifiers names ss in
    ap (option_and_then (λ x. option_map (λ ds. (declaring x.0 ds.0, ds.1)) (declarators_at (readers n) (builders n) (after_specifiers names x.0) x.0 x.1)))
    (specifiers_at_again names Outside ss n (spell_declarators d.declarators rest) (specifiers_again ss names Outside Nothing h.0) h.1 (omega (arith, enough))
    (declarators_other d.declarators within (said_by Nothing ss) rest h.2) (declarators_no_brace d.declarators rest))
    ∙ ap (option_map (λ ds. (declaring ss ds.0, ds.1))) (declarators_at_again d.declarators n within ss rest h.3 (omega (arith, enough)))
