-- What is placed of a list of initialisers, declarators, statements or functions while its elements are gone through.
use Rattle.std.proofs.Common.{◌≡◌, ℕ, ◌+◌, ◌<◌, ◌≤◌, min, List, [], ◌∷◌, length, map, refl, sym, ◌∙◌, ap, subst, arith, add-zero}
use Rattle.std.proofs.Math.ListN.{get_or}
use Rattle.std.proofs.lemmas.List.{length-map}
use Rattle.p10_base.specs.declared.at.At.{At}
use Rattle.p10_syn.specs.declared.statement.Init as code_initializers
use Rattle.p10_syn.specs.declared.statement.InitDeclarator as code_declarators
use Rattle.p10_syn.specs.declared.statement.Unit as code_units
use Rattle.p10_syn.specs.declared.statement.Stmt as code_statements
use Rattle.p10_syn.specs.Trees.{Bare, Initializer, InitDeclarator, External, Statement, initializer_row, statement_row, MoreInitializers, MoreStatements}
use Rattle.p10_syn.specs.Bare.{bare_initializer, bare_init_declarator, bare_external, bare_statement, bare_initializers, bare_init_declarators, bare_externals, bare_statements}
use Rattle.p10_syn.specs.BuiltStatements.{initializer_of, init_declarator_of, external_of, statement_of}
use Rattle.p10_syn.specs.Counts.{count_initializer, count_init_declarator, count_external, count_statement, count_initializers, count_declarators, count_statements, count_more_initializers, count_more_declarators}
use Rattle.p10_place.specs.Roots.{count_externals}
use Rattle.p10_syn.specs.Places.{Source, locate_initializer, locate_init_declarator, locate_external, locate_statement, locate_initializers, locate_init_declarators, locate_externals, locate_statements}
use Rattle.p10_place.proofs.Parts.{placed_first, start_of, Placing, has_room, has_start}

-- ## Initializers

-- the first k are placed, from word n on, up to but not including word `past`
abbrev pub Placing_initializers : Source → ℕ → ℕ → List code_initializers.Init → List code_initializers.Init → ℕ → Type 0
Placing_initializers s k n start now past = Placing code_initializers.Init (Initializer At) (Initializer Bare) initializer_of bare_initializer (locate_initializer s) count_initializer 1 k n start now past

rows_initializers : (s : Source) (n : ℕ) (ts : List (Initializer At)) → initializer_row (placed_first (Initializer At) (Initializer Bare) bare_initializer (locate_initializer s) count_initializer 1 (length ts) n ts) ≡ locate_initializers s n (bare_initializers (initializer_row ts))
rows_initializers s n [] = refl
rows_initializers s n (t ∷ ts) = ap (MoreInitializers (locate_initializer s n (bare_initializer t))) (rows_initializers s (n + count_initializer (bare_initializer t) + 1) ts)

more_initializers : (s : Source) (n : ℕ) (ts : List (Initializer At)) → start_of (Initializer At) (Initializer Bare) bare_initializer (locate_initializer s) count_initializer 1 (length ts) n ts ≡ n + count_more_initializers (bare_initializers (initializer_row ts))
more_initializers s n [] = omega arith
more_initializers s n (t ∷ ts) = omega (arith, more_initializers s (n + count_initializer (bare_initializer t) + 1) ts)

ends_initializers : (s : Source) (n past : ℕ) (ts : List (Initializer At)) → past + min (length ts) 1 ≡ start_of (Initializer At) (Initializer Bare) bare_initializer (locate_initializer s) count_initializer 1 (length ts) n ts → past ≡ n + count_initializers (bare_initializers (initializer_row ts))
ends_initializers s n past [] e = omega (arith, e)
ends_initializers s n past (t ∷ ts) e = omega (arith, e, more_initializers s (n + count_initializer (bare_initializer t) + 1) ts)

room_initializers : (s : Source) (n m : ℕ) (ts : List (Initializer At)) → 0 < length ts → m + 1 ≤ start_of (Initializer At) (Initializer Bare) bare_initializer (locate_initializer s) count_initializer 1 (length ts) n ts → m ≤ n + count_initializers (bare_initializers (initializer_row ts))
room_initializers s n m [] h e = absurd (omega (arith, h))
room_initializers s n m (t ∷ ts) h e = omega (arith, e, more_initializers s (n + count_initializer (bare_initializer t) + 1) ts)

-- the words of the next one are there
pub fits_initializers : (s : Source) (k n : ℕ) (start now : List code_initializers.Init) (past : ℕ) (d old : code_initializers.Init) → k < length start → Placing_initializers s k n start now past → old ≡ get_or now k d →
    past + min k 1 + count_initializer (bare_initializer (initializer_of old)) ≤ n + count_initializers (bare_initializers (initializer_row (map initializer_of start)))
fits_initializers s k n start now past d old h p o =
    let some : 0 < length (map initializer_of start) = rw (length-map start initializer_of) (omega (arith, h)) in
    subst (λ (t : code_initializers.Init). past + min k 1 + count_initializer (bare_initializer (initializer_of t)) ≤ n + count_initializers (bare_initializers (initializer_row (map initializer_of start)))) (sym o)
    (room_initializers s n (past + min k 1 + count_initializer (bare_initializer (initializer_of (get_or now k d)))) (map initializer_of start) some
    (rw (length-map start initializer_of) (has_room code_initializers.Init (Initializer At) (Initializer Bare) initializer_of bare_initializer (locate_initializer s) count_initializer 1 k n start now past d h p)))

-- what stands before the next one is there
pub starts_initializers : (s : Source) (k n : ℕ) (start now : List code_initializers.Init) (past : ℕ) → k < length start → Placing_initializers s k n start now past →
    past + min k 1 ≤ n + count_initializers (bare_initializers (initializer_row (map initializer_of start)))
starts_initializers s k n start now past h p =
    let some : 0 < length (map initializer_of start) = rw (length-map start initializer_of) (omega (arith, h)) in
    room_initializers s n (past + min k 1) (map initializer_of start) some (rw (length-map start initializer_of) (has_start code_initializers.Init (Initializer At) (Initializer Bare) initializer_of bare_initializer (locate_initializer s) count_initializer 1 k n start now past h p))

-- all are placed
pub all_initializers : (s : Source) (k n : ℕ) (start now : List code_initializers.Init) (past : ℕ) → k ≡ length start → Placing_initializers s k n start now past →
    initializer_row (map initializer_of now) ≡ locate_initializers s n (bare_initializers (initializer_row (map initializer_of start)))
all_initializers s k n start now past e p =
    ap (λ xs. initializer_row xs) (p.placed ∙ ap (λ k. placed_first (Initializer At) (Initializer Bare) bare_initializer (locate_initializer s) count_initializer 1 k n (map initializer_of start)) (e ∙ sym (length-map start initializer_of))) ∙ rows_initializers s n (map initializer_of start)

-- the word past all of them
pub past_initializers : (s : Source) (k n : ℕ) (start now : List code_initializers.Init) (past : ℕ) → k ≡ length start → Placing_initializers s k n start now past →
    past ≡ n + count_initializers (bare_initializers (initializer_row (map initializer_of start)))
past_initializers s k n start now past e p =
    ends_initializers s n past (map initializer_of start) (rw (length-map start initializer_of) (subst (λ (k : ℕ). past + min k 1 ≡ start_of (Initializer At) (Initializer Bare) bare_initializer (locate_initializer s) count_initializer 1 k n (map initializer_of start)) e p.reached))

-- ## Declarators

-- the first k are placed, from word n on, up to but not including word `past`
abbrev pub Placing_declarators : Source → ℕ → ℕ → List code_declarators.InitDeclarator → List code_declarators.InitDeclarator → ℕ → Type 0
Placing_declarators s k n start now past = Placing code_declarators.InitDeclarator (InitDeclarator At) (InitDeclarator Bare) init_declarator_of bare_init_declarator (locate_init_declarator s) count_init_declarator 1 k n start now past

rows_declarators : (s : Source) (n : ℕ) (ts : List (InitDeclarator At)) → placed_first (InitDeclarator At) (InitDeclarator Bare) bare_init_declarator (locate_init_declarator s) count_init_declarator 1 (length ts) n ts ≡ locate_init_declarators s n (bare_init_declarators ts)
rows_declarators s n [] = refl
rows_declarators s n (t ∷ ts) = ap (λ xs. locate_init_declarator s n (bare_init_declarator t) ∷ xs) (rows_declarators s (n + count_init_declarator (bare_init_declarator t) + 1) ts)

more_declarators : (s : Source) (n : ℕ) (ts : List (InitDeclarator At)) → start_of (InitDeclarator At) (InitDeclarator Bare) bare_init_declarator (locate_init_declarator s) count_init_declarator 1 (length ts) n ts + 1 ≡ n + count_more_declarators (bare_init_declarators ts)
more_declarators s n [] = omega arith
more_declarators s n (t ∷ ts) = omega (arith, more_declarators s (n + count_init_declarator (bare_init_declarator t) + 1) ts)

ends_declarators : (s : Source) (n past : ℕ) (ts : List (InitDeclarator At)) → past + min (length ts) 1 ≡ start_of (InitDeclarator At) (InitDeclarator Bare) bare_init_declarator (locate_init_declarator s) count_init_declarator 1 (length ts) n ts → past + 1 ≡ n + count_declarators (bare_init_declarators ts)
ends_declarators s n past [] e = omega (arith, e)
ends_declarators s n past (t ∷ ts) e = omega (arith, e, more_declarators s (n + count_init_declarator (bare_init_declarator t) + 1) ts)

room_declarators : (s : Source) (n m : ℕ) (ts : List (InitDeclarator At)) → 0 < length ts → m + 1 ≤ start_of (InitDeclarator At) (InitDeclarator Bare) bare_init_declarator (locate_init_declarator s) count_init_declarator 1 (length ts) n ts → m + 1 ≤ n + count_declarators (bare_init_declarators ts)
room_declarators s n m [] h e = absurd (omega (arith, h))
room_declarators s n m (t ∷ ts) h e = omega (arith, e, more_declarators s (n + count_init_declarator (bare_init_declarator t) + 1) ts)

-- the words of the next one are there
pub fits_declarators : (s : Source) (k n : ℕ) (start now : List code_declarators.InitDeclarator) (past : ℕ) (d old : code_declarators.InitDeclarator) → k < length start → Placing_declarators s k n start now past → old ≡ get_or now k d →
    past + min k 1 + count_init_declarator (bare_init_declarator (init_declarator_of old)) + 1 ≤ n + count_declarators (bare_init_declarators (map init_declarator_of start))
fits_declarators s k n start now past d old h p o =
    let some : 0 < length (map init_declarator_of start) = rw (length-map start init_declarator_of) (omega (arith, h)) in
    subst (λ (t : code_declarators.InitDeclarator). past + min k 1 + count_init_declarator (bare_init_declarator (init_declarator_of t)) + 1 ≤ n + count_declarators (bare_init_declarators (map init_declarator_of start))) (sym o)
    (room_declarators s n (past + min k 1 + count_init_declarator (bare_init_declarator (init_declarator_of (get_or now k d)))) (map init_declarator_of start) some
    (rw (length-map start init_declarator_of) (has_room code_declarators.InitDeclarator (InitDeclarator At) (InitDeclarator Bare) init_declarator_of bare_init_declarator (locate_init_declarator s) count_init_declarator 1 k n start now past d h p)))

-- what stands before the next one is there
pub starts_declarators : (s : Source) (k n : ℕ) (start now : List code_declarators.InitDeclarator) (past : ℕ) → k < length start → Placing_declarators s k n start now past →
    past + min k 1 + 1 ≤ n + count_declarators (bare_init_declarators (map init_declarator_of start))
starts_declarators s k n start now past h p =
    let some : 0 < length (map init_declarator_of start) = rw (length-map start init_declarator_of) (omega (arith, h)) in
    room_declarators s n (past + min k 1) (map init_declarator_of start) some (rw (length-map start init_declarator_of) (has_start code_declarators.InitDeclarator (InitDeclarator At) (InitDeclarator Bare) init_declarator_of bare_init_declarator (locate_init_declarator s) count_init_declarator 1 k n start now past h p))

-- all are placed
pub all_declarators : (s : Source) (k n : ℕ) (start now : List code_declarators.InitDeclarator) (past : ℕ) → k ≡ length start → Placing_declarators s k n start now past →
    map init_declarator_of now ≡ locate_init_declarators s n (bare_init_declarators (map init_declarator_of start))
all_declarators s k n start now past e p =
    ap (λ xs. xs) (p.placed ∙ ap (λ k. placed_first (InitDeclarator At) (InitDeclarator Bare) bare_init_declarator (locate_init_declarator s) count_init_declarator 1 k n (map init_declarator_of start)) (e ∙ sym (length-map start init_declarator_of))) ∙ rows_declarators s n (map init_declarator_of start)

-- the word past all of them
pub past_declarators : (s : Source) (k n : ℕ) (start now : List code_declarators.InitDeclarator) (past : ℕ) → k ≡ length start → Placing_declarators s k n start now past →
    past + 1 ≡ n + count_declarators (bare_init_declarators (map init_declarator_of start))
past_declarators s k n start now past e p =
    ends_declarators s n past (map init_declarator_of start) (rw (length-map start init_declarator_of) (subst (λ (k : ℕ). past + min k 1 ≡ start_of (InitDeclarator At) (InitDeclarator Bare) bare_init_declarator (locate_init_declarator s) count_init_declarator 1 k n (map init_declarator_of start)) e p.reached))

-- ## Units

-- the first k are placed, from word n on, up to but not including word `past`
abbrev pub Placing_units : Source → ℕ → ℕ → List code_units.Unit → List code_units.Unit → ℕ → Type 0
Placing_units s k n start now past = Placing code_units.Unit (External At) (External Bare) external_of bare_external (locate_external s) count_external 0 k n start now past

rows_units : (s : Source) (n : ℕ) (ts : List (External At)) → placed_first (External At) (External Bare) bare_external (locate_external s) count_external 0 (length ts) n ts ≡ locate_externals s n (bare_externals ts)
rows_units s n [] = refl
rows_units s n (t ∷ ts) = ap (λ xs. locate_external s n (bare_external t) ∷ xs) (rows_units s (n + count_external (bare_external t) + 0) ts ∙ ap (λ m. locate_externals s m (bare_externals ts)) (add-zero (n + count_external (bare_external t))))

more_units : (s : Source) (n : ℕ) (ts : List (External At)) → start_of (External At) (External Bare) bare_external (locate_external s) count_external 0 (length ts) n ts ≡ n + count_externals (bare_externals ts)
more_units s n [] = omega arith
more_units s n (t ∷ ts) = omega (arith, more_units s (n + count_external (bare_external t) + 0) ts)

ends_units : (s : Source) (n past : ℕ) (ts : List (External At)) → past + min (length ts) 0 ≡ start_of (External At) (External Bare) bare_external (locate_external s) count_external 0 (length ts) n ts → past ≡ n + count_externals (bare_externals ts)
ends_units s n past [] e = omega (arith, e)
ends_units s n past (t ∷ ts) e = omega (arith, e, more_units s (n + count_external (bare_external t) + 0) ts)

room_units : (s : Source) (n m : ℕ) (ts : List (External At)) → 0 < length ts → m + 0 ≤ start_of (External At) (External Bare) bare_external (locate_external s) count_external 0 (length ts) n ts → m ≤ n + count_externals (bare_externals ts)
room_units s n m [] h e = absurd (omega (arith, h))
room_units s n m (t ∷ ts) h e = omega (arith, e, more_units s (n + count_external (bare_external t) + 0) ts)

-- the words of the next one are there
pub fits_units : (s : Source) (k n : ℕ) (start now : List code_units.Unit) (past : ℕ) (d old : code_units.Unit) → k < length start → Placing_units s k n start now past → old ≡ get_or now k d →
    past + min k 0 + count_external (bare_external (external_of old)) ≤ n + count_externals (bare_externals (map external_of start))
fits_units s k n start now past d old h p o =
    let some : 0 < length (map external_of start) = rw (length-map start external_of) (omega (arith, h)) in
    subst (λ (t : code_units.Unit). past + min k 0 + count_external (bare_external (external_of t)) ≤ n + count_externals (bare_externals (map external_of start))) (sym o)
    (room_units s n (past + min k 0 + count_external (bare_external (external_of (get_or now k d)))) (map external_of start) some
    (rw (length-map start external_of) (has_room code_units.Unit (External At) (External Bare) external_of bare_external (locate_external s) count_external 0 k n start now past d h p)))

-- what stands before the next one is there
pub starts_units : (s : Source) (k n : ℕ) (start now : List code_units.Unit) (past : ℕ) → k < length start → Placing_units s k n start now past →
    past + min k 0 ≤ n + count_externals (bare_externals (map external_of start))
starts_units s k n start now past h p =
    let some : 0 < length (map external_of start) = rw (length-map start external_of) (omega (arith, h)) in
    room_units s n (past + min k 0) (map external_of start) some (rw (length-map start external_of) (has_start code_units.Unit (External At) (External Bare) external_of bare_external (locate_external s) count_external 0 k n start now past h p))

-- all are placed
pub all_units : (s : Source) (k n : ℕ) (start now : List code_units.Unit) (past : ℕ) → k ≡ length start → Placing_units s k n start now past →
    map external_of now ≡ locate_externals s n (bare_externals (map external_of start))
all_units s k n start now past e p =
    ap (λ xs. xs) (p.placed ∙ ap (λ k. placed_first (External At) (External Bare) bare_external (locate_external s) count_external 0 k n (map external_of start)) (e ∙ sym (length-map start external_of))) ∙ rows_units s n (map external_of start)

-- the word past all of them
pub past_units : (s : Source) (k n : ℕ) (start now : List code_units.Unit) (past : ℕ) → k ≡ length start → Placing_units s k n start now past →
    past ≡ n + count_externals (bare_externals (map external_of start))
past_units s k n start now past e p =
    ends_units s n past (map external_of start) (rw (length-map start external_of) (subst (λ (k : ℕ). past + min k 0 ≡ start_of (External At) (External Bare) bare_external (locate_external s) count_external 0 k n (map external_of start)) e p.reached))

-- ## Statements

-- the first k are placed, from word n on, up to but not including word `past`
abbrev pub Placing_statements : Source → ℕ → ℕ → List code_statements.Stmt → List code_statements.Stmt → ℕ → Type 0
Placing_statements s k n start now past = Placing code_statements.Stmt (Statement At) (Statement Bare) statement_of bare_statement (locate_statement s) count_statement 0 k n start now past

rows_statements : (s : Source) (n : ℕ) (ts : List (Statement At)) → statement_row (placed_first (Statement At) (Statement Bare) bare_statement (locate_statement s) count_statement 0 (length ts) n ts) ≡ locate_statements s n (bare_statements (statement_row ts))
rows_statements s n [] = refl
rows_statements s n (t ∷ ts) = ap (MoreStatements (locate_statement s n (bare_statement t))) (rows_statements s (n + count_statement (bare_statement t) + 0) ts ∙ ap (λ m. locate_statements s m (bare_statements (statement_row ts))) (add-zero (n + count_statement (bare_statement t))))

more_statements : (s : Source) (n : ℕ) (ts : List (Statement At)) → start_of (Statement At) (Statement Bare) bare_statement (locate_statement s) count_statement 0 (length ts) n ts ≡ n + count_statements (bare_statements (statement_row ts))
more_statements s n [] = omega arith
more_statements s n (t ∷ ts) = omega (arith, more_statements s (n + count_statement (bare_statement t) + 0) ts)

ends_statements : (s : Source) (n past : ℕ) (ts : List (Statement At)) → past + min (length ts) 0 ≡ start_of (Statement At) (Statement Bare) bare_statement (locate_statement s) count_statement 0 (length ts) n ts → past ≡ n + count_statements (bare_statements (statement_row ts))
ends_statements s n past [] e = omega (arith, e)
ends_statements s n past (t ∷ ts) e = omega (arith, e, more_statements s (n + count_statement (bare_statement t) + 0) ts)

room_statements : (s : Source) (n m : ℕ) (ts : List (Statement At)) → 0 < length ts → m + 0 ≤ start_of (Statement At) (Statement Bare) bare_statement (locate_statement s) count_statement 0 (length ts) n ts → m ≤ n + count_statements (bare_statements (statement_row ts))
room_statements s n m [] h e = absurd (omega (arith, h))
room_statements s n m (t ∷ ts) h e = omega (arith, e, more_statements s (n + count_statement (bare_statement t) + 0) ts)

-- the words of the next one are there
pub fits_statements : (s : Source) (k n : ℕ) (start now : List code_statements.Stmt) (past : ℕ) (d old : code_statements.Stmt) → k < length start → Placing_statements s k n start now past → old ≡ get_or now k d →
    past + min k 0 + count_statement (bare_statement (statement_of old)) ≤ n + count_statements (bare_statements (statement_row (map statement_of start)))
fits_statements s k n start now past d old h p o =
    let some : 0 < length (map statement_of start) = rw (length-map start statement_of) (omega (arith, h)) in
    subst (λ (t : code_statements.Stmt). past + min k 0 + count_statement (bare_statement (statement_of t)) ≤ n + count_statements (bare_statements (statement_row (map statement_of start)))) (sym o)
    (room_statements s n (past + min k 0 + count_statement (bare_statement (statement_of (get_or now k d)))) (map statement_of start) some
    (rw (length-map start statement_of) (has_room code_statements.Stmt (Statement At) (Statement Bare) statement_of bare_statement (locate_statement s) count_statement 0 k n start now past d h p)))

-- what stands before the next one is there
pub starts_statements : (s : Source) (k n : ℕ) (start now : List code_statements.Stmt) (past : ℕ) → k < length start → Placing_statements s k n start now past →
    past + min k 0 ≤ n + count_statements (bare_statements (statement_row (map statement_of start)))
starts_statements s k n start now past h p =
    let some : 0 < length (map statement_of start) = rw (length-map start statement_of) (omega (arith, h)) in
    room_statements s n (past + min k 0) (map statement_of start) some (rw (length-map start statement_of) (has_start code_statements.Stmt (Statement At) (Statement Bare) statement_of bare_statement (locate_statement s) count_statement 0 k n start now past h p))

-- all are placed
pub all_statements : (s : Source) (k n : ℕ) (start now : List code_statements.Stmt) (past : ℕ) → k ≡ length start → Placing_statements s k n start now past →
    statement_row (map statement_of now) ≡ locate_statements s n (bare_statements (statement_row (map statement_of start)))
all_statements s k n start now past e p =
    ap (λ xs. statement_row xs) (p.placed ∙ ap (λ k. placed_first (Statement At) (Statement Bare) bare_statement (locate_statement s) count_statement 0 k n (map statement_of start)) (e ∙ sym (length-map start statement_of))) ∙ rows_statements s n (map statement_of start)

-- the word past all of them
pub past_statements : (s : Source) (k n : ℕ) (start now : List code_statements.Stmt) (past : ℕ) → k ≡ length start → Placing_statements s k n start now past →
    past ≡ n + count_statements (bare_statements (statement_row (map statement_of start)))
past_statements s k n start now past e p =
    ends_statements s n past (map statement_of start) (rw (length-map start statement_of) (subst (λ (k : ℕ). past + min k 0 ≡ start_of (Statement At) (Statement Bare) bare_statement (locate_statement s) count_statement 0 k n (map statement_of start)) e p.reached))
