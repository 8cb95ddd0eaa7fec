-- Whole trees without the mark `init_done`: no call in them is of `main`, so nothing passes the mark.
use Rattle.std.proofs.Common.{◌≡◌, ℕ, suc, ◌+◌, Bool, true, ◌||◌, List, [], ◌∷◌, ◌++◌, eq-eqb, refl, sym, ◌∙◌, ap, arith, Option, Some, None, option_map, slice_get}
use Rattle.std.specs.Prelude.{if◌then◌else◌}
use Rattle.std.proofs.lemmas.Option.{none-some}
use Rattle.p10_core.specs.declared.statements.LoopKeyword.{LoopKeyword}
use Rattle.p10_core.specs.declared.statements.LoopKeyword.TheVariants.{While, Do, For}
use Rattle.p10_core.specs.declared.statements.MarkKind.{MarkKind}
use Rattle.p10_core.specs.declared.statements.MarkKind.TheVariants.{InitDone, TaskLoop}
use Rattle.p10_core.specs.Types.{PlainType}
use Rattle.p10_core.specs.Typed.{PlainValue, value, PlainForm, constant, read, sense, address, decay, convert, cast, unary, binary, logic, conditional, call, built_in, PlainPlace, place, variable, global, literal, index, member, dereference, PlainValues, no_values, more_values, PlainWritten, one_scalar, scalars_of_text, PlainItem, PlainInitializer, not_initialized, single, copied, listed, PlainStatement, statement, PlainStatementForm, set, update, copy, evaluate, asserts, declare, declare_static, block, if_then, if_else, loop, switch, break, continue, return, empty, mark, PlainStatements, no_statements, more_statements, PlainFunction, PlainProgram}
use Rattle.p10_core.specs.Nodes.{PlainNode, a_statement, a_value, a_place, nodes_of_value, nodes_of_place, nodes_of_values, nodes_of_maybe, nodes_of_written, nodes_of_items, nodes_of_initializer, nodes_of_statement, nodes_of_statements}
use Rattle.p10_core.specs.Whole.{SeenFunction, Surroundings, IsWholeValue, IsWholePlace, AreWholeValues}
use Rattle.p10_core.specs.WholePrograms.{Region, seen_function, around, after, after_all, IsWholeWritten, width_of_written, AreWholeItems, IsWholeInitializer, is_expression, is_variable_declaration, AllOf, AreClauses, IsMaybeTest, Returns, IsWholeStatement, AreWholeStatements, marks_in, marks_of, region_of, IsWholeProgram}
use Rattle.p10_allocation.proofs.Outcomes.{Each, each_both, loop_of_each}

-- ## Early nodes

-- a form of value is no call of `main`
abbrev pub IsEarlyForm : PlainProgram → PlainForm → Type 0
IsEarlyForm p (call name f arguments) = f ≡ p.main → ⊥
IsEarlyForm p form = Unit {0}

-- a form of statement isn't the mark at the end of initialisation
abbrev pub IsEarlyStatement : PlainStatementForm → Type 0
IsEarlyStatement (mark InitDone) = ⊥
IsEarlyStatement form = Unit {0}

-- a node is neither of them
abbrev pub IsEarly : PlainProgram → PlainNode → Type 0
IsEarly p (a_statement (statement at form)) = IsEarlyStatement form
IsEarly p (a_value (value at t form)) = IsEarlyForm p form
IsEarly p (a_place q) = Unit {0}

-- ## Values

module _ (p : PlainProgram) (c : Surroundings) (spares : (n : ℕ) (f : SeenFunction) → c.function_at n ≡ Some f → n ≡ p.main → ⊥) where
  mutual
    pub value_early : (v : PlainValue) → IsWholeValue c v → Each (IsEarly p) (nodes_of_value v)
    value_early (value at t (constant z)) h = (tt, tt)
    value_early (value at t (read q)) h = (tt, place_early q h.0)
    value_early (value at t (sense n)) h = (tt, tt)
    value_early (value at t (address q)) h = (tt, place_early q h.0)
    value_early (value at t (decay q)) h = (tt, place_early q h.0)
    value_early (value at t (convert v)) h = (tt, value_early v h.0)
    value_early (value at t (cast v)) h = (tt, value_early v h.0)
    value_early (value at t (unary op v)) h = (tt, value_early v h.0)
    value_early (value at t (binary op a b)) h = (tt, each_both (IsEarly p) (nodes_of_value a) (nodes_of_value b) (value_early a h.0) (value_early b h.1))
    value_early (value at t (logic op a b)) h = (tt, each_both (IsEarly p) (nodes_of_value a) (nodes_of_value b) (value_early a h.0) (value_early b h.1))
    value_early (value at t (conditional v a b)) h =
        (tt, each_both (IsEarly p) (nodes_of_value v) (nodes_of_value a ++ nodes_of_value b) (value_early v h.0) (each_both (IsEarly p) (nodes_of_value a) (nodes_of_value b) (value_early a h.1) (value_early b h.2)))
    value_early (value at t (call name n arguments)) h = ((λ e. spares n h.1.seen h.1.there e), values_early arguments h.0)
    value_early (value at t (built_in name f arguments)) h = (tt, values_early arguments h.0)

    values_early : (vs : PlainValues) → AreWholeValues c vs → Each (IsEarly p) (nodes_of_values vs)
    values_early no_values h = tt
    values_early (more_values v vs) h = each_both (IsEarly p) (nodes_of_value v) (nodes_of_values vs) (value_early v h.0) (values_early vs h.1)

    pub place_early : (q : PlainPlace) → IsWholePlace c q → Each (IsEarly p) (nodes_of_place q)
    place_early (place at t (variable n)) h = (tt, tt)
    place_early (place at t (global n)) h = (tt, tt)
    place_early (place at t (literal n bytes)) h = (tt, tt)
    place_early (place at t (index a i)) h = (tt, each_both (IsEarly p) (nodes_of_value a) (nodes_of_value i) (value_early a h.0) (value_early i h.1))
    place_early (place at t (member q m)) h = (tt, place_early q h.0)
    place_early (place at t (dereference v)) h = (tt, value_early v h.0)

  pub maybe_early : (v : Option PlainValue) → IsMaybeTest c v → Each (IsEarly p) (nodes_of_maybe v)
  maybe_early None h = tt
  maybe_early (Some v) h = value_early v h.whole

  pub returned_early : (t : PlainType) (v : Option PlainValue) → Returns c t v → Each (IsEarly p) (nodes_of_maybe v)
  returned_early t None h = tt
  returned_early t (Some v) h = value_early v h.0

  written_early : (scalars : List PlainType) (x : PlainWritten) → IsWholeWritten c scalars x → Each (IsEarly p) (nodes_of_written x)
  written_early scalars (one_scalar v) h = value_early v h.whole
  written_early scalars (scalars_of_text bytes) h = tt

  items_early : (scalars : List PlainType) (from : ℕ) (items : List PlainItem) → AreWholeItems c scalars from items → Each (IsEarly p) (nodes_of_items items)
  items_early scalars from [] h = tt
  items_early scalars from (i ∷ rest) h = each_both (IsEarly p) (nodes_of_written i.written) (nodes_of_items rest) (written_early _ i.written h.1) (items_early scalars (i.scalar + width_of_written i.written) rest h.2)

  pub initializer_early : (t : PlainType) (i : PlainInitializer) → IsWholeInitializer c t i → Each (IsEarly p) (nodes_of_initializer i)
  initializer_early t not_initialized h = tt
  initializer_early t (single v) h = value_early v h.whole
  initializer_early t (copied q) h = place_early q h.whole
  initializer_early t (listed at items) h = items_early _ 0 items h.whole

-- ## Marks

-- how many marks `init_done` are among marks
abbrev pub dones : List MarkKind → ℕ
dones [] = 0
dones (InitDone ∷ ks) = suc (dones ks)
dones (TaskLoop ∷ ks) = dones ks

pub dones_append : (ks ls : List MarkKind) → dones (ks ++ ls) ≡ dones ks + dones ls
dones_append [] ls = omega arith
dones_append (InitDone ∷ ks) ls = let e = dones_append ks ls in omega (arith, e)
dones_append (TaskLoop ∷ ks) ls = dones_append ks ls

none_in_both : (a b c : ℕ) → c ≡ a + b → c ≡ 0 → (a ≡ 0) × (b ≡ 0)
none_in_both a b c e z = (omega (arith, e, z), omega (arith, e, z))

-- without a mark in both, there is none in either
no_dones : (ks ls : List MarkKind) → dones (ks ++ ls) ≡ 0 → (dones ks ≡ 0) × (dones ls ≡ 0)
no_dones ks ls z = none_in_both (dones ks) (dones ls) (dones (ks ++ ls)) (dones_append ks ls) z

all_unmarked : (test : PlainStatement → Bool) → ((x : PlainStatement) → test x ≡ true → dones (marks_in x) ≡ 0) → (xs : PlainStatements) → AllOf test xs → dones (marks_of xs) ≡ 0
all_unmarked test h no_statements k = refl
all_unmarked test h (more_statements x rest) k =
    let first : dones (marks_in x) ≡ 0 = h x k.0 in
    let others : dones (marks_of rest) ≡ 0 = all_unmarked test h rest k.1 in
    let both = dones_append (marks_in x) (marks_of rest) in
    omega (arith, first, others, both)

expression_unmarked : (x : PlainStatement) → is_expression x ≡ true → dones (marks_in x) ≡ 0
expression_unmarked (statement at (block xs)) e = absurd cc
expression_unmarked (statement at (if_then v x)) e = absurd cc
expression_unmarked (statement at (if_else v x y)) e = absurd cc
expression_unmarked (statement at (loop head first test third body)) e = absurd cc
expression_unmarked (statement at (switch span v labels body)) e = absurd cc
expression_unmarked (statement at (mark kind)) e = absurd cc
expression_unmarked (statement at form) e = refl

clause_unmarked : (x : PlainStatement) → (is_variable_declaration x || is_expression x) ≡ true → dones (marks_in x) ≡ 0
clause_unmarked (statement at (block xs)) e = absurd cc
clause_unmarked (statement at (if_then v x)) e = absurd cc
clause_unmarked (statement at (if_else v x y)) e = absurd cc
clause_unmarked (statement at (loop head first test third body)) e = absurd cc
clause_unmarked (statement at (switch span v labels body)) e = absurd cc
clause_unmarked (statement at (mark kind)) e = absurd cc
clause_unmarked (statement at form) e = refl

-- the clauses of a loop have no marks
clauses_unmarked : (keyword : LoopKeyword) (first : PlainStatements) (test : Option PlainValue) (third : PlainStatements) → AreClauses keyword first test third → (dones (marks_of first) ≡ 0) × (dones (marks_of third) ≡ 0)
clauses_unmarked For first test third h = (all_unmarked _ clause_unmarked first h.0, all_unmarked is_expression expression_unmarked third h.1)
clauses_unmarked While no_statements (Some v) no_statements h = (refl, refl)
clauses_unmarked While no_statements (Some v) (more_statements x rest) h = absurd h
clauses_unmarked While no_statements None third h = absurd h
clauses_unmarked While (more_statements x rest) test third h = absurd h
clauses_unmarked Do no_statements (Some v) no_statements h = (refl, refl)
clauses_unmarked Do no_statements (Some v) (more_statements x rest) h = absurd h
clauses_unmarked Do no_statements None third h = absurd h
clauses_unmarked Do (more_statements x rest) test third h = absurd h

-- ## Statements

module _ (p : PlainProgram) (number : ℕ) where
  -- a region is of the program and of the function with the number
  pub record IsHere (r : Region) : Type 0 where
    pub program_is : r.program ≡ p
    pub number_is : r.number ≡ number

  pub after_here : (r : Region) (x : PlainStatement) → IsHere r → IsHere (after r x)
  after_here r (statement at (declare n i)) h = record { program_is = h.program_is; number_is = h.number_is }
  after_here r (statement at form) h = h

  after_all_here : (r : Region) (xs : PlainStatements) → IsHere r → IsHere (after_all r xs)
  after_all_here r no_statements h = h
  after_all_here r (more_statements x rest) h = after_all_here (after r x) rest (after_here r x h)

  -- no call of `main` is whole
  spared : (r : Region) → IsHere r → (n : ℕ) (f : SeenFunction) → (around r).function_at n ≡ Some f → n ≡ p.main → ⊥
  spared r h n f e i =
      none-some f (sym (ap (λ b. if b then None else option_map seen_function (slice_get r.program.functions n)) (eq-eqb n r.program.main (i ∙ sym (ap (λ (q : PlainProgram). q.main) h.program_is)))) ∙ e)

  -- in `main` none of these marks is `init_done`
  abbrev Unmarked : List MarkKind → Type 0
  Unmarked ks = number ≡ p.main → dones ks ≡ 0

  unmarked_left : (ks ls : List MarkKind) → Unmarked (ks ++ ls) → Unmarked ks
  unmarked_left ks ls h e = (no_dones ks ls (h e)).0

  unmarked_right : (ks ls : List MarkKind) → Unmarked (ks ++ ls) → Unmarked ls
  unmarked_right ks ls h e = (no_dones ks ls (h e)).1

  mark_early : (r : Region) → IsHere r → (kind : MarkKind) → r.number ≡ r.program.main → Unmarked (kind ∷ []) → IsEarlyStatement (mark kind)
  mark_early r h InitDone e u = absurd (let z : 1 ≡ 0 = u (sym h.number_is ∙ e ∙ ap (λ (q : PlainProgram). q.main) h.program_is) in omega (arith, z))
  mark_early r h TaskLoop e u = tt

  mutual
    pub statement_early : (r : Region) → IsHere r → (x : PlainStatement) → IsWholeStatement r x → Unmarked (marks_in x) → Each (IsEarly p) (nodes_of_statement x)
    statement_early r h (statement at (set q v)) w u = (tt, each_both (IsEarly p) (nodes_of_place q) (nodes_of_value v) (place_early p (around r) (spared r h) q w.place) (value_early p (around r) (spared r h) v w.value))
    statement_early r h (statement at (update kind op t q v)) w u =
        (tt, each_both (IsEarly p) (nodes_of_place q) (nodes_of_value v) (place_early p (around r) (spared r h) q w.place) (value_early p (around r) (spared r h) v w.value))
    statement_early r h (statement at (copy q o)) w u =
        (tt, each_both (IsEarly p) (nodes_of_place q) (nodes_of_place o) (place_early p (around r) (spared r h) q w.target) (place_early p (around r) (spared r h) o w.source.whole))
    statement_early r h (statement at (evaluate v)) w u = (tt, value_early p (around r) (spared r h) v w)
    statement_early r h (statement at (asserts made v)) w u = (tt, value_early p (around r) (spared r h) v w.whole)
    statement_early r h (statement at (declare n i)) w u =
        let inner : Region = record r { scope = n ∷ r.scope } in
        (tt, initializer_early p (around inner) (spared inner (record { program_is = h.program_is; number_is = h.number_is })) w.variable.type i w.initializer)
    statement_early r h (statement at (declare_static n)) w u = (tt, tt)
    statement_early r h (statement at (block xs)) w u = (tt, statements_early r h xs w u)
    statement_early r h (statement at (if_then v x)) w u =
        (tt, each_both (IsEarly p) (nodes_of_value v) (nodes_of_statement x) (value_early p (around r) (spared r h) v w.0.whole) (statement_early r h x w.1 u))
    statement_early r h (statement at (if_else v x y)) w u = (
      tt,
      each_both (IsEarly p) (nodes_of_value v) (nodes_of_statement x ++ nodes_of_statement y) (value_early p (around r) (spared r h) v w.0.whole)
          (each_both (IsEarly p) (nodes_of_statement x) (nodes_of_statement y) (statement_early r h x w.1 (unmarked_left (marks_in x) (marks_in y) u)) (statement_early r h y w.2 (unmarked_right (marks_in x) (marks_in y) u))),
    )
    statement_early r h (statement at (loop head first test third body)) w u =
        let inner : Region = after_all r first in
        let k : IsHere inner = after_all_here r first h in
        let turned : Region = record inner { in_loop = true } in
        let clauses = clauses_unmarked head.keyword first test third w.4 in (
          tt,
          loop_of_each (IsEarly p) head.keyword (nodes_of_statements first) (nodes_of_maybe test) (nodes_of_statements third) (nodes_of_statement body) (record {
            first_each = statements_early r h first w.0 (λ e. clauses.0);
            test_each = maybe_early p (around inner) (spared inner k) test w.1;
            third_each = statements_early inner k third w.2 (λ e. clauses.1);
            body_each = statement_early turned (record { program_is = k.program_is; number_is = k.number_is }) body w.3 u;
          }),
        )
    statement_early r h (statement at (switch span v labels body)) w u =
        let inner : Region = record r { in_switch = true } in (
          tt,
          each_both (IsEarly p) (nodes_of_value v) (nodes_of_statement body) (value_early p (around r) (spared r h) v w.0.whole)
              (statement_early inner (record { program_is = h.program_is; number_is = h.number_is }) body w.1 u),
        )
    statement_early r h (statement at break) w u = (tt, tt)
    statement_early r h (statement at continue) w u = (tt, tt)
    statement_early r h (statement at (return span v)) w u = (tt, returned_early p (around r) (spared r h) r.function.result v w)
    statement_early r h (statement at empty) w u = (tt, tt)
    statement_early r h (statement at (mark kind)) w u = (mark_early r h kind w u, tt)

    statements_early : (r : Region) → IsHere r → (xs : PlainStatements) → AreWholeStatements r xs → Unmarked (marks_of xs) → Each (IsEarly p) (nodes_of_statements xs)
    statements_early r h no_statements w u = tt
    statements_early r h (more_statements x rest) w u =
        each_both (IsEarly p) (nodes_of_statement x) (nodes_of_statements rest) (statement_early r h x w.0 (unmarked_left (marks_in x) (marks_of rest) u))
        (statements_early (after r x) (after_here r x h) rest w.1 (unmarked_right (marks_in x) (marks_of rest) u))

-- a function other than `main` passes no mark
pub function_early : (p : PlainProgram) → IsWholeProgram p → (g : ℕ) (f : PlainFunction) → slice_get p.functions g ≡ Some f → (g ≡ p.main → ⊥) → Each (IsEarly p) (nodes_of_statements f.body)
function_early p whole g f there other =
    statements_early p g (region_of p g f) (record { program_is = refl; number_is = refl }) f.body (whole.functions g f there).body (λ e. absurd (other e))
