-- All loops that are found in statements: their claims fit, their depths nest, and as many are tasks as have the task's number.
use Rattle.std.proofs.Common.{◌≡◌, ℕ, zero, suc, ◌+◌, ◌≤◌, Bool, true, false, List, [], ◌∷◌, ◌++◌, length, length-append, map, Option, Some, None, refl, sym, ap, ◌∙◌, subst, arith, nat_eq, ◌⊎◌, inl, inr}
use Rattle.std.specs.Prelude.{slice_get, if◌then◌else◌, IfSome}
use Rattle.std.specs.List.{AllByRecursion}
use Rattle.std.proofs.lemmas.Bool.{eqb-true, eqb-false}
use Rattle.std.proofs.lemmas.Option.{same_Some, none-some}
use Rattle.p10_core.specs.declared.statements.LoopHead.{LoopHead}
use Rattle.p10_core.specs.declared.statements.LoopKeyword.{LoopKeyword}
use Rattle.p10_core.specs.declared.statements.LoopKeyword.TheVariants.{While, Do, For}
use Rattle.p10_core.specs.Typed.{PlainValue, PlainLabels, PlainStatement, statement, PlainStatementForm, block, if_then, if_else, loop, switch, PlainStatements, no_statements, more_statements, statements_list, PlainFunction, PlainProgram}
use Rattle.p10_core.specs.Whole.{IsWholeValue}
use Rattle.p10_core.specs.WholePrograms.{Region, around, after, after_all, numbers_from, main_items, IsMaybeTest, IsWholeStatement, IsWholeStatementForm, AreWholeStatements, loops_in as heads_in, loops_in_form as heads_in_form, loops_of as heads_of}
use Rattle.p10_cert.specs.declared.claims.Rank.TheVariants.{One, Task}
use Rattle.p10_cert.specs.Claims.{Loop, Claims}
use Rattle.p10_cert.specs.Certificate.{NestFrom, task_number, loop_tasks}
use Rattle.p10_absx.specs.Environments.{Environment, hull_reached}
use Rattle.p10_fit.specs.Fits.{is_task}
use Rattle.p10_fit.specs.Sites.{loop_number, loop_number_at, task_loop_number}
use Rattle.p10_pass.specs.Claiming.{head_of}
use Rattle.p10_pass.specs.Arguments.{has_value}
use Rattle.p10_pass.specs.Passing.{pass_statement, pass_statements, is_labelled, trial_manner}
use Rattle.p10_known.specs.Typing.{AreOfTypes, MaybeOfTypes, LinesOfTypes, ResultsOfTypes}
use Rattle.p10_known.proofs.Environments.{reached_types}
use Rattle.p10_known.proofs.Values.{maybe_then}
use Rattle.p10_known.proofs.Ends.{if_types}
use Rattle.p10_known.proofs.Parts.{head_types, known_types, round_types}
use Rattle.p10_known.proofs.Statements.{Lies, sees, after_lies, all_lies, statement_types, statements_types}
use Rattle.p10_candidates.specs.Trials.{Rounds, LoopFound}
use Rattle.p10_finder.specs.Loops.{Search, LoopsFound, with_loop, known_after_statement, known_where_value, known_after_value, known_at_entry, known_in_body, known_under, assigned_in, loop_entry, reached_found, LoopPassed, loop_passed, loops_in, loops_in_form, loops_in_all, loops_in_switch, loops_in_cases, loops_from}
use Rattle.p10_candidates.specs.Trials.{trial_rounds}
use Rattle.p10_derived_texts.proofs.Claims.{all_append, all_more, LoopFits}
use Rattle.p10_derived_texts.specs.Approaching.{AreNear}
use Rattle.p10_derived_texts.proofs.Candidates.{no_results, Good, entered_good, entered_near, unreached_fits}
use Rattle.p10_turns.specs.LoopParts.{LoopParts}
use Rattle.p10_candidates.specs.Candidates.{LoopEntry}
use Rattle.p10_approach.specs.Approaches.{Approached}
use Rattle.p10_approach.specs.Offers.{IsOffer}

-- ## Lists of claims

-- whatever nests from a depth on may follow
abbrev pub OpenFrom : ℕ → List Loop → Type 0
OpenFrom depth loops = (rest : List Loop) → ((m : ℕ) → depth ≤ m → NestFrom m rest) → NestFrom 0 (loops ++ rest)

pub open_less : (d e : ℕ) (loops : List Loop) → d ≤ e → OpenFrom e loops → OpenFrom d loops
open_less d e loops low h rest k = h rest (λ m i. k m (omega (arith, i, low)))

append_again : (xs : List Loop) (x : Loop) (ys : List Loop) → (xs ++ x ∷ []) ++ ys ≡ xs ++ x ∷ ys
append_again [] x ys = refl
append_again (y ∷ xs) x ys = ap (λ zs. y ∷ zs) (append_again xs x ys)

open_more : (d : ℕ) (loops : List Loop) (x : Loop) → x.depth ≡ d → OpenFrom d loops → OpenFrom (suc d) (loops ++ x ∷ [])
open_more d loops x e h rest k = subst (NestFrom 0) (sym (append_again loops x rest)) (h (x ∷ rest) (λ m i. (omega (arith, e, i), k (x.depth + 1) (omega (arith, e)))))

tasks_append : (loops : List Loop) (x : Loop) → loop_tasks (loops ++ x ∷ []) ≡ loop_tasks loops + task_number x.rank
tasks_append [] x = omega arith
tasks_append (y ∷ loops) x = let rest : loop_tasks (loops ++ x ∷ []) ≡ loop_tasks loops + task_number x.rank = tasks_append loops x in omega (arith, rest)

-- how many of these numbers are the task's
abbrev pub tasks_among : Option ℕ → List ℕ → ℕ
tasks_among task [] = 0
tasks_among task (n ∷ ns) = (if is_task task n then 1 else 0) + tasks_among task ns

-- the numbers of loops
abbrev pub numbers_in : List LoopHead → List ℕ
numbers_in heads = map (λ (h : LoopHead). h.number) heads

among_both : (task : Option ℕ) (xs ys : List LoopHead) → tasks_among task (numbers_in (xs ++ ys)) ≡ tasks_among task (numbers_in xs) + tasks_among task (numbers_in ys)
among_both task [] ys = omega arith
among_both task (x ∷ xs) ys = let rest : tasks_among task (numbers_in (xs ++ ys)) ≡ tasks_among task (numbers_in xs) + tasks_among task (numbers_in ys) = among_both task xs ys in omega (arith, rest)

pub no_task_among : (ns : List ℕ) → tasks_among None ns ≡ 0
no_task_among [] = refl
no_task_among (n ∷ ns) = let rest : tasks_among None ns ≡ 0 = no_task_among ns in omega (arith, rest)

past_task : (t k count : ℕ) → suc t ≤ k → tasks_among (Some t) (numbers_from k count) ≡ 0
past_task t k zero low = refl
past_task t k (suc count) low = at (nat_eq t k) refl (past_task t (k + 1) count (omega (arith, low)))
  where
    at : (b : Bool) → nat_eq t k ≡ b → tasks_among (Some t) (numbers_from (k + 1) count) ≡ 0 → (if b then 1 else 0) + tasks_among (Some t) (numbers_from (k + 1) count) ≡ 0
    at true e h = let same : t ≡ k = eqb-true t k e in absurd (omega (arith, same, low))
    at false e h = omega (arith, h)

pub one_task_among : (task : Option ℕ) (k count : ℕ) → tasks_among task (numbers_from k count) ≤ 1
one_task_among None k count = let none : tasks_among None (numbers_from k count) ≡ 0 = no_task_among (numbers_from k count) in omega (arith, none)
one_task_among (Some t) k zero = omega arith
one_task_among (Some t) k (suc count) = at (nat_eq t k) refl (past_task t (k + 1) count) (one_task_among (Some t) (k + 1) count)
  where
    at : (b : Bool) → nat_eq t k ≡ b → (suc t ≤ k + 1 → tasks_among (Some t) (numbers_from (k + 1) count) ≡ 0) → tasks_among (Some t) (numbers_from (k + 1) count) ≤ 1 → (if b then 1 else 0) + tasks_among (Some t) (numbers_from (k + 1) count) ≤ 1
    at true e h k1 = let same : t ≡ k = eqb-true t k e in let none : tasks_among (Some t) (numbers_from (k + 1) count) ≡ 0 = h (omega (arith, same)) in omega (arith, none)
    at false e h k1 = omega (arith, k1)

-- ## Where the task may stand

-- a claim isn't the task's, or stands in no loop
abbrev pub Shallow : Loop → Type 0
Shallow l = (task_number l.rank ≡ 0) ⊎ (l.depth ≡ 0)

abbrev mutual
  -- in a statement that stands in `depth` loops, no loop that stands in one is the task
  pub Free : Option ℕ → ℕ → PlainStatement → Type 0
  Free task depth (statement at form) = FreeForm task depth form

  -- the same for a form of statement
  pub FreeForm : Option ℕ → ℕ → PlainStatementForm → Type 0
  FreeForm task depth (block xs) = FreeAll task depth xs
  FreeForm task depth (if_then v x) = Free task depth x
  FreeForm task depth (if_else v x y) = Free task depth x × Free task depth y
  FreeForm task depth (loop head first tested third body) = ((is_task task head.number ≡ false) ⊎ (depth ≡ 0)) × Free task (suc depth) body
  FreeForm task depth (switch keyword v labels body) = Free task depth body
  FreeForm task depth form = Unit {0}

  -- the same for statements
  pub FreeAll : Option ℕ → ℕ → PlainStatements → Type 0
  FreeAll task depth no_statements = Unit {0}
  FreeAll task depth (more_statements x rest) = Free task depth x × FreeAll task depth rest

-- how many of these loops are the task
abbrev pub task_count : Option ℕ → List LoopHead → ℕ
task_count task heads = tasks_among task (numbers_in heads)

none_left : (task : Option ℕ) (xs ys : List LoopHead) → task_count task (xs ++ ys) ≡ 0 → task_count task xs ≡ 0
none_left task xs ys e = let both : task_count task (xs ++ ys) ≡ task_count task xs + task_count task ys = among_both task xs ys in omega (arith, e, both)

none_right : (task : Option ℕ) (xs ys : List LoopHead) → task_count task (xs ++ ys) ≡ 0 → task_count task ys ≡ 0
none_right task xs ys e = let both : task_count task (xs ++ ys) ≡ task_count task xs + task_count task ys = among_both task xs ys in omega (arith, e, both)

not_this : (b : Bool) (n : ℕ) → (if b then 1 else 0) + n ≡ 0 → (b ≡ false) × (n ≡ 0)
not_this true n e = absurd (omega (arith, e))
not_this false n e = (refl, omega (arith, e))

module _ (task : Option ℕ) where
  mutual
    none_free : (depth : ℕ) (x : PlainStatement) → task_count task (heads_in x) ≡ 0 → Free task depth x
    none_free depth (statement at form) e = none_free_form depth form e

    none_free_form : (depth : ℕ) (form : PlainStatementForm) → task_count task (heads_in_form form) ≡ 0 → FreeForm task depth form
    none_free_form depth (block xs) e = none_free_all depth xs e
    none_free_form depth (if_then v x) e = none_free depth x e
    none_free_form depth (if_else v x y) e = (none_free depth x (none_left task (heads_in x) (heads_in y) e), none_free depth y (none_right task (heads_in x) (heads_in y) e))
    none_free_form depth (loop head first tested third body) e =
        let apart = not_this (is_task task head.number) (task_count task (heads_in body)) e in (inl apart.0, none_free (suc depth) body apart.1)
    none_free_form depth (switch keyword v labels body) e = none_free depth body e
    none_free_form depth form e = tt

    none_free_all : (depth : ℕ) (xs : PlainStatements) → task_count task (heads_of xs) ≡ 0 → FreeAll task depth xs
    none_free_all depth no_statements e = tt
    none_free_all depth (more_statements x rest) e = (none_free depth x (none_left task (heads_in x) (heads_of rest) e), none_free_all depth rest (none_right task (heads_in x) (heads_of rest) e))

-- the task among items
that_counts : (t : ℕ) (x : PlainStatement) → loop_number (Some x) ≡ Some t → (1 ≤ task_count (Some t) (heads_in x)) × (task_count (Some t) (heads_in x) ≤ 1 → Free (Some t) 0 x)
that_counts t (statement at (loop head first tested third body)) e = by_test (nat_eq t head.number) refl
  where
    same : head.number ≡ t
    same = same_Some _ _ e

    by_test : (b : Bool) → nat_eq t head.number ≡ b → (1 ≤ (if b then 1 else 0) + task_count (Some t) (heads_in body)) × ((if b then 1 else 0) + task_count (Some t) (heads_in body) ≤ 1 → Free (Some t) 0 (statement at (loop head first tested third body)))
    by_test true q = (omega arith, λ few. (inr refl, none_free (Some t) 1 body (omega (arith, few))))
    by_test false q = absurd (eqb-false t head.number q (sym same))
that_counts t (statement at form) e = absurd (none-some _ e)

item_counts : (t : ℕ) (xs : PlainStatements) (k : ℕ) → loop_number (slice_get (statements_list xs) k) ≡ Some t → 1 ≤ task_count (Some t) (heads_of xs)
item_counts t no_statements k e = absurd (none-some _ e)
item_counts t (more_statements x rest) zero e =
    let both : task_count (Some t) (heads_in x ++ heads_of rest) ≡ task_count (Some t) (heads_in x) + task_count (Some t) (heads_of rest) = among_both (Some t) (heads_in x) (heads_of rest) in
    let one = (that_counts t x e).0 in omega (arith, both, one)
item_counts t (more_statements x rest) (suc k) e =
    let both : task_count (Some t) (heads_in x ++ heads_of rest) ≡ task_count (Some t) (heads_in x) + task_count (Some t) (heads_of rest) = among_both (Some t) (heads_in x) (heads_of rest) in
    let one : 1 ≤ task_count (Some t) (heads_of rest) = item_counts t rest k e in omega (arith, both, one)

-- where the task is an item, and no other loop has its number, it stands in no loop
items_free : (t : ℕ) (xs : PlainStatements) (k : ℕ) → loop_number (slice_get (statements_list xs) k) ≡ Some t → task_count (Some t) (heads_of xs) ≤ 1 → FreeAll (Some t) 0 xs
items_free t no_statements k e few = tt
items_free t (more_statements x rest) zero e few =
    let both : task_count (Some t) (heads_in x ++ heads_of rest) ≡ task_count (Some t) (heads_in x) + task_count (Some t) (heads_of rest) = among_both (Some t) (heads_in x) (heads_of rest) in
    let this = that_counts t x e in
    let one = this.0 in
    (this.1 (omega (arith, few, both)), none_free_all (Some t) 0 rest (omega (arith, few, both, one)))
items_free t (more_statements x rest) (suc k) e few =
    let both : task_count (Some t) (heads_in x ++ heads_of rest) ≡ task_count (Some t) (heads_in x) + task_count (Some t) (heads_of rest) = among_both (Some t) (heads_in x) (heads_of rest) in
    let one : 1 ≤ task_count (Some t) (heads_of rest) = item_counts t rest k e in
    (none_free (Some t) 0 x (omega (arith, few, both, one)), items_free t rest k e (omega (arith, few, both)))

-- in a function whose loops are numbered in order
pub function_free : (p : PlainProgram) (n : ℕ) (f : PlainFunction) → task_count (task_loop_number p n f) (heads_of f.body) ≤ 1 → FreeAll (task_loop_number p n f) 0 f.body
function_free p n f few = at (nat_eq n p.main) few
  where
    none : (task : Option ℕ) → task ≡ None → FreeAll task 0 f.body
    none task e = none_free_all task 0 f.body (ap (λ o. task_count o (heads_of f.body)) e ∙ no_task_among (numbers_in (heads_of f.body)))

    numbered : (k : ℕ) (o : Option ℕ) → loop_number (slice_get (main_items f) k) ≡ o → task_count o (heads_of f.body) ≤ 1 → FreeAll o 0 f.body
    numbered k None e few = none None refl
    numbered k (Some t) e few = items_free t f.body k e few

    placed : (o : Option ℕ) → task_count (loop_number_at (main_items f) o) (heads_of f.body) ≤ 1 → FreeAll (loop_number_at (main_items f) o) 0 f.body
    placed None few = none None refl
    placed (Some k) few = numbered k (loop_number (slice_get (main_items f) k)) refl few

    at : (b : Bool) → task_count (if b then loop_number_at (main_items f) p.task else None) (heads_of f.body) ≤ 1 → FreeAll (if b then loop_number_at (main_items f) p.task else None) 0 f.body
    at true few = placed p.task few
    at false few = none None refl

-- ## Loops that are found

module _ (p : PlainProgram) (f : PlainFunction) (calls : Claims) (results : ResultsOfTypes p (Some calls)) (task : Option ℕ)
    (offers : ℕ → ℕ → Option LoopParts → LoopEntry → Option Approached) (are : (k depth : ℕ) (parts : Option LoopParts) (l : LoopEntry) → IfSome (offers k depth parts l) (IsOffer f l depth)) where
  abbrev s : Search
  s = record { calls = calls; variables = f.variables; task = task; offers = offers }

  abbrev Typed : Option Environment → Type 0
  Typed o = MaybeOfTypes f.variables o

  -- loops found so far: their claims fit, loops may follow from a depth on, and `tasks` of them are tasks
  pub record Right (depth tasks : ℕ) (found : LoopsFound) : Type 0 where
    pub fits : AllByRecursion (LoopFits f.variables) found.claims
    pub nesting : OpenFrom depth found.claims
    pub tasks_are : loop_tasks found.claims ≡ tasks
    pub shallow : AllByRecursion Shallow found.claims
    pub marked : length found.approaches ≡ length found.claims
    pub near : AllByRecursion (AreNear f.variables) found.approaches

  pub right_so : (depth t u : ℕ) (found : LoopsFound) → t ≡ u → Right depth t found → Right depth u found
  right_so depth t u found e h = record { fits = h.fits; nesting = h.nesting; tasks_are = h.tasks_are ∙ e; shallow = h.shallow; marked = h.marked; near = h.near }

  pub lines_of : (loops : List Loop) → AllByRecursion (LoopFits f.variables) loops → AllByRecursion (LinesOfTypes f.variables) loops
  lines_of loops h = all_more (LoopFits f.variables) (LinesOfTypes f.variables) loops (λ l k. k.lines) h

  -- ## Environments on the way

  where_typed : (r : Region) → Lies p f r → (v : PlainValue) → IsWholeValue (around r) v → (truth : Bool) (env : Option Environment) → Typed env → Typed (known_where_value s v truth env)
  where_typed r l v i truth env h = maybe_then f.variables env _ h (λ e k. known_types p f (Some calls) results None None (around r) (sees p f r l) truth v i e k)

  after_typed : (r : Region) → Lies p f r → (x : PlainStatement) → IsWholeStatement r x → (found : LoopsFound) → AllByRecursion (LoopFits f.variables) found.claims → (env : Option Environment) → Typed env → Typed (known_after_statement s found x env)
  after_typed r l x i found fits env h = maybe_then f.variables env _ h (λ e k. (statement_types p f (Some calls) results (Some found.claims) (lines_of found.claims fits) None r l x i e k).normal)

  entry_typed : (r : Region) → Lies p f r → (first : PlainStatements) → AreWholeStatements r first → (found : LoopsFound) → AllByRecursion (LoopFits f.variables) found.claims → (env : Option Environment) → Typed env → Typed (known_at_entry s found first env)
  entry_typed r l first i found fits env h = maybe_then f.variables env _ h (λ e k. (statements_types p f (Some calls) results (Some found.claims) (lines_of found.claims fits) None r l first i e k).normal)

  chosen_typed : (v : PlainValue) (env : Option Environment) → Typed env → Typed (known_after_value s v env)
  chosen_typed v env h = maybe_then f.variables env _ h (λ e k. if_types f.variables f.result (has_value (Some calls) v e) (Some e) None k tt)

  in_body : (r : Region) → Lies p f r → (keyword : LoopKeyword) (tested : Option PlainValue) → IsMaybeTest (around r) tested → (head : Environment) → AreOfTypes f.variables head → Typed (known_in_body s keyword tested head)
  in_body r l Do tested i head h = h
  in_body r l While None i head h = h
  in_body r l While (Some v) i head h = where_typed r l v i.whole true (Some head) h
  in_body r l For None i head h = h
  in_body r l For (Some v) i head h = where_typed r l v i.whole true (Some head) h

  -- ## One loop

  module _ (r : Region) (l : Lies p f r) (depth : ℕ) (head : LoopHead) (first : PlainStatements) (tested : Option PlainValue) (third : PlainStatements) (body : PlainStatement) (whole : IsWholeStatementForm r (loop head first tested third body)) where
    abbrev inner : Region
    inner = after_all r first

    lies : Lies p f inner
    lies = all_lies p f r first l

    body_lies : Lies p f (record inner { in_loop = true })
    body_lies = record { program_is = lies.program_is; function_is = lies.function_is }

    abbrev parts : Option LoopParts
    parts = Some (record { head = head; first = first; tested = tested; third = third; body = body })

    abbrev rounds : Rounds
    rounds = trial_rounds f.variables head.keyword tested third body

    rounds_go : (env : Environment) → AreOfTypes f.variables env → Typed (rounds env).back
    rounds_go env h = (round_types p f None (no_results p) None None (around inner) (sees p f inner lies) head.keyword tested whole.1 (λ env. pass_statements (trial_manner f.variables) third env) (λ env. pass_statement (trial_manner f.variables) body env)
        (λ e k. statements_types p f None (no_results p) None tt None inner lies third whole.2 e k) (λ e k. statement_types p f None (no_results p) None tt None (record inner { in_loop = true }) body_lies body whole.3 e k) env h).back

    reached_good : (b : Bool) (assigned : ℕ → Bool) (o : Option Environment) → Typed o → Good f.variables depth (if b then 1 else 0) (reached_found (offers head.number depth parts) b head.span rounds (loop_entry s assigned tested) depth o).claim
    reached_good true assigned None h = record { fits = unreached_fits p f (around inner) (sees p f inner lies) depth Task tt; depth_is = refl; tasks_are = refl }
    reached_good false assigned None h = record { fits = unreached_fits p f (around inner) (sees p f inner lies) depth One tt; depth_is = refl; tasks_are = refl }
    reached_good b assigned (Some entry) h =
        entered_good p f (around inner) (sees p f inner lies) assigned tested entry h rounds rounds_go depth (offers head.number depth parts (loop_entry s assigned tested entry)) (are head.number depth parts (loop_entry s assigned tested entry)) b head.span whole.1

    reached_near : (b : Bool) (assigned : ℕ → Bool) (o : Option Environment) → Typed o → AreNear f.variables (reached_found (offers head.number depth parts) b head.span rounds (loop_entry s assigned tested) depth o).approach
    reached_near b assigned None h = tt
    reached_near b assigned (Some entry) h =
        entered_near p f (around inner) (sees p f inner lies) assigned tested entry h rounds rounds_go depth (offers head.number depth parts (loop_entry s assigned tested entry)) (are head.number depth parts (loop_entry s assigned tested entry)) b head.span

    -- what is known in its body under its claim
    under_typed : (x : Loop) → LoopFits f.variables x → (o : Option Environment) → Typed o → Typed (known_under s head.keyword tested x o)
    under_typed x fits o h = maybe_then f.variables o _ h (λ e k. in_body inner lies head.keyword tested whole.1 (head_of x f.variables e) (head_types f.variables x e fits.lines k))

    where_shallow : (b : Bool) (x : Loop) → (b ≡ false) ⊎ (depth ≡ 0) → Good f.variables depth (if b then 1 else 0) x → Shallow x
    where_shallow true x (inl e) g = absurd cc
    where_shallow false x (inl e) g = inl g.tasks_are
    where_shallow b x (inr e) g = inr (g.depth_is ∙ e)

    with_right : (found : LoopsFound) (x : LoopFound) (t u : ℕ) → Right depth t found → Good f.variables depth u x.claim → Shallow x.claim → AreNear f.variables x.approach → Right (suc depth) (t + u) (with_loop found x)
    with_right found x t u h g shallow near = record {
      fits = all_append (LoopFits f.variables) found.claims (x.claim ∷ []) h.fits (g.fits, tt);
      nesting = open_more depth found.claims x.claim g.depth_is h.nesting;
      tasks_are = tasks_append found.claims x.claim ∙ (let a = h.tasks_are in let b = g.tasks_are in omega (arith, a, b));
      shallow = all_append Shallow found.claims (x.claim ∷ []) h.shallow (shallow, tt);
      marked = length-append found.approaches (x.approach ∷ []) ∙ (ap (λ n. n + 1) h.marked ∙ sym (length-append found.claims (x.claim ∷ [])));
      near = all_append (AreNear f.variables) found.approaches (x.approach ∷ []) h.near (near, tt);
    }

    -- what is there before the loops in its body
    record Passed (t : ℕ) (x : LoopPassed) : Type 0 where
      found : Right (suc depth) (t + (if is_task task head.number then 1 else 0)) x.found
      inside : Typed x.inside

    passed : (t : ℕ) (env : Option Environment) (found : LoopsFound) → Typed env → Right depth t found → (is_task task head.number ≡ false) ⊎ (depth ≡ 0) → Passed t (loop_passed s depth head first tested third body env found)
    passed t env found h k top =
        let entry : Typed (known_at_entry s found first env) = entry_typed r l first whole.0 found k.fits env h in
        let good : Good f.variables depth (if is_task task head.number then 1 else 0) _ = reached_good (is_task task head.number) (assigned_in s (loop head first tested third body)) (known_at_entry s found first env) entry in
        record { found = with_right found _ t (if is_task task head.number then 1 else 0) k good (where_shallow (is_task task head.number) _ top good) (reached_near (is_task task head.number) (assigned_in s (loop head first tested third body)) (known_at_entry s found first env) entry); inside = under_typed _ good.fits (known_at_entry s found first env) entry }

  -- ## All loops

  abbrev count : List LoopHead → ℕ
  count heads = tasks_among task (numbers_in heads)

  both_counted : (t : ℕ) (xs ys : List LoopHead) → (t + count xs) + count ys ≡ t + count (xs ++ ys)
  both_counted t xs ys = let both : count (xs ++ ys) ≡ count xs + count ys = among_both task xs ys in omega (arith, both)

  mutual
    pub statement_right : (r : Region) → Lies p f r → (depth t : ℕ) (x : PlainStatement) → IsWholeStatement r x → Free task depth x → (env : Option Environment) → Typed env → (found : LoopsFound) → Right depth t found → Right depth (t + count (heads_in x)) (loops_in s depth x env found)
    statement_right r l depth t (statement at form) i w env h found k = form_right r l depth t form i w env h found k

    form_right : (r : Region) → Lies p f r → (depth t : ℕ) (form : PlainStatementForm) → IsWholeStatementForm r form → FreeForm task depth form → (env : Option Environment) → Typed env → (found : LoopsFound) → Right depth t found → Right depth (t + count (heads_in_form form)) (loops_in_form s depth form env found)
    form_right r l depth t (block xs) i w env h found k = statements_right r l depth t xs i w env h found k
    form_right r l depth t (if_then v x) i w env h found k = statement_right r l depth t x i.1 w (known_where_value s v true env) (where_typed r l v i.0.whole true env h) found k
    form_right r l depth t (if_else v x y) i w env h found k =
        let first = statement_right r l depth t x i.1 w.0 (known_where_value s v true env) (where_typed r l v i.0.whole true env h) found k in
        right_so depth _ _ _ (both_counted t (heads_in x) (heads_in y)) (statement_right r l depth (t + count (heads_in x)) y i.2 w.1 (known_where_value s v false env) (where_typed r l v i.0.whole false env h) _ first)
    form_right r l depth t (loop head first tested third body) i w env h found k =
        let one : Passed r l depth head first tested third body i t (loop_passed s depth head first tested third body env found) = passed r l depth head first tested third body i t env found h k w.0 in
        let inside = statement_right (record (after_all r first) { in_loop = true }) (body_lies r l depth head first tested third body i) (suc depth) (t + (if is_task task head.number then 1 else 0)) body i.3 w.1 _ one.inside _ one.found in
        record { fits = inside.fits; nesting = open_less depth (suc depth) _ (omega arith) inside.nesting; tasks_are = inside.tasks_are ∙ omega arith; shallow = inside.shallow; marked = inside.marked; near = inside.near }
    form_right r l depth t (switch keyword v labels body) i w env h found k = switch_right (record r { in_switch = true }) (record { program_is = l.program_is; function_is = l.function_is }) depth t labels body i.1 w _ (chosen_typed v env h) found k
    form_right r l depth t form i w env h found k = right_so depth _ _ found (omega arith) k

    pub statements_right : (r : Region) → Lies p f r → (depth t : ℕ) (xs : PlainStatements) → AreWholeStatements r xs → FreeAll task depth xs → (env : Option Environment) → Typed env → (found : LoopsFound) → Right depth t found → Right depth (t + count (heads_of xs)) (loops_in_all s depth xs env found)
    statements_right r l depth t no_statements i w env h found k = right_so depth _ _ found (omega arith) k
    statements_right r l depth t (more_statements x rest) i w env h found k =
        let next = statement_right r l depth t x i.0 w.0 env h found k in
        right_so depth _ _ _ (both_counted t (heads_in x) (heads_of rest))
        (statements_right (after r x) (after_lies p f r x l) depth (t + count (heads_in x)) rest i.1 w.1 _ (after_typed r l x i.0 (loops_in s depth x env found) next.fits env h) _ next)

    switch_right : (r : Region) → Lies p f r → (depth t : ℕ) (labels : PlainLabels) (x : PlainStatement) → IsWholeStatement r x → Free task depth x → (env : Option Environment) → Typed env → (found : LoopsFound) → Right depth t found → Right depth (t + count (heads_in x)) (loops_in_switch s depth labels x env found)
    switch_right r l depth t labels (statement at form) i w env h found k = case_right r l depth t labels form i w env h found k _ (form_right r l depth t form i w None tt found k)

    case_right : (r : Region) → Lies p f r → (depth t : ℕ) (labels : PlainLabels) (form : PlainStatementForm) → IsWholeStatementForm r form → FreeForm task depth form → (env : Option Environment) → Typed env → (found : LoopsFound) → Right depth t found
        → (other : LoopsFound) → Right depth (t + count (heads_in_form form)) other → Right depth (t + count (heads_in_form form)) (loops_in_cases s depth labels form env found other)
    case_right r l depth t labels (block xs) i w env h found k other o = from_right r l depth t labels 0 xs i w env h None tt found k
    case_right r l depth t labels form i w env h found k other o = o

    from_right : (r : Region) → Lies p f r → (depth t : ℕ) (labels : PlainLabels) (n : ℕ) (xs : PlainStatements) → AreWholeStatements r xs → FreeAll task depth xs → (env : Option Environment) → Typed env → (before : Option Environment) → Typed before → (found : LoopsFound) → Right depth t found
        → Right depth (t + count (heads_of xs)) (loops_from s depth labels n xs env before found)
    from_right r l depth t labels n no_statements i w env h before b found k = right_so depth _ _ found (omega arith) k
    from_right r l depth t labels n (more_statements x rest) i w env h before b found k =
        let enters : Option Environment = if is_labelled n labels then hull_reached before env else before in
        let entered : Typed enters = if_types f.variables f.result (is_labelled n labels) (hull_reached before env) before (reached_types f.variables before env b h) b in
        let next = statement_right r l depth t x i.0 w.0 enters entered found k in
        right_so depth _ _ _ (both_counted t (heads_in x) (heads_of rest))
        (from_right (after r x) (after_lies p f r x l) depth (t + count (heads_in x)) labels (suc n) rest i.1 w.1 env h _ (after_typed r l x i.0 (loops_in s depth x enters found) next.fits enters entered) _ next)
