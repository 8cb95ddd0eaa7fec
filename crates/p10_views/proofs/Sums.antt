-- Erased functions cost the same, nest calls as deeply, and have their task loop at the same place.
use Rattle.std.proofs.Common.{◌≡◌, ◌∙◌, ℕ, zero, suc, ◌+◌, List, [], ◌∷◌, map, sum, take, Option, Some, None, option_map, refl, sym, ap}
use Rattle.std.specs.Prelude.{max, slice_get}
use Rattle.std.specs.List.{AllByRecursion}
use Rattle.std.proofs.lemmas.Option.{slice_get-map}
use Rattle.p10_core.specs.Typed.{PlainValue, PlainStatement, statement, set, update, copy, evaluate, asserts, declare, declare_static, block, if_then, if_else, loop, switch, break, continue, return, empty, mark, PlainStatements, no_statements, more_statements, statements_list, statements_of_list, PlainVariable, PlainFunction, PlainProgram}
use Rattle.p10_core.specs.Nodes.{nodes_of_statements}
use Rattle.p10_core.specs.WholePrograms.{frame_bytes}
use Rattle.p10_cert.specs.Claims.{Func}
use Rattle.p10_meaning.specs.Runs.{Task, task_in}
use Rattle.p10_sums.specs.Counting.{calls_claimed, bytes_claimed}
use Rattle.p10_sums.specs.Costs.{statements_cost, cost_of, task_test_cost, task_cost, turn_cost}
use Rattle.p10_sums.specs.Depths.{callees, greatest_number, depth_of}
use Rattle.p10_check.specs.Shapes.{head_in, head_at}
use Rattle.p10_views.specs.Erased.{erased_head, erased_value, erased_statement, erased_statements, erased_variable, erased_function}
use Rattle.p10_views.specs.Views.{SayTheSame}
use Rattle.p10_views.proofs.Called.{MaybeCalls, StatementCalls, StatementsCall}
use Rattle.p10_views.proofs.Callees.{in_statements}
use Rattle.p10_views.proofs.Copied.{CopyObjects, prefix_copies, TaskCopies, task_copies}
use Rattle.p10_views.proofs.Costs.{Count, first_of, second_of, Shared, value_same, statement_same, statements_same}

-- ---- items

list_erased : (p : PlainProgram) (ss : PlainStatements) → statements_list (erased_statements p ss) ≡ map (erased_statement p) (statements_list ss)
list_erased p no_statements = refl
list_erased p (more_statements s rest) = ap (λ more. erased_statement p s ∷ more) (list_erased p rest)

item_erased : (p : PlainProgram) (ss : PlainStatements) (n : ℕ) → slice_get (statements_list (erased_statements p ss)) n ≡ option_map (erased_statement p) (slice_get (statements_list ss) n)
item_erased p ss n = ap (λ items. slice_get items n) (list_erased p ss) ∙ slice_get-map (erased_statement p) (statements_list ss) n

prefix_erased : (p : PlainProgram) (n : ℕ) (ss : PlainStatements) → statements_of_list (take n (statements_list (erased_statements p ss))) ≡ erased_statements p (statements_of_list (take n (statements_list ss)))
prefix_erased p zero ss = refl
prefix_erased p (suc n) no_statements = refl
prefix_erased p (suc n) (more_statements s rest) = ap (λ more. more_statements (erased_statement p s) more) (prefix_erased p n rest)

prefix_calls : (T : ℕ → Type 0) (n : ℕ) (ss : PlainStatements) → StatementsCall T ss → StatementsCall T (statements_of_list (take n (statements_list ss)))
prefix_calls T zero ss h = tt
prefix_calls T (suc n) no_statements h = tt
prefix_calls T (suc n) (more_statements s rest) h = (h.0, prefix_calls T n rest h.1)

-- ---- the task loop

pub head_erased : (p : PlainProgram) (ss : PlainStatements) (task : Option ℕ) → head_at (statements_list (erased_statements p ss)) task ≡ option_map erased_head (head_at (statements_list ss) task)
head_erased p ss None = refl
head_erased p ss (Some n) = ap head_in (item_erased p ss n) ∙ in_item (slice_get (statements_list ss) n)
  where
    in_item : (s : Option PlainStatement) → head_in (option_map (erased_statement p) s) ≡ option_map erased_head (head_in s)
    in_item None = refl
    in_item (Some (statement at (set q v))) = refl
    in_item (Some (statement at (update kind op t q v))) = refl
    in_item (Some (statement at (copy q r))) = refl
    in_item (Some (statement at (evaluate v))) = refl
    in_item (Some (statement at (asserts call v))) = refl
    in_item (Some (statement at (declare n initializer))) = refl
    in_item (Some (statement at (declare_static n))) = refl
    in_item (Some (statement at (block ss))) = refl
    in_item (Some (statement at (if_then v s))) = refl
    in_item (Some (statement at (if_else v s t))) = refl
    in_item (Some (statement at (loop head first test third body))) = refl
    in_item (Some (statement at (switch keyword v labels body))) = refl
    in_item (Some (statement at break)) = refl
    in_item (Some (statement at continue)) = refl
    in_item (Some (statement at (return keyword v))) = refl
    in_item (Some (statement at empty)) = refl
    in_item (Some (statement at (mark kind))) = refl

abbrev erased_task : PlainProgram → Task → Task
erased_task p task = record { tested = option_map (erased_value p) task.tested; body = erased_statement p task.body }

task_erased : (p : PlainProgram) (s : Option PlainStatement) → task_in (option_map (erased_statement p) s) ≡ option_map (erased_task p) (task_in s)
task_erased p None = refl
task_erased p (Some (statement at (set q v))) = refl
task_erased p (Some (statement at (update kind op t q v))) = refl
task_erased p (Some (statement at (copy q r))) = refl
task_erased p (Some (statement at (evaluate v))) = refl
task_erased p (Some (statement at (asserts call v))) = refl
task_erased p (Some (statement at (declare n initializer))) = refl
task_erased p (Some (statement at (declare_static n))) = refl
task_erased p (Some (statement at (block ss))) = refl
task_erased p (Some (statement at (if_then v s))) = refl
task_erased p (Some (statement at (if_else v s t))) = refl
task_erased p (Some (statement at (loop head first test third body))) = refl
task_erased p (Some (statement at (switch keyword v labels body))) = refl
task_erased p (Some (statement at break)) = refl
task_erased p (Some (statement at continue)) = refl
task_erased p (Some (statement at (return keyword v))) = refl
task_erased p (Some (statement at empty)) = refl
task_erased p (Some (statement at (mark kind))) = refl

abbrev TaskCalls : (ℕ → Type 0) → Option Task → Type 0
TaskCalls T None = Unit {0}
TaskCalls T (Some task) = MaybeCalls T task.tested × StatementCalls T task.body

in_statement : (T : ℕ → Type 0) (s : PlainStatement) → StatementCalls T s → TaskCalls T (task_in (Some s))
in_statement T (statement at (set q v)) h = tt
in_statement T (statement at (update kind op t q v)) h = tt
in_statement T (statement at (copy q r)) h = tt
in_statement T (statement at (evaluate v)) h = tt
in_statement T (statement at (asserts call v)) h = tt
in_statement T (statement at (declare n initializer)) h = tt
in_statement T (statement at (declare_static n)) h = tt
in_statement T (statement at (block ss)) h = tt
in_statement T (statement at (if_then v s)) h = tt
in_statement T (statement at (if_else v s t)) h = tt
in_statement T (statement at (loop head first test third body)) h = (h.0.1, h.1.1)
in_statement T (statement at (switch keyword v labels body)) h = tt
in_statement T (statement at break) h = tt
in_statement T (statement at continue) h = tt
in_statement T (statement at (return keyword v)) h = tt
in_statement T (statement at empty) h = tt
in_statement T (statement at (mark kind)) h = tt

task_calls : (T : ℕ → Type 0) (ss : PlainStatements) (n : ℕ) → StatementsCall T ss → TaskCalls T (task_in (slice_get (statements_list ss) n))
task_calls T no_statements n h = tt
task_calls T (more_statements s rest) zero h = in_statement T s h.0
task_calls T (more_statements s rest) (suc n) h = task_calls T rest n h.1

-- ---- steps

pub cost_same : (t : Count) (task : Option ℕ) (f : PlainFunction) → StatementsCall (Shared t) f.body → CopyObjects t.program.structures f.body → cost_of (second_of t) task (erased_function t.program f) ≡ cost_of (first_of t) task f
cost_same t None f h w = λ i. 1 + statements_same t f.body h w i
cost_same t (Some n) f h w =
    ap (λ ss. 1 + (statements_cost (second_of t) ss + 1)) (prefix_erased t.program n f.body)
    ∙ (λ i. 1 + (statements_same t (statements_of_list (take n (statements_list f.body))) (prefix_calls (Shared t) n f.body h) (prefix_copies t.program.structures n f.body w) i + 1))

tested_same : (t : Count) (v : Option PlainValue) → MaybeCalls (Shared t) v → task_test_cost (second_of t) (option_map (erased_value t.program) v) ≡ task_test_cost (first_of t) v
tested_same t None h = refl
tested_same t (Some v) h = value_same t v h

task_same : (t : Count) (task : Option Task) → TaskCalls (Shared t) task → TaskCopies t.program.structures task → task_cost (second_of t) (option_map (erased_task t.program) task) ≡ task_cost (first_of t) task
task_same t None h w = refl
task_same t (Some task) h w = λ i. tested_same t task.tested h.0 i + statement_same t task.body h.1 w i

pub turn_same : (t : Count) (task : Option ℕ) (f : PlainFunction) → StatementsCall (Shared t) f.body → CopyObjects t.program.structures f.body → turn_cost (second_of t) task (erased_function t.program f) ≡ turn_cost (first_of t) task f
turn_same t None f h w = refl
turn_same t (Some n) f h w =
    ap (λ s. task_cost (second_of t) (task_in s)) (item_erased t.program f.body n)
    ∙ ap (task_cost (second_of t)) (task_erased t.program (slice_get (statements_list f.body) n))
    ∙ task_same t (task_in (slice_get (statements_list f.body) n)) (task_calls (Shared t) f.body n h) (task_copies t.program.structures f.body n w)

-- ---- depths

greatest_same : (say : Option Func → ℕ) (these others : List Func) (called : List ℕ) → AllByRecursion (SayTheSame these others) called
    → greatest_number (map (λ g. say (slice_get others g)) called) ≡ greatest_number (map (λ g. say (slice_get these g)) called)
greatest_same say these others [] h = refl
greatest_same say these others (g ∷ called) h = λ i. max (say (sym h.0 i)) (greatest_same say these others called h.1 i)

pub calls_same : (p : PlainProgram) (these others : List Func) (f : PlainFunction) → AllByRecursion (SayTheSame these others) (callees (nodes_of_statements f.body))
    → (depth_of others (erased_function p f)).calls ≡ (depth_of these f).calls
calls_same p these others f h =
    ap (λ called. 1 + greatest_number (map (λ g. calls_claimed (slice_get others g)) called)) (in_statements p f.body)
    ∙ ap (λ n. 1 + n) (greatest_same calls_claimed these others (callees (nodes_of_statements f.body)) h)

sizes_erased : (p : PlainProgram) (vs : List PlainVariable) → map (λ (v : PlainVariable). v.bytes) (map (erased_variable p) vs) ≡ map (λ (v : PlainVariable). v.bytes) vs
sizes_erased p [] = refl
sizes_erased p (v ∷ vs) = ap (λ sizes. v.bytes ∷ sizes) (sizes_erased p vs)

pub bytes_same : (p : PlainProgram) (these others : List Func) (f : PlainFunction) → AllByRecursion (SayTheSame these others) (callees (nodes_of_statements f.body))
    → (depth_of others (erased_function p f)).bytes ≡ (depth_of these f).bytes
bytes_same p these others f h =
    ap (λ called. frame_bytes (erased_function p f) + greatest_number (map (λ g. bytes_claimed (slice_get others g)) called)) (in_statements p f.body)
    ∙ (λ i. sum (sizes_erased p f.variables i) + greatest_same bytes_claimed these others (callees (nodes_of_statements f.body)) h i)
