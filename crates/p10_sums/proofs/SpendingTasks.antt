-- The part of `main` before its task loop, and the turns of that loop, take at most what they cost.
use Rattle.std.proofs.Common.{◌≡◌, ℕ, zero, suc, ◌+◌, ◌≤◌, Bool, List, [], ◌++◌, take, refl, sym, ◌∙◌, ap, subst, arith, Option, Some, None, slice_get, append_assoc}
use Rattle.p10_core.specs.Typed.{PlainValue, PlainStatement, statement, loop, PlainStatements, no_statements, more_statements, statements_list, statements_of_list, PlainFunction}
use Rattle.p10_core.specs.Nodes.{PlainNode, nodes_of_maybe, nodes_of_statement, nodes_of_statements}
use Rattle.p10_core.specs.WholePrograms.{frame_bytes}
use Rattle.p10_cert.specs.Claims.{Func}
use Rattle.p10_meaning.specs.Values.{Setting}
use Rattle.p10_meaning.specs.Statements.{execute_from}
use Rattle.p10_meaning.specs.Calling.{Depth, deeper, raised, Entered, entered, setting_of, call_at}
use Rattle.p10_meaning.specs.Runs.{Task, task_in, task_test, task_turn}
use Rattle.p10_sums.specs.Counting.{Counting, counting_of}
use Rattle.p10_sums.specs.Costs.{statement_cost, statements_cost, task_test_cost, task_cost}
use Rattle.p10_sums.specs.Depths.{depth_of, effect_of}
use Rattle.p10_sums.specs.Keeping.{TestKeeps}
use Rattle.p10_sums.specs.Laws.{Takes, CallKeeps, FirstPartsTakeWhatTheyCost, TurnsTakeWhatTheyCost}
use Rattle.p10_sums.proofs.Covering.{Covers, covers_left, covers_right}
use Rattle.p10_sums.proofs.Spending.{Same, takes_from, takes_more, takes_here, takes_changed, takes_step, takes_plain, takes_then, takes_after, takes_if}
use Rattle.p10_sums.proofs.SpendingValues.{same}
use Rattle.p10_sums.proofs.SpendingLoops.{lower, go_any}
use Rattle.p10_sums.proofs.SpendingStatements.{CoversLoop, covers_loop, entered_same, raised_spends, no_first, test_takes, statement_takes, from_takes}

-- the nodes of the first items, and the others
record Begins (whole first : List PlainNode) : Type 0 where
  pub rest : List PlainNode
  pub is : whole ≡ first ++ rest

first_nodes : (i : ℕ) (ss : PlainStatements) → Begins (nodes_of_statements ss) (nodes_of_statements (statements_of_list (take i (statements_list ss))))
first_nodes zero ss = record { rest = nodes_of_statements ss; is = refl }
first_nodes (suc i) no_statements = record { rest = []; is = refl }
first_nodes (suc i) (more_statements x ss) =
    let b : Begins (nodes_of_statements ss) (nodes_of_statements (statements_of_list (take i (statements_list ss)))) = first_nodes i ss in
    record { rest = b.rest; is = ap (λ ns. nodes_of_statement x ++ ns) b.is ∙ sym (append_assoc (nodes_of_statement x) (nodes_of_statements (statements_of_list (take i (statements_list ss)))) b.rest) }

module _ (functions : List Func) (depth : Depth) (C B : ℕ) (A : Bool) where
  covers_first : (i : ℕ) (ss : PlainStatements) → Covers functions depth C B A (nodes_of_statements ss) → Covers functions depth C B A (nodes_of_statements (statements_of_list (take i (statements_list ss))))
  covers_first i ss h =
      let b : Begins (nodes_of_statements ss) (nodes_of_statements (statements_of_list (take i (statements_list ss)))) = first_nodes i ss in
      let P : List PlainNode → Type 0 = λ ns. Covers functions depth C B A ns in
      covers_left functions depth C B A (nodes_of_statements (statements_of_list (take i (statements_list ss)))) b.rest (subst P b.is h)

  covers_item : (i : ℕ) (ss : PlainStatements) (x : PlainStatement) → slice_get (statements_list ss) i ≡ Some x → Covers functions depth C B A (nodes_of_statements ss) → Covers functions depth C B A (nodes_of_statement x)
  covers_item i no_statements x e h = absurd cc
  covers_item zero (more_statements y ss) x e h =
      let P : PlainStatement → Type 0 = λ z. Covers functions depth C B A (nodes_of_statement z) in
      let same_item : y ≡ x = cc in
      subst P same_item (covers_left functions depth C B A (nodes_of_statement y) (nodes_of_statements ss) h)
  covers_item (suc i) (more_statements y ss) x e h = covers_item i ss x e (covers_right functions depth C B A (nodes_of_statement y) (nodes_of_statements ss) h)

-- a test and a body that are covered
record CoversTask (functions : List Func) (depth : Depth) (C B : ℕ) (A : Bool) (task : Task) : Type 0 where
  pub test : Covers functions depth C B A (nodes_of_maybe task.tested)
  pub body : Covers functions depth C B A (nodes_of_statement task.body)

covers_task : (functions : List Func) (depth : Depth) (C B : ℕ) (A : Bool) (x : PlainStatement) (task : Task) → task_in (Some x) ≡ Some task → Covers functions depth C B A (nodes_of_statement x) → CoversTask functions depth C B A task
covers_task functions depth C B A (statement at (loop head first tested third body)) task e h =
    let covered : CoversLoop functions depth C B A (nodes_of_statements first) (nodes_of_maybe tested) (nodes_of_statements third) (nodes_of_statement body) =
    covers_loop functions depth C B A head.keyword (nodes_of_statements first) (nodes_of_maybe tested) (nodes_of_statements third) (nodes_of_statement body) h in
    let same_task : record { tested = tested; body = body } ≡ task = cc in
    subst (λ (t : Task). CoversTask functions depth C B A t) same_task (record { test = covered.test; body = covered.body })
covers_task functions depth C B A (statement at form) task e h = absurd cc

covers_some : (functions : List Func) (depth : Depth) (C B : ℕ) (A : Bool) (i : ℕ) (ss : PlainStatements) (item : Option PlainStatement) (task : Task) → slice_get (statements_list ss) i ≡ item → task_in item ≡ Some task →
    Covers functions depth C B A (nodes_of_statements ss) → CoversTask functions depth C B A task
covers_some functions depth C B A i ss None task g e h = absurd cc
covers_some functions depth C B A i ss (Some x) task g e h = covers_task functions depth C B A x task e (covers_item functions depth C B A i ss x g h)

-- the body of a function is covered by its depths
covers_body : (functions : List Func) (depth : Depth) (f : PlainFunction) → Covers functions (deeper f depth) (depth.calls + (depth_of functions f).calls) (depth.bytes + (depth_of functions f).bytes) (effect_of functions f) (nodes_of_statements f.body)
covers_body functions depth f = record { calls_in = calls_equal depth.calls _; bytes_in = bytes_equal depth.bytes (frame_bytes f) _; effect_in = λ e. e }
  where
    calls_equal : (d g : ℕ) → suc d + g ≤ d + (1 + g)
    calls_equal d g = omega arith

    bytes_equal : (d f g : ℕ) → (d + f) + g ≤ d + (f + g)
    bytes_equal d f g = omega arith

pub turns_take : TurnsTakeWhatTheyCost
turns_take p functions n depth k f i task frame w l e keeps =
    let there : Depth = deeper f depth in
    let s : Setting = setting_of p n (call_at n p) there f in
    let c : Counting = counting_of p functions k f in
    let C : ℕ = depth.calls + (depth_of functions f).calls in
    let B : ℕ = depth.bytes + (depth_of functions f).bytes in
    let A : Bool = effect_of functions f in
    let covered : CoversTask functions there C B A task = covers_some functions there C B A i f.body (slice_get (statements_list f.body) i) task refl e (covers_body functions depth f) in
    subst (λ t. Takes (task_cost c t) C B A w (task_turn s task frame w)) (sym e)
    (takes_then C B A (task_test_cost c task.tested) (statement_cost c task.body) w (task_test s task.tested frame w) _ _ (tests task.tested covered.test keeps.0) keeps.1 (λ more u d h.
    takes_if C B A (statement_cost c task.body) u more _ _
    (λ q. statement_takes p functions c.loops n there f C B A task.body frame u (lower u.left w.left n d l) covered.body (h q))
    (λ q. takes_here C B A (statement_cost c task.body) _ u u (same u))))
  where
    tests : (tested : Option PlainValue) → Covers functions (deeper f depth) (depth.calls + (depth_of functions f).calls) (depth.bytes + (depth_of functions f).bytes) (effect_of functions f) (nodes_of_maybe tested) →
        TestKeeps (setting_of p n (call_at n p) (deeper f depth) f) (CallKeeps (setting_of p n (call_at n p) (deeper f depth) f) functions (deeper f depth)) tested frame w →
        Takes (task_test_cost (counting_of p functions k f) tested) (depth.calls + (depth_of functions f).calls) (depth.bytes + (depth_of functions f).bytes) (effect_of functions f) w (task_test (setting_of p n (call_at n p) (deeper f depth) f) tested frame w)
    tests None b h = takes_here _ _ _ 0 _ w w (same w)
    tests (Some v) b h = test_takes (setting_of p n (call_at n p) (deeper f depth) f) functions (counting_of p functions k f).loops (deeper f depth) _ _ _ (Some v) frame w b h

pub first_parts_take : FirstPartsTakeWhatTheyCost
first_parts_take p functions n depth k f i w l keeps =
    let there : Depth = deeper f depth in
    let s : Setting = setting_of p n (call_at n p) there f in
    let c : Counting = counting_of p functions k f in
    let C : ℕ = depth.calls + (depth_of functions f).calls in
    let B : ℕ = depth.bytes + (depth_of functions f).bytes in
    let A : Bool = effect_of functions f in
    let items : PlainStatements = statements_of_list (take i (statements_list f.body)) in
    takes_step C B A (statements_cost c items + 1) w _ _ keeps (λ v q h.
    let start : Entered = entered f.variables [] (raised there v) in
    let r : Same (raised there v) start.state = entered_same f.variables [] (raised there v) in
    takes_more C B A (0 + (statements_cost c items + 1)) (statements_cost c items + 1) v _ (no_first (statements_cost c items + 1))
    (takes_from C B A 0 (statements_cost c items + 1) v (raised there v) _ (raised_spends C B A there v (calls_in depth.calls _) (bytes_in depth.bytes (frame_bytes f) _))
    (takes_changed C B A (statements_cost c items + 1) (raised there v) start.state _ r
    (takes_after C B A (statements_cost c items) 1 start.state (execute_from s 0 items start.frame start.state) _
    (from_takes p functions c.loops n there f C B A 0 items start.frame start.state (subst (λ a. a ≤ n) (sym r.left) (fewer v.left w.left n q l)) (covers_first functions there C B A i f.body (covers_body functions depth f)) h)
    (λ done u d. go_any C B A 1 done.flow done.frame u _ (takes_plain C B A 0 u _ (λ u e. takes_here C B A 0 _ u u (same u)))))))
    )
  where
    fewer : (a b n : ℕ) → suc a ≡ b → b ≤ n → a ≤ n
    fewer a b n q l = omega (arith, q, l)

    calls_in : (d g : ℕ) → suc d ≤ d + (1 + g)
    calls_in d g = omega arith

    bytes_in : (d f g : ℕ) → d + f ≤ d + (f + g)
    bytes_in d f g = omega arith
