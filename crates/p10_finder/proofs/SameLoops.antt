-- The loops that are found in statements depend only on what is claimed of the functions that they call.
use Rattle.std.proofs.Common.{◌≡◌, ℕ, suc, Bool, true, false, List, ◌++◌, Option, Some, None, refl}
use Rattle.std.specs.Prelude.{if◌then◌else◌}
use Rattle.std.specs.Option.{option_and_then}
use Rattle.p10_core.specs.declared.statements.LoopHead.{LoopHead}
use Rattle.p10_core.specs.declared.statements.LoopKeyword.{LoopKeyword}
use Rattle.p10_core.specs.declared.statements.LoopKeyword.TheVariants.{While, Do, For}
use Rattle.p10_core.specs.Typed.{PlainValue, PlainLabels, PlainStatement, statement, PlainStatementForm, block, if_then, if_else, loop, switch, PlainStatements, no_statements, more_statements, PlainVariable, PlainFunction, PlainProgram}
use Rattle.p10_core.specs.Nodes.{nodes_of_value, nodes_of_maybe, nodes_in_statement_form, nodes_of_statement, nodes_of_statements}
use Rattle.p10_cert.specs.Claims.{Claims}
use Rattle.p10_absx.specs.Environments.{Environment, hull_reached}
use Rattle.p10_absx.specs.Assessing.{known_where}
use Rattle.p10_fit.specs.Fits.{is_task}
use Rattle.p10_fit.specs.Sites.{task_loop_number}
use Rattle.p10_pass.specs.Claiming.{head_of}
use Rattle.p10_pass.specs.Passing.{is_labelled}
use Rattle.p10_candidates.specs.Trials.{LoopFound, trial_rounds}
use Rattle.p10_finder.specs.Loops.{Search, LoopsFound, no_loops, with_loop, known_after_statement, known_where_value, known_after_value, known_at_entry, known_in_body, assigned_in, loop_entry, reached_found, loop_passed, loops_in, loops_in_form, loops_in_all, loops_in_switch, loops_in_cases, loops_from}
use Rattle.p10_finder.specs.Functions.{known_at_start, loops_of, result_by, result_of}
use Rattle.p10_finder.proofs.Called.{EachCalled, first_called, last_called, loop_called}
use Rattle.p10_finder.proofs.SameValues.{Same, value_same, has_same}
use Rattle.p10_finder.proofs.SamePasses.{pass_same, all_pass}
use Rattle.p10_approach.specs.Offers.{Offers}
use Rattle.p10_candidates.specs.Candidates.{LoopEntry}
use Rattle.p10_approach.specs.Approaches.{Approached}
use Rattle.p10_turns.specs.LoopParts.{LoopParts}

module _ (c d : Claims) (variables : List PlainVariable) (task : Option ℕ) (offers : ℕ → ℕ → Option LoopParts → LoopEntry → Option Approached) where
  -- where loops are looked for, where these are the claims
  abbrev looking : Claims → Search
  looking x = record { calls = x; variables = variables; task = task; offers = offers }

  -- ## Environments on the way

  after_same : (found found2 : LoopsFound) → found ≡ found2 → (x : PlainStatement) → EachCalled (Same c d) (nodes_of_statement x) → (env : Option Environment) → known_after_statement (looking c) found x env ≡ known_after_statement (looking d) found2 x env
  after_same found found2 same x h env = λ i. option_and_then (λ e. (pass_same c d (Some (same i).claims) None variables x h e i).normal) env

  where_same : (v : PlainValue) (truth : Bool) → EachCalled (Same c d) (nodes_of_value v) → (env : Option Environment) → known_where_value (looking c) v truth env ≡ known_where_value (looking d) v truth env
  where_same v truth h env = λ i. option_and_then (λ e. known_where truth e (value_same c d v h e i)) env

  chosen_same : (v : PlainValue) → EachCalled (Same c d) (nodes_of_value v) → (env : Option Environment) → known_after_value (looking c) v env ≡ known_after_value (looking d) v env
  chosen_same v h env = λ i. option_and_then (λ e. if has_same c d v h e i then Some e else None) env

  entry_same : (found : LoopsFound) (first : PlainStatements) → EachCalled (Same c d) (nodes_of_statements first) → (env : Option Environment) → known_at_entry (looking c) found first env ≡ known_at_entry (looking d) found first env
  entry_same found first h env = λ i. option_and_then (λ e. (all_pass c d (Some found.claims) None variables first h e i).normal) env

  inside_same : (keyword : LoopKeyword) (tested : Option PlainValue) → EachCalled (Same c d) (nodes_of_maybe tested) → (head : Environment) → known_in_body (looking c) keyword tested head ≡ known_in_body (looking d) keyword tested head
  inside_same Do tested h head = refl
  inside_same While None h head = refl
  inside_same While (Some v) h head = where_same v true h (Some head)
  inside_same For None h head = refl
  inside_same For (Some v) h head = where_same v true h (Some head)

  -- ## One loop

  loop_same : (depth : ℕ) (head : LoopHead) (first : PlainStatements) (tested : Option PlainValue) (third : PlainStatements) (body : PlainStatement) → EachCalled (Same c d) (nodes_of_statements first) → EachCalled (Same c d) (nodes_of_maybe tested)
      → (env : Option Environment) (found : LoopsFound) → loop_passed (looking c) depth head first tested third body env found ≡ loop_passed (looking d) depth head first tested third body env found
  loop_same depth head first tested third body h k env found =
      let entry = entry_same found first h env in
      let inside = inside_same head.keyword tested k in
      λ i. let l : LoopFound = reached_found (offers head.number depth (Some (record { head = head; first = first; tested = tested; third = third; body = body }))) (is_task task head.number) head.span (trial_rounds variables head.keyword tested third body) (loop_entry (looking c) (assigned_in (looking c) (loop head first tested third body)) tested) depth (entry i) in
      record { found = with_loop found l; inside = option_and_then (λ e. inside (head_of l.claim variables e) i) (entry i) }

  -- ## All loops

  mutual
    pub loops_same : (depth : ℕ) (x : PlainStatement) → EachCalled (Same c d) (nodes_of_statement x) → (env env2 : Option Environment) → env ≡ env2 → (found found2 : LoopsFound) → found ≡ found2 → loops_in (looking c) depth x env found ≡ loops_in (looking d) depth x env2 found2
    loops_same depth (statement at form) h env env2 reach found found2 same = form_loops depth form h.1 env env2 reach found found2 same

    form_loops : (depth : ℕ) (form : PlainStatementForm) → EachCalled (Same c d) (nodes_in_statement_form form) → (env env2 : Option Environment) → env ≡ env2 → (found found2 : LoopsFound) → found ≡ found2 → loops_in_form (looking c) depth form env found ≡ loops_in_form (looking d) depth form env2 found2
    form_loops depth (block xs) h env env2 reach found found2 same = all_loops depth xs h env env2 reach found found2 same
    form_loops depth (if_then v x) h env env2 reach found found2 same =
        let first = first_called (Same c d) (nodes_of_value v) (nodes_of_statement x) h in
        loops_same depth x (last_called (Same c d) (nodes_of_value v) (nodes_of_statement x) h) _ _ (λ i. where_same v true first (reach i) i) found found2 same
    form_loops depth (if_else v x y) h env env2 reach found found2 same =
        let first = first_called (Same c d) (nodes_of_value v) (nodes_of_statement x ++ nodes_of_statement y) h in
        let rest = last_called (Same c d) (nodes_of_value v) (nodes_of_statement x ++ nodes_of_statement y) h in
        loops_same depth y (last_called (Same c d) (nodes_of_statement x) (nodes_of_statement y) rest) _ _ (λ i. where_same v false first (reach i) i) _ _
        (loops_same depth x (first_called (Same c d) (nodes_of_statement x) (nodes_of_statement y) rest) _ _ (λ i. where_same v true first (reach i) i) found found2 same)
    form_loops depth (loop head first tested third body) h env env2 reach found found2 same =
        let parts = loop_called (Same c d) head.keyword (nodes_of_statements first) (nodes_of_maybe tested) (nodes_of_statements third) (nodes_of_statement body) h in
        let l : loop_passed (looking c) depth head first tested third body env found ≡ loop_passed (looking d) depth head first tested third body env2 found2 =
        λ i. loop_same depth head first tested third body parts.in_first parts.in_test (reach i) (same i) i in
        loops_same (suc depth) body parts.in_body _ _ (λ i. (l i).inside) _ _ (λ i. (l i).found)
    form_loops depth (switch keyword v labels body) h env env2 reach found found2 same =
        let first = first_called (Same c d) (nodes_of_value v) (nodes_of_statement body) h in
        switch_loops depth labels body (last_called (Same c d) (nodes_of_value v) (nodes_of_statement body) h) _ _ (λ i. chosen_same v first (reach i) i) found found2 same
    form_loops depth form h env env2 reach found found2 same = same

    pub all_loops : (depth : ℕ) (xs : PlainStatements) → EachCalled (Same c d) (nodes_of_statements xs) → (env env2 : Option Environment) → env ≡ env2 → (found found2 : LoopsFound) → found ≡ found2 → loops_in_all (looking c) depth xs env found ≡ loops_in_all (looking d) depth xs env2 found2
    all_loops depth no_statements h env env2 reach found found2 same = same
    all_loops depth (more_statements x rest) h env env2 reach found found2 same =
        let first = first_called (Same c d) (nodes_of_statement x) (nodes_of_statements rest) h in
        let next = loops_same depth x first env env2 reach found found2 same in
        all_loops depth rest (last_called (Same c d) (nodes_of_statement x) (nodes_of_statements rest) h) _ _ (λ i. after_same (next i) (next i) refl x first (reach i) i) _ _ next

    switch_loops : (depth : ℕ) (labels : PlainLabels) (x : PlainStatement) → EachCalled (Same c d) (nodes_of_statement x) → (env env2 : Option Environment) → env ≡ env2 → (found found2 : LoopsFound) → found ≡ found2
        → loops_in_switch (looking c) depth labels x env found ≡ loops_in_switch (looking d) depth labels x env2 found2
    switch_loops depth labels (statement at form) h env env2 reach found found2 same =
        case_loops depth labels form h.1 env env2 reach found found2 same _ _ (form_loops depth form h.1 None None refl found found2 same)

    case_loops : (depth : ℕ) (labels : PlainLabels) (form : PlainStatementForm) → EachCalled (Same c d) (nodes_in_statement_form form) → (env env2 : Option Environment) → env ≡ env2 → (found found2 : LoopsFound) → found ≡ found2
        → (other other2 : LoopsFound) → other ≡ other2 → loops_in_cases (looking c) depth labels form env found other ≡ loops_in_cases (looking d) depth labels form env2 found2 other2
    case_loops depth labels (block xs) h env env2 reach found found2 same other other2 is = from_loops depth labels 0 xs h env env2 reach None None refl found found2 same
    case_loops depth labels form h env env2 reach found found2 same other other2 is = is

    from_loops : (depth : ℕ) (labels : PlainLabels) (k : ℕ) (xs : PlainStatements) → EachCalled (Same c d) (nodes_of_statements xs) → (env env2 : Option Environment) → env ≡ env2 → (before before2 : Option Environment) → before ≡ before2
        → (found found2 : LoopsFound) → found ≡ found2 → loops_from (looking c) depth labels k xs env before found ≡ loops_from (looking d) depth labels k xs env2 before2 found2
    from_loops depth labels k no_statements h env env2 reach before before2 came found found2 same = same
    from_loops depth labels k (more_statements x rest) h env env2 reach before before2 came found found2 same =
        let first = first_called (Same c d) (nodes_of_statement x) (nodes_of_statements rest) h in
        let entered : (if is_labelled k labels then hull_reached before env else before) ≡ (if is_labelled k labels then hull_reached before2 env2 else before2) = λ i. if is_labelled k labels then hull_reached (came i) (reach i) else came i in
        let next = loops_same depth x first _ _ entered found found2 same in
        from_loops depth labels (suc k) rest (last_called (Same c d) (nodes_of_statement x) (nodes_of_statements rest) h) env env2 reach _ _ (λ i. after_same (next i) (next i) refl x first (entered i) i) _ _ next

-- ## Functions

module _ (o : Offers) (p : PlainProgram) (c d : Claims) (n : ℕ) (f : PlainFunction) (h : EachCalled (Same c d) (nodes_of_statements f.body)) where
  pub loops_of_same : loops_of o p c n f ≡ loops_of o p d n f
  loops_of_same = all_loops c d f.variables (task_loop_number p n f) (o n f) 0 f.body h _ _ refl no_loops no_loops refl

  pub result_same : result_of o p c n f ≡ result_of o p d n f
  result_same = λ i. result_by f.result (all_pass c d (Some (loops_of_same i).claims) None f.variables f.body h (known_at_start f) i).returned
