-- The items of `main`: what stands before the mark is early, and what stands after it is quiet.
use Rattle.std.proofs.Common.{◌≡◌, ℕ, zero, suc, ◌+◌, ◌≤◌, true, List, [], ◌∷◌, ◌++◌, take, drop, refl, sym, ◌∙◌, subst, arith, IfSome, Option, Some, None, slice_get}
use Rattle.std.proofs.lemmas.Option.{none-some}
use Rattle.p10_core.specs.declared.statements.MarkKind.TheVariants.{InitDone, TaskLoop}
use Rattle.p10_core.specs.Typed.{PlainStatement, statement, mark, loop, PlainStatements, no_statements, more_statements, statements_list, statements_of_list, PlainFunction, PlainProgram}
use Rattle.p10_core.specs.Nodes.{nodes_of_maybe, nodes_of_statement, nodes_of_statements}
use Rattle.p10_core.specs.WholePrograms.{Region, after, AreWholeStatements, marks_in, marks_of, region_of, is_marked, IsInitDone, mark_list, IsMain, IsWholeProgram}
use Rattle.p10_flowrules.specs.TaskExits.{items_of_main}
use Rattle.p10_flowrules.specs.Allocating.{items_after}
use Rattle.p10_meaning.specs.Runs.{Task, task_in}
use Rattle.p10_allocation.proofs.Outcomes.{Each, EachInLoop, each_left, each_right, each_both, each_in_loop}
use Rattle.p10_allocation.proofs.Quiet.{IsQuiet, IsLateFree, late_each}
use Rattle.p10_allocation.proofs.Early.{IsEarly, dones, dones_append, IsHere, after_here, statement_early}

-- ## Items

-- items that are quiet
abbrev pub AreQuiet : PlainProgram → List PlainStatement → Type 0
AreQuiet p xs = Each (IsQuiet p) (nodes_of_statements (statements_of_list xs))

-- items of which the first m are early, and the others quiet
abbrev pub ArePartedAt : PlainProgram → ℕ → List PlainStatement → Type 0
ArePartedAt p zero xs = AreQuiet p xs
ArePartedAt p (suc m) [] = Unit {0}
ArePartedAt p (suc m) (x ∷ xs) = Each (IsEarly p) (nodes_of_statement x) × ArePartedAt p m xs

-- items that are early before a mark, where there is one, and then quiet
abbrev pub AreParted : PlainProgram → Option ℕ → List PlainStatement → Type 0
AreParted p None xs = AreQuiet p xs
AreParted p (Some m) xs = ArePartedAt p m xs

module _ (p : PlainProgram) where
  quiet_front : (i : ℕ) (xs : List PlainStatement) → AreQuiet p xs → AreQuiet p (take i xs)
  quiet_front zero [] h = tt
  quiet_front zero (x ∷ xs) h = tt
  quiet_front (suc i) [] h = tt
  quiet_front (suc i) (x ∷ xs) h =
      each_both (IsQuiet p) (nodes_of_statement x) (nodes_of_statements (statements_of_list (take i xs))) (each_left (IsQuiet p) (nodes_of_statement x) (nodes_of_statements (statements_of_list xs)) h)
      (quiet_front i xs (each_right (IsQuiet p) (nodes_of_statement x) (nodes_of_statements (statements_of_list xs)) h))

  front_at : (m i : ℕ) (xs : List PlainStatement) → ArePartedAt p m xs → ArePartedAt p m (take i xs)
  front_at zero i xs h = quiet_front i xs h
  front_at (suc m) zero [] h = tt
  front_at (suc m) zero (x ∷ xs) h = tt
  front_at (suc m) (suc i) [] h = tt
  front_at (suc m) (suc i) (x ∷ xs) h = (h.0, front_at m i xs h.1)

  -- the first items of such items
  pub parted_front : (at : Option ℕ) (i : ℕ) (xs : List PlainStatement) → AreParted p at xs → AreParted p at (take i xs)
  parted_front None i xs h = quiet_front i xs h
  parted_front (Some m) i xs h = front_at m i xs h

  quiet_item : (i : ℕ) (xs : List PlainStatement) (x : PlainStatement) → slice_get xs i ≡ Some x → AreQuiet p xs → Each (IsQuiet p) (nodes_of_statement x)
  quiet_item i [] x e h = absurd (none-some x e)
  quiet_item zero (y ∷ xs) x e h =
      let same : y ≡ x = cc in subst (λ z. Each (IsQuiet p) (nodes_of_statement z)) same (each_left (IsQuiet p) (nodes_of_statement y) (nodes_of_statements (statements_of_list xs)) h)
  quiet_item (suc i) (y ∷ xs) x e h = quiet_item i xs x e (each_right (IsQuiet p) (nodes_of_statement y) (nodes_of_statements (statements_of_list xs)) h)

  item_at : (m i : ℕ) (xs : List PlainStatement) (x : PlainStatement) → m ≤ i → slice_get xs i ≡ Some x → ArePartedAt p m xs → Each (IsQuiet p) (nodes_of_statement x)
  item_at zero i xs x l e h = quiet_item i xs x e h
  item_at (suc m) i [] x l e h = absurd (none-some x e)
  item_at (suc m) zero (y ∷ xs) x l e h = absurd (omega (arith, l))
  item_at (suc m) (suc i) (y ∷ xs) x l e h = item_at m i xs x (omega (arith, l)) e h.1

  -- an item after the mark is quiet
  pub parted_item : (at : Option ℕ) (i : ℕ) (xs : List PlainStatement) (x : PlainStatement) → IfSome at (λ m. suc m ≤ i) → slice_get xs i ≡ Some x → AreParted p at xs → Each (IsQuiet p) (nodes_of_statement x)
  parted_item None i xs x l e h = quiet_item i xs x e h
  parted_item (Some m) i xs x l e h = item_at m i xs x (omega (arith, l)) e h

  -- a task loop whose test and body are quiet
  pub record IsQuietTask (task : Task) : Type 0 where
    pub test_quiet : Each (IsQuiet p) (nodes_of_maybe task.tested)
    pub body_quiet : Each (IsQuiet p) (nodes_of_statement task.body)

  task_of_item : (x : PlainStatement) (task : Task) → task_in (Some x) ≡ Some task → Each (IsQuiet p) (nodes_of_statement x) → IsQuietTask task
  task_of_item (statement at (loop head first tested third body)) task e h =
      let o : EachInLoop (IsQuiet p) (nodes_of_statements first) (nodes_of_maybe tested) (nodes_of_statements third) (nodes_of_statement body) =
      each_in_loop (IsQuiet p) head.keyword (nodes_of_statements first) (nodes_of_maybe tested) (nodes_of_statements third) (nodes_of_statement body) h.1 in
      let same : record { tested = tested; body = body } ≡ task = cc in
      subst (λ (t : Task). IsQuietTask t) same (record { test_quiet = o.test_each; body_quiet = o.body_each })
  task_of_item (statement at form) task e h = absurd cc

  pub quiet_task : (o : Option PlainStatement) (task : Task) → task_in o ≡ Some task → ((x : PlainStatement) → o ≡ Some x → Each (IsQuiet p) (nodes_of_statement x)) → IsQuietTask task
  quiet_task None task e h = absurd cc
  quiet_task (Some x) task e h = task_of_item x task e (h x refl)

-- ## `main`

-- the mark is one mark, and quiet
record IsDone (p : PlainProgram) (x : PlainStatement) : Type 0 where
  pub once : dones (marks_in x) ≡ 1
  pub quiet : Each (IsQuiet p) (nodes_of_statement x)

done_there : (p : PlainProgram) (x : PlainStatement) → is_marked InitDone (Some x) ≡ true → IsDone p x
done_there p (statement at (mark InitDone)) e = record { once = refl; quiet = (tt, tt) }
done_there p (statement at (mark TaskLoop)) e = absurd cc
done_there p (statement at form) e = absurd cc

-- items with such a mark have one
some_dones : (p : PlainProgram) (m : ℕ) (xs : PlainStatements) → is_marked InitDone (slice_get (statements_list xs) m) ≡ true → 1 ≤ dones (marks_of xs)
some_dones p m no_statements e = absurd cc
some_dones p zero (more_statements x rest) e =
    let once : dones (marks_in x) ≡ 1 = (done_there p x e).once in
    let both = dones_append (marks_in x) (marks_of rest) in
    omega (arith, once, both)
some_dones p (suc m) (more_statements x rest) e =
    let some : 1 ≤ dones (marks_of rest) = some_dones p m rest e in
    let both = dones_append (marks_in x) (marks_of rest) in
    omega (arith, some, both)

-- whole items of `main` with one mark are early before it
parted_at : (p : PlainProgram) (r : Region) → IsHere p p.main r → (m : ℕ) (xs : PlainStatements) → AreWholeStatements r xs → is_marked InitDone (slice_get (statements_list xs) m) ≡ true → dones (marks_of xs) ≤ 1 →
    AreQuiet p (drop (suc m) (statements_list xs)) → ArePartedAt p m (statements_list xs)
parted_at p r h m no_statements w e l q = absurd cc
parted_at p r h zero (more_statements x rest) w e l q = each_both (IsQuiet p) (nodes_of_statement x) (nodes_of_statements (statements_of_list (statements_list rest))) (done_there p x e).quiet q
parted_at p r h (suc m) (more_statements x rest) w e l q =
    let some : 1 ≤ dones (marks_of rest) = some_dones p m rest e in
    let both = dones_append (marks_in x) (marks_of rest) in
    let none : dones (marks_in x) ≡ 0 = omega (arith, some, both, l) in
    (statement_early p p.main r h x w.0 (λ i. none), parted_at p (after r x) (after_here p p.main r x h) m rest w.1 e (omega (arith, both, l)) q)

few_dones : (at task : Option ℕ) → dones (mark_list InitDone at ++ mark_list TaskLoop task) ≤ 1
few_dones None None = omega arith
few_dones None (Some i) = omega arith
few_dones (Some m) None = omega arith
few_dones (Some m) (Some i) = omega arith

plus_one : (m : ℕ) → m + 1 ≡ suc m
plus_one m = omega arith

module _ (p : PlainProgram) (whole : IsWholeProgram p) (none : IsLateFree p) (f : PlainFunction) (there : slice_get p.functions p.main ≡ Some f) (is : IsMain p f) where
  late_items : (at : Option ℕ) → p.mark ≡ at → AreQuiet p (items_after at (statements_list f.body))
  late_items at e = subst (λ k. AreQuiet p (items_after k (statements_list f.body))) e (subst (λ o. AreQuiet p (items_after p.mark (items_of_main o))) there (late_each p none))

  main_parted_by : (at : Option ℕ) → p.mark ≡ at → AreParted p at (statements_list f.body)
  main_parted_by None e = late_items None e
  main_parted_by (Some m) e =
      let done : IsInitDone (statements_list f.body) p.task m = subst (λ k. IfSome k (IsInitDone (statements_list f.body) p.task)) e is.init_done in
      parted_at p (region_of p p.main f) (record { program_is = refl; number_is = refl }) m f.body (whole.functions p.main f there).body done.is
      (subst (λ ks. dones ks ≤ 1) (sym is.marks) (few_dones p.mark p.task)) (subst (λ k. AreQuiet p (drop k (statements_list f.body))) (plus_one m) (late_items (Some m) e))

  -- the items of `main` are parted at its mark
  pub main_parted : AreParted p p.mark (statements_list f.body)
  main_parted = main_parted_by p.mark refl

  before_by : (at task : Option ℕ) → p.mark ≡ at → p.task ≡ task → (i : ℕ) → task ≡ Some i → IfSome at (λ m. suc m ≤ i)
  before_by None task e o i same = tt
  before_by (Some m) task e o i same =
      let done : IsInitDone (statements_list f.body) p.task m = subst (λ k. IfSome k (IsInitDone (statements_list f.body) p.task)) e is.init_done in
      subst (λ k. IfSome k (λ t. suc m ≤ t)) (o ∙ same) done.before_task

  -- the task loop stands after the mark
  pub mark_before : (i : ℕ) → p.task ≡ Some i → IfSome p.mark (λ m. suc m ≤ i)
  mark_before i e = before_by p.mark p.task refl refl i e
