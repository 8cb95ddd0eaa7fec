-- The loops of `main` but the task loop: they are loops of `main`, and none is claimed to be the task, where claims fit (K1).
use Rattle.std.proofs.Common.{◌≡◌, ℕ, zero, suc, ◌<◌, Bool, true, false, cond, List, [], ◌∷◌, ◌++◌, length, refl, sym, ◌∙◌, ap, subst, arith, Some, None, slice_get}
use Rattle.std.specs.Prelude.{nat_eq, Contains}
use Rattle.std.specs.List.{All}
use Rattle.std.proofs.lemmas.Option.{same_Some, none-some}
use Rattle.std.proofs.lemmas.Bool.{eqb-true}
use Rattle.std.proofs.lemmas.Bool.Decides.{nat_tests}
use Rattle.std.proofs.lemmas.List.{append_assoc}
use Rattle.std.proofs.lemmas.List.Elements.{All-contains, All-tail, Contains-append_left, Contains-append_right}
use Rattle.p10_core.specs.declared.statements.LoopHead.{LoopHead}
use Rattle.p10_core.specs.Typed.{PlainStatement, statement, loop, PlainStatements, no_statements, more_statements, statements_list, PlainFunction, PlainProgram}
use Rattle.p10_core.specs.WholePrograms.{numbers_from, main_items, loops_in, loops_of, IsWholeFunction, IsWholeProgram}
use Rattle.p10_cert.specs.Claims.{Loop}
use Rattle.p10_meaning.specs.Runs.{Task}
use Rattle.p10_meaning.specs.SoundRuns.{HasTask}
use Rattle.p10_pass.specs.Claiming.{loop_claimed}
use Rattle.p10_execution.specs.Bounding.{LoopTree, loop_trees, trees_among, is_task, AreCounted}
use Rattle.p10_fit.specs.Sites.{loop_sites, loop_number, loop_number_at, task_loop_number}
use Rattle.p10_fit.specs.Fits.{fits_loops}
use Rattle.p10_task.specs.Coming.{items_before}
use Rattle.p10_task.proofs.TaskItems.{IsTaskItem, task_item}
use Rattle.p10_task.proofs.Items.{AreRanked}
use Rattle.p10_soundness.proofs.LoopNumbers.{all_left, all_right, all_both, all_before_map, head_of_tree, tree_heads, trees_heads, Numbered, numbered_is, StandsBetween, stands_between, IsRanked, loops_ranked}

-- ## Loops of items are loops of the body

item_among : (xs : PlainStatements) (i : ℕ) (x : PlainStatement) → slice_get (statements_list xs) i ≡ Some x → (t : LoopTree) → Contains (loop_trees x) t → Contains (trees_among xs) t
item_among no_statements i x e t h = absurd (none-some _ e)
item_among (more_statements y rest) zero x e t h = Contains-append_left (loop_trees y) (trees_among rest) t (subst (λ x. Contains (loop_trees x) t) (sym (same_Some _ _ e)) h)
item_among (more_statements y rest) (suc i) x e t h = Contains-append_right (loop_trees y) (trees_among rest) t (item_among rest i x e t h)

-- the heads of the loops of a body: those of the items before an item, its own, and others
record IsCutAt (xs : PlainStatements) (i : ℕ) (x : PlainStatement) : Type 0 where
  pub rest : List LoopHead
  pub is : loops_of xs ≡ loops_of (items_before i xs) ++ (loops_in x ++ rest)

cut_at : (xs : PlainStatements) (i : ℕ) (x : PlainStatement) → slice_get (statements_list xs) i ≡ Some x → IsCutAt xs i x
cut_at no_statements i x e = absurd (none-some _ e)
cut_at (more_statements y rest) zero x e = record { rest = loops_of rest; is = ap (λ x. loops_in x ++ loops_of rest) (same_Some _ _ e) }
cut_at (more_statements y rest) (suc i) x e =
    let c : IsCutAt rest i x = cut_at rest i x e in
    record { rest = c.rest; is = ap (λ hs. loops_in y ++ hs) c.is ∙ sym (append_assoc (loops_in y) (loops_of (items_before i rest)) (loops_in x ++ c.rest)) }

-- ## Ranks

-- a loop isn't claimed to be the task
abbrev pub IsNoTask : List Loop → LoopHead → Type 0
IsNoTask loops h = is_task (loop_claimed loops h.number).rank ≡ false

below_differs : (a b : ℕ) → a < b → nat_eq b a ≡ false
below_differs a b l = differs (nat_eq b a) refl
  where
    differs : (c : Bool) → nat_eq b a ≡ c → nat_eq b a ≡ false
    differs true q = let e : b ≡ a = eqb-true b a q in absurd (omega (arith, l, e))
    differs false q = q

above_differs : (a b : ℕ) → b < a → nat_eq b a ≡ false
above_differs a b l = differs (nat_eq b a) refl
  where
    differs : (c : Bool) → nat_eq b a ≡ c → nat_eq b a ≡ false
    differs true q = let e : b ≡ a = eqb-true b a q in absurd (omega (arith, l, e))
    differs false q = q

no_task_of : (loops : List Loop) (x : PlainStatement) → All (IsNoTask loops) (loops_in x) → (t : LoopTree) → Contains (loop_trees x) t → is_task (loop_claimed loops t.head.number).rank ≡ false
no_task_of loops x h t k =
    All-contains (λ (t : LoopTree). IsNoTask loops t.head) (loop_trees x) t (all_before_map head_of_tree (IsNoTask loops) (loop_trees x) (subst (λ hs. All (IsNoTask loops) hs) (sym (tree_heads x)) h)) k

pub no_task_among : (loops : List Loop) (xs : PlainStatements) → All (IsNoTask loops) (loops_of xs) → (t : LoopTree) → Contains (trees_among xs) t → is_task (loop_claimed loops t.head.number).rank ≡ false
no_task_among loops xs h t k =
    All-contains (λ (t : LoopTree). IsNoTask loops t.head) (trees_among xs) t (all_before_map head_of_tree (IsNoTask loops) (trees_among xs) (subst (λ hs. All (IsNoTask loops) hs) (sym (trees_heads xs)) h)) k

items_counted : (f : PlainFunction) (loops : List Loop) (xs : PlainStatements) (i : ℕ) → ((t : LoopTree) → Contains (trees_among xs) t → Contains (trees_among f.body) t) → All (IsNoTask loops) (loops_of (items_before i xs)) →
    AreRanked (λ x. AreCounted f loops (loop_trees x)) i xs
items_counted f loops no_statements zero up h = tt
items_counted f loops no_statements (suc i) up h = tt
items_counted f loops (more_statements x rest) zero up h = tt
items_counted f loops (more_statements x rest) (suc i) up h = (
  record {
    among = λ t k. up t (Contains-append_left (loop_trees x) (trees_among rest) t k);
    no_task = no_task_of loops x (all_left (IsNoTask loops) (loops_in x) (loops_of (items_before i rest)) h);
  },
  items_counted f loops rest i (λ t k. up t (Contains-append_right (loop_trees x) (trees_among rest) t k)) (all_right (IsNoTask loops) (loops_in x) (loops_of (items_before i rest)) h),
)

-- what claims that fit say of the loops of `main` but the task loop
pub record AreMainLoops (f : PlainFunction) (loops : List Loop) (i : ℕ) (task : Task) : Type 0 where
  pub before : AreRanked (λ x. AreCounted f loops (loop_trees x)) i f.body
  pub inside : AreCounted f loops (loop_trees task.body)

module _ (p : PlainProgram) (whole : IsWholeProgram p) (f : PlainFunction) (i : ℕ) (task : Task) (has : HasTask p f i task) (loops : List Loop) (fits : fits_loops f (task_loop_number p p.main f) (loop_sites f) loops ≡ true) where
  item : IsTaskItem (slice_get (statements_list f.body) i) task
  item = task_item p whole f i task has

  function : IsWholeFunction p p.main f
  function = whole.functions p.main f has.main

  abbrev loop_item : PlainStatement
  loop_item = statement item.at (loop item.head no_statements task.tested no_statements task.body)

  cut : IsCutAt f.body i loop_item
  cut = cut_at f.body i loop_item item.is

  number_is : task_loop_number p p.main f ≡ Some item.head.number
  number_is = if_main (nat_eq p.main p.main) (grind (arith, nat_tests)) ∙ (ap (loop_number_at (main_items f)) has.item ∙ ap loop_number item.is)
    where
      if_main : (b : Bool) → b ≡ true → cond b (loop_number_at (main_items f) p.task) None ≡ loop_number_at (main_items f) p.task
      if_main true e = refl
      if_main false e = absurd cc

  ranked : All (IsRanked (Some item.head.number) loops) (loops_of (items_before i f.body) ++ (item.head ∷ (loops_in task.body ++ cut.rest)))
  ranked = subst (λ hs. All (IsRanked (Some item.head.number) loops) hs) cut.is
      (subst (λ n. All (IsRanked n loops) (loops_of f.body)) number_is (loops_ranked f (task_loop_number p p.main f) loops 0 (numbers_from 0 f.parameters) f.body (length (loops_of f.body)) fits function.loops_in_order))

  between : StandsBetween (loops_of (items_before i f.body)) (loops_in task.body ++ cut.rest) item.head 0
  between = stands_between (loops_of (items_before i f.body)) (loops_in task.body ++ cut.rest) item.head 0 (subst (λ hs. Numbered 0 hs) cut.is (numbered_is (loops_of f.body) 0 (length (loops_of f.body)) function.loops_in_order))

  none_before : All (IsNoTask loops) (loops_of (items_before i f.body))
  none_before = all_both (IsRanked (Some item.head.number) loops) (λ (x : LoopHead). x.number < item.head.number) (IsNoTask loops) (loops_of (items_before i f.body))
      (λ x r l. r (below_differs x.number item.head.number l)) (all_left (IsRanked (Some item.head.number) loops) (loops_of (items_before i f.body)) _ ranked) between.lower

  none_inside : All (IsNoTask loops) (loops_in task.body)
  none_inside = all_both (IsRanked (Some item.head.number) loops) (λ (x : LoopHead). item.head.number < x.number) (IsNoTask loops) (loops_in task.body)
      (λ x r l. r (above_differs x.number item.head.number l))
      (all_left (IsRanked (Some item.head.number) loops) (loops_in task.body) cut.rest (All-tail (IsRanked (Some item.head.number) loops) item.head (loops_in task.body ++ cut.rest) (all_right (IsRanked (Some item.head.number) loops) (loops_of (items_before i f.body)) (item.head ∷ (loops_in task.body ++ cut.rest)) ranked)))
      (all_left (λ (x : LoopHead). item.head.number < x.number) (loops_in task.body) cut.rest between.greater)

  pub main_loops : AreMainLoops f loops i task
  main_loops = record {
    before = items_counted f loops f.body i (λ t h. h) none_before;
    inside = record {
      among = λ t h. item_among f.body i loop_item item.is t (Contains-append_right (record { head = item.head; first = no_statements; tested = task.tested; third = no_statements; body = task.body } ∷ []) (loop_trees task.body) t h);
      no_task = no_task_of loops task.body none_inside;
    };
  }
