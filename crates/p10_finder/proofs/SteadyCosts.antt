-- What statements cost by the steps of a turn that are claimed of the task: either these don't count, or the statements cost more.
use Rattle.std.proofs.Common.{◌≡◌, ℕ, zero, suc, ◌+◌, ◌*◌, ◌<◌, ◌≤◌, min, max, List, [], ◌∷◌, ◌++◌, map, take, Option, Some, None, refl, sym, ap, ◌∙◌, arith, ◌⊎◌, inl, inr}
use Rattle.std.specs.Prelude.{slice_get}
use Rattle.std.proofs.lemmas.Nat.{mul-le}
use Rattle.p10_base.specs.declared.report.TheConstants.Limit.{MOST_SUM}
use Rattle.p10_core.specs.declared.statements.LoopKeyword.{LoopKeyword}
use Rattle.p10_core.specs.declared.statements.LoopKeyword.TheVariants.{While, Do, For}
use Rattle.p10_core.specs.Typed.{PlainValue, PlainPlace, place_type, PlainWritten, one_scalar, scalars_of_text, PlainItem, PlainInitializer, not_initialized, single, copied, listed, PlainStatement, statement, PlainStatementForm, set, update, copy, evaluate, asserts, declare, declare_static, block, if_then, if_else, loop, switch, break, continue, return, empty, mark, PlainStatements, no_statements, more_statements, statements_list, statements_of_list, PlainVariable, PlainFunction, PlainProgram}
use Rattle.p10_core.specs.Nodes.{nodes_of_value, nodes_of_place, nodes_of_maybe, nodes_of_written, nodes_of_items, nodes_of_initializer, nodes_in_statement_form, nodes_of_statement, nodes_of_statements}
use Rattle.p10_cert.specs.declared.claims.Rank.{Rank}
use Rattle.p10_cert.specs.declared.claims.Rank.TheVariants.{Task as TaskRank}
use Rattle.p10_cert.specs.Claims.{Func, Loop}
use Rattle.p10_meaning.specs.Values.{width}
use Rattle.p10_meaning.specs.Runs.{task_in}
use Rattle.p10_sums.specs.Counting.{Counting, turns_claimed}
use Rattle.p10_sums.specs.Costs.{value_cost, place_cost, written_cost, items_cost, variable_width, initializer_cost, test_cost, loop_cost, statement_cost, statement_form_cost, statements_cost, cost_of, task_test_cost, task_cost, turn_cost}
use Rattle.p10_candidates.specs.Trials.{counted}
use Rattle.p10_finder.specs.Functions.{with_turn_steps}
use Rattle.p10_finder.proofs.Called.{EachCalled, first_called, last_called, both_called, all_called, loop_called}
use Rattle.p10_finder.proofs.SameCosts.{OneClaim, counting_under, value_costs, place_costs, value_positive}

-- ## Numbers by a number

abbrev pub IsFixed : (ℕ → ℕ) → Type 0
IsFixed a = (t u : ℕ) → a t ≡ a u

abbrev pub IsRising : (ℕ → ℕ) → Type 0
IsRising a = (t : ℕ) → t < a t

-- two ways of counting give one number for each number that is claimed, which is fixed or greater than the one claimed
pub record Steady (a b : ℕ → ℕ) : Type 0 where
  pub same : (t : ℕ) → a t ≡ b t
  pub kind : IsFixed a ⊎ IsRising a

pub fixed : (m n : ℕ) → m ≡ n → Steady (λ t. m) (λ t. n)
fixed m n e = record { same = λ t. e; kind = inl (λ t u. refl) }

kind_sum : (a b : ℕ → ℕ) → IsFixed a ⊎ IsRising a → IsFixed b ⊎ IsRising b → IsFixed (λ t. a t + b t) ⊎ IsRising (λ t. a t + b t)
kind_sum a b (inl f) (inl g) = inl (λ t u. λ i. f t u i + g t u i)
kind_sum a b (inl f) (inr g) = inr (λ t. let up : t < b t = g t in omega (arith, up))
kind_sum a b (inr f) y = inr (λ t. let up : t < a t = f t in omega (arith, up))

kind_max : (a b : ℕ → ℕ) → IsFixed a ⊎ IsRising a → IsFixed b ⊎ IsRising b → IsFixed (λ t. max (a t) (b t)) ⊎ IsRising (λ t. max (a t) (b t))
kind_max a b (inl f) (inl g) = inl (λ t u. λ i. max (f t u i) (g t u i))
kind_max a b (inl f) (inr g) = inr (λ t. let up : t < b t = g t in omega (arith, up))
kind_max a b (inr f) y = inr (λ t. let up : t < a t = f t in omega (arith, up))

plus : {a b m n : ℕ → ℕ} → Steady a b → Steady m n → Steady (λ t. a t + m t) (λ t. b t + n t)
plus {a = a} {m = m} x y = record { same = λ t. λ i. x.same t i + y.same t i; kind = kind_sum a m x.kind y.kind }

greater : {a b m n : ℕ → ℕ} → Steady a b → Steady m n → Steady (λ t. max (a t) (m t)) (λ t. max (b t) (n t))
greater {a = a} {m = m} x y = record { same = λ t. λ i. max (x.same t i) (y.same t i); kind = kind_max a m x.kind y.kind }

more : {a b : ℕ → ℕ} (k : ℕ) → Steady a b → Steady (λ t. k + a t) (λ t. k + b t)
more {a = a} k x = record { same = λ t. λ i. k + x.same t i; kind = kind_sum (λ t. k) a (inl (λ t u. refl)) x.kind }

-- ## Turns

-- turns don't depend on what is claimed of the task's turn, or are that
abbrev IsTurning : (ℕ → ℕ) → Type 0
IsTurning turns = IsFixed turns ⊎ ((t : ℕ) → turns t ≡ t)

turns_of : (loops : List Loop) (m : ℕ) → IsTurning (λ t. turns_claimed (slice_get (map (with_turn_steps t) loops) m))
turns_of [] m = inl (λ t u. refl)
turns_of (l ∷ loops) zero = at l.rank
  where
    at : (rank : Rank) → let x : Loop = record l { rank = rank } in IsTurning (λ t. turns_claimed (slice_get (map (with_turn_steps t) (x ∷ loops)) 0))
    at TaskRank = inr (λ t. refl)
    at rank = inl (λ t u. refl)
turns_of (l ∷ loops) (suc m) = turns_of loops m

nothing_times : (n x y : ℕ) → n ≡ 0 → n * x ≡ n * y
nothing_times n x y none = ap (λ k. k * x) none ∙ (let e : 0 * x ≡ 0 * y = omega arith in e ∙ sym (ap (λ k. k * y) none))

-- what is done in each turn, where the turns are fixed
repeated : (turns r : ℕ → ℕ) → IsFixed turns → IsFixed r ⊎ IsRising r → IsFixed (λ t. turns t * r t) ⊎ IsRising (λ t. turns t * r t)
repeated turns r f (inl g) = inl (λ t u. λ i. f t u i * g t u i)
repeated turns r f (inr up) = at (turns 0) refl
  where
    at : (k : ℕ) → turns 0 ≡ k → IsFixed (λ t. turns t * r t) ⊎ IsRising (λ t. turns t * r t)
    at zero none = inl (λ t u. nothing_times (turns t) (r t) (r u) (f t 0 ∙ none) ∙ ap (λ k. k * r u) (f t u))
    at (suc k) some = inr (λ t.
        let more : t < r t = up t in
        let count : turns t ≡ suc k = f t 0 ∙ some in
        let product : 1 * r t ≤ turns t * r t = mul-le 1 (r t) (turns t) (r t) (omega (arith, count)) (omega arith) in
        omega (arith, more, product))

-- the first clause, the test, the third clause and the body, by both ways of counting
record LoopSteady (first first2 test test2 third third2 body body2 : ℕ → ℕ) : Type 0 where
  begins : Steady first first2
  tests : Steady test test2
  test_fixed : IsFixed test
  some : (t : ℕ) → 1 ≤ test t
  steps : Steady third third2
  turns : Steady body body2

module _ (turns first first2 test test2 third third2 body body2 : ℕ → ℕ) (kind : IsTurning turns) (h : LoopSteady first first2 test test2 third third2 body body2) where
  testing_first : IsFixed (λ t. 1 + (first t + ((turns t + 1) * test t + turns t * (body t + third t)))) ⊎ IsRising (λ t. 1 + (first t + ((turns t + 1) * test t + turns t * (body t + third t))))
  testing_first = at kind
    where
      at : IsTurning turns → IsFixed (λ t. 1 + (first t + ((turns t + 1) * test t + turns t * (body t + third t)))) ⊎ IsRising (λ t. 1 + (first t + ((turns t + 1) * test t + turns t * (body t + third t))))
      at (inl f) = kind_sum (λ t. 1) _ (inl (λ t u. refl)) (kind_sum first _ h.begins.kind (kind_sum (λ t. (turns t + 1) * test t) _ (inl (λ t u. λ i. (f t u i + 1) * h.test_fixed t u i))
          (repeated turns (λ t. body t + third t) f (kind_sum body third h.turns.kind h.steps.kind))))
      at (inr own) = inr (λ t.
          let count : turns t ≡ t = own t in
          let product : (turns t + 1) * 1 ≤ (turns t + 1) * test t = mul-le (turns t + 1) 1 (turns t + 1) (test t) (omega arith) (h.some t) in
          beyond t (turns t) (first t) ((turns t + 1) * test t) (turns t * (body t + third t)) count product)
        where
          beyond : (t n k x y : ℕ) → n ≡ t → (n + 1) * 1 ≤ x → t < 1 + (k + (x + y))
          beyond t n k x y count product = omega (arith, count, product)

  testing_last : IsFixed (λ t. 1 + (first t + turns t * (body t + (third t + test t)))) ⊎ IsRising (λ t. 1 + (first t + turns t * (body t + (third t + test t))))
  testing_last = at kind
    where
      at : IsTurning turns → IsFixed (λ t. 1 + (first t + turns t * (body t + (third t + test t)))) ⊎ IsRising (λ t. 1 + (first t + turns t * (body t + (third t + test t))))
      at (inl f) = kind_sum (λ t. 1) _ (inl (λ t u. refl)) (kind_sum first _ h.begins.kind
          (repeated turns (λ t. body t + (third t + test t)) f (kind_sum body _ h.turns.kind (kind_sum third test h.steps.kind h.tests.kind))))
      at (inr own) = inr (λ t.
          let count : turns t ≡ t = own t in
          let some : 1 ≤ test t = h.some t in
          let product : turns t * 1 ≤ turns t * (body t + (third t + test t)) = mul-le (turns t) 1 (turns t) (body t + (third t + test t)) (omega arith) (omega (arith, some)) in
          beyond t (turns t) (first t) (turns t * (body t + (third t + test t))) count product)
        where
          beyond : (t n k x : ℕ) → n ≡ t → n * 1 ≤ x → t < 1 + (k + x)
          beyond t n k x count product = omega (arith, count, product)

  loop_steady : (keyword : LoopKeyword) → Steady (λ t. loop_cost keyword (turns t) (first t) (test t) (third t) (body t)) (λ t. loop_cost keyword (turns t) (first2 t) (test2 t) (third2 t) (body2 t))
  loop_steady keyword = record {
    same = λ t. λ i. loop_cost keyword (turns t) (h.begins.same t i) (h.tests.same t i) (h.steps.same t i) (h.turns.same t i);
    kind = at keyword;
  }
    where
      at : (keyword : LoopKeyword) → IsFixed (λ t. loop_cost keyword (turns t) (first t) (test t) (third t) (body t)) ⊎ IsRising (λ t. loop_cost keyword (turns t) (first t) (test t) (third t) (body t))
      at While = testing_first
      at For = testing_first
      at Do = testing_last

-- ## Statements

module _ (p : PlainProgram) (variables : List PlainVariable) (fs gs : List Func) (loops : List Loop) where
  -- what trees are counted under, by what is claimed of the task's turn
  abbrev by : List Func → ℕ → Counting
  by functions t = counting_under p variables functions (map (with_turn_steps t) loops)

  value_steady : (v : PlainValue) → EachCalled (OneClaim fs gs) (nodes_of_value v) → Steady (λ t. value_cost (by fs t) v) (λ t. value_cost (by gs t) v)
  value_steady v h = record {
    same = λ t. value_costs p variables fs gs (map (with_turn_steps t) loops) (map (with_turn_steps t) loops) v h;
    kind = inl (λ t u. value_costs p variables fs fs (map (with_turn_steps t) loops) (map (with_turn_steps u) loops) v (all_called (OneClaim fs fs) (λ n. refl) (nodes_of_value v)));
  }

  place_steady : (q : PlainPlace) → EachCalled (OneClaim fs gs) (nodes_of_place q) → Steady (λ t. place_cost (by fs t) q) (λ t. place_cost (by gs t) q)
  place_steady q h = record {
    same = λ t. place_costs p variables fs gs (map (with_turn_steps t) loops) (map (with_turn_steps t) loops) q h;
    kind = inl (λ t u. place_costs p variables fs fs (map (with_turn_steps t) loops) (map (with_turn_steps u) loops) q (all_called (OneClaim fs fs) (λ n. refl) (nodes_of_place q)));
  }

  written_steady : (w : PlainWritten) → EachCalled (OneClaim fs gs) (nodes_of_written w) → Steady (λ t. written_cost (by fs t) w) (λ t. written_cost (by gs t) w)
  written_steady (one_scalar v) h = value_steady v h
  written_steady (scalars_of_text bytes) h = fixed 0 0 refl

  items_steady : (items : List PlainItem) → EachCalled (OneClaim fs gs) (nodes_of_items items) → Steady (λ t. items_cost (by fs t) items) (λ t. items_cost (by gs t) items)
  items_steady [] h = fixed 0 0 refl
  items_steady (item ∷ items) h =
      plus (written_steady item.written (first_called (OneClaim fs gs) (nodes_of_written item.written) (nodes_of_items items) h))
      (items_steady items (last_called (OneClaim fs gs) (nodes_of_written item.written) (nodes_of_items items) h))

  initializer_steady : (scalars : ℕ) (initializer : PlainInitializer) → EachCalled (OneClaim fs gs) (nodes_of_initializer initializer) → Steady (λ t. initializer_cost (by fs t) scalars initializer) (λ t. initializer_cost (by gs t) scalars initializer)
  initializer_steady scalars not_initialized h = fixed 0 0 refl
  initializer_steady scalars (single v) h = value_steady v h
  initializer_steady scalars (copied q) h = more 1 (plus (place_steady q h) (fixed scalars scalars refl))
  initializer_steady scalars (listed at items) h = plus (items_steady items h) (fixed scalars scalars refl)

  declared_steady : (found : Option PlainVariable) (initializer : PlainInitializer) → EachCalled (OneClaim fs gs) (nodes_of_initializer initializer)
      → Steady (λ t. 1 + initializer_cost (by fs t) (variable_width (by fs t) found) initializer) (λ t. 1 + initializer_cost (by gs t) (variable_width (by gs t) found) initializer)
  declared_steady None initializer h = more 1 (initializer_steady 0 initializer h)
  declared_steady (Some v) initializer h = more 1 (initializer_steady (width p v.type) initializer h)

  test_steady : (v : Option PlainValue) → EachCalled (OneClaim fs gs) (nodes_of_maybe v) → Steady (λ t. test_cost (by fs t) v) (λ t. test_cost (by gs t) v)
  test_steady None h = fixed 1 1 refl
  test_steady (Some v) h = value_steady v h

  test_is_fixed : (v : Option PlainValue) → IsFixed (λ t. test_cost (by fs t) v)
  test_is_fixed None = λ t u. refl
  test_is_fixed (Some v) = λ t u. value_costs p variables fs fs (map (with_turn_steps t) loops) (map (with_turn_steps u) loops) v (all_called (OneClaim fs fs) (λ n. refl) (nodes_of_value v))

  test_positive : (v : Option PlainValue) (t : ℕ) → 1 ≤ test_cost (by fs t) v
  test_positive None t = omega arith
  test_positive (Some v) t = value_positive (by fs t) v

  mutual
    pub statement_steady : (s : PlainStatement) → EachCalled (OneClaim fs gs) (nodes_of_statement s) → Steady (λ t. statement_cost (by fs t) s) (λ t. statement_cost (by gs t) s)
    statement_steady (statement at form) h = form_steady form h.1

    form_steady : (form : PlainStatementForm) → EachCalled (OneClaim fs gs) (nodes_in_statement_form form) → Steady (λ t. statement_form_cost (by fs t) form) (λ t. statement_form_cost (by gs t) form)
    form_steady (set q v) h =
        more 1 (plus (place_steady q (first_called (OneClaim fs gs) (nodes_of_place q) (nodes_of_value v) h)) (value_steady v (last_called (OneClaim fs gs) (nodes_of_place q) (nodes_of_value v) h)))
    form_steady (update kind op t q v) h =
        more 1 (plus (place_steady q (first_called (OneClaim fs gs) (nodes_of_place q) (nodes_of_value v) h))
        (more 1 (plus (value_steady v (last_called (OneClaim fs gs) (nodes_of_place q) (nodes_of_value v) h)) (fixed 1 1 refl))))
    form_steady (copy q r) h =
        more 1 (plus (place_steady q (first_called (OneClaim fs gs) (nodes_of_place q) (nodes_of_place r) h))
        (plus (place_steady r (last_called (OneClaim fs gs) (nodes_of_place q) (nodes_of_place r) h)) (fixed (width p (place_type q)) (width p (place_type q)) refl)))
    form_steady (evaluate v) h = more 1 (value_steady v h)
    form_steady (asserts at v) h = more 1 (value_steady v h)
    form_steady (declare n initializer) h = declared_steady (slice_get variables n) initializer h
    form_steady (declare_static n) h = fixed 0 0 refl
    form_steady (block ss) h = statements_steady ss h
    form_steady (if_then v s) h =
        more 1 (plus (value_steady v (first_called (OneClaim fs gs) (nodes_of_value v) (nodes_of_statement s) h)) (statement_steady s (last_called (OneClaim fs gs) (nodes_of_value v) (nodes_of_statement s) h)))
    form_steady (if_else v s t) h =
        let rest = last_called (OneClaim fs gs) (nodes_of_value v) (nodes_of_statement s ++ nodes_of_statement t) h in
        more 1 (plus (value_steady v (first_called (OneClaim fs gs) (nodes_of_value v) (nodes_of_statement s ++ nodes_of_statement t) h))
        (greater (statement_steady s (first_called (OneClaim fs gs) (nodes_of_statement s) (nodes_of_statement t) rest)) (statement_steady t (last_called (OneClaim fs gs) (nodes_of_statement s) (nodes_of_statement t) rest))))
    form_steady (loop head first test third body) h =
        let parts = loop_called (OneClaim fs gs) head.keyword (nodes_of_statements first) (nodes_of_maybe test) (nodes_of_statements third) (nodes_of_statement body) h in
        loop_steady (λ t. turns_claimed (slice_get (map (with_turn_steps t) loops) head.number)) (λ t. statements_cost (by fs t) first) (λ t. statements_cost (by gs t) first)
        (λ t. test_cost (by fs t) test) (λ t. test_cost (by gs t) test) (λ t. statements_cost (by fs t) third) (λ t. statements_cost (by gs t) third) (λ t. statement_cost (by fs t) body) (λ t. statement_cost (by gs t) body)
        (turns_of loops head.number) (record {
          begins = statements_steady first parts.in_first;
          tests = test_steady test parts.in_test;
          test_fixed = test_is_fixed test;
          some = test_positive test;
          steps = statements_steady third parts.in_third;
          turns = statement_steady body parts.in_body;
        }) head.keyword
    form_steady (switch keyword v labels body) h =
        more 1 (plus (value_steady v (first_called (OneClaim fs gs) (nodes_of_value v) (nodes_of_statement body) h)) (statement_steady body (last_called (OneClaim fs gs) (nodes_of_value v) (nodes_of_statement body) h)))
    form_steady break h = fixed 1 1 refl
    form_steady continue h = fixed 1 1 refl
    form_steady (return keyword None) h = fixed 1 1 refl
    form_steady (return keyword (Some v)) h = more 1 (value_steady v h)
    form_steady empty h = fixed 1 1 refl
    form_steady (mark kind) h = fixed 0 0 refl

    pub statements_steady : (ss : PlainStatements) → EachCalled (OneClaim fs gs) (nodes_of_statements ss) → Steady (λ t. statements_cost (by fs t) ss) (λ t. statements_cost (by gs t) ss)
    statements_steady no_statements h = fixed 0 0 refl
    statements_steady (more_statements s rest) h =
        plus (statement_steady s (first_called (OneClaim fs gs) (nodes_of_statement s) (nodes_of_statements rest) h)) (statements_steady rest (last_called (OneClaim fs gs) (nodes_of_statement s) (nodes_of_statements rest) h))

  -- ## Functions

  -- the first items
  first_items : (ss : PlainStatements) (k : ℕ) → EachCalled (OneClaim fs gs) (nodes_of_statements ss) → EachCalled (OneClaim fs gs) (nodes_of_statements (statements_of_list (take k (statements_list ss))))
  first_items no_statements zero h = tt
  first_items no_statements (suc k) h = tt
  first_items (more_statements s rest) zero h = tt
  first_items (more_statements s rest) (suc k) h =
      both_called (OneClaim fs gs) (nodes_of_statement s) (nodes_of_statements (statements_of_list (take k (statements_list rest)))) (first_called (OneClaim fs gs) (nodes_of_statement s) (nodes_of_statements rest) h)
      (first_items rest k (last_called (OneClaim fs gs) (nodes_of_statement s) (nodes_of_statements rest) h))

  -- the steps of a turn of a statement that is a task loop
  turn_steady : (s : PlainStatement) → EachCalled (OneClaim fs gs) (nodes_of_statement s) → Steady (λ t. task_cost (by fs t) (task_in (Some s))) (λ t. task_cost (by gs t) (task_in (Some s)))
  turn_steady (statement at (loop head first test third body)) h =
      let parts = loop_called (OneClaim fs gs) head.keyword (nodes_of_statements first) (nodes_of_maybe test) (nodes_of_statements third) (nodes_of_statement body) h.1 in
      plus (testing test parts.in_test) (statement_steady body parts.in_body)
    where
      testing : (v : Option PlainValue) → EachCalled (OneClaim fs gs) (nodes_of_maybe v) → Steady (λ t. task_test_cost (by fs t) v) (λ t. task_test_cost (by gs t) v)
      testing None k = fixed 0 0 refl
      testing (Some v) k = value_steady v k
  turn_steady s h = fixed 0 0 refl

  turn_at : (ss : PlainStatements) (k : ℕ) → EachCalled (OneClaim fs gs) (nodes_of_statements ss) → Steady (λ t. task_cost (by fs t) (task_in (slice_get (statements_list ss) k))) (λ t. task_cost (by gs t) (task_in (slice_get (statements_list ss) k)))
  turn_at no_statements k h = fixed 0 0 refl
  turn_at (more_statements s rest) zero h = turn_steady s (first_called (OneClaim fs gs) (nodes_of_statement s) (nodes_of_statements rest) h)
  turn_at (more_statements s rest) (suc k) h = turn_at rest k (last_called (OneClaim fs gs) (nodes_of_statement s) (nodes_of_statements rest) h)

  pub steps_steady : (task : Option ℕ) (f : PlainFunction) → EachCalled (OneClaim fs gs) (nodes_of_statements f.body) → Steady (λ t. cost_of (by fs t) task f) (λ t. cost_of (by gs t) task f)
  steps_steady None f h = more 1 (statements_steady f.body h)
  steps_steady (Some k) f h = more 1 (plus (statements_steady (statements_of_list (take k (statements_list f.body))) (first_items f.body k h)) (fixed 1 1 refl))

  pub turns_steady : (task : Option ℕ) (f : PlainFunction) → EachCalled (OneClaim fs gs) (nodes_of_statements f.body) → Steady (λ t. turn_cost (by fs t) task f) (λ t. turn_cost (by gs t) task f)
  turns_steady None f h = fixed 0 0 refl
  turns_steady (Some k) f h = turn_at f.body k h

-- two numbers of which each makes itself are one as they count: where both make more than they count as, they count as the greatest
pub one_number : (a b : ℕ → ℕ) (m n : ℕ) → Steady a b → m ≡ a (counted m) → n ≡ b (counted n) → counted m ≡ counted n
one_number a b m n h first second = at h.kind
  where
    greatest : (k x y : ℕ) → x ≡ y → min x k < y → min x k ≡ k
    greatest k x y is over = omega (arith, is, over)

    at : IsFixed a ⊎ IsRising a → counted m ≡ counted n
    at (inl f) = ap counted (first ∙ (f (counted m) (counted n) ∙ (h.same (counted n) ∙ sym second)))
    at (inr up) = greatest (MOST_SUM + 1) m (a (counted m)) first (up (counted m)) ∙ sym (greatest (MOST_SUM + 1) n (a (counted n)) (second ∙ sym (h.same (counted n))) (up (counted n)))

-- a number that is made of the greatest makes itself again
pub own_number : (a : ℕ → ℕ) → IsFixed a ⊎ IsRising a → counted (a (counted (a (MOST_SUM + 1)))) ≡ counted (a (MOST_SUM + 1))
own_number a (inl f) = ap counted (f (counted (a (MOST_SUM + 1))) (MOST_SUM + 1))
own_number a (inr up) = ap (λ n. counted (a n)) (greatest (MOST_SUM + 1) (a (MOST_SUM + 1)) (up (MOST_SUM + 1)))
  where
    greatest : (k x : ℕ) → k < x → min x k ≡ k
    greatest k x over = omega (arith, over)
