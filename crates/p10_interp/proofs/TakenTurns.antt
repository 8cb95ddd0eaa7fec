-- Turns of loops that are taken at once.
use Rattle.std.proofs.Common.{◌≡◌, ℕ, ◌<◌, ◌≤◌, Bool, true, false, List, [], ◌∷◌, refl, sym, ◌∙◌, ap, subst, arith, length, get_or, take, drop, ◌-◌, Some}
use Rattle.p10_base.specs.declared.at.At.{At}
use Rattle.p10_core.specs.declared.statements.Stmt.{Stmt}
use Rattle.p10_core.specs.Views.{plain_statements, plain_statement_form}
use Rattle.p10_core.specs.Typed.{PlainProgram, PlainValue, PlainStatementForm, PlainStatements, no_statements, more_statements, statement, block}
use Rattle.p10_meaning.specs.States.{State, gives, and_then}
use Rattle.p10_meaning.specs.Values.{Held}
use Rattle.p10_meaning.specs.Statements.{normal}
use Rattle.p10_meaning.specs.Laws.{Follows}
use Rattle.p10_interp.specs.declared.stacks.Stacks.{Stacks}
use Rattle.p10_interp.specs.private.OpenCalls.{calls_in}
use Rattle.p10_interp.specs.private.Views.{tasks_in}
use Rattle.p10_interp.specs.private.Machines.{rig_of}
use Rattle.p10_interp.specs.private.Tasks.{Task, execute_statement, execute_statements, test_loop, end_turn, end_block, Loop, Operand, Open, Rig}
use Rattle.p10_interp.specs.private.Operations.{in_new_block}
use Rattle.p10_interp.specs.private.Acts.{act}
use Rattle.p10_interp.specs.private.Resuming.{proceed}
use Rattle.p10_interp.specs.private.Weights.{weights}
use Rattle.p10_interp.specs.private.Executing.{with_held, IsExecuted, Executes}
use Rattle.p10_interp.specs.private.Turning.{IsDone, Goes, IsRow, IsTested, AreTaken, in_block, rig_at}
use Rattle.p10_interp.proofs.Right.{next_right}
use Rattle.p10_interp.proofs.Lighter.{IsLighter, next_light}
use Rattle.p10_interp.proofs.Turned.{tail_is}
use Rattle.p10_interp.proofs.TurnedAtOnce.{Leads, first_done, test_goes, test_ends}
use Rattle.p10_interp.proofs.Hastened.{stays, goes_then}

-- the act of the work on top
pub acts : (p : PlainProgram) (t : Task) (k : List Task) (operands : List Operand) (calls : List Open) (r : Rig) (w v : State) → act p t k operands calls w ≡ gives r v → Goes p (rig_at (t ∷ k) operands calls) w r v
acts p t k operands calls r w v h =
    let l : IsLighter w (weights (t ∷ k)) (gives r v) = subst (λ o. IsLighter w (weights (t ∷ k)) o) h (next_light p normal t k operands calls w) in
    let f : Follows w v = l.after in
    record {
      few = f.left;
      light = λ m. let less : weights r.tasks < weights (t ∷ k) = l.less m in omega (arith, less);
      same = λ n few. next_right p n normal t k operands calls w few ∙ ap (λ o. and_then o (proceed p n)) h;
    }

-- a step was taken
leads_goes : (p : PlainProgram) (r q : Rig) (w v : State) → Leads p r w q v → Goes p r w q v
leads_goes p r q w v h =
    let less : v.left < w.left = h.paid in
    record {
      few = omega (arith, less);
      light = λ m. absurd (omega (arith, less, m));
      same = h.same;
    }

-- ## Statements in a row

-- the first of statements that was executed
first_goes : (p : PlainProgram) (at : At) (form : PlainStatementForm) (rest : PlainStatements) (k : List Task) (operands : List Operand) (old : List Open) (f : Open) (calls new : List Open) (w v : State) → old ≡ f ∷ calls → v.left < w.left → IsExecuted p form f calls w new v →
    Goes p (rig_at (execute_statements (more_statements (statement at form) rest) ∷ k) operands old) w (rig_at (execute_statements rest ∷ k) operands new) v
first_goes p at form rest k operands old f calls new w v e less h = record {
  few = omega (arith, less);
  light = λ m. absurd (omega (arith, less, m));
  same = λ n few. first_done p n at form rest k (execute_statements rest ∷ k) operands old f calls new w v few e refl h;
}

-- a statement that was executed, whatever the blocks of its call have opened
executed_in : (p : PlainProgram) (form : PlainStatementForm) (f : Open) (calls new : List Open) (w v : State) (opened : List ℕ) (outer : List (List ℕ)) (h : IsExecuted p form f calls w new v) → IsExecuted p form (in_block f opened outer) calls w (in_block (with_held f h.held) opened outer ∷ calls) v
executed_in p form f calls new w v opened outer h = record { held = h.held; now = refl; run = h.run }

-- none was executed yet
pub row_starts : (p : PlainProgram) (xs : PlainStatements) (f : Open) (calls old : List Open) (w : State) → old ≡ f ∷ calls → IsRow p xs xs f calls w old w
row_starts p xs f calls old w e = record { held = f.frame.held; now = e; goes = λ opened outer k operands. stays p (rig_at (execute_statements xs ∷ k) operands (in_block f opened outer ∷ calls)) w }

-- the next one can't be executed
pub row_stops : (p : PlainProgram) (xs left : PlainStatements) (form : PlainStatementForm) (b : Bool) (f : Open) (calls old new : List Open) (w u v : State) → b ≡ false → (row : IsRow p xs left f calls w old u) → Executes p form b (with_held f row.held) calls u new v → IsRow p xs left f calls w new v
row_stops p xs left form b f calls old new w u v is row h =
    let k : (new ≡ with_held f row.held ∷ calls) × (v ≡ u) = subst (λ b. Executes p form b (with_held f row.held) calls u new v) is h in
    record {
      held = row.held;
      now = k.0;
      goes = λ opened outer t operands. subst (λ v. Goes p (rig_at (execute_statements xs ∷ t) operands (in_block f opened outer ∷ calls)) w (rig_at (execute_statements left ∷ t) operands (in_block (with_held f row.held) opened outer ∷ calls)) v) (sym k.1) (row.goes opened outer t operands);
    }

-- the next one was executed
row_next : (p : PlainProgram) (xs rest : PlainStatements) (at : At) (form : PlainStatementForm) (f : Open) (calls old new : List Open) (w u v : State) (row : IsRow p xs (more_statements (statement at form) rest) f calls w old u) → v.left < u.left → IsExecuted p form (with_held f row.held) calls u new v → IsRow p xs rest f calls w new v
row_next p xs rest at form f calls old new w u v row less h = record {
  held = h.held;
  now = h.now;
  goes = λ opened outer k operands.
      goes_then p (rig_at (execute_statements xs ∷ k) operands (in_block f opened outer ∷ calls)) (rig_at (execute_statements (more_statements (statement at form) rest) ∷ k) operands (in_block (with_held f row.held) opened outer ∷ calls)) (rig_at (execute_statements rest ∷ k) operands (in_block (with_held f h.held) opened outer ∷ calls)) w u v
      (row.goes opened outer k operands)
      (first_goes p at form rest k operands (in_block (with_held f row.held) opened outer ∷ calls) (in_block (with_held f row.held) opened outer) calls (in_block (with_held f h.held) opened outer ∷ calls) u v refl less (executed_in p form (with_held f row.held) calls new u v opened outer h));
}

-- the next one was executed, as the code says it
pub row_more : (p : PlainProgram) (xs : PlainStatements) (ys : List Stmt) (first : Stmt) (b : Bool) (f : Open) (calls old new : List Open) (w u v : State) → 1 ≤ length ys → first ≡ get_or ys 0 first → b ≡ true → v.left < u.left → (row : IsRow p xs (plain_statements ys) f calls w old u) → Executes p (plain_statement_form first.form) b (with_held f row.held) calls u new v →
    IsRow p xs (plain_statements (take (length ys - 1) (drop 1 ys))) f calls w new v
row_more p xs [] first b f calls old new w u v l is true_is less row h = absurd (omega (arith, l))
row_more p xs (y ∷ ys) first b f calls old new w u v l is true_is less row h =
    subst (λ rest. IsRow p xs rest f calls w new v) (sym (tail_is 1 (y ∷ ys)))
    (row_next p xs (plain_statements ys) y.at (plain_statement_form y.form) f calls old new w u v row less
    (subst (λ (y : Stmt). IsExecuted p (plain_statement_form y.form) (with_held f row.held) calls u new v) is (subst (λ b. Executes p (plain_statement_form first.form) b (with_held f row.held) calls u new v) true_is h)))

-- ## Turns

module _ (p : PlainProgram) (l : Loop) (f : Open) (around : List Open) where
  -- one thing after another
  then_goes : (left next : List Task → List Task) (inside now_in : Open → Open) (held : List Held) (old new : List Open) (w u v : State) (h : AreTaken p l left inside f around w old u) → new ≡ with_held f held ∷ around →
      ((k : List Task) (operands : List Operand) → Goes p (rig_at (left k) operands (inside (with_held f h.held) ∷ around)) u (rig_at (next k) operands (now_in (with_held f held) ∷ around)) v) → AreTaken p l next now_in f around w new v
  then_goes left next inside now_in held old new w u v h e go = record {
    held = held;
    now = e;
    goes = λ k operands.
        goes_then p (rig_at (execute_statement l.body ∷ (end_turn l ∷ k)) operands (f ∷ around)) (rig_at (left k) operands (inside (with_held f h.held) ∷ around)) (rig_at (next k) operands (now_in (with_held f held) ∷ around)) w u v
        (h.goes k operands) (go k operands);
  }

  -- the body comes next
  pub turn_starts : (old : List Open) (w : State) → old ≡ f ∷ around → AreTaken p l (λ k. execute_statement l.body ∷ (end_turn l ∷ k)) (λ f. f) f around w old w
  turn_starts old w e = record { held = f.frame.held; now = e; goes = λ k operands. stays p (rig_at (execute_statement l.body ∷ (end_turn l ∷ k)) operands (f ∷ around)) w }

  -- the items of the body were executed up to those that are left
  pub body_taken : (at : At) (items left : PlainStatements) (old new : List Open) (w u v : State) → l.body ≡ statement at (block items) → (h : AreTaken p l (λ k. execute_statement l.body ∷ (end_turn l ∷ k)) (λ f. f) f around w old u) → IsRow p items left (with_held f h.held) around u new v →
      AreTaken p l (λ k. execute_statements left ∷ (end_block ∷ (end_turn l ∷ k))) (λ f. in_new_block f) f around w new v
  body_taken at items left old new w u v is h row =
      then_goes (λ k. execute_statement l.body ∷ (end_turn l ∷ k)) (λ k. execute_statements left ∷ (end_block ∷ (end_turn l ∷ k))) (λ f. f) (λ f. in_new_block f) row.held old new w u v h row.now
      (λ k operands.
      subst (λ body. Goes p (rig_at (execute_statement body ∷ (end_turn l ∷ k)) operands (with_held f h.held ∷ around)) u (rig_at (execute_statements left ∷ (end_block ∷ (end_turn l ∷ k))) operands (in_new_block (with_held f row.held) ∷ around)) v) (sym is)
      (goes_then p (rig_at (execute_statement (statement at (block items)) ∷ (end_turn l ∷ k)) operands (with_held f h.held ∷ around)) (rig_at (execute_statements items ∷ (end_block ∷ (end_turn l ∷ k))) operands (in_new_block (with_held f h.held) ∷ around)) (rig_at (execute_statements left ∷ (end_block ∷ (end_turn l ∷ k))) operands (in_new_block (with_held f row.held) ∷ around)) u u v
      (acts p (execute_statement (statement at (block items))) (end_turn l ∷ k) operands (with_held f h.held ∷ around) (rig_at (execute_statements items ∷ (end_block ∷ (end_turn l ∷ k))) operands (in_new_block (with_held f h.held) ∷ around)) u u refl)
      (row.goes [] (f.frame.opened ∷ f.outer) (end_block ∷ (end_turn l ∷ k)) operands)))

  -- all of them were, and the block was left
  pub body_left : (left : PlainStatements) (old : List Open) (w u : State) → left ≡ no_statements → AreTaken p l (λ k. execute_statements left ∷ (end_block ∷ (end_turn l ∷ k))) (λ f. in_new_block f) f around w old u →
      AreTaken p l (λ k. end_turn l ∷ k) (λ f. f) f around w old u
  body_left left old w u none h =
      then_goes (λ k. execute_statements left ∷ (end_block ∷ (end_turn l ∷ k))) (λ k. end_turn l ∷ k) (λ f. in_new_block f) (λ f. f) h.held old old w u u h h.now
      (λ k operands.
      subst (λ xs. Goes p (rig_at (execute_statements xs ∷ (end_block ∷ (end_turn l ∷ k))) operands (in_new_block (with_held f h.held) ∷ around)) u (rig_at (end_turn l ∷ k) operands (with_held f h.held ∷ around)) u) (sym none)
      (goes_then p (rig_at (execute_statements no_statements ∷ (end_block ∷ (end_turn l ∷ k))) operands (in_new_block (with_held f h.held) ∷ around)) (rig_at (end_block ∷ (end_turn l ∷ k)) operands (in_new_block (with_held f h.held) ∷ around)) (rig_at (end_turn l ∷ k) operands (with_held f h.held ∷ around)) u u u
      (acts p (execute_statements no_statements) (end_block ∷ (end_turn l ∷ k)) operands (in_new_block (with_held f h.held) ∷ around) (rig_at (end_block ∷ (end_turn l ∷ k)) operands (in_new_block (with_held f h.held) ∷ around)) u u refl)
      (acts p end_block (end_turn l ∷ k) operands (in_new_block (with_held f h.held) ∷ around) (rig_at (end_turn l ∷ k) operands (with_held f h.held ∷ around)) u u refl)))

  -- the third clause was executed up to what is left of it
  pub third_taken : (third left : PlainStatements) (old new : List Open) (w u v : State) → l.third ≡ third → (h : AreTaken p l (λ k. end_turn l ∷ k) (λ f. f) f around w old u) → IsRow p third left (with_held f h.held) around u new v →
      AreTaken p l (λ k. execute_statements left ∷ (test_loop l ∷ k)) (λ f. f) f around w new v
  third_taken third left old new w u v is h row =
      then_goes (λ k. end_turn l ∷ k) (λ k. execute_statements left ∷ (test_loop l ∷ k)) (λ f. f) (λ f. f) row.held old new w u v h row.now
      (λ k operands.
      goes_then p (rig_at (end_turn l ∷ k) operands (with_held f h.held ∷ around)) (rig_at (execute_statements l.third ∷ (test_loop l ∷ k)) operands (with_held f h.held ∷ around)) (rig_at (execute_statements left ∷ (test_loop l ∷ k)) operands (with_held f row.held ∷ around)) u u v
      (acts p (end_turn l) k operands (with_held f h.held ∷ around) (rig_at (execute_statements l.third ∷ (test_loop l ∷ k)) operands (with_held f h.held ∷ around)) u u refl)
      (subst (λ xs. Goes p (rig_at (execute_statements xs ∷ (test_loop l ∷ k)) operands (with_held f h.held ∷ around)) u (rig_at (execute_statements left ∷ (test_loop l ∷ k)) operands (with_held f row.held ∷ around)) v) (sym is)
      (row.goes f.frame.opened f.outer (test_loop l ∷ k) operands)))

  -- all of it was
  pub third_left : (left : PlainStatements) (old : List Open) (w u : State) → left ≡ no_statements → AreTaken p l (λ k. execute_statements left ∷ (test_loop l ∷ k)) (λ f. f) f around w old u → AreTaken p l (λ k. test_loop l ∷ k) (λ f. f) f around w old u
  third_left left old w u none h =
      then_goes (λ k. execute_statements left ∷ (test_loop l ∷ k)) (λ k. test_loop l ∷ k) (λ f. f) (λ f. f) h.held old old w u u h h.now
      (λ k operands.
      subst (λ xs. Goes p (rig_at (execute_statements xs ∷ (test_loop l ∷ k)) operands (with_held f h.held ∷ around)) u (rig_at (test_loop l ∷ k) operands (with_held f h.held ∷ around)) u) (sym none)
      (acts p (execute_statements no_statements) (test_loop l ∷ k) operands (with_held f h.held ∷ around) (rig_at (test_loop l ∷ k) operands (with_held f h.held ∷ around)) u u refl))

  -- the test was true: another turn begins
  pub turned_again : (v : PlainValue) (b : Bool) (old : List Open) (w u t : State) → l.tested ≡ Some v → b ≡ true → (h : AreTaken p l (λ k. test_loop l ∷ k) (λ f. f) f around w old u) → IsTested p v (with_held f h.held) b u t → AreTaken p l (λ k. execute_statement l.body ∷ (end_turn l ∷ k)) (λ f. f) f around w old t
  turned_again v b old w u t is holds h tested =
      then_goes (λ k. test_loop l ∷ k) (λ k. execute_statement l.body ∷ (end_turn l ∷ k)) (λ f. f) (λ f. f) h.held old old w u t h h.now
      (λ k operands. leads_goes p (rig_at (test_loop l ∷ k) operands (with_held f h.held ∷ around)) (rig_at (execute_statement l.body ∷ (end_turn l ∷ k)) operands (with_held f h.held ∷ around)) u t (test_goes p l v b k operands (with_held f h.held) around u t is tested holds))

  -- the test was false: the loop has ended
  pub turns_ended : (v : PlainValue) (b : Bool) (old : List Open) (w u t : State) → l.tested ≡ Some v → b ≡ false → (h : AreTaken p l (λ k. test_loop l ∷ k) (λ f. f) f around w old u) → IsTested p v (with_held f h.held) b u t → AreTaken p l (λ k. k) (λ f. f) f around w old t
  turns_ended v b old w u t is fails h tested =
      then_goes (λ k. test_loop l ∷ k) (λ k. k) (λ f. f) (λ f. f) h.held old old w u t h h.now
      (λ k operands. leads_goes p (rig_at (test_loop l ∷ k) operands (with_held f h.held ∷ around)) (rig_at k operands (with_held f h.held ∷ around)) u t (test_ends p l v b k operands (with_held f h.held) around u t is tested fails))

-- ## A turn and its test

module _ (p : PlainProgram) (l : Loop) (v : PlainValue) (b : Bool) (old new : Stacks) (f : Open) (around : List Open) (w u t : State) (e : calls_in old.calls ≡ f ∷ around) (is : l.tested ≡ Some v) (h : IsTested p v f b w u) where
  -- the test was false
  pub loop_done : b ≡ false → IsDone p (test_loop l) old w old u
  loop_done fails = record {
    paid = h.paid;
    same = λ n few. subst (λ cs. proceed p n (rig_at (test_loop l ∷ tasks_in old.tasks) old.operands cs) w ≡ proceed p n (rig_at (tasks_in old.tasks) old.operands cs) u) (sym e) ((test_ends p l v b (tasks_in old.tasks) old.operands f around w u is h fails).same n few);
  }

  -- the test was true, and the machine went on from there
  pub turn_done : b ≡ true → Goes p (rig_at (execute_statement l.body ∷ (end_turn l ∷ tasks_in old.tasks)) old.operands (calls_in old.calls)) u (rig_of normal new) t → IsDone p (test_loop l) old w new t
  turn_done holds g =
      let less : u.left < w.left = h.paid in
      let few : t.left ≤ u.left = g.few in
      record {
        paid = omega (arith, less, few);
        same = λ n most.
            subst (λ cs. proceed p n (rig_at (test_loop l ∷ tasks_in old.tasks) old.operands cs) w ≡ proceed p n (rig_at (execute_statement l.body ∷ (end_turn l ∷ tasks_in old.tasks)) old.operands cs) u) (sym e) ((test_goes p l v b (tasks_in old.tasks) old.operands f around w u is h holds).same n most) ∙
            g.same n (omega (arith, less, most));
      }

-- turns were taken, and what is left of them is work
pub turns_left : (p : PlainProgram) (l : Loop) (left : List Task → List Task) (inside : Open → Open) (old new : Stacks) (f : Open) (around cs : List Open) (w v : State) → calls_in old.calls ≡ f ∷ around → (h : AreTaken p l left inside f around w cs v) →
    rig_of normal new ≡ rig_at (left (tasks_in old.tasks)) old.operands (inside (with_held f h.held) ∷ around) → Goes p (rig_at (execute_statement l.body ∷ (end_turn l ∷ tasks_in old.tasks)) old.operands (calls_in old.calls)) w (rig_of normal new) v
turns_left p l left inside old new f around cs w v e h put =
    subst (λ cs. Goes p (rig_at (execute_statement l.body ∷ (end_turn l ∷ tasks_in old.tasks)) old.operands cs) w (rig_of normal new) v) (sym e)
    (subst (λ r. Goes p (rig_at (execute_statement l.body ∷ (end_turn l ∷ tasks_in old.tasks)) old.operands (f ∷ around)) w r v) (sym put) (h.goes (tasks_in old.tasks) old.operands))
