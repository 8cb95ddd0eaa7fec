-- What is done at once leaves what the machine comes to as it was.
use Rattle.std.proofs.Common.{◌≡◌, ℕ, ◌<◌, ◌≤◌, Bool, true, false, if◌then◌else◌, List, [], ◌∷◌, refl, sym, ◌∙◌, ap, subst, arith, ℤ, length, get_or, take, drop, ◌-◌, Option, Some, IfOk, Result, Ok, Err}
use Rattle.p10_base.specs.declared.at.At.{At}
use Rattle.p10_base.specs.declared.span.Span.{Span}
use Rattle.p10_core.specs.declared.statements.Stmt.{Stmt}
use Rattle.p10_core.specs.Types.{PlainType}
use Rattle.p10_core.specs.Views.{plain_statement, plain_statements, plain_statement_form}
use Rattle.p10_core.specs.Typed.{PlainValue, value, call, PlainValues, statement, PlainStatement, PlainStatementForm, more_statements, PlainStatements, PlainProgram}
use Rattle.p10_meaning.specs.declared.pointers.Scalar.TheVariants.{Int}
use Rattle.p10_meaning.specs.States.{State, gives, and_then}
use Rattle.p10_meaning.specs.Values.{evaluate}
use Rattle.p10_meaning.specs.Statements.{normal, go_on, execute_from}
use Rattle.p10_interp.specs.declared.work.Halt.{Halt}
use Rattle.p10_interp.specs.declared.work.Flow.{Flow as Way}
use Rattle.p10_interp.specs.declared.stacks.Stacks.{Stacks}
use Rattle.p10_interp.specs.declared.outside.Outside.{Outside}
use Rattle.p10_interp.specs.private.Nothing.{is_nil}
use Rattle.p10_interp.proofs.Turned.{tail_is}
use Rattle.p10_interp.specs.private.Tasks.{Loop, Task, evaluate_value, execute_statement, execute_statements, test_loop, enter_turn, end_turn, Operand, evaluated, Open, Rig}
use Rattle.p10_interp.specs.private.Views.{flow_of, tasks_in}
use Rattle.p10_interp.specs.private.OpenCalls.{calls_in}
use Rattle.p10_interp.specs.private.Machines.{Around, state_of, rig_of, Moves}
use Rattle.p10_interp.specs.private.Resuming.{setting_in, after_done, resume, unwind, proceed}
use Rattle.p10_interp.specs.private.Acts.{goes_on, tested_by, next_act}
use Rattle.p10_interp.specs.private.Weights.{weights}
use Rattle.p10_interp.specs.private.Executing.{IsExecuted, Executes}
use Rattle.p10_interp.specs.private.Turning.{rig_at, with_work, IsTurned, Turns, IsDone, Does, IsTested}
use Rattle.p10_interp.proofs.Right.{next_right}
use Rattle.p10_interp.proofs.Advanced.{moved, stopped, IsLess, lighter}

-- a value that was evaluated
pub value_done : (p : PlainProgram) (n : ℕ) (v : PlainValue) (k : List Task) (operands now : List Operand) (cs : List Open) (f : Open) (calls : List Open) (w u : State) (x : ℤ) → cs ≡ f ∷ calls → now ≡ evaluated (Some (Int x)) ∷ operands → evaluate (setting_in p n f) f.frame.held v w ≡ gives (Int x) u →
    proceed p n (rig_at (evaluate_value v ∷ k) operands cs) w ≡ proceed p n (rig_at k now cs) u
value_done p n v k operands now cs f calls w u x e put run =
    ap (λ cs. proceed p n (rig_at (evaluate_value v ∷ k) operands cs) w) e ∙
    (ap (λ o. and_then o (λ x w. resume p n k (evaluated (Some x) ∷ operands) (f ∷ calls) w)) run ∙
    (ap (λ operands. resume p n k operands (f ∷ calls) u) (sym put) ∙ ap (λ cs. resume p n k now cs u) (sym e)))

-- the same for a value in the innermost call
pub value_is_done : (p : PlainProgram) (v : PlainValue) (old new : Stacks) (f : Open) (calls : List Open) (w u : State) (x : ℤ) → calls_in old.calls ≡ f ∷ calls → rig_of normal new ≡ rig_at (tasks_in old.tasks) (evaluated (Some (Int x)) ∷ old.operands) (calls_in old.calls) → u.left < w.left →
    ((n : ℕ) → w.left ≤ n → evaluate (setting_in p n f) f.frame.held v w ≡ gives (Int x) u) → IsDone p (evaluate_value v) old w new u
value_is_done p v old new f calls w u x e now less run = record {
  paid = less;
  same = λ n few.
      value_done p n v (tasks_in old.tasks) old.operands (evaluated (Some (Int x)) ∷ old.operands) (calls_in old.calls) f calls w u x e refl (run n few) ∙
      ap (λ r. proceed p n r u) (sym now);
}

-- a statement that was executed
pub statement_done : (p : PlainProgram) (n : ℕ) (at : At) (form : PlainStatementForm) (k : List Task) (operands : List Operand) (cs : List Open) (f : Open) (calls new : List Open) (w v : State) → w.left ≤ n → cs ≡ f ∷ calls → IsExecuted p form f calls w new v →
    proceed p n (rig_at (execute_statement (statement at form) ∷ k) operands cs) w ≡ proceed p n (rig_at k operands new) v
statement_done p n at form k operands cs f calls new w v few e h =
    ap (λ cs. proceed p n (rig_at (execute_statement (statement at form) ∷ k) operands cs) w) e ∙
    (ap (λ done. after_done operands f calls done (λ operands calls w. resume p n k operands calls w) (λ flow operands calls w. unwind p n flow k operands calls w)) (h.run n at f.frame.opened few) ∙
    ap (λ cs. resume p n k operands cs v) (sym h.now))

-- the first of statements that was executed
pub first_done : (p : PlainProgram) (n : ℕ) (at : At) (form : PlainStatementForm) (rest : PlainStatements) (k tasks : List Task) (operands : List Operand) (cs : List Open) (f : Open) (calls new : List Open) (w v : State) → w.left ≤ n → cs ≡ f ∷ calls → tasks ≡ execute_statements rest ∷ k → IsExecuted p form f calls w new v →
    proceed p n (rig_at (execute_statements (more_statements (statement at form) rest) ∷ k) operands cs) w ≡ proceed p n (rig_at tasks operands new) v
first_done p n at form rest k tasks operands cs f calls new w v few e put h =
    ap (λ cs. proceed p n (rig_at (execute_statements (more_statements (statement at form) rest) ∷ k) operands cs) w) e ∙
    (ap (λ done. after_done operands f calls (and_then done (λ done w. go_on done.flow done.frame w (λ frame w. execute_from (setting_in p n f) 0 rest frame w))) (λ operands calls w. resume p n k operands calls w) (λ flow operands calls w. unwind p n flow k operands calls w)) (h.run n at f.frame.opened few) ∙
    (ap (λ cs. resume p n (execute_statements rest ∷ k) operands cs v) (sym h.now) ∙
    ap (λ tasks. resume p n tasks operands new v) (sym put)))

-- a statement in the innermost call that was executed
pub statement_is_done : (p : PlainProgram) (at : At) (form : PlainStatementForm) (old new : Stacks) (f : Open) (calls : List Open) (w v : State) → calls_in old.calls ≡ f ∷ calls → rig_of normal new ≡ rig_at (tasks_in old.tasks) old.operands (calls_in new.calls) → v.left < w.left → IsExecuted p form f calls w (calls_in new.calls) v →
    IsDone p (execute_statement (statement at form)) old w new v
statement_is_done p at form old new f calls w v e now less h = record {
  paid = less;
  same = λ n few. statement_done p n at form (tasks_in old.tasks) old.operands (calls_in old.calls) f calls (calls_in new.calls) w v few e h ∙ ap (λ r. proceed p n r v) (sym now);
}

-- the first of statements in the innermost call that was executed
pub first_is_done : (p : PlainProgram) (at : At) (form : PlainStatementForm) (rest : PlainStatements) (old new : Stacks) (f : Open) (calls : List Open) (w v : State) → calls_in old.calls ≡ f ∷ calls → rig_of normal new ≡ rig_at (execute_statements rest ∷ tasks_in old.tasks) old.operands (calls_in new.calls) → v.left < w.left → IsExecuted p form f calls w (calls_in new.calls) v →
    IsDone p (execute_statements (more_statements (statement at form) rest)) old w new v
first_is_done p at form rest old new f calls w v e now less h = record {
  paid = less;
  same = λ n few.
      first_done p n at form rest (tasks_in old.tasks) (execute_statements rest ∷ tasks_in old.tasks) old.operands (calls_in old.calls) f calls (calls_in new.calls) w v few e refl h ∙
      ap (λ r. proceed p n r v) (sym now);
}

-- ## What is done at once, as the code says it

-- a statement wasn't executed
not_done : (p : PlainProgram) (t : Task) (form : PlainStatementForm) (b : Bool) (old new : Stacks) (f : Open) (calls : List Open) (w v : State) → b ≡ false → calls_in old.calls ≡ f ∷ calls → rig_of normal new ≡ rig_at (tasks_in old.tasks) old.operands (calls_in new.calls) → Executes p form b f calls w (calls_in new.calls) v → Does p t old w false new v
not_done p t form b old new f calls w v is e same h =
    let k : (calls_in new.calls ≡ f ∷ calls) × (v ≡ w) = subst (λ b. Executes p form b f calls w (calls_in new.calls) v) is h in
    (same ∙ ap (λ cs. rig_at (tasks_in old.tasks) old.operands cs) (k.0 ∙ sym e), k.1)

-- a statement that stands alone
pub statement_does : (p : PlainProgram) (at : At) (form : PlainStatementForm) (b : Bool) (old new : Stacks) (f : Open) (calls : List Open) (w v : State) → calls_in old.calls ≡ f ∷ calls → rig_of normal new ≡ rig_at (tasks_in old.tasks) old.operands (calls_in new.calls) → (b ≡ true → v.left < w.left) → Executes p form b f calls w (calls_in new.calls) v →
    Does p (execute_statement (statement at form)) old w b new v
statement_does p at form true old new f calls w v e same less h = statement_is_done p at form old new f calls w v e same (less refl) h
statement_does p at form false old new f calls w v e same less h = not_done p (execute_statement (statement at form)) form false old new f calls w v refl e same h

-- the first of statements wasn't executed
pub first_not : (p : PlainProgram) (t : Task) (form : PlainStatementForm) (b : Bool) (old new : Stacks) (f : Open) (calls : List Open) (w v : State) → b ≡ false → calls_in old.calls ≡ f ∷ calls → rig_of normal new ≡ rig_at (tasks_in old.tasks) old.operands (calls_in new.calls) → Executes p form b f calls w (calls_in new.calls) v → Does p t old w false new v
first_not p t form b old new f calls w v is e same h = not_done p t form b old new f calls w v is e same h

-- the first of statements was executed
pub first_does : (p : PlainProgram) (xs : List Stmt) (first : Stmt) (b : Bool) (old new : Stacks) (f : Open) (calls : List Open) (w v : State) → 1 ≤ length xs → first ≡ get_or xs 0 first → b ≡ true → calls_in old.calls ≡ f ∷ calls → tasks_in new.tasks ≡ execute_statements (plain_statements (take (length xs - 1) (drop 1 xs))) ∷ tasks_in old.tasks → new.operands ≡ old.operands → v.left < w.left →
    Executes p (plain_statement_form first.form) b f calls w (calls_in new.calls) v → Does p (execute_statements (plain_statements xs)) old w true new v
first_does p [] first b old new f calls w v l is true_is e put same less h = absurd (omega (arith, l))
first_does p (x ∷ xs) first b old new f calls w v l is true_is e put same less h =
    subst (λ (x : Stmt). IsDone p (execute_statements (more_statements (plain_statement x) (plain_statements xs))) old w new v) is
    (first_is_done p first.at (plain_statement_form first.form) (plain_statements xs) old new f calls w v e
    (ap (λ tasks. rig_at tasks new.operands (calls_in new.calls)) (put ∙ ap (λ xs. execute_statements xs ∷ tasks_in old.tasks) (tail_is 1 (x ∷ xs))) ∙ ap (λ operands. rig_at (execute_statements (plain_statements xs) ∷ tasks_in old.tasks) operands (calls_in new.calls)) same)
    less (subst (λ b. Executes p (plain_statement_form first.form) b f calls w (calls_in new.calls) v) true_is h))

-- what is said of a task in the innermost call
abbrev pub DoesInCall : PlainProgram → Task → Stacks → Outside → Result Bool Halt → Stacks → Outside → Type 0
DoesInCall p t old a r new b = IfOk r (λ done. (io : Around) (f : Open) (calls : List Open) → calls_in old.calls ≡ f ∷ calls → Does p t old (state_of a io) done new (state_of b io))

-- a task that is another
pub does_as : (p : PlainProgram) (t other : Task) (old new : Stacks) (a b : Outside) (r : Result Bool Halt) → t ≡ other → DoesInCall p other old a r new b → DoesInCall p t old a r new b
does_as p t other old new a b r e h = subst (λ t. DoesInCall p t old a r new b) (sym e) h

-- a call, wherever its tree stands
pub call_does : (p : PlainProgram) (at : At) (t : PlainType) (name : Span) (g : ℕ) (arguments : PlainValues) (old new : Stacks) (a b : Outside) (r : Result Bool Halt) →
    IfOk r (λ done. (at : At) (t : PlainType) (name : Span) (io : Around) (f : Open) (calls : List Open) → calls_in old.calls ≡ f ∷ calls → Does p (evaluate_value (value at t (call name g arguments))) old (state_of a io) done new (state_of b io)) → DoesInCall p (evaluate_value (value at t (call name g arguments))) old a r new b
call_does p at t name g arguments old new a b (Ok done) h = λ io f calls e. h at t name io f calls e
call_does p at t name g arguments old new a b (Err halt) h = tt

-- a loop's test, of the loop that a statement is
pub test_does : (p : PlainProgram) (task testing ending : Task) (tested : Option PlainValue) (third : PlainStatements) (body : PlainStatement) (l : Loop) (old new : Stacks) (a b : Outside) (r : Result Bool Halt) → l.tested ≡ tested → l.third ≡ third → l.body ≡ body → testing ≡ test_loop l → ending ≡ end_turn l → task ≡ test_loop l →
    IfOk r (λ done. (io : Around) (f : Open) (calls : List Open) (l : Loop) → l.tested ≡ tested → l.third ≡ third → l.body ≡ body → testing ≡ test_loop l → ending ≡ end_turn l → calls_in old.calls ≡ f ∷ calls → Does p (test_loop l) old (state_of a io) done new (state_of b io)) → DoesInCall p task old a r new b
test_does p task testing ending tested third body l old new a b (Ok done) is after same tests ends e h = λ io f calls opens. subst (λ t. Does p t old (state_of a io) done new (state_of b io)) (sym e) (h io f calls l is after same tests ends opens)
test_does p task testing ending tested third body l old new a b (Err halt) is after same tests ends e h = tt

-- a call is open
open_there : (p : PlainProgram) (t : Task) (old new : Stacks) (w v : State) (done : Bool) (cs : List Open) → is_nil cs ≡ false → ((f : Open) (calls : List Open) → cs ≡ f ∷ calls → Does p t old w done new v) → Does p t old w done new v
open_there p t old new w v done [] e h = absurd (let no : true ≡ false = e in cc)
open_there p t old new w v done (f ∷ calls) e h = h f calls refl

-- work where a call is open
pub work_does : (p : PlainProgram) (t other : Task) (old new : Stacks) (a b : Outside) (idle : Bool) (r : Result Bool Halt) → idle ≡ is_nil (calls_in old.calls) → idle ≡ false → t ≡ other → DoesInCall p other old a r new b → IfOk r (λ done. (io : Around) → Does p t old (state_of a io) done new (state_of b io))
work_does p t other old new a b idle (Ok done) nil is e h = λ io. subst (λ t. Does p t old (state_of a io) done new (state_of b io)) (sym e) (open_there p other old new (state_of a io) (state_of b io) done (calls_in old.calls) (sym nil ∙ is) (h io))
work_does p t other old new a b idle (Err halt) nil is e h = tt

-- ## The test of a loop

-- what the machine comes to is as before, and a step was taken
pub record Leads (p : PlainProgram) (r : Rig) (w : State) (now : Rig) (v : State) : Type 0 where
  pub paid : v.left < w.left
  pub same : (n : ℕ) → w.left ≤ n → proceed p n r w ≡ proceed p n now v

-- a test is a value before the turn
tested : (p : PlainProgram) (n : ℕ) (l : Loop) (v : PlainValue) (k : List Task) (operands : List Operand) (f : Open) (calls : List Open) (w : State) → w.left ≤ n → l.tested ≡ Some v →
    proceed p n (rig_at (test_loop l ∷ k) operands (f ∷ calls)) w ≡ proceed p n (rig_at (evaluate_value v ∷ (enter_turn l ∷ k)) operands (f ∷ calls)) w
tested p n l v k operands f calls w few e =
    next_right p n normal (test_loop l) k operands (f ∷ calls) w few ∙
    (ap (λ t. and_then (tested_by p l t k operands f calls w) (proceed p n)) e ∙
    sym (next_right p n normal (evaluate_value v) (enter_turn l ∷ k) operands (f ∷ calls) w few))

module _ (p : PlainProgram) (l : Loop) (v : PlainValue) (b : Bool) (k : List Task) (operands : List Operand) (f : Open) (calls : List Open) (w u : State) (e : l.tested ≡ Some v) (h : IsTested p v f b w u) where
  -- a test that was evaluated
  test_done : (n : ℕ) → w.left ≤ n → proceed p n (rig_at (test_loop l ∷ k) operands (f ∷ calls)) w ≡ and_then (if b then goes_on (execute_statement l.body ∷ (end_turn l ∷ k)) operands (f ∷ calls) u else goes_on k operands (f ∷ calls) u) (proceed p n)
  test_done n few =
      let less : u.left < w.left = h.paid in
      tested p n l v k operands f calls w few e ∙
      (ap (λ o. and_then o (λ x w. resume p n (enter_turn l ∷ k) (evaluated (Some x) ∷ operands) (f ∷ calls) w)) (h.run (setting_in p n f) refl) ∙
      (next_right p n normal (enter_turn l) k (evaluated (Some (Int h.number)) ∷ operands) (f ∷ calls) u (omega (arith, few, less)) ∙
      ap (λ b. and_then (if b then goes_on (execute_statement l.body ∷ (end_turn l ∷ k)) operands (f ∷ calls) u else goes_on k operands (f ∷ calls) u) (proceed p n)) h.truth))

  -- the loop has ended
  pub test_ends : b ≡ false → Leads p (rig_at (test_loop l ∷ k) operands (f ∷ calls)) w (rig_at k operands (f ∷ calls)) u
  test_ends fails = record {
    paid = h.paid;
    same = λ n few. test_done n few ∙ ap (λ b. and_then (if b then goes_on (execute_statement l.body ∷ (end_turn l ∷ k)) operands (f ∷ calls) u else goes_on k operands (f ∷ calls) u) (proceed p n)) fails;
  }

  -- a turn begins
  pub test_goes : b ≡ true → Leads p (rig_at (test_loop l ∷ k) operands (f ∷ calls)) w (rig_at (execute_statement l.body ∷ (end_turn l ∷ k)) operands (f ∷ calls)) u
  test_goes holds = record {
    paid = h.paid;
    same = λ n few. test_done n few ∙ ap (λ b. and_then (if b then goes_on (execute_statement l.body ∷ (end_turn l ∷ k)) operands (f ∷ calls) u else goes_on k operands (f ∷ calls) u) (proceed p n)) holds;
  }

-- ## Turns

-- what is done at once is a turn
pub turned_at_once : (p : PlainProgram) (t : Task) (old new : Stacks) (w v : State) (flow : Way) → flow_of flow ≡ normal → IsDone p t old w new v → (next : Way) → flow_of next ≡ normal → IsTurned p (record (with_work t old) { flow = flow_of flow }) w next new v
turned_at_once p t old new w v flow e h next d =
    subst (λ fl. IsTurned p (record (with_work t old) { flow = fl }) w next new v) (sym e)
    (record {
      few = let l : v.left < w.left = h.paid in omega (arith, l);
      less = λ m. absurd (let l : v.left < w.left = h.paid in omega (arith, l, m));
      same = λ n few. h.same n few ∙ ap (λ fl. proceed p n (record (rig_of normal new) { flow = fl }) v) (sym d);
    })

-- an act is a turn
pub turned_by_act : (p : PlainProgram) (flow : Way) (t : Task) (k : List Task) (operands : List Operand) (calls : List Open) (w v : State) (r : Result Way Halt) (new : Stacks) → Moves (next_act p (flow_of flow) t k operands calls w) r new v →
    Turns p (record { flow = flow_of flow; tasks = t ∷ k; operands = operands; calls = calls }) w r new v
turned_by_act p flow t k operands calls w v (Ok next) new h =
    let l : IsLess (weights (t ∷ k)) (rig_of (flow_of next) new) w v = lighter p flow next t k operands calls w v new h in
    record { few = l.few; less = l.less; same = λ n few. moved p n flow next t k operands calls w v new few h }
turned_by_act p flow t k operands calls w v (Err halt) new h = λ n few. stopped p n flow halt t k operands calls w v new few h
