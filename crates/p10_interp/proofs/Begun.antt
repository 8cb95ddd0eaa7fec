-- What begins is what its form says, whatever the code calls its parts.
use Rattle.std.proofs.Common.{◌≡◌, ◌≢◌, ℕ, zero, suc, ◌-◌, List, ◌∷◌, refl, sym, ◌∙◌, subst, ap, arith, Result, Option, Some, None, option_map, rules}
use Rattle.p10_base.specs.declared.at.At.{At}
use Rattle.p10_core.specs.declared.typed.Value.{Value}
use Rattle.p10_core.specs.declared.statements.Stmt.{Stmt}
use Rattle.p10_core.specs.declared.statements.StmtForm.{StmtForm}
use Rattle.p10_core.specs.declared.statements.StmtForm.TheVariants.{If, Loop as LoopForm, Switch}
use Rattle.p10_core.specs.declared.statements.StmtForm.TheViews.{the_lemmas}
use Rattle.p10_core.specs.Types.{PlainType}
use Rattle.p10_core.specs.Typed.{PlainForm, PlainPlace, PlainStatementForm, statement, loop, PlainProgram}
use Rattle.p10_core.specs.Views.{plain_value, plain_values, plain_statement, plain_statements, plain_statement_form}
use Rattle.p10_meaning.specs.States.{State, Progress, step_at, step}
use Rattle.p10_interp.specs.declared.work.Halt.{Halt}
use Rattle.p10_interp.specs.declared.work.Flow.{Flow as Way}
use Rattle.p10_interp.specs.declared.stacks.Stacks.{Stacks}
use Rattle.p10_interp.specs.private.Tasks.{Task, evaluate_value, evaluate_values, execute_statements, begin_loop, end_block, Operand, Open, Rig}
use Rattle.p10_interp.specs.private.Operations.{count_of, in_new_block}
use Rattle.p10_interp.specs.private.Views.{Answers, branches_of, in_loop, selection_of}
use Rattle.p10_interp.specs.private.Machines.{Moves}
use Rattle.p10_interp.specs.private.Acts.{goes_on, sought, begun_form, executed}
use Rattle.p10_interp.proofs.Rows.{plain_rows}

-- ## Steps

paid_at : {A : Type 0} (n : ℕ) (w : State) (go : State → Progress A) → n ≢ 0 → step_at n w go ≡ go (record w { left = n - 1 })
paid_at zero w go e = absurd (e refl)
paid_at (suc m) w go e = let d : m ≡ suc m - 1 = omega arith in ap (λ n. go (record w { left = n })) d

pub step_paid : {A : Type 0} (w : State) (go : State → Progress A) → w.left ≢ 0 → step w go ≡ go (record w { left = w.left - 1 })
step_paid w go e = paid_at w.left w go e

-- a place that is sought with a step, where the tasks after it were put down
pub sought_paid : {B : Type 0} (p : PlainProgram) (q : PlainPlace) (k put : List Task) (operands : List Operand) (f : Open) (calls : List Open) (w v : State) (r : Result B Halt) (new : Rig) → w.left ≢ 0 → put ≡ k →
    Answers (sought p q put operands f calls (record w { left = w.left - 1 })) r new v → Answers (step w (λ w. sought p q k operands f calls w)) r new v
sought_paid p q k put operands f calls w v r new e same h =
    subst (λ o. Answers o r new v) (sym (step_paid w (λ w. sought p q k operands f calls w) e))
    (subst (λ k. Answers (sought p q k operands f calls (record w { left = w.left - 1 })) r new v) same h)

-- ## Values

pub begun_by : {B : Type 0} (p : PlainProgram) (at : At) (t : PlainType) (form other : PlainForm) (k : List Task) (operands : List Operand) (f : Open) (calls : List Open) (w v : State) (r : Result B Halt) (new : Rig) → form ≡ other →
    Answers (begun_form p at t other k operands f calls w) r new v → Answers (begun_form p at t form k operands f calls w) r new v
begun_by p at t form other k operands f calls w v r new e h = subst (λ form. Answers (begun_form p at t form k operands f calls w) r new v) (sym e) h

-- two tasks that are others
pub two_tasks : {B : Type 0} (a b : Task) (x y : Task) (k : List Task) (operands : List Operand) (calls : List Open) (w v : State) (r : Result B Halt) (new : Rig) → a ≡ x → b ≡ y →
    Answers (step w (λ w. goes_on (a ∷ (b ∷ k)) operands calls w)) r new v → Answers (step w (λ w. goes_on (x ∷ (y ∷ k)) operands calls w)) r new v
two_tasks a b x y k operands calls w v r new d e h =
    subst (λ x. Answers (step w (λ w. goes_on (x ∷ (y ∷ k)) operands calls w)) r new v) d (subst (λ y. Answers (step w (λ w. goes_on (a ∷ (y ∷ k)) operands calls w)) r new v) e h)

-- the arguments of a call, and what it is on this many
pub arguments_are : {B : Type 0} (call : ℕ → Task) (vs all : List Value) (k : List Task) (operands : List Operand) (calls : List Open) (w v : State) (r : Result B Halt) (new : Rig) → vs ≡ all →
    Answers (step w (λ w. goes_on (evaluate_values (plain_values vs) ∷ (call (count_of (plain_values vs)) ∷ k)) operands calls w)) r new v →
    Answers (step w (λ w. goes_on (evaluate_values (plain_values all) ∷ (call (count_of (plain_values all)) ∷ k)) operands calls w)) r new v
arguments_are call vs all k operands calls w v r new e h =
    subst (λ vs. Answers (step w (λ w. goes_on (evaluate_values (plain_values vs) ∷ (call (count_of (plain_values vs)) ∷ k)) operands calls w)) r new v) e h

-- a place that is sought before another task
pub sought_before : {B : Type 0} (p : PlainProgram) (q : PlainPlace) (a x : Task) (k : List Task) (operands : List Operand) (f : Open) (calls : List Open) (w v : State) (r : Result B Halt) (new : Rig) → a ≡ x →
    Answers (step w (λ w. sought p q (a ∷ k) operands f calls w)) r new v → Answers (step w (λ w. sought p q (x ∷ k) operands f calls w)) r new v
sought_before p q a x k operands f calls w v r new e h = subst (λ x. Answers (step w (λ w. sought p q (x ∷ k) operands f calls w)) r new v) e h

-- the open calls are these
pub answers_in : {A B : Type 0} (go : List Open → Progress A) (calls others : List Open) (r : Result B Halt) (new : A) (v : State) → calls ≡ others → Answers (go calls) r new v → Answers (go others) r new v
answers_in go calls others r new v e h = subst (λ calls. Answers (go calls) r new v) e h

-- ## Statements

pub moves_by : (o other : Progress Rig) (r : Result Way Halt) (new : Stacks) (v : State) → o ≡ other → Moves other r new v → Moves o r new v
moves_by o other r new v e h = subst (λ o. Moves o r new v) (sym e) h

pub if_executed : (p : PlainProgram) (at : At) (form : StmtForm) (c : Value) (first : _) (second : _) (k : List Task) (operands : List Operand) (f : Open) (calls : List Open) (w : State) → form ≡ If c first second →
    executed p at (plain_statement_form form) k operands f calls w ≡ step w (λ w. goes_on (evaluate_value (plain_value c) ∷ (branches_of (statement at (plain_statement_form form)) ∷ k)) operands (f ∷ calls) w)
if_executed p at form c first second k operands f calls w e =
    subst (λ form. executed p at (plain_statement_form form) k operands f calls w ≡ step w (λ w. goes_on (evaluate_value (plain_value c) ∷ (branches_of (statement at (plain_statement_form form)) ∷ k)) operands (f ∷ calls) w)) (sym e) (case second)
  where
    case : (second : _) → executed p at (plain_statement_form (If c first second)) k operands f calls w ≡ step w (λ w. goes_on (evaluate_value (plain_value c) ∷ (branches_of (statement at (plain_statement_form (If c first second))) ∷ k)) operands (f ∷ calls) w)
    case None = refl
    case (Some x) = refl

pub switch_executed : (p : PlainProgram) (at : At) (form : StmtForm) (keyword : _) (c : Value) (labels : _) (body : _) (k : List Task) (operands : List Operand) (f : Open) (calls : List Open) (w : State) → form ≡ Switch keyword c labels body →
    executed p at (plain_statement_form form) k operands f calls w ≡ step w (λ w. goes_on (evaluate_value (plain_value c) ∷ (selection_of (statement at (plain_statement_form form)) ∷ k)) operands (f ∷ calls) w)
switch_executed p at form keyword c labels body k operands f calls w e =
    subst (λ form. executed p at (plain_statement_form form) k operands f calls w ≡ step w (λ w. goes_on (evaluate_value (plain_value c) ∷ (selection_of (statement at (plain_statement_form form)) ∷ k)) operands (f ∷ calls) w)) (sym e) refl

pub plain_loop : (head : _) (first : _) (tested : Option Value) (third : _) (body : _) → plain_statement_form (LoopForm head first tested third body) ≡ loop head (plain_statements first) (option_map plain_value tested) (plain_statements third) (plain_statement body.value)
plain_loop head first tested third body = search (rules, the_lemmas, plain_rows)

pub loop_executed : (p : PlainProgram) (at : At) (form : StmtForm) (head : _) (first : _) (tested : Option Value) (third : _) (body : _) (k : List Task) (operands : List Operand) (f : Open) (calls : List Open) (w : State) → form ≡ LoopForm head first tested third body →
    executed p at (plain_statement_form form) k operands f calls w ≡
    step w (λ w. goes_on (execute_statements (plain_statements first) ∷ (in_loop begin_loop (statement at (plain_statement_form form)) ∷ (end_block ∷ k))) operands (in_new_block f ∷ calls) w)
loop_executed p at form head first tested third body k operands f calls w e =
    subst (λ (x : PlainStatementForm). executed p at x k operands f calls w ≡ step w (λ w. goes_on (execute_statements (plain_statements first) ∷ (in_loop begin_loop (statement at x) ∷ (end_block ∷ k))) operands (in_new_block f ∷ calls) w))
    (sym (ap plain_statement_form e ∙ plain_loop head first tested third body)) refl

pub executed_by : (p : PlainProgram) (at : At) (form other : PlainStatementForm) (k : List Task) (operands : List Operand) (f : Open) (calls : List Open) (w v : State) (r : Result Way Halt) (new : Stacks) → form ≡ other →
    Moves (executed p at other k operands f calls w) r new v → Moves (executed p at form k operands f calls w) r new v
executed_by p at form other k operands f calls w v r new e h = subst (λ form. Moves (executed p at form k operands f calls w) r new v) (sym e) h

-- the statements of a block
pub block_are : {B : Type 0} (xs all : List Stmt) (k : List Task) (operands : List Operand) (calls : List Open) (w v : State) (r : Result B Halt) (new : Rig) → xs ≡ all →
    Answers (goes_on (execute_statements (plain_statements xs) ∷ k) operands calls w) r new v → Answers (goes_on (execute_statements (plain_statements all) ∷ k) operands calls w) r new v
block_are xs all k operands calls w v r new e h = subst (λ xs. Answers (goes_on (execute_statements (plain_statements xs) ∷ k) operands calls w) r new v) e h

-- the statements of a first clause
pub first_are : {B : Type 0} (xs all : List Stmt) (k : List Task) (operands : List Operand) (calls : List Open) (w v : State) (r : Result B Halt) (new : Rig) → xs ≡ all →
    Answers (step w (λ w. goes_on (execute_statements (plain_statements xs) ∷ k) operands calls w)) r new v → Answers (step w (λ w. goes_on (execute_statements (plain_statements all) ∷ k) operands calls w)) r new v
first_are xs all k operands calls w v r new e h = subst (λ xs. Answers (step w (λ w. goes_on (execute_statements (plain_statements xs) ∷ k) operands calls w)) r new v) e h

pub normal_in : (k : List Task) (operands : List Operand) (calls others : List Open) (w v : State) (r : Result Way Halt) (new : Stacks) → calls ≡ others →
    Moves (step w (λ w. goes_on k operands calls w)) r new v → Moves (step w (λ w. goes_on k operands others w)) r new v
normal_in k operands calls others w v r new e h = subst (λ calls. Moves (step w (λ w. goes_on k operands calls w)) r new v) e h
