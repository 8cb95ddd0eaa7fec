-- Work that is another, and work in the innermost call.
use Rattle.std.proofs.Common.{◌≡◌, ◌≤◌, false, List, [], ◌∷◌, length, get_or, take, drop, ◌-◌, option_map, refl, sym, ◌∙◌, ap, subst, arith, Result, Some, None}
use Rattle.p10_base.specs.declared.at.At.{At}
use Rattle.p10_core.specs.declared.typed.Value.{Value}
use Rattle.p10_core.specs.declared.statements.Stmt.{Stmt}
use Rattle.p10_core.specs.declared.statements.StmtForm.{StmtForm}
use Rattle.p10_core.specs.declared.statements.StmtForm.TheVariants.{If}
use Rattle.p10_core.specs.Typed.{PlainValue, PlainStatement, statement, PlainProgram}
use Rattle.p10_core.specs.Views.{plain_statement, plain_statements, plain_statement_form}
use Rattle.p10_meaning.specs.States.{State, Progress}
use Rattle.p10_meaning.specs.Statements.{Flow, normal, broken, continued, returned}
use Rattle.p10_interp.specs.declared.work.Halt.{Halt}
use Rattle.p10_interp.specs.declared.work.Flow.{Flow as Way}
use Rattle.p10_interp.specs.declared.work.Work.{Work}
use Rattle.p10_interp.specs.declared.work.ValueStep.{ValueStep}
use Rattle.p10_interp.specs.declared.work.StatementStep.{StatementStep}
use Rattle.p10_interp.specs.declared.stacks.Stacks.{Stacks}
use Rattle.p10_interp.specs.private.Nothing.{is_nil}
use Rattle.p10_interp.specs.private.Tasks.{Task, branch, execute_statements, end_block, Operand, Open, Rig}
use Rattle.p10_interp.specs.private.Operations.{after_block, block_closed}
use Rattle.p10_interp.specs.private.Views.{Answers, flow_of, branches_of, task_of, value_task, statement_task}
use Rattle.p10_interp.specs.private.Machines.{Moves}
use Rattle.p10_interp.specs.private.Acts.{act, pass, goes_back, begun_statement, begun_statements}
use Rattle.p10_interp.proofs.Turned.{tail_is}

-- ## Work that is another

pub acted_as : (p : PlainProgram) (work other : Work) (k : List Task) (operands : List Operand) (calls : List Open) (w v : State) (r : Result Way Halt) (new : Stacks) → work ≡ other →
    Moves (act p (task_of other) k operands calls w) r new v → Moves (act p (task_of work) k operands calls w) r new v
acted_as p work other k operands calls w v r new e h = subst (λ work. Moves (act p (task_of work) k operands calls w) r new v) (sym e) h

pub value_acted : {B : Type 0} (p : PlainProgram) (step other : ValueStep) (x : PlainValue) (k : List Task) (operands : List Operand) (calls : List Open) (w v : State) (r : Result B Halt) (new : Rig) → step ≡ other →
    Answers (act p (value_task other x) k operands calls w) r new v → Answers (act p (value_task step x) k operands calls w) r new v
value_acted p step other x k operands calls w v r new e h = subst (λ step. Answers (act p (value_task step x) k operands calls w) r new v) (sym e) h

pub statement_acted : (p : PlainProgram) (step other : StatementStep) (x : PlainStatement) (k : List Task) (operands : List Operand) (calls : List Open) (w v : State) (r : Result Way Halt) (new : Stacks) → step ≡ other →
    Moves (act p (statement_task other x) k operands calls w) r new v → Moves (act p (statement_task step x) k operands calls w) r new v
statement_acted p step other x k operands calls w v r new e h = subst (λ step. Moves (act p (statement_task step x) k operands calls w) r new v) (sym e) h

pub passed_as : (p : PlainProgram) (flow : Flow) (t other : Task) (k : List Task) (operands : List Operand) (calls : List Open) (w v : State) (r : Result Way Halt) (new : Stacks) → t ≡ other →
    Moves (pass p flow other k operands calls w) r new v → Moves (pass p flow t k operands calls w) r new v
passed_as p flow t other k operands calls w v r new e h = subst (λ t. Moves (pass p flow t k operands calls w) r new v) (sym e) h

pub passed_by : (p : PlainProgram) (flow other : Way) (t : Task) (k : List Task) (operands : List Operand) (calls : List Open) (w v : State) (r : Result Way Halt) (new : Stacks) → flow ≡ other →
    Moves (pass p (flow_of other) t k operands calls w) r new v → Moves (pass p (flow_of flow) t k operands calls w) r new v
passed_by p flow other t k operands calls w v r new e h = subst (λ flow. Moves (pass p (flow_of flow) t k operands calls w) r new v) (sym e) h

-- a call is open
pub in_call : (go : List Open → Progress Rig) (calls : List Open) (r : Result Way Halt) (new : Stacks) (v : State) → is_nil calls ≡ false → ((f : Open) (others : List Open) → calls ≡ f ∷ others → Moves (go (f ∷ others)) r new v) → Moves (go calls) r new v
in_call go [] r new v e h = absurd cc
in_call go (f ∷ calls) r new v e h = h f calls refl

-- ## The way back

pub block_passed : (p : PlainProgram) (flow : Flow) (k : List Task) (operands : List Operand) (f : Open) (calls : List Open) (w : State) → pass p flow end_block k operands (f ∷ calls) w ≡ goes_back flow k operands (after_block f ∷ calls) (block_closed f w)
block_passed p normal k operands f calls w = refl
block_passed p broken k operands f calls w = refl
block_passed p continued k operands f calls w = refl
block_passed p (returned x) k operands f calls w = refl

-- ## Statements

-- the first of statements comes before the others
pub begun_first : (p : PlainProgram) (xs : List Stmt) (first : Stmt) (k put : List Task) (operands : List Operand) (f : Open) (calls : List Open) (w v : State) (r : Result Way Halt) (new : Stacks) → 1 ≤ length xs → first ≡ get_or xs 0 first →
    put ≡ execute_statements (plain_statements (take (length xs - 1) (drop 1 xs))) ∷ k → Moves (begun_statement p (plain_statement first) put operands f calls w) r new v → Moves (begun_statements p (plain_statements xs) k operands f calls w) r new v
begun_first p [] first k put operands f calls w v r new l e is h = absurd (omega (arith, l))
begun_first p (x ∷ xs) first k put operands f calls w v r new l e is h =
    subst (λ (x : Stmt). Moves (begun_statement p (plain_statement x) (execute_statements (plain_statements xs) ∷ k) operands f calls w) r new v) e
    (subst (λ put. Moves (begun_statement p (plain_statement first) put operands f calls w) r new v) (is ∙ ap (λ xs. execute_statements xs ∷ k) (tail_is 1 (x ∷ xs))) h)

-- the branches of an `if`
pub branches : (at : At) (form : StmtForm) (c : Value) (first : _) (second : _) (x : Stmt) → form ≡ If c first second → x ≡ first.value →
    branches_of (statement at (plain_statement_form form)) ≡ branch (plain_statement x) (option_map (λ y. plain_statement y.value) second)
branches at form c first second x e d =
    ap (λ form. branches_of (statement at (plain_statement_form form))) e ∙ (case second ∙ ap (λ (x : Stmt). branch (plain_statement x) (option_map (λ y. plain_statement y.value) second)) (sym d))
  where
    case : (second : _) → branches_of (statement at (plain_statement_form (If c first second))) ≡ branch (plain_statement first.value) (option_map (λ y. plain_statement y.value) second)
    case None = refl
    case (Some other) = refl
