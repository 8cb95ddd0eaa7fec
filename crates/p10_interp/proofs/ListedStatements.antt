-- Statements of the code as lists of plain statements.
use Rattle.std.proofs.Common.{◌≡◌, ℕ, zero, suc, ◌≤◌, List, [], ◌∷◌, map, length, take, refl, sym, ◌∙◌, ap, arith, Option, Some, option_map, slice_get}
use Rattle.p10_core.specs.declared.statements.Stmt.{Stmt}
use Rattle.p10_base.specs.declared.at.At.{At}
use Rattle.p10_core.specs.declared.typed.Value.{Value}
use Rattle.p10_core.specs.declared.statements.StmtForm.{StmtForm}
use Rattle.p10_core.specs.declared.statements.StmtForm.TheVariants.{Loop as LoopForm}
use Rattle.p10_core.specs.Typed.{statement, more_statements, statements_list, statements_of_list, PlainFunction}
use Rattle.p10_core.specs.Views.{plain_value, plain_statement_form, plain_statement, plain_statements}
use Rattle.p10_meaning.specs.Runs.{Task, task_in}
use Rattle.p10_interp.specs.Stages.{task_of_main}
use Rattle.p10_interp.proofs.Begun.{plain_loop}

pub statements_listed : (xs : List Stmt) → statements_list (plain_statements xs) ≡ map plain_statement xs
statements_listed [] = refl
statements_listed (x ∷ xs) = ap (λ rest. plain_statement x ∷ rest) (statements_listed xs)

-- the first k statements
pub take_plain : (k : ℕ) (xs : List Stmt) → plain_statements (take k xs) ≡ statements_of_list (take k (statements_list (plain_statements xs)))
take_plain zero xs = refl
take_plain (suc k) [] = refl
take_plain (suc k) (x ∷ xs) = ap (more_statements (plain_statement x)) (take_plain k xs)

-- all statements, where there are no more than k
pub all_plain : (k : ℕ) (xs : List Stmt) → length xs ≤ k → plain_statements xs ≡ statements_of_list (take k (statements_list (plain_statements xs)))
all_plain zero [] l = refl
all_plain zero (x ∷ xs) l = absurd (omega (arith, l))
all_plain (suc k) [] l = refl
all_plain (suc k) (x ∷ xs) l = ap (more_statements (plain_statement x)) (all_plain k xs (omega (arith, l)))

-- the task loop that a statement is
pub loop_task : (at : At) (form : StmtForm) (head : _) (first : _) (tested : Option Value) (third : _) (body : _) (there : Stmt) → form ≡ LoopForm head first tested third body → there ≡ body.value →
    task_in (Some (statement at (plain_statement_form form))) ≡ Some (record { tested = option_map plain_value tested; body = plain_statement there })
loop_task at form head first tested third body there e d =
    ap (λ x. task_in (Some (statement at x))) (ap plain_statement_form e ∙ plain_loop head first tested third body) ∙
    ap (λ (s : Stmt). Some (record { tested = option_map plain_value tested; body = plain_statement s })) (sym d)

-- the task loop of `main`
pub task_is : (main : Option PlainFunction) (task : Option ℕ) (f : PlainFunction) (i : ℕ) (xs : List Stmt) (o : Option Task) → main ≡ Some f → task ≡ Some i → f.body ≡ plain_statements xs → task_in (slice_get (map plain_statement xs) i) ≡ o → task_of_main main task ≡ o
task_is main task f i xs o e d b h =
    ap (λ g. task_of_main g task) e ∙ ap (λ t. task_of_main (Some f) t) d ∙ ap (λ b. task_in (slice_get (statements_list b) i)) b ∙ ap (λ xs. task_in (slice_get xs i)) (statements_listed xs) ∙ h
