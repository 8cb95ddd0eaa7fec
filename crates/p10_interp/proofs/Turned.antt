-- Loops and `switch` after one of their parts.
use Rattle.std.proofs.Common.{◌≡◌, ℕ, zero, suc, ◌-◌, arith, length, take, List, [], ◌∷◌, drop, refl, sym, ◌∙◌, ap, subst, Result, Option, option_map}
use Rattle.std.proofs.lemmas.List.{length-drop}
use Rattle.p10_core.specs.declared.typed.Value.{Value}
use Rattle.p10_core.specs.declared.statements.Stmt.{Stmt}
use Rattle.p10_core.specs.declared.statements.StmtForm.{StmtForm}
use Rattle.p10_core.specs.declared.statements.StmtForm.TheVariants.{Loop as LoopForm, Switch, Block}
use Rattle.p10_core.specs.declared.statements.LoopKeyword.{LoopKeyword}
use Rattle.p10_base.specs.declared.at.At.{At}
use Rattle.p10_core.specs.Typed.{statement, PlainProgram}
use Rattle.p10_core.specs.Views.{plain_value, plain_labels, plain_statement, plain_statements, plain_statement_form}
use Rattle.p10_meaning.specs.States.{State}
use Rattle.p10_interp.specs.declared.work.Halt.{Halt}
use Rattle.p10_interp.specs.private.Tasks.{Loop, Task, begin_loop, test_loop, select, Operand, Open, Rig}
use Rattle.p10_interp.specs.private.Views.{Answers, in_loop, selection_of}
use Rattle.p10_interp.specs.private.Acts.{act, entered_at, selected, without}
use Rattle.p10_interp.proofs.Begun.{plain_loop}
use Rattle.p10_interp.proofs.Rows.{plain_block}

-- what a loop repeats
abbrev pub loop_with : Option Value → List Stmt → Stmt → Loop
loop_with tested third body = record { tested = option_map plain_value tested; third = plain_statements third; body = plain_statement body }

-- the loop that a statement is
pub looped : (task : LoopKeyword → Loop → Task) (at : At) (form : StmtForm) (head : _) (first : _) (tested : Option Value) (third : _) (body : _) → form ≡ LoopForm head first tested third body →
    in_loop task (statement at (plain_statement_form form)) ≡ task head.keyword (loop_with tested third body.value)
looped task at form head first tested third body e = ap (λ x. in_loop task (statement at x)) (ap plain_statement_form e ∙ plain_loop head first tested third body)

-- the `switch` that a statement is
pub selects : (at : At) (form : StmtForm) (keyword : _) (c : Value) (labels : _) (body : _) → form ≡ Switch keyword c labels body → selection_of (statement at (plain_statement_form form)) ≡ select (plain_labels labels) (plain_statement body.value)
selects at form keyword c labels body e = ap (λ form. selection_of (statement at (plain_statement_form form))) e

-- a block is entered at an item
pub enters_block : {B : Type 0} (place : Option ℕ) (at : At) (form : StmtForm) (all xs : List Stmt) (k : List Task) (operands : List Operand) (f : Open) (calls : List Open) (w v : State) (r : Result B Halt) (new : Rig) → form ≡ Block all → xs ≡ all →
    Answers (entered_at place (plain_statements xs) k operands f calls w) r new v → Answers (selected place (statement at (plain_statement_form form)) k operands f calls w) r new v
enters_block place at form all xs k operands f calls w v r new e same h =
    subst (λ x. Answers (selected place (statement at x) k operands f calls w) r new v) (sym (ap plain_statement_form e ∙ plain_block all))
    (subst (λ xs. Answers (entered_at place (plain_statements xs) k operands f calls w) r new v) same h)

-- statements from an item on
pub without_is : (k : ℕ) (xs : List Stmt) → plain_statements (drop k xs) ≡ without k (plain_statements xs)
without_is zero xs = refl
without_is (suc k) [] = refl
without_is (suc k) (x ∷ xs) = without_is k xs

take_whole : {A : Type 0} (n : ℕ) (xs : List A) → n ≡ length xs → take n xs ≡ xs
take_whole zero [] e = refl
take_whole zero (x ∷ xs) e = absurd (omega (arith, e))
take_whole (suc n) [] e = refl
take_whole (suc n) (x ∷ xs) e = ap (λ ys. x ∷ ys) (take_whole n xs (omega (arith, e)))

pub tail_is : (k : ℕ) (xs : List Stmt) → plain_statements (take (length xs - k) (drop k xs)) ≡ without k (plain_statements xs)
tail_is k xs = ap plain_statements (take_whole (length xs - k) (drop k xs) (sym (length-drop k xs))) ∙ without_is k xs

-- ## A loop after its first clause

pub started : {B : Type 0} (keyword : LoopKeyword) (p : PlainProgram) (at : At) (form : StmtForm) (head : _) (first : _) (tested : Option Value) (third : _) (body : _) (k : List Task) (operands : List Operand) (calls : List Open) (w v : State) (r : Result B Halt) (new : Rig) → form ≡ LoopForm head first tested third body → head.keyword ≡ keyword →
    (Answers (act p (test_loop (loop_with tested third body.value)) k operands calls w) r new v → Answers (act p (begin_loop keyword (loop_with tested third body.value)) k operands calls w) r new v) →
    Answers (act p (in_loop (λ keyword l. test_loop l) (statement at (plain_statement_form form))) k operands calls w) r new v → Answers (act p (in_loop begin_loop (statement at (plain_statement_form form))) k operands calls w) r new v
started keyword p at form head first tested third body k operands calls w v r new e same go h =
    subst (λ t. Answers (act p t k operands calls w) r new v) (sym (looped begin_loop at form head first tested third body e ∙ ap (λ kw. begin_loop kw (loop_with tested third body.value)) same))
    (go (subst (λ t. Answers (act p t k operands calls w) r new v) (looped (λ keyword l. test_loop l) at form head first tested third body e) h))
