-- The task loop among the items of `main`.
use Rattle.std.proofs.Common.{◌≡◌, ◌∙◌, ℕ, List, [], ◌∷◌, map, Option, None, if◌then◌else◌, sym, ap, refl, eq-eqb}
use Rattle.p10_core.specs.declared.statements.LoopHead.{LoopHead}
use Rattle.p10_core.specs.declared.statements.Stmt.{Stmt}
use Rattle.p10_core.specs.Typed.{PlainFunction, PlainProgram, statements_list}
use Rattle.p10_core.specs.Views.{plain_statement, plain_statements}
use Rattle.p10_core.specs.WholePrograms.{main_items}
use Rattle.p10_check.specs.Shapes.{head_at, task_head}

statements_listed : (xs : List Stmt) → statements_list (plain_statements xs) ≡ map plain_statement xs
statements_listed [] = refl
statements_listed (x ∷ xs) = ap (λ rest. plain_statement x ∷ rest) (statements_listed xs)

-- what the task loop of `main` begins with
pub head_told : (p : PlainProgram) (n : ℕ) (f : PlainFunction) (items body : List Stmt) (task : Option ℕ) (o : Option LoopHead) → n ≡ p.main → p.task ≡ task → items ≡ body → plain_statements body ≡ f.body
    → o ≡ head_at (map plain_statement items) task → o ≡ task_head p n f
head_told p n f items body task o here is same whole e =
    e ∙ ap (λ xs. head_at xs task) (sym (statements_listed items) ∙ ap (λ xs. statements_list (plain_statements xs)) same ∙ ap statements_list whole)
    ∙ ap (head_at (main_items f)) (sym is)
    ∙ ap (λ b. if b then head_at (main_items f) p.task else None) (sym (eq-eqb n p.main here))
