-- Statements of the code that hold others in a list.
use Rattle.std.proofs.Common.{◌≡◌, ℕ, zero, suc, ◌≤◌, List, [], ◌∷◌, map, length, take, refl, sym, ◌∙◌, ap, arith, rules, Option, Some, option_map}
use Rattle.std.specs.Prelude.{slice_get}
use Rattle.p10_base.specs.declared.at.At.{At}
use Rattle.p10_core.specs.declared.typed.Value.{Value}
use Rattle.p10_core.specs.declared.statements.LoopHead.{LoopHead}
use Rattle.p10_core.specs.declared.statements.Stmt.{Stmt}
use Rattle.p10_core.specs.declared.statements.StmtForm.{StmtForm}
use Rattle.p10_core.specs.declared.statements.StmtForm.TheVariants.{Block, Loop as LoopForm}
use Rattle.p10_core.specs.declared.statements.StmtForm.TheViews.{the_lemmas}
use Rattle.p10_core.specs.Typed.{statement, loop, more_statements, statements_list, statements_of_list}
use Rattle.p10_core.specs.Views.{plain_value, plain_statement_form, plain_statement, plain_statements}
use Rattle.p10_core.proofs.StatementRows.{plain_block, statements_row-items}
use Rattle.p10_meaning.specs.Runs.{task_in}
use Rattle.p10_sums.specs.declared.tally.Tally.{Tally}
use Rattle.p10_sums.specs.Counting.{Counting, turns_claimed}
use Rattle.p10_sums.specs.private.Tallies.{in_turn}
use Rattle.p10_sums.specs.private.Walks.{test_tally, loop_tally, statement_tally, statement_form_tally, statements_tally}
use Rattle.p10_sums.specs.private.Totals.{task_test_tally, turn_tally}

pub block_counted : (c : Counting) (form : StmtForm) (items all : List Stmt) (r : Tally) → form ≡ Block items → all ≡ items → r ≡ statements_tally c (plain_statements all) → r ≡ statement_form_tally c (plain_statement_form form)
block_counted c form items all r is same e =
    e ∙ (ap (λ ss. statements_tally c (plain_statements ss)) same ∙ ap (statement_form_tally c) (sym (ap plain_statement_form is ∙ plain_block items)))

plain_loop : (head : _) (first : _) (tested : Option Value) (third : _) (body : _) → plain_statement_form (LoopForm head first tested third body) ≡ loop head (plain_statements first) (option_map plain_value tested) (plain_statements third) (plain_statement body.value)
plain_loop head first tested third body = search (rules, the_lemmas, statements_row-items)

pub loop_counted : (c : Counting) (form : StmtForm) (head : LoopHead) (first : _) (tested : Option Value) (third : _) (body : _) (firsts thirds : List Stmt) (there : Stmt) (turns : ℕ) (f t h b r : Tally) →
    form ≡ LoopForm head first tested third body → firsts ≡ first → thirds ≡ third → there ≡ body.value →
    turns ≡ turns_claimed (slice_get c.loops head.number) → f ≡ statements_tally c (plain_statements firsts) → t ≡ test_tally c (option_map plain_value tested) → h ≡ statements_tally c (plain_statements thirds) →
    b ≡ statement_tally c (plain_statement there) → r ≡ loop_tally head.keyword turns f t h b → r ≡ statement_form_tally c (plain_statement_form form)
loop_counted c form head first tested third body firsts thirds there turns f t h b r is x y z n p q u v e =
    e ∙ ((λ i. loop_tally head.keyword (n i) ((p ∙ ap (λ ss. statements_tally c (plain_statements ss)) x) i) (q i) ((u ∙ ap (λ ss. statements_tally c (plain_statements ss)) y) i) ((v ∙ ap (λ s. statement_tally c (plain_statement s)) z) i))
    ∙ ap (statement_form_tally c) (sym (ap plain_statement_form is ∙ plain_loop head first tested third body)))

-- a turn of the task loop that a statement is
pub turn_counted : (c : Counting) (at : At) (form : StmtForm) (head : LoopHead) (first : _) (tested : Option Value) (third : _) (body : _) (there : Stmt) (t b r : Tally) → form ≡ LoopForm head first tested third body → there ≡ body.value →
    t ≡ task_test_tally c (option_map plain_value tested) → b ≡ statement_tally c (plain_statement there) → r ≡ in_turn t b → r ≡ turn_tally c (task_in (Some (statement at (plain_statement_form form))))
turn_counted c at form head first tested third body there t b r is z q v e =
    e ∙ ((λ i. in_turn (q i) ((v ∙ ap (λ s. statement_tally c (plain_statement s)) z) i)) ∙ ap (λ x. turn_tally c (task_in (Some (statement at x)))) (sym (ap plain_statement_form is ∙ plain_loop head first tested third body)))

pub statements_listed : (xs : List Stmt) → statements_list (plain_statements xs) ≡ map plain_statement xs
statements_listed [] = refl
statements_listed (x ∷ xs) = ap (λ rest. plain_statement x ∷ rest) (statements_listed xs)

-- the first k statements
pub take_plain : (k : ℕ) (xs : List Stmt) → plain_statements (take k xs) ≡ statements_of_list (take k (statements_list (plain_statements xs)))
take_plain zero xs = refl
take_plain (suc k) [] = refl
take_plain (suc k) (x ∷ xs) = ap (more_statements (plain_statement x)) (take_plain k xs)

-- all statements, where there are no more than k
pub all_plain : (k : ℕ) (xs : List Stmt) → length xs ≤ k → plain_statements xs ≡ statements_of_list (take k (statements_list (plain_statements xs)))
all_plain zero [] l = refl
all_plain zero (x ∷ xs) l = absurd (omega (arith, l))
all_plain (suc k) [] l = refl
all_plain (suc k) (x ∷ xs) l = ap (more_statements (plain_statement x)) (all_plain k xs (omega (arith, l)))
