-- Statements of the code that hold others in a list.
use Rattle.std.proofs.Common.{◌≡◌, List, sym, ◌∙◌, ap, rules, Option, option_map}
use Rattle.p10_core.specs.declared.typed.Value.{Value}
use Rattle.p10_core.specs.declared.statements.LoopHead.{LoopHead}
use Rattle.p10_core.specs.declared.statements.Stmt.{Stmt}
use Rattle.p10_core.specs.declared.statements.StmtForm.{StmtForm}
use Rattle.p10_core.specs.declared.statements.StmtForm.TheVariants.{Block, Loop as LoopForm}
use Rattle.p10_core.specs.declared.statements.StmtForm.TheViews.{the_lemmas}
use Rattle.p10_core.specs.Typed.{block, loop}
use Rattle.p10_core.specs.Views.{plain_value, plain_statement_form, plain_statement, plain_statements}
use Rattle.p10_core.proofs.StatementRows.{plain_block, statements_row-items}

pub block_form : (form : StmtForm) (items : _) (all : List Stmt) → form ≡ Block items → all ≡ items → plain_statement_form form ≡ block (plain_statements all)
block_form form items all is same = ap plain_statement_form is ∙ (plain_block items ∙ ap (λ ss. block (plain_statements ss)) (sym same))

plain_loop : (head : _) (first : _) (tested : Option Value) (third : _) (body : _) → plain_statement_form (LoopForm head first tested third body) ≡ loop head (plain_statements first) (option_map plain_value tested) (plain_statements third) (plain_statement body.value)
plain_loop head first tested third body = search (rules, the_lemmas, statements_row-items)

pub loop_form : (form : StmtForm) (head : LoopHead) (first : _) (tested : Option Value) (third : _) (body : _) (firsts thirds : List Stmt) (there : Stmt) →
    form ≡ LoopForm head first tested third body → firsts ≡ first → thirds ≡ third → there ≡ body.value →
    plain_statement_form form ≡ loop head (plain_statements firsts) (option_map plain_value tested) (plain_statements thirds) (plain_statement there)
loop_form form head first tested third body firsts thirds there is x y z =
    ap plain_statement_form is ∙ (plain_loop head first tested third body ∙
    (λ i. loop head (plain_statements (sym x i)) (option_map plain_value tested) (plain_statements (sym y i)) (plain_statement (sym z i))))
