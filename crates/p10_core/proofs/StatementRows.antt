-- Rows of statements as lists.
use Rattle.std.proofs.Common.{◌≡◌, List, refl, ap, rules}
use Rattle.p10_core.specs.declared.statements.Stmt.{Stmt}
use Rattle.p10_core.specs.declared.statements.StmtForm.TheVariants.{Block}
use Rattle.p10_core.specs.declared.statements.StmtForm.TheViews.{the_lemmas}
use Rattle.p10_core.specs.declared.statements.StmtForm.TheBlock.{Row_of-Stmt, end_of-Stmt, more_of-Stmt, items-the_row-Stmt}
use Rattle.p10_core.specs.Typed.{statement, block, more_statements}
use Rattle.p10_core.specs.Views.{plain_statement_form, plain_statements_row, plain_statements}

pub statements_row-items : (m : _) (row : Row_of-Stmt m) → plain_statements_row row ≡ plain_statements (items-the_row-Stmt m row)
statements_row-items _ end_of-Stmt = refl
statements_row-items _ (more_of-Stmt at f rest) = ap (more_statements (statement at (plain_statement_form f))) (statements_row-items _ rest)

pub plain_block : (all : List Stmt) → plain_statement_form (Block all) ≡ block (plain_statements all)
plain_block all = search (rules, the_lemmas, statements_row-items)
