-- Rows of statements as lists.
use Rattle.std.proofs.Common.{◌≡◌, suc, List, [], ◌∷◌, length, refl, ap, rules}
use Rattle.p10_core.specs.declared.statements.Stmt.{Stmt}
use Rattle.p10_core.specs.declared.statements.StmtForm.TheVariants.{Block}
use Rattle.p10_core.specs.declared.statements.StmtForm.TheViews.{the_lemmas}
use Rattle.p10_core.specs.declared.statements.StmtForm.TheBlock.{Row_of-Stmt, end_of-Stmt, more_of-Stmt, items-the_row-Stmt}
use Rattle.p10_core.specs.Typed.{statement, block, more_statements}
use Rattle.p10_core.specs.declared.typed.Value.{Value}
use Rattle.p10_interp.specs.private.Operations.{count_of}
use Rattle.p10_core.specs.Views.{plain_values, plain_statement_form, plain_statements_row, plain_statements}

pub plain_rows : (m : _) (row : Row_of-Stmt m) → plain_statements_row row ≡ plain_statements (items-the_row-Stmt m row)
plain_rows _ end_of-Stmt = refl
plain_rows _ (more_of-Stmt at f rest) = ap (more_statements (statement at (plain_statement_form f))) (plain_rows _ rest)

pub plain_block : (all : List Stmt) → plain_statement_form (Block all) ≡ block (plain_statements all)
plain_block all = search (rules, the_lemmas, plain_rows)

-- there are as many arguments as values in the list
pub count_is : (vs : List Value) → count_of (plain_values vs) ≡ length vs
count_is [] = refl
count_is (v ∷ vs) = ap suc (count_is vs)
