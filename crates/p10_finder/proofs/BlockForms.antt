-- Blocks that the walk comes to, by whole statements.
use Rattle.std.proofs.Common.{◌≡◌, ℕ, List, sym, ◌∙◌, ap, Option, None}
use Rattle.std.specs.Prelude.{Result, OnOk}
use Rattle.std.proofs.lemmas.Result.{on_ok_weaker}
use Rattle.p10_core.specs.declared.statements.Stmt.{Stmt}
use Rattle.p10_core.specs.declared.statements.StmtForm.{StmtForm}
use Rattle.p10_core.specs.declared.statements.StmtForm.TheVariants.{Block}
use Rattle.p10_core.specs.Typed.{PlainLabels, PlainStatementForm, block}
use Rattle.p10_core.specs.Views.{plain_statement_form, plain_statement, plain_statements}
use Rattle.p10_core.proofs.StatementRows.{plain_block}
use Rattle.p10_absx.specs.Environments.{Environment}
use Rattle.p10_finder.specs.Loops.{Search, LoopsFound, loops_in, loops_in_form, loops_in_all, loops_in_switch, loops_in_cases, loops_from}

-- the form of a block whose items are a slice
block_is : (form : StmtForm) (items : _) (slice : List Stmt) → form ≡ Block items → slice ≡ items → block (plain_statements slice) ≡ plain_statement_form form
block_is form items slice is same = ap (λ ss. block (plain_statements ss)) same ∙ sym (ap plain_statement_form is ∙ plain_block items)

-- as a statement
pub block_found : {T E : Type 0} (r : Result T E) (new : LoopsFound) (s : Search) (depth : ℕ) (x : Stmt) (items : _) (slice : List Stmt) (env : Option Environment) (found : LoopsFound) → x.form ≡ Block items → slice ≡ items →
    OnOk r (new ≡ loops_in_all s depth (plain_statements slice) env found) → OnOk r (new ≡ loops_in s depth (plain_statement x) env found)
block_found r new s depth x items slice env found is same h =
    on_ok_weaker {P = new ≡ loops_in_all s depth (plain_statements slice) env found} {Q = new ≡ loops_in s depth (plain_statement x) env found} r
    (λ was. was ∙ ap (λ (f : PlainStatementForm). loops_in_form s depth f env found) (block_is x.form items slice is same)) h

-- as the body of a `switch`
pub body_found : {T E : Type 0} (r : Result T E) (new : LoopsFound) (s : Search) (depth : ℕ) (labels : PlainLabels) (x : Stmt) (items : _) (slice : List Stmt) (env : Option Environment) (found : LoopsFound) → x.form ≡ Block items → slice ≡ items →
    OnOk r (new ≡ loops_from s depth labels 0 (plain_statements slice) env None found) → OnOk r (new ≡ loops_in_switch s depth labels (plain_statement x) env found)
body_found r new s depth labels x items slice env found is same h =
    on_ok_weaker {P = new ≡ loops_from s depth labels 0 (plain_statements slice) env None found} {Q = new ≡ loops_in_switch s depth labels (plain_statement x) env found} r
    (λ was. was ∙ ap (λ (f : PlainStatementForm). loops_in_cases s depth labels f env found (loops_in_form s depth f None found)) (block_is x.form items slice is same)) h
