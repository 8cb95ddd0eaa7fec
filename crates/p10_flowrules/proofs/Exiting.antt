-- Statements that leave a loop.
use Rattle.std.proofs.Common.{◌≡◌, ℕ, ◌+◌, ◌++◌, List, drop, sym, ◌∙◌, ap, subst, Some, None, Option, option_map}
use Rattle.std.specs.Prelude.{Result, OnOk, slice_get}
use Rattle.p10_base.specs.declared.at.At.{At}
use Rattle.p10_core.specs.declared.statements.Stmt.{Stmt}
use Rattle.p10_core.specs.declared.statements.StmtForm.{StmtForm}
use Rattle.p10_core.specs.declared.statements.StmtForm.TheVariants.{Block}
use Rattle.p10_core.specs.Typed.{PlainStatement, PlainStatementForm, block, statements_list, statements_of_list}
use Rattle.p10_core.specs.Views.{plain_statement, plain_statements, plain_statement_form}
use Rattle.p10_core.proofs.StatementRows.{plain_block}
use Rattle.p10_flowrules.specs.declared.exits.Breaks.{Breaks}
use Rattle.p10_flowrules.specs.Allocating.{items_after}
use Rattle.p10_flowrules.specs.TaskExits.{exits_in_form, exits_of, exits_of_loop}
use Rattle.p10_flowrules.proofs.Items.{item_is, statements_again, items_past}

-- what leaves a block, by its items
pub by_block : {T E : Type 0} (r : Result T E) (old new : List At) (breaks : Breaks) (at : At) (form : StmtForm) (items slice : List Stmt) → form ≡ Block items → slice ≡ items →
    OnOk r (new ≡ old ++ exits_of breaks (plain_statements slice)) → OnOk r (new ≡ old ++ exits_in_form breaks at (plain_statement_form form))
by_block r old new breaks at form items slice is same done =
    let e : block (plain_statements slice) ≡ plain_statement_form form = ap (λ (l : List Stmt). block (plain_statements l)) same ∙ sym (ap plain_statement_form is ∙ plain_block items) in
    subst (λ (f : PlainStatementForm). OnOk r (new ≡ old ++ exits_in_form breaks at f)) e done

-- the loop at a place
pub at_place : (items : List Stmt) (n : ℕ) (found : Option Stmt) (exits : List At) → found ≡ slice_get items n → exits ≡ exits_of_loop (option_map plain_statement found) → exits ≡ exits_of_loop (slice_get (statements_list (plain_statements items)) n)
at_place items n found exits is e = e ∙ ap exits_of_loop (ap (option_map plain_statement) is ∙ sym (item_is items n))

-- ## After the mark

pub late_some : (items past : List Stmt) (of_main : List PlainStatement) (mark : Option ℕ) (n : ℕ) → statements_list (plain_statements items) ≡ of_main → mark ≡ Some n → past ≡ drop (n + 1) items →
    plain_statements past ≡ statements_of_list (items_after mark of_main)
late_some items past of_main mark n main is e =
    ap plain_statements e ∙ sym (items_past (n + 1) items) ∙ ap (λ (l : List PlainStatement). statements_of_list (drop (n + 1) l)) main ∙ ap (λ (o : Option ℕ). statements_of_list (items_after o of_main)) (sym is)

pub late_none : (items : List Stmt) (of_main : List PlainStatement) (mark : Option ℕ) → statements_list (plain_statements items) ≡ of_main → mark ≡ None → plain_statements items ≡ statements_of_list (items_after mark of_main)
late_none items of_main mark main is = sym (statements_again items) ∙ ap statements_of_list main ∙ ap (λ (o : Option ℕ). statements_of_list (items_after o of_main)) (sym is)
