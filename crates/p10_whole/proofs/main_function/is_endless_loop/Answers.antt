use Rattle.std.proofs.Common.{◌≡◌, ◌∙◌, ap, sym, rules, option_map, Some}
use Rattle.p10_core.specs.declared.statements.StmtForm.TheViews.{the_lemmas}
use Rattle.p10_core.specs.Typed.{statement, loop}
use Rattle.p10_core.specs.Views.{plain_statement, plain_statements, plain_statement_form, plain_value}
use Rattle.p10_core.specs.WholePrograms.{may_be_task}
use Rattle.p10_core.proofs.StatementRows.{statements_row-items}
use Rattle.p10_whole.proofs.main_function.is_endless_loop.Goals as goal

pub returns-in-Loop : goal.returns-in-Loop
returns-in-Loop c =
    let form : plain_statement_form c.args.s.now.form ≡ loop c.in-Loop.head (plain_statements c.in-Loop.first) (option_map plain_value c.in-Loop.test) (plain_statements c.in-Loop.third) (plain_statement c.in-Loop.field-4.value) =
    rw c.in-Loop.is (search (rules, the_lemmas, statements_row-items)) in
    c.is_endless.ensures c.args.s.now.at (plain_statement c.in-Loop.field-4.value)
    ∙ (λ i. may_be_task (Some (statement c.args.s.now.at (loop c.in-Loop.head (plain_statements (c.as_slice.ensures i)) (option_map plain_value c.in-Loop.test) (plain_statements (c.as_slice-in-Loop.ensures i)) (plain_statement c.in-Loop.field-4.value)))))
    ∙ ap (λ g. may_be_task (Some (statement c.args.s.now.at g))) (sym form)
