use Rattle.std.proofs.Common.{rules, ◌≡◌, ◌++◌, IfOk, option_map, option_copied, sym, ◌∙◌, ap, subst, List}
use Rattle.p10_core.specs.declared.statements.StmtForm.TheViews.{the_lemmas}
use Rattle.p10_core.specs.Typed.{loop}
use Rattle.p10_core.specs.Nodes.{PlainNode, nodes_of_statement, nodes_of_statements, nodes_of_maybe, in_loop_order, nodes_in_statement_form}
use Rattle.p10_core.specs.Views.{plain_value, plain_statement, plain_statement_form, plain_statements}
use Rattle.p10_core.specs.Walks.{nodes_ahead}
use Rattle.p10_core.proofs.StatementRows.{plain_block, statements_row-items}
use Rattle.p10_core.proofs.nodes.Nodes.open_statement.Goals as goal

pub returns-in-Block : goal.returns-in-Block
returns-in-Block c =
    let is : nodes_of_statements (plain_statements c.as_slice.result.now) ≡ nodes_in_statement_form (plain_statement_form c.args.form.now) =
    ap (λ all. nodes_of_statements (plain_statements all)) c.as_slice.ensures ∙ sym (ap nodes_in_statement_form (ap plain_statement_form c.in-Block.is ∙ plain_block c.in-Block.items)) in
    let P : List PlainNode → Type 0 = λ ns. IfOk c.put_statements.result (λ _. nodes_ahead c.put_statements.new.self.ahead.items ≡ ns ++ nodes_ahead c.args.self.now.ahead.items) in
    subst P is c.put_statements.ensures

pub returns-in-Loop : goal.returns-in-Loop
returns-in-Loop c =
    let form : plain_statement_form c.args.form.now ≡ loop c.in-Loop.head (plain_statements c.in-Loop.first) (option_map plain_value c.in-Loop.test) (plain_statements c.in-Loop.third) (plain_statement c.in-Loop.body.value) =
    rw c.in-Loop.is (search (rules, the_lemmas, statements_row-items)) in
    let is : in_loop_order c.in-Loop.head.keyword (nodes_of_statements (plain_statements c.as_slice-in-Loop.result.now)) (nodes_of_maybe (option_map plain_value (option_copied c.as_ref.result))) (nodes_of_statements (plain_statements c.as_slice-in-Loop-2.result.now)) (nodes_of_statement (plain_statement c.deref-in-Loop.result.now)) ≡ nodes_in_statement_form (plain_statement_form c.args.form.now) =
    (λ i. in_loop_order c.in-Loop.head.keyword (nodes_of_statements (plain_statements (c.as_slice-in-Loop.ensures i))) (nodes_of_maybe (option_map plain_value (c.as_ref.ensures.value i))) (nodes_of_statements (plain_statements (c.as_slice-in-Loop-2.ensures i))) (nodes_of_statement (plain_statement (c.deref-in-Loop.ensures i))))
    ∙ sym (ap nodes_in_statement_form form) in
    let P : List PlainNode → Type 0 = λ ns. IfOk c.put_loop.result (λ _. nodes_ahead c.put_loop.new.self.ahead.items ≡ ns ++ nodes_ahead c.args.self.now.ahead.items) in
    subst P is c.put_loop.ensures
