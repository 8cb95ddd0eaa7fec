use Rattle.std.proofs.Common.{rules, ◌≡◌, IfOk, List, map, option_map, sym, ◌∙◌, ap, subst}
use Rattle.p10_core.specs.declared.statements.StmtForm.TheViews.{the_lemmas}
use Rattle.p10_core.specs.Typed.{PlainStatementForm, block, loop, PlainObject}
use Rattle.p10_core.specs.Views.{plain_statement, plain_statement_form, plain_statements, plain_object, plain_value}
use Rattle.p10_core.proofs.StatementRows.{plain_block, statements_row-items}
use Rattle.p10_userules.specs.private.Walking.{Walked, walk_of, walk_over, walk_over_all, walk_over_form}
use Rattle.p10_userules.proofs.Loops.{forward, tested_last}
use Rattle.p10_userules.proofs.walking.+statements.Goals as goal

pub walk_statement-returns-in-Block : goal.walk_statement-returns-in-Block
walk_statement-returns-in-Block t c =
    let is : plain_statement_form c.args.s.now.form ≡ block (plain_statements c.in-Block.all) = ap plain_statement_form c.in-Block.is ∙ plain_block c.in-Block.all in
    let P : PlainStatementForm → Type 0 = λ f. IfOk c.walk_block.result (λ _. walk_of c.walk_block.new.walk c.walk_block.new.nested.items ≡ walk_over_form (map plain_object c.args.objects.now) f (walk_of c.args.walk.now c.args.nested.now.items)) in
    subst P (ap (λ all. block (plain_statements all)) c.as_slice.ensures ∙ sym is) c.walk_block.ensures

pub walk_statement-returns-in-While : goal.walk_statement-returns-in-While
walk_statement-returns-in-While t c =
    let objects : List PlainObject = map plain_object c.args.objects.now in
    let form : plain_statement_form c.args.s.now.form ≡ loop c.in-Loop.head (plain_statements c.in-Loop.first) (option_map plain_value c.in-Loop.test) (plain_statements c.in-Loop.third) (plain_statement c.in-Loop.body.value) =
    rw c.in-Loop.is (search (rules, the_lemmas, statements_row-items)) in
    let w : Walked = walk_of c.args.walk.now c.args.nested.now.items in
    let one : Walked = walk_of c.walk_all.new.walk c.walk_all.new.nested.items in
    let two : Walked = record { occurrences = c.put_maybe.new.out.items; nested = c.walk_all.new.nested.items; blocks = c.walk_all.new.walk.blocks.items } in
    let three : Walked = walk_of c.walk_all-in-While.new.walk c.walk_all-in-While.new.nested.items in
    let four : Walked = walk_of c.walk_statement-in-While.new.walk c.walk_statement-in-While.new.nested.items in
    forward objects (plain_statement_form c.args.s.now.form) c.in-Loop.head (plain_statements c.in-Loop.first) (option_map plain_value c.in-Loop.test) (plain_statements c.in-Loop.third) (plain_statement c.in-Loop.body.value)
    form w one two three four c.in-While.is
    (c.in_ok-walk_all-in-While.ensures ∙ ap (λ all. walk_over_all objects (plain_statements all) (walk_of c.args.walk.now c.new-inside.result.items)) c.as_slice-in-While.ensures
    ∙ ap (λ ts. walk_over_all objects (plain_statements c.in-Loop.first) (walk_of c.args.walk.now ts)) c.new-inside.ensures.items)
    (λ i. record { occurrences = c.in_ok-put_maybe-in-While.ensures i; nested = c.walk_all.new.nested.items; blocks = c.walk_all.new.walk.blocks.items })
    (c.in_ok-walk_all-in-While-2.ensures ∙ ap (λ all. walk_over_all objects (plain_statements all) two) c.as_slice-in-While-2.ensures)
    (c.in_ok-walk_statement-in-While.ensures ∙ ap (λ s. walk_over objects (plain_statement s) three) c.deref-in-While.ensures)

pub walk_statement-returns-in-Loop : goal.walk_statement-returns-in-Loop
walk_statement-returns-in-Loop t c =
    let objects : List PlainObject = map plain_object c.args.objects.now in
    let form : plain_statement_form c.args.s.now.form ≡ loop c.in-Loop.head (plain_statements c.in-Loop.first) (option_map plain_value c.in-Loop.test) (plain_statements c.in-Loop.third) (plain_statement c.in-Loop.body.value) =
    rw c.in-Loop.is (search (rules, the_lemmas, statements_row-items)) in
    let w : Walked = walk_of c.args.walk.now c.args.nested.now.items in
    let one : Walked = walk_of c.walk_all-in-Do.new.walk c.walk_all-in-Do.new.nested.items in
    let two : Walked = walk_of c.walk_statement-in-Do.new.walk c.walk_statement-in-Do.new.nested.items in
    let three : Walked = record { occurrences = c.put_maybe-in-Do.new.out.items; nested = c.walk_statement-in-Do.new.nested.items; blocks = c.walk_statement-in-Do.new.walk.blocks.items } in
    let four : Walked = walk_of c.walk_all-in-Do-2.new.walk c.walk_all-in-Do-2.new.nested.items in
    tested_last objects (plain_statement_form c.args.s.now.form) c.in-Loop.head (plain_statements c.in-Loop.first) (option_map plain_value c.in-Loop.test) (plain_statements c.in-Loop.third) (plain_statement c.in-Loop.body.value)
    form w one two three four c.in-Do.is
    (c.in_ok-walk_all-in-Do.ensures ∙ ap (λ all. walk_over_all objects (plain_statements all) (walk_of c.args.walk.now c.new-inside.result.items)) c.as_slice-in-Do.ensures
    ∙ ap (λ ts. walk_over_all objects (plain_statements c.in-Loop.first) (walk_of c.args.walk.now ts)) c.new-inside.ensures.items)
    (c.in_ok-walk_statement-in-Do.ensures ∙ ap (λ s. walk_over objects (plain_statement s) one) c.deref-in-Do.ensures)
    (λ i. record { occurrences = c.in_ok-put_maybe-in-Do.ensures i; nested = c.walk_statement-in-Do.new.nested.items; blocks = c.walk_statement-in-Do.new.walk.blocks.items })
    (c.in_ok-walk_all-in-Do-2.ensures ∙ ap (λ all. walk_over_all objects (plain_statements all) three) c.as_slice-in-Do-2.ensures)
