use Rattle.std.proofs.Common.{◌≡◌, ◌++◌, List, Option, option_map, IfOk, sym, ◌∙◌, ap, subst}
use Rattle.std.proofs.lemmas.Result.{IfOk-weaker}
use Rattle.p10_bindings.specs.Bound.{bound_in}
use Rattle.p10_core.specs.declared.statements.StmtForm.TheVariants.{Loop}
use Rattle.p10_core.specs.Typed.{PlainObject, PlainVariable, PlainStatement, PlainStatementForm, statement}
use Rattle.p10_core.specs.Views.{plain_statement, plain_statements, plain_statement_form}
use Rattle.p10_core.proofs.StatementRows.{plain_block}
use Rattle.p10_base.specs.Words.{Text}
use Rattle.p10_warn.specs.Scopes.{ScopedDeclaration, name_declared, names_after, declarations_in, declarations_among}
use Rattle.p10_warn.specs.private.Branches.{declarations_in_branch}
use Rattle.p10_warn.specs.private.Contexts.{objects_known, file_known, variables_known, listed_by}
use Rattle.p10_warn.specs.private.ScopeNames.{names_in}
use Rattle.p10_warn.specs.private.Listing.{declaration_violations}
use Rattle.p10_warn.proofs.ScopeSteps.{names_kept, names_grow, declared_grows, loop_names}
use Rattle.p10_warn.proofs.StatementForms.{both_listed, declarations_in_both, declarations_in_loop, nothing_declared}
use Rattle.p10_warn.proofs.scopes.+scopes.Goals as goal

pub push_block-returns-clause-names : goal.push_block-returns-clause-names
push_block-returns-clause-names t c =
    let more = names_grow (objects_known c.args.context.now) (variables_known c.args.context.now) (names_in c.args.names.now) (plain_statements c.args.items.now) in
    names_kept (bound_in c.args.names.now) (bound_in c.push_among.new.names) (bound_in c.keep.new.self) c.count-count.result more.0 c.count-count.ensures (c.in_ok-push_among.ensures.names ∙ more.1) c.keep.ensures

pub push_part-returns-clause-names : goal.push_part-returns-clause-names
push_part-returns-clause-names t c =
    let more = declared_grows (names_in c.args.names.now) (name_declared (objects_known c.args.context.now) (variables_known c.args.context.now) (plain_statement c.args.part.now)) in
    names_kept (bound_in c.args.names.now) (bound_in c.push_in.new.names) (bound_in c.keep.new.self) c.count-count.result more.0 c.count-count.ensures (c.in_ok-push_in.ensures.names ∙ more.1) c.keep.ensures

pub push_in-returns-in-Block-clause-violations : goal.push_in-returns-in-Block-clause-violations
push_in-returns-in-Block-clause-violations t c =
    let objects : List PlainObject = objects_known c.args.context.now in
    let variables : List PlainVariable = variables_known c.args.context.now in
    let around : List Text = names_in c.args.names.now in
    let whole : PlainStatementForm → List ScopedDeclaration = λ f. declarations_in objects variables around (statement c.args.statement.now.at f) in
    let is : declarations_among objects variables around (plain_statements c.as_slice.result.now) ≡ declarations_in objects variables around (plain_statement c.args.statement.now) =
    ap (λ all. declarations_among objects variables around (plain_statements all)) c.as_slice.ensures ∙ sym (ap whole (ap plain_statement_form c.in-Block.is ∙ plain_block c.in-Block.items)) in
    let P : List ScopedDeclaration → Type 0 = λ ds. IfOk c.push_block.result (λ _. c.push_block.new.violations.items ≡ c.args.violations.now.items ++ listed_by c.args.context.now ds) in
    subst P is c.push_block.ensures.violations

pub push_in-returns-in_ok-push_part-in-If-clause-violations : goal.push_in-returns-in_ok-push_part-in-If-clause-violations
push_in-returns-in_ok-push_part-in-If-clause-violations t c =
    let objects : List PlainObject = objects_known c.args.context.now in
    let variables : List PlainVariable = variables_known c.args.context.now in
    let around : List Text = names_in c.args.names.now in
    let branch : Option PlainStatement = option_map (λ b. plain_statement b.value) c.in-If.other in
    IfOk-weaker c.push_branch.result _ _
    (λ _ e. both_listed (declaration_violations (file_known c.args.context.now) c.args.context.now.function) (declarations_in objects variables around (plain_statement c.in-If.then.value)) (declarations_in_branch objects variables around branch)
    (declarations_in objects variables around (plain_statement c.args.statement.now)) c.args.violations.now.items c.push_part.new.violations.items c.push_branch.new.violations.items
    (c.in_ok-push_part-in-If.ensures.violations ∙ ap (λ s. c.args.violations.now.items ++ listed_by c.args.context.now (declarations_in objects variables around (plain_statement s))) c.deref.ensures)
    (e ∙ ap (λ names. c.push_part.new.violations.items ++ listed_by c.args.context.now (declarations_in_branch objects variables names branch)) c.in_ok-push_part-in-If.ensures.names)
    (declarations_in_both objects variables around c.args.statement.now.at c.in-If.field-0 c.in-If.then c.in-If.other
    ∙ sym (ap (λ f. declarations_in objects variables around (statement c.args.statement.now.at f)) (ap plain_statement_form c.in-If.is))))
    c.push_branch.ensures.violations

pub push_in-returns-in_ok-push_part-in-Loop-clause-names : goal.push_in-returns-in_ok-push_part-in-Loop-clause-names
push_in-returns-in_ok-push_part-in-Loop-clause-names t c =
    let objects : List PlainObject = objects_known c.args.context.now in
    let variables : List PlainVariable = variables_known c.args.context.now in
    let around : List Text = names_in c.args.names.now in
    let loop : plain_statement_form c.args.statement.now.form ≡ plain_statement_form (Loop c.in-Loop.field-0 c.in-Loop.first c.in-Loop.field-2 c.in-Loop.field-3 c.in-Loop.body) = ap plain_statement_form c.in-Loop.is in
    loop_names objects variables (plain_statements c.in-Loop.first) (bound_in c.args.names.now) (bound_in c.push_among.new.names) (bound_in c.push_part-in-Loop.new.names) (bound_in c.keep.new.self) c.count-count.result c.count-count.ensures
    (c.in_ok-push_among-in-Loop.ensures.names ∙ ap (λ all. names_after objects variables around (plain_statements all)) c.as_slice-in-Loop.ensures) c.in_ok-push_part-in-Loop.ensures.names c.keep.ensures
    ∙ sym (nothing_declared objects variables around c.args.statement.now.at c.in-Loop.field-0 c.in-Loop.first c.in-Loop.field-2 c.in-Loop.field-3 c.in-Loop.body (plain_statement_form c.args.statement.now.form) loop)

pub push_in-returns-in_ok-push_part-in-Loop-clause-violations : goal.push_in-returns-in_ok-push_part-in-Loop-clause-violations
push_in-returns-in_ok-push_part-in-Loop-clause-violations t c =
    let objects : List PlainObject = objects_known c.args.context.now in
    let variables : List PlainVariable = variables_known c.args.context.now in
    let around : List Text = names_in c.args.names.now in
    let opened : names_in c.push_among.new.names ≡ names_after objects variables around (plain_statements c.in-Loop.first) =
    c.in_ok-push_among-in-Loop.ensures.names ∙ ap (λ all. names_after objects variables around (plain_statements all)) c.as_slice-in-Loop.ensures in
    both_listed (declaration_violations (file_known c.args.context.now) c.args.context.now.function) (declarations_among objects variables around (plain_statements c.in-Loop.first))
    (declarations_in objects variables (names_after objects variables around (plain_statements c.in-Loop.first)) (plain_statement c.in-Loop.body.value))
    (declarations_in objects variables around (plain_statement c.args.statement.now)) c.args.violations.now.items c.push_among.new.violations.items c.push_part-in-Loop.new.violations.items
    (c.in_ok-push_among-in-Loop.ensures.violations ∙ ap (λ all. c.args.violations.now.items ++ listed_by c.args.context.now (declarations_among objects variables around (plain_statements all))) c.as_slice-in-Loop.ensures)
    (c.in_ok-push_part-in-Loop.ensures.violations
    ∙ ap (λ names. c.push_among.new.violations.items ++ listed_by c.args.context.now (declarations_in objects variables names (plain_statement c.deref-in-Loop.result.now))) opened
    ∙ ap (λ s. c.push_among.new.violations.items ++ listed_by c.args.context.now (declarations_in objects variables (names_after objects variables around (plain_statements c.in-Loop.first)) (plain_statement s))) c.deref-in-Loop.ensures)
    (declarations_in_loop objects variables around c.args.statement.now.at c.in-Loop.field-0 c.in-Loop.first c.in-Loop.field-2 c.in-Loop.field-3 c.in-Loop.body
    ∙ sym (ap (λ f. declarations_in objects variables around (statement c.args.statement.now.at f)) (ap plain_statement_form c.in-Loop.is)))
