-- The code of each statement does what it means.
use Rattle.std.proofs.Common.{List, ℕ, Some, None}
use Rattle.p10_base.specs.declared.at.At.{At}
use Rattle.p10_core.specs.declared.statements.MarkKind.TheVariants.{InitDone, TaskLoop}
use Rattle.p10_core.specs.Typed.{PlainStatement, statement, PlainStatementForm, set, update, copy, evaluate as expression, asserts, declare, declare_static, block, if_then, if_else, loop, switch, break, continue, return, empty, mark, PlainStatements, no_statements, more_statements, PlainVariable, PlainProgram}
use Rattle.p10_meaning.specs.Values.{Calls}
use Rattle.p10_code.specs.Operations.{Op, Entry}
use Rattle.p10_code.proofs.Base.{Under}
use Rattle.p10_code.proofs.ValueParts.{CallsRun}
use Rattle.p10_code.proofs.StatementParts.{StatementRuns, StatementsRun}
use Rattle.p10_code.proofs.Assigning.{set_runs, update_runs}
use Rattle.p10_code.proofs.Steps.{copies_run, asserts_run, expression_runs, return_runs, return_none_runs, break_runs, continue_runs, empty_runs, static_runs, loop_mark_runs, mark_runs}
use Rattle.p10_code.proofs.Flowing.{block_runs, if_then_runs, if_else_runs}
use Rattle.p10_code.proofs.Looping.{loop_runs}
use Rattle.p10_code.proofs.Switching.{AllRun, statements_run, BodyRuns, switch_runs}
use Rattle.p10_code.proofs.Declaring.{declare_runs}

module _ (p : PlainProgram) (code : List Op) (entries : List Entry) (u : Under) (vars : List PlainVariable) (call : Calls) (m : ℕ) (cr : (blocks : List (List ℕ)) → CallsRun p code entries (record u { blocks = blocks }) call m) where
  mutual
    pub statement_law : (x : PlainStatement) → StatementRuns p code entries u vars call m x
    statement_law (statement here form) = form_law here form

    form_law : (here : At) (form : PlainStatementForm) → StatementRuns p code entries u vars call m (statement here form)
    form_law here (set pl v) = set_runs p code entries u vars call m cr here pl v
    form_law here (update kind o t pl v) = update_runs p code entries u vars call m cr here kind o t pl v
    form_law here (copy pl ql) = copies_run p code entries u vars call m cr here pl ql
    form_law here (expression v) = expression_runs p code entries u vars call m cr here v
    form_law here (asserts at v) = asserts_run p code entries u vars call m cr here at v
    form_law here (declare n i) = declare_runs p code entries u vars call m cr here n i
    form_law here (declare_static n) = static_runs p code entries u vars call m cr here n
    form_law here (block ss) = block_runs p code entries u vars call m cr here ss (statements_run p code entries u vars call m cr ss (all_law ss))
    form_law here (if_then v a) = if_then_runs p code entries u vars call m cr here v a (statement_law a)
    form_law here (if_else v a b) = if_else_runs p code entries u vars call m cr here v a b (statement_law a) (statement_law b)
    form_law here (loop head first tested third body) =
        loop_runs p code entries u vars call m cr here head first tested third body (statements_run p code entries u vars call m cr first (all_law first)) (statements_run p code entries u vars call m cr third (all_law third)) (statement_law body)
    form_law here (switch keyword v labels (statement at form)) = switch_runs p code entries u vars call m cr here keyword v labels at form (body_law form)
    form_law here break = break_runs p code entries u vars call m cr here
    form_law here continue = continue_runs p code entries u vars call m cr here
    form_law here (return keyword None) = return_none_runs p code entries u vars call m cr here keyword
    form_law here (return keyword (Some v)) = return_runs p code entries u vars call m cr here keyword v
    form_law here empty = empty_runs p code entries u vars call m cr here
    form_law here (mark InitDone) = mark_runs p code entries u vars call m cr here
    form_law here (mark TaskLoop) = loop_mark_runs p code entries u vars call m cr here

    all_law : (ss : PlainStatements) → AllRun p code entries u vars call m cr ss
    all_law no_statements = tt
    all_law (more_statements x rest) = (statement_law x, all_law rest)

    body_law : (form : PlainStatementForm) → BodyRuns p code entries u vars call m cr form
    body_law (block ss) = all_law ss
    body_law (set pl v) = tt
    body_law (update kind o t pl v) = tt
    body_law (copy pl ql) = tt
    body_law (expression v) = tt
    body_law (asserts at v) = tt
    body_law (declare n i) = tt
    body_law (declare_static n) = tt
    body_law (if_then v a) = tt
    body_law (if_else v a b) = tt
    body_law (loop head first tested third body) = tt
    body_law (switch keyword v labels body) = tt
    body_law break = tt
    body_law continue = tt
    body_law (return keyword v) = tt
    body_law empty = tt
    body_law (mark kind) = tt

  pub statements_law : (ss : PlainStatements) → StatementsRun p code entries u vars call m ss
  statements_law ss = statements_run p code entries u vars call m cr ss (all_law ss)
