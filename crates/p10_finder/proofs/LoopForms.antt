-- Loops that the walk comes to, by whole statements.
use Rattle.std.proofs.Common.{◌≡◌, ℕ, List, length, sym, ◌∙◌, ap, subst, rules, Option, option_map, Bool, true, false}
use Rattle.std.specs.Prelude.{Result, IfOk, OnOk}
use Rattle.std.proofs.lemmas.Result.{IfOk-weaker, on_ok_weaker}
use Rattle.p10_base.specs.declared.at.At.{At}
use Rattle.p10_core.specs.declared.typed.Value.{Value}
use Rattle.p10_core.specs.declared.statements.LoopHead.{LoopHead}
use Rattle.p10_core.specs.declared.statements.Stmt.{Stmt}
use Rattle.p10_core.specs.declared.statements.StmtForm.{StmtForm}
use Rattle.p10_core.specs.declared.statements.StmtForm.TheVariants.{Loop as LoopForm}
use Rattle.p10_core.specs.declared.statements.StmtForm.TheViews.{the_lemmas}
use Rattle.p10_core.specs.Typed.{PlainValue, PlainStatement, statement, PlainStatementForm, loop, PlainStatements}
use Rattle.p10_core.specs.Views.{plain_value, plain_statement_form, plain_statement, plain_statements}
use Rattle.p10_core.proofs.StatementRows.{statements_row-items}
use Rattle.p10_absx.specs.Environments.{Environment}
use Rattle.p10_absx.specs.Trails.{Branching}
use Rattle.p10_fit.specs.Fits.{is_task}
use Rattle.p10_pass.specs.Leaving.{values_in}
use Rattle.p10_pass.specs.Marks.{is_marked}
use Rattle.p10_candidates.specs.Candidates.{LoopEntry}
use Rattle.p10_candidates.specs.declared.standing.LoopFound.{LoopFound as CodeFound}
use Rattle.p10_candidates.specs.Trials.{Rounds, loop_found, task_found, LoopFound, rounds_in}
use Rattle.p10_finder.specs.Loops.{Search, LoopsFound, known_at_entry, loop_entry, found_with, entered_found, reached_found, LoopPassed, passed_by}
use Rattle.p10_candidates.specs.Offering.{loop_found_by}
use Rattle.p10_finder.specs.private.Looking.{assigned_below, offered_in, entered_in_parts, passed_parts, passed_statement}
use Rattle.p10_approach.specs.Approaches.{Approached}

plain_loop : (head : _) (first : _) (tested : Option Value) (third : _) (body : _) → plain_statement_form (LoopForm head first tested third body) ≡ loop head (plain_statements first) (option_map plain_value tested) (plain_statements third) (plain_statement body.value)
plain_loop head first tested third body = search (rules, the_lemmas, statements_row-items)

-- the form of a loop, whose first clause is a slice
pub loop_is : (form : StmtForm) (head : LoopHead) (first : _) (tested : Option Value) (third : _) (body : _) (firsts : List Stmt) → form ≡ LoopForm head first tested third body → firsts ≡ first →
    plain_statement_form form ≡ loop head (plain_statements firsts) (option_map plain_value tested) (plain_statements third) (plain_statement body.value)
loop_is form head first tested third body firsts is same =
    ap plain_statement_form is ∙ (plain_loop head first tested third body ∙ ap (λ ss. loop head (plain_statements ss) (option_map plain_value tested) (plain_statements third) (plain_statement body.value)) (sym same))

-- a loop by its parts is that of the whole statement
pub by_parts : (s : Search) (depth : ℕ) (at : At) (form : PlainStatementForm) (head : LoopHead) (first : PlainStatements) (tested : Option PlainValue) (third : PlainStatements) (body : PlainStatement) (env entry : Option Environment) (found : LoopsFound) →
    form ≡ loop head first tested third body → entry ≡ known_at_entry s found first env →
    passed_by s head.keyword tested entry found (reached_found (offered_in s depth head (statement at form)) (is_task s.task head.number) head.span (rounds_in s.variables (statement at form)) (loop_entry s (assigned_below (length s.variables) (statement at form)) tested) depth entry)
    ≡ passed_statement s depth (statement at form) env found
by_parts s depth at form head first tested third body env entry found is entered =
    let Same : PlainStatementForm → Type 0 = λ f.
    passed_by s head.keyword tested entry found (reached_found (offered_in s depth head (statement at f)) (is_task s.task head.number) head.span (rounds_in s.variables (statement at f)) (loop_entry s (assigned_below (length s.variables) (statement at f)) tested) depth entry)
    ≡ passed_statement s depth (statement at f) env found in
    subst Same (sym is)
    (ap (λ e. passed_by s head.keyword tested e found (reached_found (offered_in s depth head (statement at (loop head first tested third body))) (is_task s.task head.number) head.span (rounds_in s.variables (statement at (loop head first tested third body)))
    (loop_entry s (assigned_below (length s.variables) (statement at (loop head first tested third body))) tested) depth e)) entered)

-- what the code makes of a loop's entry
pub entry_is : (s : Search) (env : Environment) (slice items : List Bool) (count : ℕ) (x : PlainStatement) (guard tested : Option PlainValue) → slice ≡ items → is_marked items ≡ assigned_below count x → count ≡ length s.variables → guard ≡ tested →
    record { variables = s.variables; assigned = is_marked slice; guard = guard; entry = env } ≡ loop_entry s (assigned_below (length s.variables) x) tested env
entry_is s env slice items count x guard tested a b c d =
    let marks : is_marked slice ≡ assigned_below (length s.variables) x = ap is_marked a ∙ (b ∙ ap (λ k. assigned_below k x) c) in
    let Made : Type 0 = LoopEntry in
    λ i. record { variables = s.variables; assigned = marks i; guard = d i; entry = env }

-- ## What a loop counts with that is entered

-- the task
pub task_entered : {E : Type 0} (r : Result CodeFound E) (s : Search) (depth : ℕ) (head : LoopHead) (tested : Option PlainValue) (x : PlainStatement) (task : Bool) (env : Environment) (rounds : Rounds) (entry : LoopEntry) →
    rounds ≡ rounds_in s.variables x → entry ≡ loop_entry s (assigned_below (length s.variables) x) tested env → task ≡ true →
    IfOk r (λ l. loop_found_by l ≡ task_found rounds entry depth) → IfOk r (λ l. loop_found_by l ≡ entered_in_parts s depth head tested x task env)
task_entered r s depth head tested x task env rounds entry a b t h =
    let there : LoopEntry = loop_entry s (assigned_below (length s.variables) x) tested env in
    let turns : Rounds = rounds_in s.variables x in
    let made : task_found rounds entry depth ≡ task_found turns there depth = λ i. task_found (a i) (b i) depth in
    let offered : Option Approached = offered_in s depth head x there in
    let chosen : task_found turns there depth ≡ entered_found offered task head.span turns there depth = ap (λ k. entered_found offered k head.span turns there depth) (sym t) in
    IfOk-weaker r (λ l. loop_found_by l ≡ task_found rounds entry depth) (λ l. loop_found_by l ≡ entered_in_parts s depth head tested x task env) (λ l is. is ∙ (made ∙ chosen)) h

-- another loop
pub other_entered : {E : Type 0} (r : Result CodeFound E) (s : Search) (depth : ℕ) (head : LoopHead) (tested : Option PlainValue) (x : PlainStatement) (task : Bool) (env : Environment) (rounds : Rounds) (entry : LoopEntry) →
    rounds ≡ rounds_in s.variables x → entry ≡ loop_entry s (assigned_below (length s.variables) x) tested env → task ≡ false →
    IfOk r (λ l. loop_found_by l ≡ found_with (offered_in s depth head x entry) (loop_found head.span rounds entry depth)) → IfOk r (λ l. loop_found_by l ≡ entered_in_parts s depth head tested x task env)
other_entered r s depth head tested x task env rounds entry a b t h =
    let there : LoopEntry = loop_entry s (assigned_below (length s.variables) x) tested env in
    let turns : Rounds = rounds_in s.variables x in
    let offered : Option Approached = offered_in s depth head x there in
    let before : LoopFound = found_with (offered_in s depth head x entry) (loop_found head.span rounds entry depth) in
    let made : before ≡ found_with offered (loop_found head.span turns there depth) = λ i. found_with (offered_in s depth head x (b i)) (loop_found head.span (a i) (b i) depth) in
    let chosen : found_with offered (loop_found head.span turns there depth) ≡ entered_found offered task head.span turns there depth = ap (λ k. entered_found offered k head.span turns there depth) (sym t) in
    IfOk-weaker r (λ l. loop_found_by l ≡ before) (λ l. loop_found_by l ≡ entered_in_parts s depth head tested x task env) (λ l is. is ∙ (made ∙ chosen)) h

-- ## What comes of a loop

-- by its parts or by its whole statement, which the code takes apart
same_passed : (s : Search) (depth : ℕ) (x : Stmt) (head : LoopHead) (first : _) (tested : Option Value) (third : _) (body : _) (firsts : List Stmt) (env entry : Option Environment) (found : LoopsFound) →
    x.form ≡ LoopForm head first tested third body → firsts ≡ first → entry ≡ known_at_entry s found (plain_statements firsts) env →
    passed_parts s depth head (option_map plain_value tested) (plain_statement x) entry found ≡ passed_statement s depth (plain_statement x) env found
same_passed s depth x head first tested third body firsts env entry found is same entered =
    by_parts s depth x.at (plain_statement_form x.form) head (plain_statements firsts) (option_map plain_value tested) (plain_statements third) (plain_statement body.value) env entry found
    (loop_is x.form head first tested third body firsts is same) entered

-- the loops with it
pub found_passed : {T E : Type 0} (r : Result T E) (new : LoopsFound) (s : Search) (depth : ℕ) (x : Stmt) (head : LoopHead) (first : _) (tested : Option Value) (third : _) (body : _) (firsts : List Stmt) (env entry : Option Environment) (found : LoopsFound) →
    x.form ≡ LoopForm head first tested third body → firsts ≡ first → entry ≡ known_at_entry s found (plain_statements firsts) env →
    OnOk r (new ≡ (passed_parts s depth head (option_map plain_value tested) (plain_statement x) entry found).found) → OnOk r (new ≡ (passed_statement s depth (plain_statement x) env found).found)
found_passed r new s depth x head first tested third body firsts env entry found is same entered h =
    let parted : LoopPassed = passed_parts s depth head (option_map plain_value tested) (plain_statement x) entry found in
    let one : parted ≡ passed_statement s depth (plain_statement x) env found = same_passed s depth x head first tested third body firsts env entry found is same entered in
    on_ok_weaker {P = new ≡ parted.found} {Q = new ≡ (passed_statement s depth (plain_statement x) env found).found} r (λ was. was ∙ ap (λ (p : LoopPassed). p.found) one) h

-- what is known in its body
pub inside_passed : {E : Type 0} (r : Result (Option Branching) E) (s : Search) (depth : ℕ) (x : Stmt) (head : LoopHead) (first : _) (tested : Option Value) (third : _) (body : _) (firsts : List Stmt) (env entry : Option Environment) (found : LoopsFound) →
    x.form ≡ LoopForm head first tested third body → firsts ≡ first → entry ≡ known_at_entry s found (plain_statements firsts) env →
    IfOk r (λ inside. values_in inside ≡ (passed_parts s depth head (option_map plain_value tested) (plain_statement x) entry found).inside) → IfOk r (λ inside. values_in inside ≡ (passed_statement s depth (plain_statement x) env found).inside)
inside_passed r s depth x head first tested third body firsts env entry found is same entered h =
    let parted : LoopPassed = passed_parts s depth head (option_map plain_value tested) (plain_statement x) entry found in
    let one : parted ≡ passed_statement s depth (plain_statement x) env found = same_passed s depth x head first tested third body firsts env entry found is same entered in
    IfOk-weaker r (λ inside. values_in inside ≡ parted.inside) (λ inside. values_in inside ≡ (passed_statement s depth (plain_statement x) env found).inside) (λ inside was. was ∙ ap (λ (p : LoopPassed). p.inside) one) h
