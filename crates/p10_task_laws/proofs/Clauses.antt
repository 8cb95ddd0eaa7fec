-- The first and third clause of a loop: execution goes on after them with what follows.
use Rattle.std.proofs.Common.{◌≡◌, ℕ, ◌||◌, Bool, true, false, refl, Option, Some, None}
use Rattle.p10_core.specs.declared.statements.LoopKeyword.{LoopKeyword}
use Rattle.p10_core.specs.declared.statements.LoopKeyword.TheVariants.{While, Do, For}
use Rattle.p10_core.specs.Typed.{PlainValue, PlainStatement, statement, set, update, copy, evaluate as expression, asserts, declare, PlainStatements, no_statements, more_statements}
use Rattle.p10_core.specs.WholePrograms.{is_expression, is_variable_declaration, AllOf, AreClauses}
use Rattle.p10_meaning.specs.States.{State, Progress, and_then}
use Rattle.p10_meaning.specs.Values.{Setting}
use Rattle.p10_meaning.specs.Statements.{Frame, Flow, normal, broken, continued, returned, Done, go_on, execute, execute_from}
use Rattle.p10_evaluation.proofs.Rules.{holds_last}
use Rattle.p10_task_laws.proofs.Flows.{Flows, IsNormal, IsPlain, plain_flows}

-- each of the statements is an expression or declares a variable
abbrev pub ArePlain : PlainStatements → Type 0
ArePlain no_statements = Unit {0}
ArePlain (more_statements x rest) = IsPlain x × ArePlain rest

or_second : (a b : Bool) → b ≡ true → (a || b) ≡ true
or_second true b e = refl
or_second false b e = e

clause_plain : (x : PlainStatement) → (is_variable_declaration x || is_expression x) ≡ true → IsPlain x
clause_plain (statement at (set q v)) e = tt
clause_plain (statement at (update kind op t q v)) e = tt
clause_plain (statement at (copy q r)) e = tt
clause_plain (statement at (expression v)) e = tt
clause_plain (statement at (asserts name v)) e = tt
clause_plain (statement at (declare k initializer)) e = tt
clause_plain (statement at form) e = absurd cc

declared_plain : (xs : PlainStatements) → AllOf (λ x. is_variable_declaration x || is_expression x) xs → ArePlain xs
declared_plain no_statements a = tt
declared_plain (more_statements x rest) a = (clause_plain x a.0, declared_plain rest a.1)

expressions_plain : (xs : PlainStatements) → AllOf is_expression xs → ArePlain xs
expressions_plain no_statements a = tt
expressions_plain (more_statements x rest) a = (clause_plain x (or_second (is_variable_declaration x) (is_expression x) a.0), expressions_plain rest a.1)

-- both clauses of a loop
pub clauses_plain : (keyword : LoopKeyword) (first : PlainStatements) (tested : Option PlainValue) (third : PlainStatements) → AreClauses keyword first tested third → ArePlain first × ArePlain third
clauses_plain For first tested third a = (declared_plain first a.0, expressions_plain third a.1)
clauses_plain While no_statements (Some v) no_statements a = (tt, tt)
clauses_plain Do no_statements (Some v) no_statements a = (tt, tt)
clauses_plain While no_statements None third a = absurd a
clauses_plain Do no_statements None third a = absurd a
clauses_plain While no_statements (Some v) (more_statements x rest) a = absurd a
clauses_plain Do no_statements (Some v) (more_statements x rest) a = absurd a
clauses_plain While (more_statements x rest) tested third a = absurd a
clauses_plain Do (more_statements x rest) tested third a = absurd a

-- what comes after a piece after which execution goes on
pub after_normal : (P : Flow → Type 0) (o : Progress Done) (go : Frame → State → Progress Done) → Flows IsNormal o → ((frame : Frame) (w : State) → Flows P (go frame w)) → Flows P (and_then o (λ done w. go_on done.flow done.frame w go))
after_normal P o go h k = holds_last (λ (done : Done) w. IsNormal done.flow) (λ (done : Done) w. P done.flow) o _ h (λ done w m. by_flow done.flow done.frame w m)
  where
    by_flow : (flow : Flow) (frame : Frame) (w : State) → IsNormal flow → Flows P (go_on flow frame w go)
    by_flow normal frame w m = k frame w
    by_flow broken frame w m = absurd m
    by_flow continued frame w m = absurd m
    by_flow (returned x) frame w m = absurd m

pub clauses_flow : (s : Setting) (xs : PlainStatements) → ArePlain xs → (frame : Frame) (w : State) → Flows IsNormal (execute_from s 0 xs frame w)
clauses_flow s no_statements a frame w = tt
clauses_flow s (more_statements x rest) a frame w = after_normal IsNormal (execute s x frame w) _ (plain_flows IsNormal tt s x a.0 frame w) (clauses_flow s rest a.1)
