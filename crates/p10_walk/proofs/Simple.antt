-- Statements without parts go on with the next one.
use Rattle.std.proofs.Common.{◌≡◌, ℕ, Bool, true, false, refl}
use Rattle.p10_base.specs.declared.at.At.{At}
use Rattle.p10_core.specs.declared.statements.MarkKind.TheVariants.{InitDone, TaskLoop}
use Rattle.p10_core.specs.Typed.{PlainInitializer, PlainStatement, statement, PlainStatementForm, set, update, copy, evaluate as expression, asserts, declare, declare_static, empty, mark, no_statements, more_statements}
use Rattle.p10_meaning.specs.States.{State, Progress, gives, ends, and_then}
use Rattle.p10_meaning.specs.Values.{Setting}
use Rattle.p10_meaning.specs.Statements.{Frame, Flow, normal, broken, continued, returned, Done, goes, go_on, execute, execute_from}
use Rattle.p10_sums.specs.Keeping.{HoldsOf}
use Rattle.p10_execution.proofs.Giving.{holds_step}
use Rattle.p10_execution.proofs.Expressions.{GoesOn, expression_goes, clauses_go}
use Rattle.p10_walk.specs.Operations.{is_simple}

-- a statement goes on where it does as the only one
alone : (o : Progress Done) → HoldsOf GoesOn (and_then o (λ d w. go_on d.flow d.frame w (λ frame w. goes frame w))) → HoldsOf GoesOn o
alone (gives d w) h = of d.flow h
  where
    of : (flow : Flow) → HoldsOf GoesOn (go_on flow d.frame w (λ frame w. goes frame w)) → flow ≡ normal
    of normal h = refl
    of broken h = h
    of continued h = h
    of (returned x) h = h
alone (ends end w) h = tt

pub simple_goes : (s : Setting) (at : At) (form : PlainStatementForm) → is_simple form ≡ true → (frame : Frame) (w : State) → HoldsOf GoesOn (execute s (statement at form) frame w)
simple_goes s at (set q v) e frame w = expression_goes s (statement at (set q v)) refl frame w
simple_goes s at (update kind op t q v) e frame w = expression_goes s (statement at (update kind op t q v)) refl frame w
simple_goes s at (copy q r) e frame w = expression_goes s (statement at (copy q r)) refl frame w
simple_goes s at (expression v) e frame w = expression_goes s (statement at (expression v)) refl frame w
simple_goes s at (asserts call v) e frame w = expression_goes s (statement at (asserts call v)) refl frame w
simple_goes s at (declare k initializer) e frame w = alone (execute s (statement at (declare k initializer)) frame w) (clauses_go s (more_statements (statement at (declare k initializer)) no_statements) (refl, tt) frame w)
simple_goes s at (declare_static k) e frame w = refl
simple_goes s at empty e frame w = holds_step GoesOn w _ (λ left q. refl)
simple_goes s at (mark InitDone) e frame w = refl
simple_goes s at (mark TaskLoop) e frame w = refl
simple_goes s at form e frame w = absurd cc
