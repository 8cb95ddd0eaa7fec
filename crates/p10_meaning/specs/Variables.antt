-- Which frame variables a statement may change: those that it assigns or declares itself. No call in it changes one.
use Rattle.std.specs.Prelude.{◌≡◌, ℕ, eqb, ◌||◌, Bool, false, slice_get}
use Rattle.p10_base.specs.declared.at.At.{At}
use Rattle.p10_core.specs.Typed.{PlainValue, PlainPlace, place, variable, PlainStatement, statement, PlainStatementForm, set, update, evaluate, declare, block, if_then, if_else, loop, switch, PlainStatements, no_statements, more_statements}
use Rattle.p10_meaning.specs.States.{State, Progress, gives, ends}
use Rattle.p10_meaning.specs.Values.{Setting}
use Rattle.p10_meaning.specs.Statements.{Frame, Done, execute}

-- whether a place is the variable with a number
abbrev pub is_variable_place : ℕ → PlainPlace → Bool
is_variable_place n (place at t (variable m)) = eqb m n
is_variable_place n p = false

abbrev mutual
  -- whether a statement may change the variable with a number: it assigns or declares it, or a part of it does
  pub may_change : ℕ → PlainStatement → Bool
  may_change n (statement at form) = form_may_change n form

  -- the same for a form of statement
  pub form_may_change : ℕ → PlainStatementForm → Bool
  form_may_change n (set p v) = is_variable_place n p
  form_may_change n (update kind op t p v) = is_variable_place n p
  form_may_change n (declare m initializer) = eqb m n
  form_may_change n (block ss) = any_may_change n ss
  form_may_change n (if_then v s) = may_change n s
  form_may_change n (if_else v s t) = may_change n s || may_change n t
  form_may_change n (loop head first tested third body) = any_may_change n first || any_may_change n third || may_change n body
  form_may_change n (switch keyword v labels body) = may_change n body
  form_may_change n form = false

  -- the same for statements, one after the other
  pub any_may_change : ℕ → PlainStatements → Bool
  any_may_change n no_statements = false
  any_may_change n (more_statements s rest) = may_change n s || any_may_change n rest

-- something holds of what a piece gives, if it gives something
abbrev pub OnGiven : {A : Type 0} → (A → Type 0) → Progress A → Type 0
OnGiven P (gives a w) = P a
OnGiven P (ends end w) = Unit {0}

-- ## The laws, whatever calls come to

-- a variable that a statement neither assigns nor declares stands for what it stood for
abbrev pub VariablesStay : Type 0
VariablesStay =
    (s : Setting) (x : PlainStatement) (n : ℕ) → may_change n x ≡ false → (frame : Frame) (w : State) →
    OnGiven (λ (done : Done). slice_get done.frame.held n ≡ slice_get frame.held n) (execute s x frame w)

-- an expression statement, a call among them, leaves the frame as it is
abbrev pub ValuesLeaveFrames : Type 0
ValuesLeaveFrames =
    (s : Setting) (at : At) (v : PlainValue) (frame : Frame) (w : State) → OnGiven (λ (done : Done). done.frame ≡ frame) (execute s (statement at (evaluate v)) frame w)
