-- Straight-line values and statements, and that they take exactly what they cost.
use Rattle.std.specs.Prelude.{◌≡◌, ℕ, ◌+◌, List, [], ◌∷◌, IsSome, slice_get, Option, Some, None}
use Rattle.p10_core.specs.Typed.{PlainValue, value, PlainForm, constant, read, sense, address, decay, convert, cast, unary, binary, built_in, PlainPlace, place, PlainPlaceForm, variable, global, literal, index, member, dereference, PlainValues, no_values, more_values}
use Rattle.p10_core.specs.Typed.{PlainWritten, one_scalar, scalars_of_text, PlainItem, PlainInitializer, not_initialized, single, copied, listed, PlainStatement, statement, PlainStatementForm, set, update, copy, evaluate as expression, asserts, declare, declare_static, block, empty, mark, PlainStatements, no_statements, more_statements, PlainVariable}
use Rattle.p10_cert.specs.Claims.{Func, Loop}
use Rattle.p10_meaning.specs.States.{State, Progress, gives, ends}
use Rattle.p10_meaning.specs.Values.{Setting, Held, evaluate}
use Rattle.p10_meaning.specs.Statements.{Frame, normal, Done, execute}
use Rattle.p10_sums.specs.Costs.{value_cost, statement_cost}
use Rattle.p10_sums.specs.Laws.{counting_in}

-- ## Straight-line trees

abbrev mutual
  -- a value in which each part is evaluated, and nothing is called but library functions
  pub IsStraightValue : PlainValue → Type 0
  IsStraightValue (value at t form) = IsStraightForm form

  -- the same for a form of value: neither `&&`, `||` and `?:`, which leave parts out, nor a call of a defined function
  pub IsStraightForm : PlainForm → Type 0
  IsStraightForm (constant z) = Unit {0}
  IsStraightForm (read p) = IsStraightPlace p
  IsStraightForm (sense n) = Unit {0}
  IsStraightForm (address p) = IsStraightPlace p
  IsStraightForm (decay p) = IsStraightPlace p
  IsStraightForm (convert v) = IsStraightValue v
  IsStraightForm (cast v) = IsStraightValue v
  IsStraightForm (unary op v) = IsStraightValue v
  IsStraightForm (binary op a b) = IsStraightValue a × IsStraightValue b
  IsStraightForm (built_in name function arguments) = AreStraightValues arguments
  IsStraightForm form = ⊥

  -- the same for a place
  pub IsStraightPlace : PlainPlace → Type 0
  IsStraightPlace (place at t form) = IsStraightPlaceForm form

  -- the same for a form of place
  pub IsStraightPlaceForm : PlainPlaceForm → Type 0
  IsStraightPlaceForm (variable n) = Unit {0}
  IsStraightPlaceForm (global n) = Unit {0}
  IsStraightPlaceForm (literal n bytes) = Unit {0}
  IsStraightPlaceForm (index a i) = IsStraightValue a × IsStraightValue i
  IsStraightPlaceForm (member p m) = IsStraightPlace p
  IsStraightPlaceForm (dereference v) = IsStraightValue v

  -- the same for arguments
  pub AreStraightValues : PlainValues → Type 0
  AreStraightValues no_values = Unit {0}
  AreStraightValues (more_values v vs) = IsStraightValue v × AreStraightValues vs

-- the same for what is written for scalars
abbrev pub IsStraightWritten : PlainWritten → Type 0
IsStraightWritten (one_scalar v) = IsStraightValue v
IsStraightWritten (scalars_of_text bytes) = Unit {0}

-- the same for the items of a list
abbrev pub AreStraightItems : List PlainItem → Type 0
AreStraightItems [] = Unit {0}
AreStraightItems (item ∷ items) = IsStraightWritten item.written × AreStraightItems items

-- the same for an initialiser
abbrev pub IsStraightInitializer : PlainInitializer → Type 0
IsStraightInitializer not_initialized = Unit {0}
IsStraightInitializer (single v) = IsStraightValue v
IsStraightInitializer (copied p) = IsStraightPlace p
IsStraightInitializer (listed at items) = AreStraightItems items

abbrev mutual
  -- a statement in which each part is executed once: no `if`, loop, `switch` or jump. What it declares is a variable of the function
  pub IsStraightStatement : List PlainVariable → PlainStatement → Type 0
  IsStraightStatement variables (statement at form) = IsStraightStatementForm variables form

  -- the same for a form of statement
  pub IsStraightStatementForm : List PlainVariable → PlainStatementForm → Type 0
  IsStraightStatementForm variables (set p v) = IsStraightPlace p × IsStraightValue v
  IsStraightStatementForm variables (update kind op t p v) = IsStraightPlace p × IsStraightValue v
  IsStraightStatementForm variables (copy p q) = IsStraightPlace p × IsStraightPlace q
  IsStraightStatementForm variables (expression v) = IsStraightValue v
  IsStraightStatementForm variables (asserts call v) = IsStraightValue v
  IsStraightStatementForm variables (declare n initializer) = ((v : PlainVariable) × (slice_get variables n ≡ Some v)) × IsStraightInitializer initializer
  IsStraightStatementForm variables (declare_static n) = Unit {0}
  IsStraightStatementForm variables (block ss) = AreStraightStatements variables ss
  IsStraightStatementForm variables empty = Unit {0}
  IsStraightStatementForm variables (mark kind) = Unit {0}
  IsStraightStatementForm variables form = ⊥

  -- the same for statements, one after the other
  pub AreStraightStatements : List PlainVariable → PlainStatements → Type 0
  AreStraightStatements variables no_statements = Unit {0}
  AreStraightStatements variables (more_statements s rest) = IsStraightStatement variables s × AreStraightStatements variables rest

-- ## What they take

-- where a piece gives something, it took exactly n steps, and something holds of what it gives
abbrev pub Exactly : {A : Type 0} → (A → Type 0) → ℕ → State → Progress A → Type 0
Exactly P n from (gives a to) = (to.left + n ≡ from.left) × P a
Exactly P n from (ends end to) = Unit {0}

-- nothing
abbrev pub Anything : {A : Type 0} → A → Type 0
Anything a = Unit {0}

-- execution goes on with the next statement
abbrev pub GoesOn : Done → Type 0
GoesOn d = d.flow ≡ normal

-- straight-line values take exactly what they cost
abbrev pub ValuesTakeTheirCost : Type 0
ValuesTakeTheirCost =
    (s : Setting) (functions : List Func) (loops : List Loop) (held : List Held) (v : PlainValue) (w : State) → IsStraightValue v →
    Exactly Anything (value_cost (counting_in s functions loops) v) w (evaluate s held v w)

-- so do straight-line statements, and execution goes on after them
abbrev pub StatementsTakeTheirCost : Type 0
StatementsTakeTheirCost =
    (s : Setting) (functions : List Func) (loops : List Loop) (x : PlainStatement) (frame : Frame) (w : State) → IsStraightStatement s.variables x →
    Exactly GoesOn (statement_cost (counting_in s functions loops) x) w (execute s x frame w)
