-- What it is that callees and loops keep their claims, along an execution: each call that it comes to keeps what is claimed of its
-- function, and each loop that it comes to enters its body at most as often as is claimed.
use Rattle.std.specs.Prelude.{◌≡◌, ℕ, zero, suc, Bool, true, false, List, [], ◌∷◌, slice_get, slice_set, Option, Some, None}
use Rattle.p10_base.specs.declared.at.At.{At}
use Rattle.p10_core.specs.declared.statements.LoopKeyword.{LoopKeyword}
use Rattle.p10_core.specs.declared.statements.LoopKeyword.TheVariants.{While, Do, For}
use Rattle.p10_core.specs.Typed.{PlainValue, value, PlainForm, constant, read, sense, address, decay, convert, cast, unary, binary, logic, conditional, call, built_in, PlainPlace, place, place_at, place_type, PlainPlaceForm, variable, global, literal, index, member, dereference, PlainValues, no_values, more_values}
use Rattle.p10_core.specs.Typed.{PlainWritten, one_scalar, scalars_of_text, PlainItem, PlainInitializer, not_initialized, single, copied, listed, PlainStatement, statement, PlainStatementForm, set, update, copy, evaluate as expression, asserts, declare, declare_static, block, if_then, if_else, loop, switch, break, continue, return, empty, mark, PlainStatements, no_statements, more_statements, PlainVariable}
use Rattle.p10_meaning.specs.declared.pointers.Scalar.{Scalar}
use Rattle.p10_meaning.specs.Pointers.{unset}
use Rattle.p10_meaning.specs.Objects.{declared}
use Rattle.p10_meaning.specs.States.{State, Progress, gives, ends}
use Rattle.p10_meaning.specs.Scalars.{number_of, is_true, unset_cells}
use Rattle.p10_meaning.specs.Values.{Setting, Held, holds, stands, scalars, open_object, read_target, is_decided, evaluate, evaluate_all, locate}
use Rattle.p10_meaning.specs.Statements.{Frame, Flow, normal, continued, Done, written_scalars, test, labelled, execute, execute_from, round}
use Rattle.p10_sums.specs.Counting.{Counting, turns_claimed}

-- ## What comes of pieces

-- something holds of a value that is given and of the state after it
abbrev pub HoldsOf : {A : Type 0} → (A → State → Type 0) → Progress A → Type 0
HoldsOf P (gives a w) = P a w
HoldsOf P (ends end w) = Unit {0}

-- something holds of what a piece gives, if it gives something
pub record OnGives {A : Type 0} (P : A → State → Type 0) (o : Progress A) : Type 0 where
  pub given : HoldsOf P o

-- something holds after one of n steps, if there is one
abbrev pub AfterStepAt : ℕ → State → (State → Type 0) → Type 0
AfterStepAt zero w P = Unit {0}
AfterStepAt (suc n) w P = P (record w { left = n })

-- something holds after a step, if one is left
pub record AfterStep (w : State) (P : State → Type 0) : Type 0 where
  pub after : AfterStepAt w.left w P

-- something holds where execution goes on with the next statement
abbrev pub OnNormal : Flow → Type 0 → Type 0
OnNormal normal P = P
OnNormal flow P = Unit {0}

-- something holds where execution goes back in a loop: after a body that ends, and after its `continue`
abbrev pub OnBack : Flow → Type 0 → Type 0
OnBack normal P = P
OnBack continued P = P
OnBack flow P = Unit {0}

-- ## Loops

-- a loop enters its body at most n times from here on, and its tests and rounds keep claims
abbrev pub TurnsKeep : ℕ → (Frame → State → Progress Bool) → (Frame → State → Progress Done) → (Frame → State → Type 0) → (Frame → State → Type 0) → Frame → State → Type 0
TurnsKeep zero test body TestKeeps BodyKeeps frame w = TestKeeps frame w × OnGives (λ more w. more ≡ false) (test frame w)
TurnsKeep (suc n) test body TestKeeps BodyKeeps frame w =
    TestKeeps frame w × OnGives (λ more w. more ≡ true → BodyKeeps frame w × OnGives (λ (done : Done) w. OnBack done.flow (TurnsKeep n test body TestKeeps BodyKeeps done.frame w)) (body frame w)) (test frame w)

-- a `do` enters its body before its first test
abbrev pub DoKeeps : ℕ → (Frame → State → Progress Bool) → (Frame → State → Progress Done) → (Frame → State → Type 0) → (Frame → State → Type 0) → Frame → State → Type 0
DoKeeps zero test body TestKeeps BodyKeeps frame w = ⊥
DoKeeps (suc n) test body TestKeeps BodyKeeps frame w =
    BodyKeeps frame w × OnGives (λ (done : Done) w. OnBack done.flow (TurnsKeep n test body TestKeeps BodyKeeps done.frame w)) (body frame w)

-- a loop by its keyword
abbrev pub LoopKeeps : LoopKeyword → ℕ → (Frame → State → Progress Bool) → (Frame → State → Progress Done) → (Frame → State → Type 0) → (Frame → State → Type 0) → Frame → State → Type 0
LoopKeeps While n test body TestKeeps BodyKeeps frame w = TurnsKeep n test body TestKeeps BodyKeeps frame w
LoopKeeps For n test body TestKeeps BodyKeeps frame w = TurnsKeep n test body TestKeeps BodyKeeps frame w
LoopKeeps Do n test body TestKeeps BodyKeeps frame w = DoKeeps n test body TestKeeps BodyKeeps frame w

-- ## Values and places: `K` is what each call keeps, of a function, arguments and a state

abbrev mutual
  -- the calls that a value comes to keep it
  pub ValueKeeps : Setting → (ℕ → List Scalar → State → Type 0) → List Held → PlainValue → State → Type 0
  ValueKeeps s K held (value at t form) w = FormKeeps s K held form w

  -- the same for a form of value
  pub FormKeeps : Setting → (ℕ → List Scalar → State → Type 0) → List Held → PlainForm → State → Type 0
  FormKeeps s K held (constant z) w = Unit {0}
  FormKeeps s K held (read p) w = AfterStep w (λ w. PlaceKeeps s K held p w)
  FormKeeps s K held (sense n) w = Unit {0}
  FormKeeps s K held (address p) w = AfterStep w (λ w. PlaceKeeps s K held p w)
  FormKeeps s K held (decay p) w = AfterStep w (λ w. PlaceKeeps s K held p w)
  FormKeeps s K held (convert v) w = ValueKeeps s K held v w
  FormKeeps s K held (cast v) w = AfterStep w (λ w. ValueKeeps s K held v w)
  FormKeeps s K held (unary op v) w = AfterStep w (λ w. ValueKeeps s K held v w)
  FormKeeps s K held (binary op a b) w = AfterStep w (λ w. ValueKeeps s K held a w × OnGives (λ x w. ValueKeeps s K held b w) (evaluate s held a w))
  FormKeeps s K held (logic op a b) w =
      AfterStep w (λ w. ValueKeeps s K held a w × OnGives (λ x w. is_decided op (is_true x) ≡ false → ValueKeeps s K held b w) (evaluate s held a w))
  FormKeeps s K held (conditional v a b) w =
      AfterStep w (λ w. ValueKeeps s K held v w × OnGives (λ x w. (is_true x ≡ true → ValueKeeps s K held a w) × (is_true x ≡ false → ValueKeeps s K held b w)) (evaluate s held v w))
  FormKeeps s K held (call name f arguments) w = AfterStep w (λ w. ValuesKeep s K held arguments w × OnGives (λ xs w. K f xs w) (evaluate_all s held arguments w))
  FormKeeps s K held (built_in name function arguments) w = AfterStep w (λ w. ValuesKeep s K held arguments w)

  -- the same for a place
  pub PlaceKeeps : Setting → (ℕ → List Scalar → State → Type 0) → List Held → PlainPlace → State → Type 0
  PlaceKeeps s K held (place at t form) w = PlaceFormKeeps s K held form w

  -- the same for a form of place
  pub PlaceFormKeeps : Setting → (ℕ → List Scalar → State → Type 0) → List Held → PlainPlaceForm → State → Type 0
  PlaceFormKeeps s K held (variable n) w = Unit {0}
  PlaceFormKeeps s K held (global n) w = Unit {0}
  PlaceFormKeeps s K held (literal n bytes) w = Unit {0}
  PlaceFormKeeps s K held (index a i) w = AfterStep w (λ w. ValueKeeps s K held a w × OnGives (λ x w. ValueKeeps s K held i w) (evaluate s held a w))
  PlaceFormKeeps s K held (member p m) w = AfterStep w (λ w. PlaceKeeps s K held p w)
  PlaceFormKeeps s K held (dereference v) w = AfterStep w (λ w. ValueKeeps s K held v w)

  -- the same for arguments
  pub ValuesKeep : Setting → (ℕ → List Scalar → State → Type 0) → List Held → PlainValues → State → Type 0
  ValuesKeep s K held no_values w = Unit {0}
  ValuesKeep s K held (more_values v vs) w = ValueKeeps s K held v w × OnGives (λ x w. ValuesKeep s K held vs w) (evaluate s held v w)

-- ## Initialisers

-- the same for what is written for scalars
abbrev pub WrittenKeeps : Setting → (ℕ → List Scalar → State → Type 0) → List Held → PlainWritten → State → Type 0
WrittenKeeps s K held (one_scalar v) w = ValueKeeps s K held v w
WrittenKeeps s K held (scalars_of_text bytes) w = Unit {0}

-- the same for listed values
abbrev pub ItemsKeep : Setting → (ℕ → List Scalar → State → Type 0) → List Held → List PlainItem → State → Type 0
ItemsKeep s K held [] w = Unit {0}
ItemsKeep s K held (item ∷ items) w = WrittenKeeps s K held item.written w × OnGives (λ xs w. ItemsKeep s K held items w) (written_scalars s held item.scalar item.written w)

-- the same for an initialiser
abbrev pub InitializerKeeps : Setting → (ℕ → List Scalar → State → Type 0) → List Held → PlainInitializer → State → Type 0
InitializerKeeps s K held not_initialized w = Unit {0}
InitializerKeeps s K held (single v) w = ValueKeeps s K held v w
InitializerKeeps s K held (copied p) w = AfterStep w (λ w. PlaceKeeps s K held p w)
InitializerKeeps s K held (listed at items) w = ItemsKeep s K held items w

-- the same for a declaration, whose initialiser sees the variable
abbrev pub DeclarationKeeps : Setting → (ℕ → List Scalar → State → Type 0) → ℕ → Option PlainVariable → PlainInitializer → Frame → State → Type 0
DeclarationKeeps s K n None initializer frame w = Unit {0}
DeclarationKeeps s K n (Some v) initializer frame w =
    (v.frame ≡ true → InitializerKeeps s K (slice_set frame.held n (holds unset)) initializer w)
    × (v.frame ≡ false → InitializerKeeps s K (slice_set frame.held n (stands w.opened)) initializer (open_object declared (unset_cells (scalars s.program v.type)) w))

-- ## Statements

-- a loop's test keeps claims
abbrev pub TestKeeps : Setting → (ℕ → List Scalar → State → Type 0) → Option PlainValue → Frame → State → Type 0
TestKeeps s K None frame w = Unit {0}
TestKeeps s K (Some v) frame w = ValueKeeps s K frame.held v w

-- so does `return`
abbrev pub ReturnKeeps : Setting → (ℕ → List Scalar → State → Type 0) → Option PlainValue → Frame → State → Type 0
ReturnKeeps s K None frame w = Unit {0}
ReturnKeeps s K (Some v) frame w = AfterStep w (λ w. ValueKeeps s K frame.held v w)

abbrev mutual
  -- the calls and loops that a statement comes to keep claims
  pub StatementKeeps : Counting → Setting → (ℕ → List Scalar → State → Type 0) → PlainStatement → Frame → State → Type 0
  StatementKeeps c s K (statement at form) frame w = StatementFormKeeps c s K at form frame w

  -- the same for a form of statement
  pub StatementFormKeeps : Counting → Setting → (ℕ → List Scalar → State → Type 0) → At → PlainStatementForm → Frame → State → Type 0
  StatementFormKeeps c s K at (set p v) frame w = AfterStep w (λ w. PlaceKeeps s K frame.held p w × OnGives (λ target w. ValueKeeps s K frame.held v w) (locate s frame.held p w))
  StatementFormKeeps c s K at (update kind op t p v) frame w =
      AfterStep w (λ w. PlaceKeeps s K frame.held p w × OnGives (λ target w. AfterStep w (λ w. OnGives (λ x w. ValueKeeps s K frame.held v w) (read_target (place_at p).span (place_type p) frame.held target w))) (locate s frame.held p w))
  StatementFormKeeps c s K at (copy p q) frame w = AfterStep w (λ w. PlaceKeeps s K frame.held p w × OnGives (λ target w. PlaceKeeps s K frame.held q w) (locate s frame.held p w))
  StatementFormKeeps c s K at (expression v) frame w = AfterStep w (λ w. ValueKeeps s K frame.held v w)
  StatementFormKeeps c s K at (asserts there v) frame w = AfterStep w (λ w. ValueKeeps s K frame.held v w)
  StatementFormKeeps c s K at (declare n initializer) frame w = AfterStep w (λ w. DeclarationKeeps s K n (slice_get s.variables n) initializer frame w)
  StatementFormKeeps c s K at (declare_static n) frame w = Unit {0}
  StatementFormKeeps c s K at (block ss) frame w = StatementsKeep c s K 0 ss (record frame { opened = [] }) w
  StatementFormKeeps c s K at (if_then v a) frame w =
      AfterStep w (λ w. ValueKeeps s K frame.held v w × OnGives (λ x w. is_true x ≡ true → StatementKeeps c s K a frame w) (evaluate s frame.held v w))
  StatementFormKeeps c s K at (if_else v a b) frame w =
      AfterStep w (λ w. ValueKeeps s K frame.held v w
      × OnGives (λ x w. (is_true x ≡ true → StatementKeeps c s K a frame w) × (is_true x ≡ false → StatementKeeps c s K b frame w)) (evaluate s frame.held v w))
  StatementFormKeeps c s K at (loop head first tested third body) frame w =
      AfterStep w (λ w. StatementsKeep c s K 0 first (record frame { opened = [] }) w × OnGives (λ (done : Done) w. OnNormal done.flow
      (LoopKeeps head.keyword (turns_claimed (slice_get c.loops head.number)) (test s tested) (round s third body) (TestKeeps s K tested)
      (λ frame w. StatementKeeps c s K body frame w × OnGives (λ (done : Done) w. OnBack done.flow (StatementsKeep c s K 0 third done.frame w)) (execute s body frame w)) done.frame w))
      (execute_from s 0 first (record frame { opened = [] }) w))
  StatementFormKeeps c s K at (switch keyword v labels body) frame w =
      AfterStep w (λ w. ValueKeeps s K frame.held v w × OnGives (λ x w. EnteredKeeps c s K (labelled (number_of x) labels.cases labels.otherwise) body frame w) (evaluate s frame.held v w))
  StatementFormKeeps c s K at break frame w = Unit {0}
  StatementFormKeeps c s K at continue frame w = Unit {0}
  StatementFormKeeps c s K at (return keyword v) frame w = ReturnKeeps s K v frame w
  StatementFormKeeps c s K at empty frame w = Unit {0}
  StatementFormKeeps c s K at (mark kind) frame w = Unit {0}

  -- the same for statements in order, without the first k
  pub StatementsKeep : Counting → Setting → (ℕ → List Scalar → State → Type 0) → ℕ → PlainStatements → Frame → State → Type 0
  StatementsKeep c s K k no_statements frame w = Unit {0}
  StatementsKeep c s K zero (more_statements x rest) frame w =
      StatementKeeps c s K x frame w × OnGives (λ (done : Done) w. OnNormal done.flow (StatementsKeep c s K zero rest done.frame w)) (execute s x frame w)
  StatementsKeep c s K (suc k) (more_statements x rest) frame w = StatementsKeep c s K k rest frame w

  -- the same for the body of a `switch`, from the item with a number on
  pub EnteredKeeps : Counting → Setting → (ℕ → List Scalar → State → Type 0) → Option ℕ → PlainStatement → Frame → State → Type 0
  EnteredKeeps c s K k (statement at form) frame w = EnteredFormKeeps c s K k form frame w

  -- the same for a form
  pub EnteredFormKeeps : Counting → Setting → (ℕ → List Scalar → State → Type 0) → Option ℕ → PlainStatementForm → Frame → State → Type 0
  EnteredFormKeeps c s K None (block ss) frame w = Unit {0}
  EnteredFormKeeps c s K (Some k) (block ss) frame w = StatementsKeep c s K k ss (record frame { opened = [] }) w
  EnteredFormKeeps c s K k form frame w = Unit {0}
