-- What calls keep may be exchanged for what follows from it, along an execution.
use Rattle.std.proofs.Common.{◌≡◌, ℕ, zero, suc, Bool, true, List, [], ◌∷◌, slice_get, Option, Some, None}
use Rattle.p10_base.specs.declared.at.At.{At}
use Rattle.p10_core.specs.declared.statements.LoopKeyword.{LoopKeyword}
use Rattle.p10_core.specs.declared.statements.LoopKeyword.TheVariants.{While, Do, For}
use Rattle.p10_core.specs.Typed.{PlainValue, value, PlainForm, constant, read, sense, address, decay, convert, cast, unary, binary, logic, conditional, call, built_in, PlainPlace, place, PlainPlaceForm, variable, global, literal, index, member, dereference, PlainValues, no_values, more_values}
use Rattle.p10_core.specs.Typed.{PlainWritten, one_scalar, scalars_of_text, PlainItem, PlainInitializer, not_initialized, single, copied, listed, PlainStatement, statement, PlainStatementForm, set, update, copy, evaluate as expression, asserts, declare, declare_static, block, if_then, if_else, loop, switch, break, continue, return, empty, mark, PlainStatements, no_statements, more_statements, PlainVariable}
use Rattle.p10_meaning.specs.declared.pointers.Scalar.{Scalar}
use Rattle.p10_meaning.specs.States.{State, Progress, gives, ends}
use Rattle.p10_meaning.specs.Values.{Setting, Held}
use Rattle.p10_meaning.specs.Statements.{Frame, Flow, normal, broken, continued, returned, Done}
use Rattle.p10_sums.specs.Counting.{Counting}
use Rattle.p10_sums.specs.Keeping.{HoldsOf, OnGives, AfterStepAt, AfterStep, OnNormal, OnBack, TurnsKeep, DoKeeps, LoopKeeps, ValueKeeps, FormKeeps, PlaceKeeps, PlaceFormKeeps, ValuesKeep, WrittenKeeps, ItemsKeep, InitializerKeeps, DeclarationKeeps, TestKeeps, ReturnKeeps, StatementKeeps, StatementFormKeeps, StatementsKeep, EnteredKeeps, EnteredFormKeeps}

-- ## What comes of pieces

gives_mapped : {A : Type 0} (P Q : A → State → Type 0) (o : Progress A) → ((a : A) (w : State) → P a w → Q a w) → HoldsOf P o → HoldsOf Q o
gives_mapped P Q (gives a w) f h = f a w h
gives_mapped P Q (ends e w) f h = tt

pub on_gives : {A : Type 0} (P Q : A → State → Type 0) (o : Progress A) → ((a : A) (w : State) → P a w → Q a w) → OnGives P o → OnGives Q o
on_gives P Q o f h = record { given = gives_mapped P Q o f h.given }

step_mapped : (n : ℕ) (w : State) (P Q : State → Type 0) → ((w : State) → P w → Q w) → AfterStepAt n w P → AfterStepAt n w Q
step_mapped zero w P Q f h = tt
step_mapped (suc n) w P Q f h = f (record w { left = n }) h

pub after_step : (w : State) (P Q : State → Type 0) → ((w : State) → P w → Q w) → AfterStep w P → AfterStep w Q
after_step w P Q f h = record { after = step_mapped w.left w P Q f h.after }

pub on_normal : (flow : Flow) (P Q : Type 0) → (P → Q) → OnNormal flow P → OnNormal flow Q
on_normal normal P Q f h = f h
on_normal broken P Q f h = tt
on_normal continued P Q f h = tt
on_normal (returned x) P Q f h = tt

pub on_back : (flow : Flow) (P Q : Type 0) → (P → Q) → OnBack flow P → OnBack flow Q
on_back normal P Q f h = f h
on_back broken P Q f h = tt
on_back continued P Q f h = f h
on_back (returned x) P Q f h = tt

-- ## Loops

module _ (run_test : Frame → State → Progress Bool) (run_body : Frame → State → Progress Done) (T U B C : Frame → State → Type 0) (t : (frame : Frame) (w : State) → T frame w → U frame w) (b : (frame : Frame) (w : State) → B frame w → C frame w) where
  turns_mapped : (n : ℕ) (frame : Frame) (w : State) → TurnsKeep n run_test run_body T B frame w → TurnsKeep n run_test run_body U C frame w
  turns_mapped zero frame w h = (t frame w h.0, h.1)
  turns_mapped (suc n) frame w h = (
    t frame w h.0,
    on_gives (λ more w. more ≡ true → B frame w × OnGives (λ (done : Done) w. OnBack done.flow (TurnsKeep n run_test run_body T B done.frame w)) (run_body frame w))
        (λ more w. more ≡ true → C frame w × OnGives (λ (done : Done) w. OnBack done.flow (TurnsKeep n run_test run_body U C done.frame w)) (run_body frame w))
        (run_test frame w) (λ more v g e. (
          b frame v (g e).0,
          on_gives (λ (done : Done) w. OnBack done.flow (TurnsKeep n run_test run_body T B done.frame w)) (λ (done : Done) w. OnBack done.flow (TurnsKeep n run_test run_body U C done.frame w)) (run_body frame v)
              (λ done u k. on_back done.flow (TurnsKeep n run_test run_body T B done.frame u) (TurnsKeep n run_test run_body U C done.frame u) (turns_mapped n done.frame u) k) (g e).1,
        )) h.1,
  )

  do_mapped : (n : ℕ) (frame : Frame) (w : State) → DoKeeps n run_test run_body T B frame w → DoKeeps n run_test run_body U C frame w
  do_mapped zero frame w h = absurd h
  do_mapped (suc n) frame w h = (
    b frame w h.0,
    on_gives (λ (done : Done) w. OnBack done.flow (TurnsKeep n run_test run_body T B done.frame w)) (λ (done : Done) w. OnBack done.flow (TurnsKeep n run_test run_body U C done.frame w)) (run_body frame w)
        (λ done u k. on_back done.flow (TurnsKeep n run_test run_body T B done.frame u) (TurnsKeep n run_test run_body U C done.frame u) (turns_mapped n done.frame u) k) h.1,
  )

  pub loop_mapped : (keyword : LoopKeyword) (n : ℕ) (frame : Frame) (w : State) → LoopKeeps keyword n run_test run_body T B frame w → LoopKeeps keyword n run_test run_body U C frame w
  loop_mapped While n frame w h = turns_mapped n frame w h
  loop_mapped For n frame w h = turns_mapped n frame w h
  loop_mapped Do n frame w h = do_mapped n frame w h

-- ## Trees

module _ (s : Setting) (K J : ℕ → List Scalar → State → Type 0) (f : (g : ℕ) (xs : List Scalar) (w : State) → K g xs w → J g xs w) where
  mutual
    pub value_mapped : (held : List Held) (v : PlainValue) (w : State) → ValueKeeps s K held v w → ValueKeeps s J held v w
    value_mapped held (value at t form) w h = form_mapped held form w h

    form_mapped : (held : List Held) (form : PlainForm) (w : State) → FormKeeps s K held form w → FormKeeps s J held form w
    form_mapped held (constant z) w h = tt
    form_mapped held (read p) w h = after_step w _ _ (λ w k. place_mapped held p w k) h
    form_mapped held (sense n) w h = tt
    form_mapped held (address p) w h = after_step w _ _ (λ w k. place_mapped held p w k) h
    form_mapped held (decay p) w h = after_step w _ _ (λ w k. place_mapped held p w k) h
    form_mapped held (convert v) w h = value_mapped held v w h
    form_mapped held (cast v) w h = after_step w _ _ (λ w k. value_mapped held v w k) h
    form_mapped held (unary op v) w h = after_step w _ _ (λ w k. value_mapped held v w k) h
    form_mapped held (binary op a b) w h = after_step w _ _ (λ w k. (value_mapped held a w k.0, on_gives _ _ _ (λ x w k. value_mapped held b w k) k.1)) h
    form_mapped held (logic op a b) w h = after_step w _ _ (λ w k. (value_mapped held a w k.0, on_gives _ _ _ (λ x w k e. value_mapped held b w (k e)) k.1)) h
    form_mapped held (conditional v a b) w h =
        after_step w _ _ (λ w k. (value_mapped held v w k.0, on_gives _ _ _ (λ x w k. ((λ e. value_mapped held a w (k.0 e)), (λ e. value_mapped held b w (k.1 e)))) k.1)) h
    form_mapped held (call name g arguments) w h = after_step w _ _ (λ w k. (values_mapped held arguments w k.0, on_gives _ _ _ (λ xs w k. f g xs w k) k.1)) h
    form_mapped held (built_in name function arguments) w h = after_step w _ _ (λ w k. values_mapped held arguments w k) h

    pub place_mapped : (held : List Held) (p : PlainPlace) (w : State) → PlaceKeeps s K held p w → PlaceKeeps s J held p w
    place_mapped held (place at t form) w h = place_form_mapped held form w h

    place_form_mapped : (held : List Held) (form : PlainPlaceForm) (w : State) → PlaceFormKeeps s K held form w → PlaceFormKeeps s J held form w
    place_form_mapped held (variable n) w h = tt
    place_form_mapped held (global n) w h = tt
    place_form_mapped held (literal n bytes) w h = tt
    place_form_mapped held (index a i) w h = after_step w _ _ (λ w k. (value_mapped held a w k.0, on_gives _ _ _ (λ x w k. value_mapped held i w k) k.1)) h
    place_form_mapped held (member p m) w h = after_step w _ _ (λ w k. place_mapped held p w k) h
    place_form_mapped held (dereference v) w h = after_step w _ _ (λ w k. value_mapped held v w k) h

    values_mapped : (held : List Held) (vs : PlainValues) (w : State) → ValuesKeep s K held vs w → ValuesKeep s J held vs w
    values_mapped held no_values w h = tt
    values_mapped held (more_values v vs) w h = (value_mapped held v w h.0, on_gives _ _ _ (λ x w k. values_mapped held vs w k) h.1)

  written_mapped : (held : List Held) (x : PlainWritten) (w : State) → WrittenKeeps s K held x w → WrittenKeeps s J held x w
  written_mapped held (one_scalar v) w h = value_mapped held v w h
  written_mapped held (scalars_of_text bytes) w h = tt

  items_mapped : (held : List Held) (items : List PlainItem) (w : State) → ItemsKeep s K held items w → ItemsKeep s J held items w
  items_mapped held [] w h = tt
  items_mapped held (item ∷ items) w h = (written_mapped held item.written w h.0, on_gives _ _ _ (λ xs w k. items_mapped held items w k) h.1)

  initializer_mapped : (held : List Held) (i : PlainInitializer) (w : State) → InitializerKeeps s K held i w → InitializerKeeps s J held i w
  initializer_mapped held not_initialized w h = tt
  initializer_mapped held (single v) w h = value_mapped held v w h
  initializer_mapped held (copied p) w h = after_step w _ _ (λ w k. place_mapped held p w k) h
  initializer_mapped held (listed at items) w h = items_mapped held items w h

  declaration_mapped : (n : ℕ) (v : Option PlainVariable) (i : PlainInitializer) (frame : Frame) (w : State) → DeclarationKeeps s K n v i frame w → DeclarationKeeps s J n v i frame w
  declaration_mapped n None i frame w h = tt
  declaration_mapped n (Some v) i frame w h = ((λ e. initializer_mapped _ i w (h.0 e)), (λ e. initializer_mapped _ i _ (h.1 e)))

  pub test_mapped : (v : Option PlainValue) (frame : Frame) (w : State) → TestKeeps s K v frame w → TestKeeps s J v frame w
  test_mapped None frame w h = tt
  test_mapped (Some v) frame w h = value_mapped frame.held v w h

  return_mapped : (v : Option PlainValue) (frame : Frame) (w : State) → ReturnKeeps s K v frame w → ReturnKeeps s J v frame w
  return_mapped None frame w h = tt
  return_mapped (Some v) frame w h = after_step w _ _ (λ w k. value_mapped frame.held v w k) h

  module _ (c : Counting) where
    mutual
      pub statement_mapped : (x : PlainStatement) (frame : Frame) (w : State) → StatementKeeps c s K x frame w → StatementKeeps c s J x frame w
      statement_mapped (statement at form) frame w h = statement_form_mapped at form frame w h

      statement_form_mapped : (at : At) (form : PlainStatementForm) (frame : Frame) (w : State) → StatementFormKeeps c s K at form frame w → StatementFormKeeps c s J at form frame w
      statement_form_mapped at (set p v) frame w h = after_step w _ _ (λ w k. (place_mapped frame.held p w k.0, on_gives _ _ _ (λ x w k. value_mapped frame.held v w k) k.1)) h
      statement_form_mapped at (update kind op t p v) frame w h =
          after_step w _ _ (λ w k. (place_mapped frame.held p w k.0, on_gives _ _ _ (λ x w k. after_step w _ _ (λ w k. on_gives _ _ _ (λ x w k. value_mapped frame.held v w k) k) k) k.1)) h
      statement_form_mapped at (copy p q) frame w h = after_step w _ _ (λ w k. (place_mapped frame.held p w k.0, on_gives _ _ _ (λ x w k. place_mapped frame.held q w k) k.1)) h
      statement_form_mapped at (expression v) frame w h = after_step w _ _ (λ w k. value_mapped frame.held v w k) h
      statement_form_mapped at (asserts there v) frame w h = after_step w _ _ (λ w k. value_mapped frame.held v w k) h
      statement_form_mapped at (declare n i) frame w h = after_step w _ _ (λ w k. declaration_mapped n (slice_get s.variables n) i frame w k) h
      statement_form_mapped at (declare_static n) frame w h = tt
      statement_form_mapped at (block ss) frame w h = statements_mapped 0 ss (record frame { opened = [] }) w h
      statement_form_mapped at (if_then v a) frame w h = after_step w _ _ (λ w k. (value_mapped frame.held v w k.0, on_gives _ _ _ (λ x w k e. statement_mapped a frame w (k e)) k.1)) h
      statement_form_mapped at (if_else v a b) frame w h =
          after_step w _ _ (λ w k. (value_mapped frame.held v w k.0, on_gives _ _ _ (λ x w k. ((λ e. statement_mapped a frame w (k.0 e)), (λ e. statement_mapped b frame w (k.1 e)))) k.1)) h
      statement_form_mapped at (loop head first tested third body) frame w h =
          after_step w _ _ (λ w k. (
            statements_mapped 0 first (record frame { opened = [] }) w k.0,
            on_gives _ _ _ (λ done w k. on_normal done.flow _ _ (λ k.
                loop_mapped _ _ _ _ _ _ (λ frame w k. test_mapped tested frame w k)
                (λ frame w k. (statement_mapped body frame w k.0, on_gives _ _ _ (λ done w k. on_back done.flow _ _ (λ k. statements_mapped 0 third done.frame w k) k) k.1)) head.keyword _ done.frame w k) k) k.1,
          )) h
      statement_form_mapped at (switch keyword v labels body) frame w h =
          after_step w _ _ (λ w k. (value_mapped frame.held v w k.0, on_gives _ _ _ (λ x w k. entered_mapped _ body frame w k) k.1)) h
      statement_form_mapped at break frame w h = tt
      statement_form_mapped at continue frame w h = tt
      statement_form_mapped at (return keyword v) frame w h = return_mapped v frame w h
      statement_form_mapped at empty frame w h = tt
      statement_form_mapped at (mark kind) frame w h = tt

      pub statements_mapped : (k : ℕ) (ss : PlainStatements) (frame : Frame) (w : State) → StatementsKeep c s K k ss frame w → StatementsKeep c s J k ss frame w
      statements_mapped k no_statements frame w h = tt
      statements_mapped zero (more_statements x rest) frame w h =
          (statement_mapped x frame w h.0, on_gives _ _ _ (λ done w k. on_normal done.flow _ _ (λ k. statements_mapped zero rest done.frame w k) k) h.1)
      statements_mapped (suc k) (more_statements x rest) frame w h = statements_mapped k rest frame w h

      entered_mapped : (k : Option ℕ) (x : PlainStatement) (frame : Frame) (w : State) → EnteredKeeps c s K k x frame w → EnteredKeeps c s J k x frame w
      entered_mapped k (statement at form) frame w h = entered_form_mapped k form frame w h

      entered_form_mapped : (k : Option ℕ) (form : PlainStatementForm) (frame : Frame) (w : State) → EnteredFormKeeps c s K k form frame w → EnteredFormKeeps c s J k form frame w
      entered_form_mapped None (block ss) frame w h = tt
      entered_form_mapped (Some k) (block ss) frame w h = statements_mapped k ss (record frame { opened = [] }) w h
      entered_form_mapped None form frame w h = tt
      entered_form_mapped (Some k) form frame w h = tt
