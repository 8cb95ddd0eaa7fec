-- Statements of which none is listed that leaves the loop round them: execution goes on in that loop.
use Rattle.std.proofs.Common.{◌≡◌, ℕ, zero, suc, Bool, true, List, [], ◌∷◌, ◌++◌, refl, Option, Some, None}
use Rattle.p10_base.specs.declared.at.At.{At}
use Rattle.p10_core.specs.declared.statements.LoopKeyword.{LoopKeyword}
use Rattle.p10_core.specs.declared.statements.LoopKeyword.TheVariants.{While, Do, For}
use Rattle.p10_core.specs.declared.statements.MarkKind.TheVariants.{InitDone, TaskLoop}
use Rattle.p10_core.specs.Typed.{PlainStatement, statement, PlainStatementForm, set, update, copy, evaluate as expression, asserts, declare, declare_static, block, if_then, if_else, loop, switch, break, continue, return, empty, mark, PlainStatements, no_statements, more_statements}
use Rattle.p10_core.specs.WholePrograms.{Region, after, after_all, IsWholeStatement, IsWholeStatementForm, AreWholeStatements}
use Rattle.p10_flowrules.specs.declared.exits.Breaks.{Breaks}
use Rattle.p10_flowrules.specs.declared.exits.Breaks.TheVariants.{Leave, Stay}
use Rattle.p10_flowrules.specs.TaskExits.{exits_in, exits_in_form, exits_of}
use Rattle.p10_meaning.specs.States.{State, Progress, and_then}
use Rattle.p10_meaning.specs.Scalars.{number_of, is_true}
use Rattle.p10_meaning.specs.Values.{Setting, evaluate}
use Rattle.p10_meaning.specs.Statements.{Frame, Flow, normal, broken, continued, returned, Done, go_on, test, next_turn, turns, loop_by, before_third, labelled, after_switch, execute, execute_form, execute_from, enter, round, looped}
use Rattle.p10_evaluation.proofs.Rules.{holds_last, holds_map, holds_if}
use Rattle.p10_task_laws.proofs.Flows.{Flows, IsNormal, after_step, after_any, block_flows, plain_flows}
use Rattle.p10_task_laws.proofs.Clauses.{ArePlain, clauses_plain, after_normal, clauses_flow}

-- whether a `break` may stand among statements that don't leave the loop round them
abbrev pub MayBreak : Breaks → Type 0
MayBreak Leave = ⊥
MayBreak Stay = Unit {0}

-- how execution may go on after such statements
abbrev pub MayGo : Breaks → Flow → Type 0
MayGo breaks normal = Unit {0}
MayGo breaks broken = MayBreak breaks
MayGo breaks continued = Unit {0}
MayGo breaks (returned x) = ⊥

none_left : {A : Type 0} (xs ys : List A) → xs ++ ys ≡ [] → xs ≡ []
none_left [] ys e = refl
none_left (x ∷ xs) ys e = absurd cc

none_right : {A : Type 0} (xs ys : List A) → xs ++ ys ≡ [] → ys ≡ []
none_right [] ys e = e
none_right (x ∷ xs) ys e = absurd cc

-- ## Loops

-- after a loop that no `return` leaves the next statement comes
module _ (test : Frame → State → Progress Bool) (body : Frame → State → Progress Done) (rounds : (frame : Frame) (w : State) → Flows (MayGo Stay) (body frame w)) where
  abbrev Ends : (Frame → State → Progress Done) → Type 0
  Ends go = (frame : Frame) (w : State) → Flows IsNormal (go frame w)

  next_flows : (go : Frame → State → Progress Done) → Ends go → (flow : Flow) (frame : Frame) (w : State) → MayGo Stay flow → Flows IsNormal (next_turn flow frame w go)
  next_flows go k normal frame w m = k frame w
  next_flows go k continued frame w m = k frame w
  next_flows go k broken frame w m = tt
  next_flows go k (returned x) frame w m = absurd m

  round_flows : (go : Frame → State → Progress Done) → Ends go → Ends (λ frame w. and_then (body frame w) (λ done w. next_turn done.flow done.frame w go))
  round_flows go k frame w = holds_last (λ (done : Done) w. MayGo Stay done.flow) (λ (done : Done) w. IsNormal done.flow) (body frame w) _ (rounds frame w) (λ done w m. next_flows go k done.flow done.frame w m)

  turns_flow : (n : ℕ) → Ends (turns n test body)
  turns_flow zero frame w = tt
  turns_flow (suc n) frame w = after_any IsNormal (test frame w) _ (λ more w. holds_if (λ (done : Done) w. IsNormal done.flow) more _ _ (λ e. round_flows (turns n test body) (turns_flow n) frame w) (λ e. tt))

  loop_flows : (keyword : LoopKeyword) (n : ℕ) → Ends (loop_by keyword n test body)
  loop_flows While n frame w = turns_flow n frame w
  loop_flows For n frame w = turns_flow n frame w
  loop_flows Do n frame w = round_flows (turns n test body) (turns_flow n) frame w

-- ## Statements

module _ (s : Setting) where
  -- after a piece after which the next statement comes
  normal_goes : (breaks : Breaks) (o : Progress Done) → Flows IsNormal o → Flows (MayGo breaks) o
  normal_goes breaks o h = holds_map (λ (done : Done) w. IsNormal done.flow) (λ (done : Done) w. MayGo breaks done.flow) o (λ done w m. by_flow done.flow m) h
    where
      by_flow : (flow : Flow) → IsNormal flow → MayGo breaks flow
      by_flow normal m = tt
      by_flow broken m = absurd m
      by_flow continued m = tt
      by_flow (returned x) m = absurd m

  -- statements that come after others
  then_goes : (breaks : Breaks) (o : Progress Done) (go : Frame → State → Progress Done) → Flows (MayGo breaks) o → ((frame : Frame) (w : State) → Flows (MayGo breaks) (go frame w)) →
      Flows (MayGo breaks) (and_then o (λ done w. go_on done.flow done.frame w go))
  then_goes breaks o go h k = holds_last (λ (done : Done) w. MayGo breaks done.flow) (λ (done : Done) w. MayGo breaks done.flow) o _ h (λ done w m. by_flow done.flow done.frame w m)
    where
      by_flow : (flow : Flow) (frame : Frame) (w : State) → MayGo breaks flow → Flows (MayGo breaks) (go_on flow frame w go)
      by_flow normal frame w m = k frame w
      by_flow broken frame w m = m
      by_flow continued frame w m = m
      by_flow (returned x) frame w m = m

  -- a round of a loop whose body has no `return`, and whose third clause has none either
  round_goes : (third : PlainStatements) (body : PlainStatement) → ArePlain third → ((frame : Frame) (w : State) → Flows (MayGo Stay) (execute s body frame w)) → (frame : Frame) (w : State) → Flows (MayGo Stay) (round s third body frame w)
  round_goes third body a k frame w = holds_last (λ (done : Done) w. MayGo Stay done.flow) (λ (done : Done) w. MayGo Stay done.flow) (execute s body frame w) _ (k frame w) (λ done w m. by_flow done.flow done.frame w m)
    where
      by_flow : (flow : Flow) (frame : Frame) (w : State) → MayGo Stay flow → Flows (MayGo Stay) (before_third flow frame w (λ frame w. execute_from s 0 third frame w))
      by_flow normal frame w m = normal_goes Stay (execute_from s 0 third frame w) (clauses_flow s third a frame w)
      by_flow continued frame w m = normal_goes Stay (execute_from s 0 third frame w) (clauses_flow s third a frame w)
      by_flow broken frame w m = m
      by_flow (returned x) frame w m = m

  -- `break` ends a `switch`
  switch_goes : (breaks : Breaks) (flow : Flow) (frame : Frame) (w : State) → MayGo Stay flow → Flows (MayGo breaks) (after_switch (record { flow = flow; frame = frame }) w)
  switch_goes breaks normal frame w m = tt
  switch_goes breaks broken frame w m = tt
  switch_goes breaks continued frame w m = tt
  switch_goes breaks (returned x) frame w m = m

  mutual
    pub stays : (x : PlainStatement) (r : Region) → IsWholeStatement r x → (breaks : Breaks) → exits_in breaks x ≡ [] → (frame : Frame) (w : State) → Flows (MayGo breaks) (execute s x frame w)
    stays (statement at form) r i breaks e frame w = form_stays at form r i breaks e frame w

    form_stays : (at : At) (form : PlainStatementForm) (r : Region) → IsWholeStatementForm r form → (breaks : Breaks) → exits_in_form breaks at form ≡ [] → (frame : Frame) (w : State) → Flows (MayGo breaks) (execute_form s at form frame w)
    form_stays at (set q v) r i breaks e frame w = plain_flows (MayGo breaks) tt s (statement at (set q v)) tt frame w
    form_stays at (update kind op t q v) r i breaks e frame w = plain_flows (MayGo breaks) tt s (statement at (update kind op t q v)) tt frame w
    form_stays at (copy p q) r i breaks e frame w = plain_flows (MayGo breaks) tt s (statement at (copy p q)) tt frame w
    form_stays at (expression v) r i breaks e frame w = plain_flows (MayGo breaks) tt s (statement at (expression v)) tt frame w
    form_stays at (asserts name v) r i breaks e frame w = plain_flows (MayGo breaks) tt s (statement at (asserts name v)) tt frame w
    form_stays at (declare k initializer) r i breaks e frame w = plain_flows (MayGo breaks) tt s (statement at (declare k initializer)) tt frame w
    form_stays at (declare_static k) r i breaks e frame w = tt
    form_stays at (block xs) r i breaks e frame w = block_flows (MayGo breaks) (λ frame w. execute_from s 0 xs frame w) frame w (all_stay 0 xs r i breaks e (record frame { opened = [] }) w)
    form_stays at (if_then v x) r i breaks e frame w = after_step (MayGo breaks) w _ (λ w. after_any (MayGo breaks) (evaluate s frame.held v w) _ (λ y w.
        holds_if (λ (done : Done) w. MayGo breaks done.flow) (is_true y) _ _ (λ q. stays x r i.1 breaks e frame w) (λ q. tt)))
    form_stays at (if_else v x y) r i breaks e frame w = after_step (MayGo breaks) w _ (λ w. after_any (MayGo breaks) (evaluate s frame.held v w) _ (λ z w.
        holds_if (λ (done : Done) w. MayGo breaks done.flow) (is_true z) _ _
        (λ q. stays x r i.1 breaks (none_left (exits_in breaks x) (exits_in breaks y) e) frame w) (λ q. stays y r i.2 breaks (none_right (exits_in breaks x) (exits_in breaks y) e) frame w)))
    form_stays at (loop head first tested third body) r i breaks e frame w =
        let plain : ArePlain first × ArePlain third = clauses_plain head.keyword first tested third i.4 in
        normal_goes breaks (execute_form s at (loop head first tested third body) frame w) (after_step IsNormal w _ (λ w. block_flows IsNormal (looped s head.keyword first tested third body) frame w
        (after_normal IsNormal (execute_from s 0 first (record frame { opened = [] }) w) _ (clauses_flow s first plain.0 (record frame { opened = [] }) w)
        (loop_flows (λ frame w. test s tested frame w) (round s third body) (round_goes third body plain.1 (stays body (record (after_all r first) { in_loop = true }) i.3 Stay e)) head.keyword s.turns))))
    form_stays at (switch keyword v labels body) r i breaks e frame w = after_step (MayGo breaks) w _ (λ w. after_any (MayGo breaks) (evaluate s frame.held v w) _ (λ x w.
        holds_last (λ (done : Done) w. MayGo Stay done.flow) (λ (done : Done) w. MayGo breaks done.flow) (enter s (labelled (number_of x) labels.cases labels.otherwise) body frame w) after_switch
        (entered_stays (labelled (number_of x) labels.cases labels.otherwise) body (record r { in_switch = true }) i.1 e frame w) (λ done w m. switch_goes breaks done.flow done.frame w m)))
    form_stays at break r i Leave e frame w = absurd cc
    form_stays at break r i Stay e frame w = after_step (MayGo Stay) w _ (λ w. tt)
    form_stays at (return keyword v) r i breaks e frame w = absurd cc
    form_stays at continue r i breaks e frame w = after_step (MayGo breaks) w _ (λ w. tt)
    form_stays at empty r i breaks e frame w = after_step (MayGo breaks) w _ (λ w. tt)
    form_stays at (mark InitDone) r i breaks e frame w = tt
    form_stays at (mark TaskLoop) r i breaks e frame w = tt

    -- statements from one on
    all_stay : (k : ℕ) (xs : PlainStatements) (r : Region) → AreWholeStatements r xs → (breaks : Breaks) → exits_of breaks xs ≡ [] → (frame : Frame) (w : State) → Flows (MayGo breaks) (execute_from s k xs frame w)
    all_stay k no_statements r i breaks e frame w = tt
    all_stay zero (more_statements x rest) r i breaks e frame w =
        then_goes breaks (execute s x frame w) _ (stays x r i.0 breaks (none_left (exits_in breaks x) (exits_of breaks rest) e) frame w)
        (all_stay zero rest (after r x) i.1 breaks (none_right (exits_in breaks x) (exits_of breaks rest) e))
    all_stay (suc k) (more_statements x rest) r i breaks e frame w = all_stay k rest (after r x) i.1 breaks (none_right (exits_in breaks x) (exits_of breaks rest) e) frame w

    -- the body of a `switch`
    entered_stays : (k : Option ℕ) (body : PlainStatement) (r : Region) → IsWholeStatement r body → exits_in Stay body ≡ [] → (frame : Frame) (w : State) → Flows (MayGo Stay) (enter s k body frame w)
    entered_stays None (statement at (block xs)) r i e frame w = tt
    entered_stays (Some k) (statement at (block xs)) r i e frame w = block_flows (MayGo Stay) (λ frame w. execute_from s k xs frame w) frame w (all_stay k xs r i Stay e (record frame { opened = [] }) w)
    entered_stays k (statement at form) r i e frame w = tt
