-- What is set after statements, by induction: in each frame to which a run comes, what stands for the variables in scope is as the ways of
-- the statements say.
use Rattle.std.proofs.Common.{◌≡◌, ℕ, zero, suc, ◌+◌, ◌<◌, Bool, true, false, List, [], ◌∷◌, length, refl, ◌∙◌, ap, sym, subst, Option, Some, None, ℤ, arith}
use Rattle.std.specs.Prelude.{slice_get, ◌||◌}
use Rattle.p10_base.specs.declared.span.Span.{Span}
use Rattle.p10_core.specs.declared.statements.LoopKeyword.{LoopKeyword}
use Rattle.p10_core.specs.declared.statements.LoopKeyword.TheVariants.{While, Do, For}
use Rattle.p10_core.specs.declared.statements.MarkKind.TheVariants.{InitDone, TaskLoop}
use Rattle.p10_core.specs.Rows.{is_scalar}
use Rattle.p10_core.specs.Typed.{PlainValue, place_at, place_type, PlainInitializer, PlainLabels, PlainStatement, statement, set, update, copy, evaluate as expression, asserts, declare, declare_static, block, if_then, if_else, loop, switch, break, continue, return, empty, mark, PlainStatements, no_statements, more_statements, statements_list, PlainVariable}
use Rattle.p10_core.specs.WholePrograms.{Region, is_among, around, after, after_all, Declares, is_variable_declaration, is_expression, AllOf, AreClauses, Switches, declared_in, declared_of, IsWholeStatement, AreWholeStatements}
use Rattle.p10_meaning.specs.States.{State, Progress, and_then}
use Rattle.p10_meaning.specs.Scalars.{number_of, is_true, converted_to, operated}
use Rattle.p10_meaning.specs.Values.{Setting, Held, width, pointer_to, read_target, asserted, evaluate, discard, locate}
use Rattle.p10_meaning.specs.Statements.{Frame, Flow, normal, broken, continued, returned, Done, goes, go_on, in_block, declare_variable, test, loop_by, labelled, from_label, after_switch as left_switch, execute, execute_from, enter, round, looped}
use Rattle.p10_meaning.proofs.SoundStatements.{scope_after, scope_after_all}
use Rattle.p10_sums.specs.Keeping.{HoldsOf}
use Rattle.p10_pass.specs.Passing.{is_labelled}
use Rattle.p10_execution.specs.Scoping.{AreOnce}
use Rattle.p10_execution.proofs.Numbers.{once_left, once_right}
use Rattle.p10_execution.proofs.Giving.{holds_step, holds_then, holds_after, holds_or, holds_both, holds_if, holds_weaker}
use Rattle.p10_execution.proofs.Storing.{Points, locate_points}
use Rattle.p10_execution.proofs.ScopedEnds.{third_expressions, third_declares}
use Rattle.p10_execution.proofs.Switching.{IsEntry, entry_is, no_entry}
use Rattle.p10_clean.specs.Settings.{Settings, marked_as, on_both, Ways, goes_on, then_ways, either_ways, target_set, sets, after_loop, after_switch, case_settings, ways_of, ways_of_all, ways_of_switch, ways_from}
use Rattle.p10_clean_soundness.specs.private.Setting.{SetUp, SetsAs, AreApart}
use Rattle.p10_clean_soundness.proofs.Apart.{apart_left, apart_right, apart_nothing, apart_after, apart_after_all, scope_grows, scope_grows_all}
use Rattle.p10_clean_soundness.proofs.SettingsNowhere.{none_leaves_all}
use Rattle.p10_clean_soundness.proofs.SettingsKept.{statements_keep}
use Rattle.p10_clean_soundness.proofs.SettingKeeping.{next_keeps}
use Rattle.p10_clean_soundness.proofs.SettingUp.{carried, less_scope, HasRoom}
use Rattle.p10_clean_soundness.proofs.SettingFlows.{Sets, RunSets, sets_narrower, then_sets, later_sets, first_sets, second_sets, block_sets, loop_sets, round_sets, case_gone, case_entered, past_sets, switch_sets}
use Rattle.p10_clean_soundness.proofs.SettingWrites.{HasCell, locate_cell, KeepsFrame, copy_stays, stays_set, assigned, updated, variable_declared}

-- ## Clauses of loops

-- statements that only go on
abbrev pub OnlyGoOn : Ways → Type 0
OnlyGoOn a = (a.breaks ≡ None) × (a.continues ≡ None)

clause_goes : (x : PlainStatement) (before : Settings) → (is_variable_declaration x || is_expression x) ≡ true → OnlyGoOn (ways_of x before)
clause_goes (statement at (declare n i)) before e = (refl, refl)
clause_goes (statement at (set p v)) before e = (refl, refl)
clause_goes (statement at (update kind op t p v)) before e = (refl, refl)
clause_goes (statement at (copy p q)) before e = (refl, refl)
clause_goes (statement at (expression v)) before e = (refl, refl)
clause_goes (statement at (asserts call v)) before e = (refl, refl)
clause_goes x before e = absurd cc

clauses_go : (xs : PlainStatements) (before : Settings) → AllOf (λ s. is_variable_declaration s || is_expression s) xs → OnlyGoOn (ways_of_all xs before)
clauses_go no_statements before h = (refl, refl)
clauses_go (more_statements x rest) before h =
    let a = clause_goes x before h.0 in
    let b = clauses_go rest (ways_of x before).normal h.1 in
    (λ i. on_both (a.0 i) (b.0 i), λ i. on_both (a.1 i) (b.1 i))

are_clauses : (xs : PlainStatements) → AllOf is_expression xs → AllOf (λ s. is_variable_declaration s || is_expression s) xs
are_clauses no_statements h = tt
are_clauses (more_statements x rest) h = (widened (is_variable_declaration x) (is_expression x) h.0, are_clauses rest h.1)
  where
    widened : (a b : Bool) → b ≡ true → (a || b) ≡ true
    widened true b e = refl
    widened false b e = e

first_goes : (keyword : LoopKeyword) (first : PlainStatements) (tested : Option PlainValue) (third : PlainStatements) (before : Settings) → AreClauses keyword first tested third → OnlyGoOn (ways_of_all first before)
first_goes For first tested third before h = clauses_go first before h.0
first_goes While no_statements (Some v) no_statements before h = (refl, refl)
first_goes Do no_statements (Some v) no_statements before h = (refl, refl)
first_goes keyword first tested third before h = absurd h

-- ## Where statements stand

-- a setting is that of the function where statements stand, whose frame variables are scalars
pub record IsOf (s : Setting) (r : Region) : Type 0 where
  pub variables : s.variables ≡ r.function.variables
  pub scalars : (n : ℕ) (v : PlainVariable) → slice_get s.variables n ≡ Some v → v.frame ≡ true → is_scalar v.type ≡ true

module _ (s : Setting) where
  of_after : (r : Region) (x : PlainStatement) → IsOf s r → IsOf s (after r x)
  of_after r (statement at (declare n i)) h = record { variables = h.variables; scalars = h.scalars }
  of_after r x h = h

  of_after_all : (r : Region) (xs : PlainStatements) → IsOf s r → IsOf s (after_all r xs)
  of_after_all r no_statements h = h
  of_after_all r (more_statements x rest) h = of_after_all (after r x) rest (of_after r x h)

  -- ## Parts

  goes_set : (scope : List ℕ) (before : Settings) (o : Progress Done) (frame : Frame) → SetUp s.variables scope before frame.held → HasRoom s.variables frame.held → HoldsOf (KeepsFrame frame) o → HoldsOf (Sets s.variables scope scope (goes_on before)) o
  goes_set scope before o frame u r h = stays_set s scope before scope before o frame u r h

  located : (held : List Held) (q : _) (w : State) → HoldsOf (λ target w. Points held q target × HasCell held target) (locate s held q w)
  located held q w = holds_both (λ target w. Points held q target) (λ target w. HasCell held target) (locate s held q w) (locate_points s held q w) (locate_cell s held q w)

  -- a declaration
  declaration_sets : (r : Region) (n : ℕ) (initializer : PlainInitializer) (span : Span) (scope : List ℕ) (before : Settings) → IsOf s r → Declares r n initializer →
      RunSets s.variables (n ∷ scope) scope before (goes_on (marked_as (sets initializer) n before)) (λ frame w. declare_variable s span n (slice_get s.variables n) initializer frame w)
  declaration_sets r n initializer span scope before is i frame w u room =
      let there : slice_get s.variables n ≡ Some i.variable = ap (λ (vs : List PlainVariable). slice_get vs n) is.variables ∙ i.there in
      subst (λ o. HoldsOf (Sets s.variables (n ∷ scope) scope (goes_on (marked_as (sets initializer) n before))) (declare_variable s span n o initializer frame w)) (sym there)
      (variable_declared s scope before (around (record r { scope = n ∷ r.scope })) n i.variable span initializer frame w there (is.scalars n i.variable there) i.initializer u room)

  -- the third clause of a loop keeps what is set at its head
  third_back : (inner : List ℕ) (next : Settings) (keyword : LoopKeyword) (first : PlainStatements) (tested : Option PlainValue) (third : PlainStatements) → AreClauses keyword first tested third → (o : Progress Done) →
      HoldsOf (Sets s.variables (scope_after_all third inner) inner (ways_of_all third next)) o → HoldsOf (Sets s.variables inner inner (goes_on next)) o
  third_back inner next keyword first tested third clauses o h =
      holds_weaker (Sets s.variables (scope_after_all third inner) inner (ways_of_all third next)) (Sets s.variables inner inner (goes_on next)) o h (λ d w k. (case d.flow d.frame.held k.0, k.1))
    where
      only : OnlyGoOn (ways_of_all third next)
      only = clauses_go third next (are_clauses third (third_expressions keyword first tested third clauses))

      case : (flow : Flow) (held : List Held) → SetsAs s.variables (scope_after_all third inner) inner (ways_of_all third next) flow held → SetsAs s.variables inner inner (goes_on next) flow held
      case normal held k = carried s.variables inner next (ways_of_all third next).normal held (λ e. ap (λ a. (ways_of_all third a).normal) e ∙ ap (λ (a : Ways). a.normal) (none_leaves_all third))
          (λ n _ e. (statements_keep third next n (ap (is_among n) (third_declares keyword first tested third clauses)) e).normal) (less_scope s.variables inner (scope_after_all third inner) (ways_of_all third next).normal held (scope_grows_all third inner) k)
      case broken held k = subst (λ (a : Settings). SetUp s.variables inner a held) only.0 k
      case continued held k = subst (λ (a : Settings). SetUp s.variables inner a held) only.1 k
      case (returned x) held k = tt

  -- a loop after its first clause, whose ends are those of the rest
  first_then : (inner scope : List ℕ) (a b : Ways) (o : Progress Done) (rest : Frame → State → Progress Done) → OnlyGoOn a → ((n : ℕ) → is_among n scope ≡ true → is_among n inner ≡ true) → HoldsOf (Sets s.variables inner scope a) o → RunSets s.variables inner inner a.normal b rest →
      HoldsOf (Sets s.variables inner scope b) (and_then o (λ d w. go_on d.flow d.frame w rest))
  first_then inner scope a b o rest only grows h k =
      subst (λ (c : Ways). HoldsOf (Sets s.variables inner scope c) (and_then o (λ d w. go_on d.flow d.frame w rest))) (λ i. record { normal = b.normal; breaks = on_both (only.0 i) b.breaks; continues = on_both (only.1 i) b.continues })
      (then_sets s.variables inner inner scope a b o rest grows h k)

  -- one item and those after it, for which no more is in scope
  item_sets : (x : PlainStatement) (rest : PlainStatements) (scope : List ℕ) (a b : Ways) (o : Progress Done) → HoldsOf (Sets s.variables (scope_after x scope) scope a) o → RunSets s.variables scope scope a.normal b (execute_from s 0 rest) →
      HoldsOf (Sets s.variables scope scope (then_ways a b)) (and_then o (λ d w. go_on d.flow d.frame w (λ frame w. execute_from s 0 rest frame w)))
  item_sets x rest scope a b o h k = then_sets s.variables scope scope scope a b o (λ frame w. execute_from s 0 rest frame w) (λ n e. e)
      (holds_weaker (Sets s.variables (scope_after x scope) scope a) (Sets s.variables scope scope a) o h (λ d w g. (sets_narrower s.variables scope (scope_after x scope) scope scope a d.flow d.frame.held (scope_grows x scope) (λ n e. e) g.0, g.1))) k

  -- a body of a `switch` that is a block
  block_entered : (labels : PlainLabels) (xs : PlainStatements) (z : ℤ) (scope : List ℕ) (before : Settings) (a : Ways) (frame : Frame) (w : State) → ((k : ℕ) → labelled z labels.cases labels.otherwise ≡ Some k → IsEntry labels (length (statements_list xs)) k) →
      ((k : ℕ) → IsEntry labels (length (statements_list xs)) k → RunSets s.variables scope scope before a (execute_from s k xs)) → SetUp s.variables scope before frame.held → HasRoom s.variables frame.held →
      HoldsOf (Sets s.variables scope scope (after_switch labels before a)) (and_then (from_label (labelled z labels.cases labels.otherwise) (λ k frame w. execute_from s k xs frame w) frame w) left_switch)
  block_entered labels xs z scope before a frame w entered k u room = case (labelled z labels.cases labels.otherwise) refl
    where
      P : Done → State → Type 0
      P = Sets s.variables scope scope (after_switch labels before a)

      case : (o : Option ℕ) → labelled z labels.cases labels.otherwise ≡ o → HoldsOf P (and_then (from_label o (λ k frame w. execute_from s k xs frame w) frame w) left_switch)
      case None e = (past_sets s.variables scope labels before a frame.held (no_entry labels.cases labels.otherwise z e) u, room)
      case (Some n) e = holds_then (Sets s.variables scope scope a) P (in_block (λ frame w. execute_from s n xs frame w) frame w) left_switch
          (block_sets s.variables scope scope before a (λ frame w. execute_from s n xs frame w) (λ n e. e) (k n (entered n e)) frame w u room) (λ d w h. switch_sets s.variables scope labels before a d.frame w d.flow h.0 h.1)

  -- ## Statements

  mutual
    pub statement_sets : (x : PlainStatement) (r : Region) → IsOf s r → IsWholeStatement r x → (scope : List ℕ) → AreOnce (declared_in x) → AreApart scope (declared_in x) → (before : Settings) → RunSets s.variables (scope_after x scope) scope before (ways_of x before) (execute s x)
    statement_sets (statement at (declare n initializer)) r is i scope once apart before frame w u room =
        let P : Done → State → Type 0 = Sets s.variables (n ∷ scope) scope (goes_on (marked_as (sets initializer) n before)) in
        holds_step P w _ (λ left _. declaration_sets r n initializer at.span scope before is i frame (record w { left = left }) u room)
    statement_sets (statement at (set q v)) r is i scope once apart before frame w u room =
        let P : Done → State → Type 0 = Sets s.variables scope scope (goes_on (target_set q before)) in
        holds_step P w _ (λ left _. holds_then (λ target w. Points frame.held q target × HasCell frame.held target) P (locate s frame.held q (record w { left = left })) _ (located frame.held q (record w { left = left })) (λ target w h.
        holds_after P (evaluate s frame.held v w) _ (λ x w. assigned s scope before q target x (place_at q).span frame w u room h.0 h.1)))
    statement_sets (statement at (update kind op t q v)) r is i scope once apart before frame w u room =
        let P : Done → State → Type 0 = Sets s.variables scope scope (goes_on before) in
        holds_step P w _ (λ left _. holds_then (λ target w. HasCell frame.held target) P (locate s frame.held q (record w { left = left })) _ (locate_cell s frame.held q (record w { left = left })) (λ target w h.
        holds_step P w _ (λ left _. holds_after P (read_target (place_at q).span (place_type q) frame.held target (record w { left = left })) _ (λ x w. holds_after P (evaluate s frame.held v w) _ (λ y w.
        holds_step P w _ (λ left _. holds_or P (operated op t w.objects (converted_to t x) y) at.span (record w { left = left }) _ (λ z _.
        updated s scope before target (converted_to (place_type q) z) (place_at q).span frame (record w { left = left }) u room h)))))))
    statement_sets (statement at (copy q p)) r is i scope once apart before frame w u room =
        let P : Done → State → Type 0 = Sets s.variables scope scope (goes_on before) in
        holds_step P w _ (λ left _. holds_after P (locate s frame.held q (record w { left = left })) _ (λ target w. holds_after P (locate s frame.held p w) _ (λ source w.
        goes_set scope before _ frame u room (copy_stays (width s.program (place_type q)) 0 (place_at q).span (pointer_to target) (place_at p).span (pointer_to source) frame w))))
    statement_sets (statement at (asserts call v)) r is i scope once apart before frame w u room =
        let P : Done → State → Type 0 = Sets s.variables scope scope (goes_on before) in
        holds_step P w _ (λ left _. holds_after P (evaluate s frame.held v (record w { left = left })) _ (λ x w. holds_after P (asserted call.span x w) _ (λ none w. (u, room))))
    statement_sets (statement at (expression v)) r is i scope once apart before frame w u room =
        let P : Done → State → Type 0 = Sets s.variables scope scope (goes_on before) in
        holds_step P w _ (λ left _. holds_after P (discard s frame.held v (record w { left = left })) _ (λ x w. (u, room)))
    statement_sets (statement at (if_then v x)) r is i scope once apart before frame w u room =
        let a : Ways = ways_of x before in
        let b : Ways = goes_on before in
        let P : Done → State → Type 0 = Sets s.variables scope scope (either_ways a b) in
        holds_step P w _ (λ left _. holds_after P (evaluate s frame.held v (record w { left = left })) _ (λ y w. holds_if P (is_true y) _ _
        (λ _. first_sets s.variables (scope_after x scope) scope a b (execute s x frame w) (scope_grows x scope) (statement_sets x r is i.1 scope once apart before frame w u room))
        (λ _. second_sets s.variables scope scope a b (goes frame w) (λ n e. e) (u, room))))
    statement_sets (statement at (if_else v x y)) r is i scope once apart before frame w u room =
        let a : Ways = ways_of x before in
        let b : Ways = ways_of y before in
        let P : Done → State → Type 0 = Sets s.variables scope scope (either_ways a b) in
        holds_step P w _ (λ left _. holds_after P (evaluate s frame.held v (record w { left = left })) _ (λ z w. holds_if P (is_true z) _ _
        (λ _. first_sets s.variables (scope_after x scope) scope a b (execute s x frame w) (scope_grows x scope)
        (statement_sets x r is i.1 scope (once_left (declared_in x) (declared_in y) once) (apart_left scope (declared_in x) (declared_in y) apart) before frame w u room))
        (λ _. second_sets s.variables (scope_after y scope) scope a b (execute s y frame w) (scope_grows y scope)
        (statement_sets y r is i.2 scope (once_right (declared_in x) (declared_in y) once) (apart_right scope (declared_in x) (declared_in y) apart) before frame w u room))))
    statement_sets (statement at (loop head first tested third body)) r is i scope once apart before frame w u room =
        let entry : Settings = (ways_of_all first before).normal in
        let inner : List ℕ = scope_after_all first scope in
        let a : Ways = ways_of body entry in
        let next : Settings = on_both a.normal a.continues in
        let b : Ways = after_loop head.keyword entry a in
        let within : IsOf s (after_all r first) = of_after_all r first is in
        let body_apart : AreApart inner (declared_in body) = apart_after_all first scope (declared_in body) once apart in
        let no_thirds : declared_of third ≡ [] = third_declares head.keyword first tested third i.4 in
        holds_step (Sets s.variables scope scope b) w _ (λ left _.
        block_sets s.variables inner scope before b (looped s head.keyword first tested third body) (scope_grows_all first scope) (λ frame w u room.
        first_then inner scope (ways_of_all first before) b (execute_from s 0 first frame w) (λ frame w. loop_by head.keyword s.turns (λ frame w. test s tested frame w) (round s third body) frame w)
        (first_goes head.keyword first tested third before i.4) (scope_grows_all first scope)
        (statements_set first r is i.0 scope (once_left (declared_of first) (declared_in body) once) (apart_left scope (declared_of first) (declared_in body) apart) before frame w u room)
        (loop_sets s.variables head.keyword inner entry a s.turns (λ frame w. test s tested frame w) (round s third body) (λ held. next_keeps s.variables inner held body entry body_apart)
        (round_sets s.variables (scope_after body inner) inner entry a (execute s body) (λ frame w. execute_from s 0 third frame w) (scope_grows body inner)
        (statement_sets body (record (after_all r first) { in_loop = true }) (record { variables = within.variables; scalars = within.scalars }) i.3 inner (once_right (declared_of first) (declared_in body) once) body_apart entry)
        (λ frame w u room. third_back inner next head.keyword first tested third i.4 (execute_from s 0 third frame w)
        (statements_set third (after_all r first) within i.2 inner (subst (λ ns. AreOnce ns) (sym no_thirds) tt) (apart_nothing inner (declared_of third) no_thirds) next frame w u room)))))
        frame (record w { left = left }) u room)
    statement_sets (statement at (switch keyword v labels body)) r is i scope once apart before frame w u room =
        let P : Done → State → Type 0 = Sets s.variables scope scope (ways_of_switch labels body before) in
        holds_step P w _ (λ left _. holds_after P (evaluate s frame.held v (record w { left = left })) _ (λ x w.
        body_sets v labels body (number_of x) r is i.0 i.1 scope once apart before frame w u room))
    statement_sets (statement at (return keyword None)) r is i scope once apart before frame w u room = holds_step (Sets s.variables scope scope (goes_on None)) w _ (λ left _. (tt, room))
    statement_sets (statement at (return keyword (Some v))) r is i scope once apart before frame w u room =
        let P : Done → State → Type 0 = Sets s.variables scope scope (goes_on None) in
        holds_step P w _ (λ left _. holds_after P (evaluate s frame.held v (record w { left = left })) _ (λ x w. (tt, room)))
    statement_sets (statement at break) r is i scope once apart before frame w u room = holds_step (Sets s.variables scope scope (record { normal = None; breaks = before; continues = None })) w _ (λ left _. (u, room))
    statement_sets (statement at continue) r is i scope once apart before frame w u room = holds_step (Sets s.variables scope scope (record { normal = None; breaks = None; continues = before })) w _ (λ left _. (u, room))
    statement_sets (statement at empty) r is i scope once apart before frame w u room = holds_step (Sets s.variables scope scope (goes_on before)) w _ (λ left _. (u, room))
    statement_sets (statement at (block xs)) r is i scope once apart before frame w u room =
        block_sets s.variables (scope_after_all xs scope) scope before (ways_of_all xs before) (λ frame w. execute_from s 0 xs frame w) (scope_grows_all xs scope) (λ frame w u room. statements_set xs r is i scope once apart before frame w u room) frame w u room
    statement_sets (statement at (declare_static n)) r is i scope once apart before frame w u room = (u, room)
    statement_sets (statement at (mark InitDone)) r is i scope once apart before frame w u room = (u, room)
    statement_sets (statement at (mark TaskLoop)) r is i scope once apart before frame w u room = (u, room)

    pub statements_set : (xs : PlainStatements) (r : Region) → IsOf s r → AreWholeStatements r xs → (scope : List ℕ) → AreOnce (declared_of xs) → AreApart scope (declared_of xs) → (before : Settings) → RunSets s.variables (scope_after_all xs scope) scope before (ways_of_all xs before) (execute_from s 0 xs)
    statements_set no_statements r is i scope once apart before frame w u room = (u, room)
    statements_set (more_statements x rest) r is i scope once apart before frame w u room =
        let a : Ways = ways_of x before in
        then_sets s.variables (scope_after x scope) (scope_after_all rest (scope_after x scope)) scope a (ways_of_all rest a.normal) (execute s x frame w) (λ frame w. execute_from s 0 rest frame w) (scope_grows x scope)
        (statement_sets x r is i.0 scope (once_left (declared_in x) (declared_of rest) once) (apart_left scope (declared_in x) (declared_of rest) apart) before frame w u room)
        (λ frame w u room. statements_set rest (after r x) (of_after r x is) i.1 (scope_after x scope) (once_right (declared_in x) (declared_of rest) once) (apart_after x scope (declared_of rest) once apart) a.normal frame w u room)

    -- the body of a `switch`
    body_sets : (v : PlainValue) (labels : PlainLabels) (body : PlainStatement) (z : ℤ) (r : Region) → IsOf s r → Switches (around r) v labels body → IsWholeStatement (record r { in_switch = true }) body → (scope : List ℕ) → AreOnce (declared_in body) → AreApart scope (declared_in body) → (before : Settings) →
        RunSets s.variables scope scope before (ways_of_switch labels body before) (λ frame w. and_then (enter s (labelled z labels.cases labels.otherwise) body frame w) left_switch)
    body_sets v labels (statement at (block xs)) z r is j i scope once apart before frame w u room =
        let a : Ways = ways_from labels 0 xs before None in
        let zero_first : (k : ℕ) → k ≡ 0 + k = λ k. omega arith in
        block_entered labels xs z scope before a frame w (λ k e. entry_is j.kind 0 (length (statements_list xs)) [] labels.cases labels.otherwise z k j.cases j.otherwise e)
        (λ k entry. items_entered labels 0 k xs (record r { in_switch = true }) (record { variables = is.variables; scalars = is.scalars }) i scope once apart before None (ap (λ m. is_labelled m labels) (sym (zero_first k)) ∙ entry.labelled_is) entry.there) u room
    body_sets v labels (statement at form) z r is j i scope once apart before frame w u room = (u, room)

    -- its items from one on, after the item before
    items_set : (labels : PlainLabels) (j : ℕ) (xs : PlainStatements) (r : Region) → IsOf s r → AreWholeStatements r xs → (scope : List ℕ) → AreOnce (declared_of xs) → AreApart scope (declared_of xs) → (entry before : Settings) →
        RunSets s.variables scope scope before (ways_from labels j xs entry before) (execute_from s 0 xs)
    items_set labels j no_statements r is i scope once apart entry before frame w u room = (u, room)
    items_set labels j (more_statements x rest) r is i scope once apart entry before frame w u room =
        let here : Settings = case_settings (is_labelled j labels) entry before in
        let a : Ways = ways_of x here in
        item_sets x rest scope a (ways_from labels (suc j) rest entry a.normal) (execute s x frame w)
        (statement_sets x r is i.0 scope (once_left (declared_in x) (declared_of rest) once) (apart_left scope (declared_in x) (declared_of rest) apart) here frame w (case_gone s.variables scope (is_labelled j labels) entry before frame.held u) room)
        (items_set labels (suc j) rest (after r x) (of_after r x is) i.1 scope (once_right (declared_in x) (declared_of rest) once) (apart_right scope (declared_in x) (declared_of rest) apart) entry a.normal)

    -- ... and where one of them is entered
    items_entered : (labels : PlainLabels) (j k : ℕ) (xs : PlainStatements) (r : Region) → IsOf s r → AreWholeStatements r xs → (scope : List ℕ) → AreOnce (declared_of xs) → AreApart scope (declared_of xs) → (entry before : Settings) → is_labelled (j + k) labels ≡ true → k < length (statements_list xs) →
        RunSets s.variables scope scope entry (ways_from labels j xs entry before) (execute_from s k xs)
    items_entered labels j k no_statements r is i scope once apart entry before e l frame w u room = absurd (omega (arith, l))
    items_entered labels j zero (more_statements x rest) r is i scope once apart entry before e l frame w u room =
        let here : Settings = case_settings (is_labelled j labels) entry before in
        let a : Ways = ways_of x here in
        let same : j ≡ j + 0 = omega arith in
        item_sets x rest scope a (ways_from labels (suc j) rest entry a.normal) (execute s x frame w)
        (statement_sets x r is i.0 scope (once_left (declared_in x) (declared_of rest) once) (apart_left scope (declared_in x) (declared_of rest) apart) here frame w
        (case_entered s.variables scope (is_labelled j labels) entry before frame.held (ap (λ m. is_labelled m labels) same ∙ e) u) room)
        (items_set labels (suc j) rest (after r x) (of_after r x is) i.1 scope (once_right (declared_in x) (declared_of rest) once) (apart_right scope (declared_in x) (declared_of rest) apart) entry a.normal)
    items_entered labels j (suc k) (more_statements x rest) r is i scope once apart entry before e l frame w u room =
        let here : Settings = case_settings (is_labelled j labels) entry before in
        let a : Ways = ways_of x here in
        let same : suc j + k ≡ j + suc k = omega arith in
        later_sets s.variables scope scope a (ways_from labels (suc j) rest entry a.normal) (execute_from s k rest frame w)
        (items_entered labels (suc j) k rest (after r x) (of_after r x is) i.1 scope (once_right (declared_in x) (declared_of rest) once) (apart_right scope (declared_in x) (declared_of rest) apart) entry a.normal (ap (λ m. is_labelled m labels) same ∙ e) (omega (arith, l)) frame w u room)
