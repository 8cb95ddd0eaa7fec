-- The code of `switch` does what it means.
use Rattle.std.proofs.Common.{◌≡◌, ℕ, zero, suc, ◌+◌, ◌≤◌, max, Bool, false, List, [], length, Option, Some, None, refl, sym, ap, ◌∙◌, subst, arith}
use Rattle.std.specs.Prelude.{get_or, slice_get}
use Rattle.p10_base.specs.declared.span.Span.{Span}
use Rattle.p10_base.specs.declared.at.At.{At}
use Rattle.p10_core.specs.Typed.{PlainValue, PlainLabels, statement, PlainStatementForm, set, update, copy, evaluate as expression, asserts, declare, declare_static, block, if_then, if_else, loop, switch, break, continue, return, empty, mark, PlainStatements, no_statements, more_statements, PlainVariable, PlainProgram}
use Rattle.p10_meaning.specs.declared.pointers.Scalar.{Scalar}
use Rattle.p10_meaning.specs.Pointers.{holding}
use Rattle.p10_meaning.specs.States.{State, Progress, gives, ends, and_then}
use Rattle.p10_meaning.specs.Scalars.{number_of}
use Rattle.p10_meaning.specs.Values.{Calls, Setting, Held, holds, evaluate}
use Rattle.p10_meaning.specs.Statements.{Frame, Flow, normal, broken, continued, returned, Done, goes, leave_block, in_block, labelled, from_label, after_switch, execute_from, enter_form, execute_form}
use Rattle.p10_code.specs.Operations.{slot, choose, jump, Op, Entry}
use Rattle.p10_code.specs.Machine.{Rest, on, look, scalar_in, or_zero, with_block, chosen, Reaches}
use Rattle.p10_code.specs.ValueCode.{op, height, into_code}
use Rattle.p10_code.specs.StatementCode.{Exits, opens_object, any_opens, need, statements_need, switch_exits, switch_part, statement_code, statements_code, item_places, switched_form, form_code}
use Rattle.p10_code.proofs.Base.{owed, assoc, Stands, front, rear, end_of, stands_at, local, Under, stand, look_here, To, comes_to, comes_from, free_op, free_jump}
use Rattle.p10_code.proofs.ValueParts.{site, setting, CallsRun}
use Rattle.p10_code.proofs.ValueLaw.{into_law}
use Rattle.p10_code.proofs.StatementParts.{MayOpen, Fits, Still, fits_on, fits_less, ready_in, resume, done, over, Afterwards, PartRuns, StatementRuns, StatementsRun, still_frame}
use Rattle.p10_code.proofs.Assigning.{node}
use Rattle.p10_code.proofs.Flowing.{neither, none_run, more_run, block_if, after_still}

-- the body of a `switch` from an item on, if there is one
abbrev from_item : Setting → PlainStatements → Option ℕ → Frame → State → Progress Done
from_item s ss None frame w = goes frame w
from_item s ss (Some k) frame w = execute_from s k ss frame w

swapped : (opened : List ℕ) (o : Progress Done) → and_then (and_then o (λ d w. leave_block opened d w)) after_switch ≡ and_then (and_then o after_switch) (λ d w. leave_block opened d w)
swapped opened (gives d w) = refl
swapped opened (ends end w) = refl

-- a body that isn't entered is as one that is entered past its end
entered_block : (s : Setting) (ss : PlainStatements) (k : Option ℕ) (frame : Frame) (w : State) →
    and_then (from_label k (λ k frame w. execute_from s k ss frame w) frame w) after_switch ≡ in_block (λ frame w. and_then (from_item s ss k frame w) after_switch) frame w
entered_block s ss None frame w = refl
entered_block s ss (Some k) frame w = swapped frame.opened (execute_from s k ss (record frame { opened = [] }) w)

module _ (p : PlainProgram) (code : List Op) (entries : List Entry) (u : Under) (vars : List PlainVariable) (call : Calls) (m : ℕ) (cr : (blocks : List (List ℕ)) → CallsRun p code entries (record u { blocks = blocks }) call m) where
  -- the code of each of several statements does what it means
  abbrev pub AllRun : PlainStatements → Type 0
  AllRun no_statements = Unit {0}
  AllRun (more_statements x rest) = StatementRuns p code entries u vars call m x × AllRun rest

  pub statements_run : (ss : PlainStatements) → AllRun ss → StatementsRun p code entries u vars call m ss
  statements_run no_statements h = none_run p code entries u vars call m cr
  statements_run (more_statements x rest) h = more_run p code entries u vars call m cr x rest h.0 (statements_run rest h.1)

  -- from an item on
  from_runs : (ss : PlainStatements) → AllRun ss → (k : ℕ) (tracked : Bool) (bs : List (List ℕ)) (j : Exits) (pc q : ℕ) (frame : Frame) (s : List Held) (w : State) (K : Done → State → Progress Rest) → Fits vars m (statements_need ss) tracked frame s w → MayOpen tracked (any_opens vars ss) → Stands code pc (statements_code (site p vars) j pc ss) q → Afterwards p code entries u vars call m tracked bs j q s w K →
      To p code entries (over u tracked frame.opened bs) (get_or (item_places (site p vars) j pc ss) k q) s w (and_then (execute_from (setting p vars call m) k ss frame w) K)
  from_runs no_statements h k tracked bs j pc q frame s w K f may has after = after normal frame s w q (still_frame p code entries u vars call m 0 (length vars) (length vars) tracked frame s s w w f (omega arith) (omega arith) (record { len = refl; same = λ i lt ne. refl }) (omega arith))
  from_runs (more_statements x rest) h zero tracked bs j pc q frame s w K f may has after = statements_run (more_statements x rest) h tracked bs j pc q frame s w K f may has after
  from_runs (more_statements x rest) h (suc k) tracked bs j pc q frame s w K f may has after =
      let cx : List Op = statement_code (site p vars) j pc x in
      from_runs rest h.1 k tracked bs j (pc + length cx) q frame s w K (fits_less vars m (max (need x) (statements_need rest)) (statements_need rest) tracked frame s w w f (omega arith) (omega arith)) (neither tracked (opens_object vars x) (any_opens vars rest) may).1 (rear code pc q cx (statements_code (site p vars) j (pc + length cx) rest) has) after

  -- what follows the body
  switch_flows : (flow : Flow) (tracked : Bool) (bs : List (List ℕ)) (j : Exits) (at q i : ℕ) (span : Span) (frame : Frame) (s : List Held) (w : State) (K : Done → State → Progress Rest) → slice_get code (at + 1) ≡ Some (op 0 span (jump q)) →
      ((flow : Flow) → Reaches p code entries (resume j q flow (stand (over u tracked frame.opened bs) i s w)) (K (done flow frame) w)) →
      Reaches p code entries (resume (switch_exits j (at + 1)) q flow (stand (over u tracked frame.opened bs) i s w)) (and_then (after_switch (done flow frame) w) K)
  switch_flows normal tracked bs j at q i span frame s w K h r = r normal
  switch_flows broken tracked bs j at q i span frame s w K h r = free_jump p code entries (over u tracked frame.opened bs) (at + 1) q span s w _ h (r normal)
  switch_flows continued tracked bs j at q i span frame s w K h r = r continued
  switch_flows (returned x) tracked bs j at q i span frame s w K h r = r (returned x)

  chosen_runs : (ss : PlainStatements) → AllRun ss → (k : Option ℕ) (tracked : Bool) (bs : List (List ℕ)) (j : Exits) (at q : ℕ) (span : Span) (frame : Frame) (s : List Held) (w : State) (K : Done → State → Progress Rest) → Fits vars m (statements_need ss) tracked frame s w → MayOpen tracked (any_opens vars ss) →
      slice_get code (at + 1) ≡ Some (op 0 span (jump q)) → Stands code (at + 2) (statements_code (site p vars) (switch_exits j (at + 1)) (at + 2) ss) q → Afterwards p code entries u vars call m tracked bs j q s w K →
      To p code entries (over u tracked frame.opened bs) (chosen (item_places (site p vars) (switch_exits j (at + 1)) (at + 2) ss) q k) s w (and_then (and_then (from_item (setting p vars call m) ss k frame w) after_switch) K)
  chosen_runs ss h None tracked bs j at q span frame s w K f may hj has after = after normal frame s w q (still_frame p code entries u vars call m (statements_need ss) (length vars) (length vars) tracked frame s s w w f (omega arith) (omega arith) (record { len = refl; same = λ i lt ne. refl }) (omega arith))
  chosen_runs ss h (Some k) tracked bs j at q span frame s w K f may hj has after =
      comes_to p code entries _ _ _ (assoc (execute_from (setting p vars call m) k ss frame w) after_switch K)
      (from_runs ss h k tracked bs (switch_exits j (at + 1)) (at + 2) q frame s w (λ d w. and_then (after_switch d w) K) f may has
      (λ flow frame1 s1 w1 i t. switch_flows flow tracked bs j at q i span frame1 s1 w1 K hj (λ flow. after flow frame1 s1 w1 i t)))

  -- a `switch` in its block, where the value stands in the first free slot
  part_runs : (labels : PlainLabels) (ss : PlainStatements) → AllRun ss → (x : Scalar) (span : Span) (tracked : Bool) (bs : List (List ℕ)) (j : Exits) (pc q : ℕ) (frame : Frame) (s : List Held) (w : State) (K : Done → State → Progress Rest) → local s (length vars) ≡ holds (holding x) → Fits vars m (statements_need ss) tracked frame s w → MayOpen tracked (any_opens vars ss) →
      Stands code pc (switch_part (site p vars) span labels ss j pc) q → Afterwards p code entries u vars call m tracked bs j q s w K →
      To p code entries (over u tracked frame.opened bs) pc s w (and_then (and_then (from_item (setting p vars call m) ss (labelled (number_of x) labels.cases labels.otherwise) frame w) after_switch) K)
  part_runs labels ss h x span tracked bs j pc q frame s w K ex f may has after =
      let n : ℕ = length vars in
      let U : Under = over u tracked frame.opened bs in
      let cb : List Op = statements_code (site p vars) (switch_exits j (pc + 1)) (pc + 2) ss in
      let places : List ℕ = item_places (site p vars) (switch_exits j (pc + 1)) (pc + 2) ss in
      let hb : Stands code (pc + 2) cb q = stands_at code (pc + 1 + 1) (pc + 2) q cb (omega arith) has.1.1 in
      let eq : pc + 2 + length cb ≡ q = sym (end_of code (pc + 2) q cb hb) in
      let fx : or_zero (scalar_in (look (stand U pc s w) n)) ≡ x = ap (λ (l : ℕ → Held). or_zero (scalar_in (l n))) (look_here U pc s w) ∙ ap (λ y. or_zero (scalar_in y)) ex in
      free_op p code entries U pc span (choose (slot n) labels places (pc + 2 + length cb)) s w _ has.0
      (comes_from p code entries _ (on (stand U (chosen places q (labelled (number_of x) labels.cases labels.otherwise)) s w)) _
      (λ i. on (stand U (chosen places (eq i) (labelled (number_of (fx i)) labels.cases labels.otherwise)) s w))
      (chosen_runs ss h (labelled (number_of x) labels.cases labels.otherwise) tracked bs j pc q span frame s w K f may (subst (λ e. slice_get code (pc + 1) ≡ Some (op 0 span (jump e))) eq has.1.0) hb after))

  -- the value of a `switch`
  switch_value : (v : PlainValue) (h : ℕ) (tracked : Bool) (bs : List (List ℕ)) (pc q : ℕ) (frame : Frame) (s : List Held) (w : State) (K : Scalar → State → Progress Rest) → Fits vars m h tracked frame s w → 1 + height v ≤ h → Stands code pc (into_code (site p vars) (length vars) (length vars + 1) 1 pc v) q →
      ((x : Scalar) (s' : List Held) (w' : State) → Still vars tracked s w frame s' w' → local s' (length vars) ≡ holds (holding x) → To p code entries (over u tracked frame.opened bs) q s' w' (K x w')) →
      To p code entries (over u tracked frame.opened bs) pc s w (owed 1 w (λ w. and_then (evaluate (setting p vars call m) frame.held v w) K))
  switch_value v h tracked bs pc q frame s w K f le has after =
      let n : ℕ = length vars in
      into_law p code entries (over u tracked frame.opened bs) vars call m (cr (with_block tracked frame.opened bs)) frame.held v n (n + 1) 1 pc q s w K (omega (arith, f.room, le)) (ready_in vars m h (n + 1) (height v) 1 tracked frame s w f (omega arith) (omega (arith, f.room, le))) has
      (λ x s1 w1 a e. after x s1 w1 (still_frame p code entries u vars call m h (n + 1) n tracked frame s s1 w w1 f (omega arith) (omega arith) a.kept (omega (arith, a.later))) e)

  abbrev SwitchRuns : PlainStatementForm → ℕ → Type 0
  SwitchRuns form h =
      (here at : At) (keyword : Span) (v : PlainValue) (labels : PlainLabels) → PartRuns p code entries u vars call m (max (1 + height v) h) false (λ j pc. switched_form (site p vars) j pc here v labels form) (λ frame w. execute_form (setting p vars call m) here (switch keyword v labels (statement at form)) frame w)

  entered_runs : (ss : PlainStatements) → AllRun ss → SwitchRuns (block ss) (statements_need ss)
  entered_runs ss all here at keyword v labels tracked bs j pc q frame s w K f may has after =
      let g : Setting = setting p vars call m in
      let n : ℕ = length vars in
      let h : ℕ = max (1 + height v) (statements_need ss) in
      let cv : List Op = into_code (site p vars) n (n + 1) 1 pc v in
      let inside : Bool = any_opens vars ss in
      comes_to p code entries _ _ _ (node p code entries u vars call m cr w (λ w. evaluate g frame.held v w) (λ x w. and_then (from_label (labelled (number_of x) labels.cases labels.otherwise) (λ k frame w. execute_from g k ss frame w) frame w) after_switch) K)
      (switch_value v h tracked bs pc (pc + length cv) frame s w _ f (omega arith) (front code pc q cv _ has)
      (λ x s1 w1 t ex.
      comes_to p code entries _ _ _ (ap (λ o. and_then o K) (entered_block g ss (labelled (number_of x) labels.cases labels.otherwise) frame w1))
      (block_if p code entries u vars call m cr (λ s. local s n ≡ holds (holding x)) (statements_need ss) inside (λ j at. switch_part (site p vars) here.span labels ss j at) (λ frame w. and_then (from_item g ss (labelled (number_of x) labels.cases labels.otherwise) frame w) after_switch)
      (λ tracked bs j pc q frame s w K e f may has after. part_runs labels ss all x here.span tracked bs j pc q frame s w K e f may has after) here.span tracked bs j (pc + length cv) q frame s1 w1 K ex
      (fits_on vars m h (statements_need ss) tracked frame frame s s1 w w1 f t (omega arith)) (rear code pc q cv _ has) (after_still p code entries u vars call m cr tracked bs j q s s1 w w1 K t.len t.later after))))

  -- a body that is no block isn't entered
  passed_runs : (form : PlainStatementForm) (hh : ℕ) → ((here : At) (v : PlainValue) (labels : PlainLabels) (j : Exits) (pc : ℕ) → switched_form (site p vars) j pc here v labels form ≡ into_code (site p vars) (length vars) (length vars + 1) 1 pc v) → ((k : Option ℕ) (frame : Frame) (w : State) → enter_form (setting p vars call m) k form frame w ≡ goes frame w) → SwitchRuns form hh
  passed_runs form hh ec en here at keyword v labels tracked bs j pc q frame s w K f may has after =
      let g : Setting = setting p vars call m in
      comes_to p code entries _ _ _ (node p code entries u vars call m cr w (λ w. evaluate g frame.held v w) (λ x w. and_then (enter_form g (labelled (number_of x) labels.cases labels.otherwise) form frame w) after_switch) K)
      (switch_value v (max (1 + height v) hh) tracked bs pc q frame s w _ f (omega arith) (subst (λ c. Stands code pc c q) (ec here v labels j pc) has)
      (λ x s1 w1 t ex.
      comes_to p code entries _ _ _ (ap (λ o. and_then (and_then o after_switch) K) (en (labelled (number_of x) labels.cases labels.otherwise) frame w1))
      (after normal frame s1 w1 q t)))

  -- what a body has to be: the law of its items, where it is a block
  abbrev pub BodyRuns : PlainStatementForm → Type 0
  BodyRuns (block ss) = AllRun ss
  BodyRuns form = Unit {0}

  pub switch_by : (form : PlainStatementForm) → BodyRuns form → (at : At) → SwitchRuns form (need (statement at form))
  switch_by (block ss) all at = entered_runs ss all
  switch_by (set pl v) all at = passed_runs (set pl v) (need (statement at (set pl v))) (λ here v labels j pc. refl) (λ k frame w. refl)
  switch_by (update kind o t pl v) all at = passed_runs (update kind o t pl v) (need (statement at (update kind o t pl v))) (λ here v labels j pc. refl) (λ k frame w. refl)
  switch_by (copy pl ql) all at = passed_runs (copy pl ql) (need (statement at (copy pl ql))) (λ here v labels j pc. refl) (λ k frame w. refl)
  switch_by (expression e) all at = passed_runs (expression e) (need (statement at (expression e))) (λ here v labels j pc. refl) (λ k frame w. refl)
  switch_by (asserts call2 e) all at = passed_runs (asserts call2 e) (need (statement at (asserts call2 e))) (λ here v labels j pc. refl) (λ k frame w. refl)
  switch_by (declare n i) all at = passed_runs (declare n i) (need (statement at (declare n i))) (λ here v labels j pc. refl) (λ k frame w. refl)
  switch_by (declare_static n) all at = passed_runs (declare_static n) (need (statement at (declare_static n))) (λ here v labels j pc. refl) (λ k frame w. refl)
  switch_by (if_then e a2) all at = passed_runs (if_then e a2) (need (statement at (if_then e a2))) (λ here v labels j pc. refl) (λ k frame w. refl)
  switch_by (if_else e a2 b2) all at = passed_runs (if_else e a2 b2) (need (statement at (if_else e a2 b2))) (λ here v labels j pc. refl) (λ k frame w. refl)
  switch_by (loop head first tested third body) all at = passed_runs (loop head first tested third body) (need (statement at (loop head first tested third body))) (λ here v labels j pc. refl) (λ k frame w. refl)
  switch_by (switch k2 e labels2 body) all at = passed_runs (switch k2 e labels2 body) (need (statement at (switch k2 e labels2 body))) (λ here v labels j pc. refl) (λ k frame w. refl)
  switch_by break all at = passed_runs break (need (statement at break)) (λ here v labels j pc. refl) (λ k frame w. refl)
  switch_by continue all at = passed_runs continue (need (statement at continue)) (λ here v labels j pc. refl) (λ k frame w. refl)
  switch_by (return k2 e) all at = passed_runs (return k2 e) (need (statement at (return k2 e))) (λ here v labels j pc. refl) (λ k frame w. refl)
  switch_by empty all at = passed_runs empty (need (statement at empty)) (λ here v labels j pc. refl) (λ k frame w. refl)
  switch_by (mark kind) all at = passed_runs (mark kind) (need (statement at (mark kind))) (λ here v labels j pc. refl) (λ k frame w. refl)

  pub switch_runs : (here : At) (keyword : Span) (v : PlainValue) (labels : PlainLabels) (at : At) (form : PlainStatementForm) → BodyRuns form →
      PartRuns p code entries u vars call m (max (1 + height v) (need (statement at form))) false (λ j pc. form_code (site p vars) j pc here (switch keyword v labels (statement at form))) (λ frame w. execute_form (setting p vars call m) here (switch keyword v labels (statement at form)) frame w)
  switch_runs here keyword v labels at form all = switch_by form all at here at keyword v labels
