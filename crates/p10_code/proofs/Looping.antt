-- The code of loops does what they mean.
use Rattle.std.proofs.Common.{◌≡◌, ℕ, zero, suc, ◌+◌, ◌≤◌, max, Bool, true, false, List, [], ◌∷◌, ◌++◌, length, Option, Some, None, refl, sym, ◌∙◌, subst, arith, length-append}
use Rattle.std.specs.Prelude.{slice_get, if◌then◌else◌, ◌||◌}
use Rattle.p10_base.specs.declared.span.Span.{Span}
use Rattle.p10_base.specs.declared.at.At.{At}
use Rattle.p10_core.specs.declared.statements.LoopHead.{LoopHead}
use Rattle.p10_core.specs.declared.statements.LoopKeyword.{LoopKeyword}
use Rattle.p10_core.specs.declared.statements.LoopKeyword.TheVariants.{While, Do, For}
use Rattle.p10_core.specs.Typed.{PlainValue, PlainStatement, loop, PlainStatements, PlainVariable, PlainProgram}
use Rattle.p10_meaning.specs.States.{State, StepsSpent, Progress, gives, ends, and_then}
use Rattle.p10_meaning.specs.Scalars.{is_true}
use Rattle.p10_meaning.specs.Values.{Calls, Setting, Held, evaluate}
use Rattle.p10_meaning.specs.Statements.{Frame, Flow, normal, broken, continued, returned, Done, goes, go_on, in_block, test, next_turn, turns, loop_by, before_third, round, looped, execute, execute_from, execute_form}
use Rattle.p10_meaning.proofs.Spent.{then_none, test_none}
use Rattle.p10_code.specs.Operations.{jump, branch, Op, Entry}
use Rattle.p10_code.specs.Machine.{Rest, on, close_blocks, leave_call, Reaches}
use Rattle.p10_code.specs.ValueCode.{op, operand, debt, value_code}
use Rattle.p10_code.specs.StatementCode.{Exits, opens_object, any_opens, need, statements_need, test_height, loop_test, loop_test_length, loop_start, loop_exits, third_exits, loop_rest, loop_part, statement_code, statements_code, form_code}
use Rattle.p10_code.proofs.Base.{step_is_owed, owed_zero, assoc, Stands, front, rear, end_of, stands_at, Under, stand, To, comes_to, placed, free_jump, jump_runs}
use Rattle.p10_code.proofs.ValueParts.{site, setting, CallsRun}
use Rattle.p10_code.proofs.StatementParts.{MayOpen, Fits, Still, fits_on, fits_less, still_on, resume, done, over, Afterwards, PartRuns, then_runs, StatementRuns, StatementsRun}
use Rattle.p10_code.proofs.Flowing.{neither, block_by, test_runs, after_still}

module _ (p : PlainProgram) (code : List Op) (entries : List Entry) (u : Under) (vars : List PlainVariable) (call : Calls) (m : ℕ) (cr : (blocks : List (List ℕ)) → CallsRun p code entries (record u { blocks = blocks }) call m) where
  -- a loop's test
  loop_test_runs : (tested : Option PlainValue) (tracked : Bool) (bs : List (List ℕ)) (pc hit miss q h : ℕ) (span : Span) (frame : Frame) (s : List Held) (w : State) (K : Bool → State → Progress Rest) → Fits vars m h tracked frame s w → test_height tested ≤ h → Stands code pc (loop_test (site p vars) span pc tested hit miss) q →
      ((more : Bool) (s' : List Held) (w' : State) → Still vars tracked s w frame s' w' → w'.left + 1 ≤ w.left → To p code entries (over u tracked frame.opened bs) (if more then hit else miss) s' w' (K more w')) →
      To p code entries (over u tracked frame.opened bs) pc s w (and_then (test (setting p vars call m) tested frame w) K)
  loop_test_runs None tracked bs pc hit miss q h span frame s w K f le has after =
      comes_to p code entries _ _ _ (step_is_owed w (λ w. gives true w) K)
      (jump_runs p code entries (over u tracked frame.opened bs) 1 pc hit span s w (K true) has.0
      (λ w1 e1. after true s w1 (record { variables = f.variables; len = refl; tracks = f.tracks; later = omega (arith, e1) }) (omega (arith, e1))))
  loop_test_runs (Some v) tracked bs pc hit miss q h span frame s w K f le has after =
      let g : Setting = setting p vars call m in
      comes_to p code entries _ _ _ (assoc (evaluate g frame.held v w) (λ x w. gives (is_true x) w) K ∙ sym (owed_zero w (λ w. and_then (evaluate g frame.held v w) (λ x w. K (is_true x) w))))
      (test_runs p code entries u vars call m cr v 0 tracked bs pc hit miss q h span frame s w (λ x w. K (is_true x) w) f le has (λ x s1 w1 t later. after (is_true x) s1 w1 t (omega (arith, later))))

  -- what a loop stands in: its parts, and the jumps before its body
  record Loop (j : Exits) (span : Span) (keyword : LoopKeyword) (tested : Option PlainValue) (third : PlainStatements) (body : PlainStatement) (at third_at test_at q : ℕ) : Type 0 where
    body_at : Stands code (at + 4) (statement_code (site p vars) (loop_exits j at) (at + 4) body) third_at
    third_there : Stands code third_at (statements_code (site p vars) (third_exits j at) third_at third) test_at
    test_there : Stands code test_at (loop_test (site p vars) span test_at tested (at + 4) q) q
    start : slice_get code at ≡ Some (op 0 span (jump (loop_start keyword (at + 4) test_at)))
    again : slice_get code (at + 1) ≡ Some (op 0 span (jump third_at))
    past : slice_get code (at + 2) ≡ Some (op 0 span (jump q))
    test_again : slice_get code (at + 3) ≡ Some (op 0 span (jump test_at))

  test_grows : (tested : Option PlainValue) (span : Span) (at hit miss : ℕ) → length (loop_test (site p vars) span at tested hit miss) ≡ loop_test_length (site p vars) at tested
  test_grows None span at hit miss = refl
  test_grows (Some v) span at hit miss = length-append (value_code (site p vars) (length vars) (length vars + 1) 0 at v) (op (debt 0 v) span (branch (operand (site p vars) (length vars) v) hit miss) ∷ [])

  is_loop : (j : Exits) (span : Span) (keyword : LoopKeyword) (tested : Option PlainValue) (third : PlainStatements) (body : PlainStatement) (at q : ℕ) → Stands code at (loop_rest (site p vars) span keyword tested third body j at) q →
      (third_at : ℕ) × (test_at : ℕ) × Loop j span keyword tested third body at third_at test_at q
  is_loop j span keyword tested third body at q has =
      let cb : List Op = statement_code (site p vars) (loop_exits j at) (at + 4) body in
      let third_at : ℕ = at + 4 + length cb in
      let ct : List Op = statements_code (site p vars) (third_exits j at) third_at third in
      let test_at : ℕ = third_at + length ct in
      let end : ℕ = test_at + loop_test_length (site p vars) test_at tested in
      let cc1 : List Op = loop_test (site p vars) span test_at tested (at + 4) end in
      let hb : Stands code (at + 4) (cb ++ (ct ++ cc1)) q = stands_at code (at + 1 + 1 + 1 + 1) (at + 4) q _ (omega arith) has.1.1.1.1 in
      let ht : Stands code third_at (ct ++ cc1) q = rear code (at + 4) q cb (ct ++ cc1) hb in
      let hc : Stands code test_at cc1 q = rear code third_at q ct cc1 ht in
      let eq : end ≡ q = omega (arith, end_of code test_at q cc1 hc, test_grows tested span test_at (at + 4) end) in
      let two : at + 1 + 1 ≡ at + 2 = omega arith in
      let three : at + 1 + 1 + 1 ≡ at + 3 = omega arith in (
        third_at,
        test_at,
        record {
          body_at = front code (at + 4) q cb (ct ++ cc1) hb;
          third_there = front code third_at q ct cc1 ht;
          test_there = subst (λ e. Stands code test_at (loop_test (site p vars) span test_at tested (at + 4) e) q) eq hc;
          start = has.0;
          again = has.1.0;
          past = subst (λ n. slice_get code n ≡ Some (op 0 span (jump q))) two (subst (λ e. slice_get code (at + 1 + 1) ≡ Some (op 0 span (jump e))) eq has.1.1.0);
          test_again = subst (λ n. slice_get code n ≡ Some (op 0 span (jump test_at))) three has.1.1.1.0;
        },
      )

  module _ (span : Span) (keyword : LoopKeyword) (tested : Option PlainValue) (third : PlainStatements) (body : PlainStatement) (rt : StatementsRun p code entries u vars call m third) (rb : StatementRuns p code entries u vars call m body) (tracked : Bool) (bs : List (List ℕ)) (j : Exits) (at third_at test_at q : ℕ) (l : Loop j span keyword tested third body at third_at test_at q) (mb : MayOpen tracked (opens_object vars body)) (mt : MayOpen tracked (any_opens vars third)) where
    abbrev needs : ℕ
    needs = max (test_height tested) (max (statements_need third) (need body))

    abbrev Round : Frame → State → Progress Done
    Round frame w = round (setting p vars call m) third body frame w

    abbrev Turns : ℕ → Frame → State → Progress Done
    Turns i = turns i (test (setting p vars call m) tested) Round

    -- so many turns, from the test on
    abbrev TurnsRun : ℕ → Type 0
    TurnsRun i =
        (frame : Frame) (s : List Held) (w : State) (K : Done → State → Progress Rest) → Fits vars m needs tracked frame s w → w.left ≤ i → Afterwards p code entries u vars call m tracked bs j q s w K →
        To p code entries (over u tracked frame.opened bs) test_at s w (and_then (Turns i frame w) K)

    -- after a round, from where its last part leaves it
    next_runs : (i : ℕ) → TurnsRun i → (jj : Exits) → jj.over ≡ at + 2 → jj.over_close ≡ 0 → jj.all_close ≡ j.all_close → (again_at : ℕ) → jj.again ≡ again_at → jj.again_close ≡ 0 → slice_get code again_at ≡ Some (op 0 span (jump test_at)) →
        (flow : Flow) (frame : Frame) (s : List Held) (w : State) (n : ℕ) (K : Done → State → Progress Rest) → Fits vars m needs tracked frame s w → w.left ≤ i → Afterwards p code entries u vars call m tracked bs j q s w K →
        Reaches p code entries (resume jj test_at flow (stand (over u tracked frame.opened bs) n s w)) (and_then (next_turn flow frame w (Turns i)) K)
    next_runs i ti jj eo ec ea again_at eg eh ag normal frame s w n K f wi after = ti frame s w K f wi after
    next_runs i ti jj eo ec ea again_at eg eh ag continued frame s w n K f wi after =
        subst (λ c. Reaches p code entries (on (record (close_blocks c (stand (over u tracked frame.opened bs) n s w)) { pc = jj.again })) (and_then (Turns i frame w) K)) (sym eh)
        (placed p code entries (over u tracked frame.opened bs) jj.again again_at s w _ eg (free_jump p code entries (over u tracked frame.opened bs) again_at test_at span s w _ ag (ti frame s w K f wi after)))
    next_runs i ti jj eo ec ea again_at eg eh ag broken frame s w n K f wi after =
        subst (λ c. Reaches p code entries (on (record (close_blocks c (stand (over u tracked frame.opened bs) n s w)) { pc = jj.over })) (K (done normal frame) w)) (sym ec)
        (placed p code entries (over u tracked frame.opened bs) jj.over (at + 2) s w _ eo (free_jump p code entries (over u tracked frame.opened bs) (at + 2) q span s w _ l.past
        (after normal frame s w q (record { variables = f.variables; len = refl; tracks = f.tracks; later = omega arith }))))
    next_runs i ti jj eo ec ea again_at eg eh ag (returned x) frame s w n K f wi after =
        subst (λ c. Reaches p code entries (leave_call x (close_blocks c (stand (over u tracked frame.opened bs) n s w))) (K (done (returned x) frame) w)) (sym ea)
        (after (returned x) frame s w n (record { variables = f.variables; len = refl; tracks = f.tracks; later = omega arith }))

    -- the third clause
    third_runs : (i : ℕ) → TurnsRun i → (frame : Frame) (s : List Held) (w : State) (K : Done → State → Progress Rest) → Fits vars m needs tracked frame s w → w.left ≤ i → Afterwards p code entries u vars call m tracked bs j q s w K →
        To p code entries (over u tracked frame.opened bs) third_at s w (and_then (execute_from (setting p vars call m) 0 third frame w) (λ d w. and_then (next_turn d.flow d.frame w (Turns i)) K))
    third_runs i ti frame s w K f wi after =
        rt tracked bs (third_exits j at) third_at test_at frame s w (λ d w. and_then (next_turn d.flow d.frame w (Turns i)) K) (fits_less vars m needs (statements_need third) tracked frame s w w f (omega arith) (omega arith)) mt l.third_there
        (λ flow frame1 s1 w1 n t.
        next_runs i ti (third_exits j at) refl refl refl (at + 3) refl refl l.test_again flow frame1 s1 w1 n K (fits_on vars m needs needs tracked frame frame1 s s1 w w1 f t (omega arith)) (omega (arith, t.later)) (after_still p code entries u vars call m cr tracked bs j q s s1 w w1 K t.len t.later after))

    -- what follows the body
    body_flows : (i : ℕ) → TurnsRun i → (flow : Flow) (frame : Frame) (s : List Held) (w : State) (n : ℕ) (K : Done → State → Progress Rest) → Fits vars m needs tracked frame s w → w.left ≤ i → Afterwards p code entries u vars call m tracked bs j q s w K →
        Reaches p code entries (resume (loop_exits j at) third_at flow (stand (over u tracked frame.opened bs) n s w)) (and_then (before_third flow frame w (λ frame w. execute_from (setting p vars call m) 0 third frame w)) (λ d w. and_then (next_turn d.flow d.frame w (Turns i)) K))
    body_flows i ti normal frame s w n K f wi after = third_runs i ti frame s w K f wi after
    body_flows i ti continued frame s w n K f wi after = free_jump p code entries (over u tracked frame.opened bs) (at + 1) third_at span s w _ l.again (third_runs i ti frame s w K f wi after)
    body_flows i ti broken frame s w n K f wi after =
        free_jump p code entries (over u tracked frame.opened bs) (at + 2) q span s w _ l.past (after normal frame s w q (record { variables = f.variables; len = refl; tracks = f.tracks; later = omega arith }))
    body_flows i ti (returned x) frame s w n K f wi after = after (returned x) frame s w n (record { variables = f.variables; len = refl; tracks = f.tracks; later = omega arith })

    -- a round, and what follows
    round_runs : (i : ℕ) → TurnsRun i → (frame : Frame) (s : List Held) (w : State) (K : Done → State → Progress Rest) → Fits vars m needs tracked frame s w → w.left ≤ i → Afterwards p code entries u vars call m tracked bs j q s w K →
        To p code entries (over u tracked frame.opened bs) (at + 4) s w (and_then (and_then (Round frame w) (λ d w. next_turn d.flow d.frame w (Turns i))) K)
    round_runs i ti frame s w K f wi after =
        let g : Setting = setting p vars call m in
        let T : Done → State → Progress Done = λ d w. before_third d.flow d.frame w (λ frame w. execute_from g 0 third frame w) in
        comes_to p code entries _ _ _ (assoc (Round frame w) (λ d w. next_turn d.flow d.frame w (Turns i)) K ∙ assoc (execute g body frame w) T (λ d w. and_then (next_turn d.flow d.frame w (Turns i)) K))
        (rb tracked bs (loop_exits j at) (at + 4) third_at frame s w (λ d w. and_then (T d w) (λ d w. and_then (next_turn d.flow d.frame w (Turns i)) K)) (fits_less vars m needs (need body) tracked frame s w w f (omega arith) (omega arith)) mb l.body_at
        (λ flow frame1 s1 w1 n t.
        body_flows i ti flow frame1 s1 w1 n K (fits_on vars m needs needs tracked frame frame1 s s1 w w1 f t (omega arith)) (omega (arith, t.later)) (after_still p code entries u vars call m cr tracked bs j q s s1 w w1 K t.len t.later after)))

    turn_case : (more : Bool) (i : ℕ) → TurnsRun i → (frame : Frame) (s : List Held) (w : State) (K : Done → State → Progress Rest) → Fits vars m needs tracked frame s w → w.left ≤ i → Afterwards p code entries u vars call m tracked bs j q s w K →
        To p code entries (over u tracked frame.opened bs) (if more then at + 4 else q) s w (and_then (if more then and_then (Round frame w) (λ d w. next_turn d.flow d.frame w (Turns i)) else goes frame w) K)
    turn_case true i ti frame s w K f wi after = round_runs i ti frame s w K f wi after
    turn_case false i ti frame s w K f wi after = after normal frame s w q (record { variables = f.variables; len = refl; tracks = f.tracks; later = omega arith })

    turns_run : (i : ℕ) → TurnsRun i
    turns_run zero frame s w K f wi after =
        comes_to p code entries _ _ _ (sym (then_none (test (setting p vars call m) tested frame w) (λ more w. ends StepsSpent w) w (test_none (setting p vars call m) tested frame w (omega arith))))
        (loop_test_runs tested tracked bs test_at (at + 4) q q needs span frame s w (λ more w. ends StepsSpent w) f (omega arith) l.test_there (λ more s1 w1 t later. absurd (omega arith)))
    turns_run (suc i) frame s w K f wi after =
        let g : Setting = setting p vars call m in
        comes_to p code entries _ _ _ (assoc (test g tested frame w) (λ more w. if more then and_then (Round frame w) (λ d w. next_turn d.flow d.frame w (Turns i)) else goes frame w) K)
        (loop_test_runs tested tracked bs test_at (at + 4) q q needs span frame s w _ f (omega arith) l.test_there
        (λ more s1 w1 t later.
        turn_case more i (turns_run i) frame s1 w1 K (fits_on vars m needs needs tracked frame frame s s1 w w1 f t (omega arith)) (omega arith) (after_still p code entries u vars call m cr tracked bs j q s s1 w w1 K t.len t.later after)))

  -- a loop after its first clause
  rest_runs : (span : Span) (keyword : LoopKeyword) (tested : Option PlainValue) (third : PlainStatements) (body : PlainStatement) → StatementsRun p code entries u vars call m third → StatementRuns p code entries u vars call m body →
      PartRuns p code entries u vars call m (max (test_height tested) (max (statements_need third) (need body))) (opens_object vars body || any_opens vars third) (λ j at. loop_rest (site p vars) span keyword tested third body j at) (λ frame w. loop_by keyword m (λ frame w. test (setting p vars call m) tested frame w) (round (setting p vars call m) third body) frame w)
  rest_runs span While tested third body rt rb tracked bs j at q frame s w K f may has after =
      let (third_at, test_at, l) = is_loop j span While tested third body at q has in
      let (mb, mt) = neither tracked (opens_object vars body) (any_opens vars third) may in
      free_jump p code entries (over u tracked frame.opened bs) at test_at span s w _ l.start (turns_run span While tested third body rt rb tracked bs j at third_at test_at q l mb mt m frame s w K f f.bound after)
  rest_runs span For tested third body rt rb tracked bs j at q frame s w K f may has after =
      let (third_at, test_at, l) = is_loop j span For tested third body at q has in
      let (mb, mt) = neither tracked (opens_object vars body) (any_opens vars third) may in
      free_jump p code entries (over u tracked frame.opened bs) at test_at span s w _ l.start (turns_run span For tested third body rt rb tracked bs j at third_at test_at q l mb mt m frame s w K f f.bound after)
  rest_runs span Do tested third body rt rb tracked bs j at q frame s w K f may has after =
      let (third_at, test_at, l) = is_loop j span Do tested third body at q has in
      let (mb, mt) = neither tracked (opens_object vars body) (any_opens vars third) may in
      free_jump p code entries (over u tracked frame.opened bs) at (at + 4) span s w _ l.start (round_runs span Do tested third body rt rb tracked bs j at third_at test_at q l mb mt m (turns_run span Do tested third body rt rb tracked bs j at third_at test_at q l mb mt m) frame s w K f f.bound after)

  -- a loop in its block
  part_runs : (span : Span) (keyword : LoopKeyword) (first : PlainStatements) (tested : Option PlainValue) (third : PlainStatements) (body : PlainStatement) → StatementsRun p code entries u vars call m first → StatementsRun p code entries u vars call m third → StatementRuns p code entries u vars call m body →
      PartRuns p code entries u vars call m (max (test_height tested) (max (statements_need first) (max (statements_need third) (need body)))) (any_opens vars first || (opens_object vars body || any_opens vars third)) (λ j at. loop_part (site p vars) span keyword first tested third body j at) (λ frame w. looped (setting p vars call m) keyword first tested third body frame w)
  part_runs span keyword first tested third body rf rt rb tracked bs j pc q frame s w K f may has after =
      let g : Setting = setting p vars call m in
      let cf : List Op = statements_code (site p vars) j pc first in
      let h : ℕ = max (test_height tested) (max (statements_need first) (max (statements_need third) (need body))) in
      let h2 : ℕ = max (test_height tested) (max (statements_need third) (need body)) in
      let (mf, mr) = neither tracked (any_opens vars first) (opens_object vars body || any_opens vars third) may in
      let L : Frame → State → Progress Done = λ frame w. loop_by keyword m (λ frame w. test g tested frame w) (round g third body) frame w in
      comes_to p code entries _ _ _ (assoc (execute_from g 0 first frame w) (λ d w. go_on d.flow d.frame w L) K)
      (rf tracked bs j pc (pc + length cf) frame s w (λ d w. and_then (go_on d.flow d.frame w L) K) (fits_less vars m h (statements_need first) tracked frame s w w f (omega arith) (omega arith)) mf (front code pc q cf _ has)
      (λ flow frame1 s1 w1 i t.
      then_runs p code entries u vars call m h2 (opens_object vars body || any_opens vars third) (λ j at. loop_rest (site p vars) span keyword tested third body j at) L (rest_runs span keyword tested third body rt rb) flow tracked bs j (pc + length cf) q i frame frame1 s s1 w w1 K
      (fits_less vars m h h2 tracked frame s w w f (omega arith) (omega arith)) t mr (rear code pc q cf _ has) after))

  pub loop_runs : (here : At) (head : LoopHead) (first : PlainStatements) (tested : Option PlainValue) (third : PlainStatements) (body : PlainStatement) → StatementsRun p code entries u vars call m first → StatementsRun p code entries u vars call m third → StatementRuns p code entries u vars call m body →
      PartRuns p code entries u vars call m (max (test_height tested) (max (statements_need first) (max (statements_need third) (need body)))) false (λ j pc. form_code (site p vars) j pc here (loop head first tested third body)) (λ frame w. execute_form (setting p vars call m) here (loop head first tested third body) frame w)
  loop_runs here head first tested third body rf rt rb tracked bs j pc q frame s w K f may has after =
      let inside : Bool = any_opens vars first || (opens_object vars body || any_opens vars third) in
      let h : ℕ = max (test_height tested) (max (statements_need first) (max (statements_need third) (need body))) in
      let R : Frame → State → Progress Done = λ frame w. looped (setting p vars call m) head.keyword first tested third body frame w in
      comes_to p code entries _ _ _ (step_is_owed w (λ w. in_block R frame w) K)
      (jump_runs p code entries (over u tracked frame.opened bs) 1 pc (pc + 1) here.span s w (λ w. and_then (in_block R frame w) K) has.0
      (λ w1 e1.
      block_by p code entries u vars call m cr h inside (λ j at. loop_part (site p vars) here.span head.keyword first tested third body j at) R (part_runs here.span head.keyword first tested third body rf rt rb) here.span tracked bs j (pc + 1) q frame s w1 K (fits_less vars m h h tracked frame s w w1 f (omega arith) (omega (arith, e1))) has.1
      (λ flow frame2 s2 w2 i t. after flow frame2 s2 w2 i (still_on vars tracked s s s2 w w1 w2 frame2 refl (omega (arith, e1)) t))))
