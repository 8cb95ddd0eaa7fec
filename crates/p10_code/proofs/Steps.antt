-- The code of statements that have values alone: copies, `assert`, expressions, `return` and jumps.
use Rattle.std.proofs.Common.{◌≡◌, ℕ, zero, suc, ◌+◌, ◌<◌, ◌≤◌, max, Bool, true, false, List, [], ◌∷◌, ◌++◌, length, Option, Some, None, refl, sym, ap, ◌∙◌, arith}
use Rattle.std.specs.Prelude.{slice_get, if◌then◌else◌, Result, Ok, Err}
use Rattle.p10_base.specs.declared.span.Span.{Span}
use Rattle.p10_base.specs.declared.at.At.{At}
use Rattle.p10_int.specs.declared.operators.Stop.{Stop}
use Rattle.p10_core.specs.declared.statements.MarkKind.TheVariants.{InitDone, TaskLoop}
use Rattle.p10_core.specs.Typed.{PlainValue, PlainPlace, place_at, place_type, copy as copy_form, evaluate as expression, asserts, declare_static, break, continue, return as return_form, empty, mark as mark_form, PlainVariable, PlainProgram}
use Rattle.p10_meaning.specs.declared.pointers.Ptr.{Ptr}
use Rattle.p10_meaning.specs.declared.pointers.Scalar.{Scalar}
use Rattle.p10_meaning.specs.States.{State, AssertionFailed, Progress, gives, ends, step, step_at, and_then, or_undefined}
use Rattle.p10_meaning.specs.Scalars.{is_true, pointer_of}
use Rattle.p10_meaning.specs.Values.{Calls, Setting, Held, width, Target, pointer_to, asserted, discard, evaluate, locate}
use Rattle.p10_meaning.specs.Statements.{Frame, Flow, normal, broken, continued, returned, Done, goes, flows, part_of, write_part, copy_scalars, execute_form}
use Rattle.p10_code.specs.Operations.{Operand, Action, copy, verify, jump, leave, return, mark, Op, Entry}
use Rattle.p10_code.specs.Machine.{Config, Rest, Turned, on, look, next, with_state, scalar_in, or_zero, found, value_of, turned, with_block, close_blocks, leave_call, no_frame, act, Reaches}
use Rattle.p10_code.specs.ValueCode.{op, Spot, in_frame, at_sensor, in_object, nowhere, spot_of, pointer_by, pointer_operand, place_debt, operand, debt, height, place_height, value_code, dropped_code, place_code}
use Rattle.p10_code.specs.StatementCode.{Exits, form_code}
use Rattle.p10_code.proofs.Base.{owed, step_is_owed, owed_same, assoc, then_same, Stands, front, rear, local, Kept, kept_all, kept_both, Under, stand, look_here, To, comes_to, comes_from, placed, pay, free_op, jump_runs, off_reaches}
use Rattle.p10_code.proofs.ValueParts.{Ready, ready_after, site, setting, pointer_spotted, CallsRun}
use Rattle.p10_code.proofs.ValueLaw.{value_law, dropped_law, place_law}
use Rattle.p10_code.proofs.StatementParts.{Fits, Still, ready_in, done, over, Afterwards, PartRuns, still_frame}
use Rattle.p10_code.proofs.Assigning.{node}

-- ## Copies

-- a copy changes no frame, and takes no step back
abbrev Copied : Frame → State → Progress Done → Progress Done → Type 0
Copied frame w (gives d to) o = (o ≡ goes frame to) × (to.left ≤ w.left)
Copied frame w (ends end to) o = o ≡ ends end to

later_copied : (frame : Frame) (w w2 : State) (a b : Progress Done) → w2.left ≤ w.left → Copied frame w2 a b → Copied frame w a b
later_copied frame w w2 (gives d to) b le (e, l) = (e, (let h : to.left ≤ w.left = omega (arith, l, le) in h))
later_copied frame w w2 (ends end to) b le e = e

copied_step : (n : ℕ) (frame : Frame) (w : State) (a b : State → Progress Done) → ((w2 : State) → w2.left ≤ w.left → Copied frame w2 (a w2) (b w2)) → n ≡ w.left → Copied frame w (step_at n w a) (step_at n w b)
copied_step zero frame w a b h e = refl
copied_step (suc n) frame w a b h e = later_copied frame w (record w { left = n }) (a (record w { left = n })) (b (record w { left = n })) (omega (arith, e)) (h (record w { left = n }) (omega (arith, e)))

copied_result : {A : Type 0} (r : Result A Stop) (span : Span) (frame : Frame) (w : State) (a b : A → Progress Done) → ((x : A) → Copied frame w (a x) (b x)) → Copied frame w (or_undefined r span w a) (or_undefined r span w b)
copied_result (Ok x) span frame w a b h = h x
copied_result (Err stop) span frame w a b h = refl

copied : (n i : ℕ) (to_span : Span) (to : Ptr) (from_span : Span) (from : Ptr) (frame : Frame) (w : State) → Copied frame w (copy_scalars n i to_span to from_span from no_frame w) (copy_scalars n i to_span to from_span from frame w)
copied zero i ts to fs from frame w = (refl, (let h : w.left ≤ w.left = omega arith in h))
copied (suc n) i ts to fs from frame w =
    copied_step w.left frame w _ _
    (λ w2 le.
    copied_result (part_of w2.objects from i) fs frame w2 _ _
    (λ cell.
    copied_result (write_part w2.objects to i cell) ts frame w2 _ _
    (λ objects. copied n (suc i) ts to fs from frame (record w2 { objects = objects })))) refl

module _ (p : PlainProgram) (code : List Op) (entries : List Entry) where
  copied_by : (o o2 : Progress Done) (frame : Frame) (w : State) (F : State → Turned) (K : Done → State → Progress Rest) → Copied frame w o o2 → ((w2 : State) → w2.left ≤ w.left → Reaches p code entries (F w2) (K (done normal frame) w2)) → Reaches p code entries (turned o (λ d w. F w)) (and_then o2 K)
  copied_by (gives d to) o2 frame w F K (e, le) h = comes_to p code entries _ _ _ (ap (λ o. and_then o K) e) (h to le)
  copied_by (ends end to) o2 frame w F K e h = comes_to p code entries _ _ _ (ap (λ o. and_then o K) e) (off_reaches p code entries (ends end to) tt)

  -- so many scalars are copied
  pub copy_runs : (v : Under) (a b : Operand) (to from : Ptr) (n d pc q : ℕ) (span from_span : Span) (frame : Frame) (s : List Held) (w : State) (K : Done → State → Progress Rest) → Stands code pc (op d span (copy a b from_span n) ∷ []) q → pointer_of (value_of a (local s)) ≡ to → pointer_of (value_of b (local s)) ≡ from →
      ((w' : State) → w'.left + d ≤ w.left → To p code entries v q s w' (K (done normal frame) w')) →
      To p code entries v pc s w (owed d w (λ w. and_then (copy_scalars n 0 span to from_span from frame w) K))
  copy_runs v a b to from n d pc q span fs frame s w K at ea eb after =
      pay p code entries v pc d span (copy a b fs n) s w (λ w. and_then (copy_scalars n 0 span to fs from frame w) K) at.0
      (λ w1 e1.
      (let c : Config = stand v pc s w1 in
      let fa : pointer_of (value_of a (look c)) ≡ to = ap (λ l. pointer_of (value_of a l)) (look_here v pc s w1) ∙ ea in
      let fb : pointer_of (value_of b (look c)) ≡ from = ap (λ l. pointer_of (value_of b l)) (look_here v pc s w1) ∙ eb in
      comes_from p code entries _ (turned (copy_scalars n 0 span to fs from no_frame w1) (λ d w. on (next (with_state w c)))) _ (λ i. turned (copy_scalars n 0 span (fa i) fs (fb i) no_frame w1) (λ d w. on (next (with_state w c))))
      (copied_by (copy_scalars n 0 span to fs from no_frame w1) (copy_scalars n 0 span to fs from frame w1) frame w1 (λ w. on (next (with_state w c))) K (copied n 0 span to fs from frame w1)
      (λ w2 le. placed p code entries v (pc + 1) q s w2 _ (sym at.1) (after w2 (omega (arith, e1, le)))))))

spot_kept : (spot : Spot) (k t j : ℕ) (s s' : List Held) → k < t → k < j → Kept t j s s' → value_of (pointer_by spot k) (local s') ≡ value_of (pointer_by spot k) (local s)
spot_kept (in_frame n) k t j s s' kt kj h = refl
spot_kept at_sensor k t j s s' kt kj h = refl
spot_kept nowhere k t j s s' kt kj h = refl
spot_kept in_object k t j s s' kt kj h = ap (λ x. or_zero (scalar_in x)) (h.same k kt (λ e. omega arith))

-- a pointer operand stays while what follows keeps its slot
pub pointer_kept : (p : PlainProgram) (vars : List PlainVariable) (pl : PlainPlace) (k t j : ℕ) (s s' : List Held) → k < t → k < j → Kept t j s s' → value_of (pointer_operand (site p vars) k pl) (local s') ≡ value_of (pointer_operand (site p vars) k pl) (local s)
pointer_kept p vars pl k t j s s' kt kj h = spot_kept (spot_of (site p vars) pl) k t j s s' kt kj h

module _ (p : PlainProgram) (code : List Op) (entries : List Entry) (u : Under) (vars : List PlainVariable) (call : Calls) (m : ℕ) (cr : (blocks : List (List ℕ)) → CallsRun p code entries (record u { blocks = blocks }) call m) where
  -- `P = Q;` of structures
  pub copies_run : (here : At) (pl ql : PlainPlace) → PartRuns p code entries u vars call m (2 + max (place_height pl) (place_height ql)) false (λ j at. form_code (site p vars) j at here (copy_form pl ql)) (λ frame w. execute_form (setting p vars call m) here (copy_form pl ql) frame w)
  copies_run here pl ql tracked bs j pc q frame s w K f may has after =
      let g : Setting = setting p vars call m in
      let n : ℕ = length vars in
      let h : ℕ = 2 + max (place_height pl) (place_height ql) in
      let U : Under = over u tracked frame.opened bs in
      let cU : CallsRun p code entries U call m = cr (with_block tracked frame.opened bs) in
      let d1 : ℕ = place_debt (site p vars) 1 pl in
      let d2 : ℕ = place_debt (site p vars) d1 ql in
      let cp : List Op = place_code (site p vars) n (n + 1) 1 pc pl in
      let cq : List Op = place_code (site p vars) (n + 1) (n + 2) d1 (pc + length cp) ql in
      let last : List Op = op d2 (place_at pl).span (copy (pointer_operand (site p vars) n pl) (pointer_operand (site p vars) (n + 1) ql) (place_at ql).span (width p (place_type pl))) ∷ [] in
      let hq : Stands code (pc + length cp) (cq ++ last) q = rear code pc q cp (cq ++ last) has in
      let C : Target → Target → State → Progress Done = λ x y w. copy_scalars (width p (place_type pl)) 0 (place_at pl).span (pointer_to x) (place_at ql).span (pointer_to y) frame w in
      let r1 : Ready vars frame.held m (n + 1) (place_height pl) 1 s w = ready_in vars m h (n + 1) (place_height pl) 1 tracked frame s w f (omega arith) (omega (arith, f.room)) in
      comes_to p code entries _ _ _
      (node p code entries u vars call m cr w (λ w. locate g frame.held pl w) (λ x w. and_then (locate g frame.held ql w) (λ y w. C x y w)) K
      ∙ owed_same 1 w _ _ (λ w. then_same (locate g frame.held pl w) _ _ (λ x w. assoc (locate g frame.held ql w) (λ y w. C x y w) K)))
      (place_law p code entries U vars call m cU frame.held pl n (n + 1) 1 pc (pc + length cp) s w _ (omega (arith, f.room)) r1 (front code pc q cp (cq ++ last) has)
      (λ x s1 w1 a sx.
      place_law p code entries U vars call m cU frame.held ql (n + 1) (n + 2) d1 (pc + length cp) (pc + length cp + length cq) s1 w1 _ (omega (arith, f.room, a.kept.len))
      (ready_after vars frame.held m (n + 1) (place_height pl) 1 (n + 2) (place_height ql) d1 0 n (n + 1) s s1 w w1 r1 a (omega arith) (omega arith) (omega arith) (omega (arith, f.room))) (front code (pc + length cp) q cq last hq)
      (λ y s2 w2 b sy.
      copy_runs p code entries U (pointer_operand (site p vars) n pl) (pointer_operand (site p vars) (n + 1) ql) (pointer_to x) (pointer_to y) (width p (place_type pl)) d2 (pc + length cp + length cq) q (place_at pl).span (place_at ql).span frame s2 w2 K (rear code (pc + length cp) q cq last hq)
      (ap pointer_of (pointer_kept p vars pl n (n + 2) (n + 1) s1 s2 (omega arith) (omega arith) b.kept) ∙ pointer_spotted (spot_of (site p vars) pl) n x s1 sx)
      (pointer_spotted (spot_of (site p vars) ql) (n + 1) y s2 sy)
      (λ w3 e3.
      after normal frame s2 w3 q
      (still_frame p code entries u vars call m h n n tracked frame s s2 w w3 f (omega arith) (omega arith) (kept_both n n (n + 1) n (n + 2) (n + 1) s s1 s2 (omega arith) (omega arith) (omega arith) (omega arith) a.kept b.kept) (omega (arith, a.later, b.later, e3)))))))

  -- a value, and an operation on it
  pub value_op : (v : PlainValue) (tracked : Bool) (bs : List (List ℕ)) (pc q h : ℕ) (span : Span) (A : Operand → Action) (frame : Frame) (s : List Held) (w : State) (K : Scalar → State → Progress Rest) → Fits vars m h tracked frame s w → 1 + height v ≤ h →
      Stands code pc (value_code (site p vars) (length vars) (length vars + 1) 1 pc v ++ op (debt 1 v) span (A (operand (site p vars) (length vars) v)) ∷ []) q →
      ((x : Scalar) (s' : List Held) (w' : State) (i : ℕ) → q ≡ i + 1 → Still vars tracked s w frame s' w' → found (operand (site p vars) (length vars) v) (look (stand (over u tracked frame.opened bs) i s' w')) ≡ Some x →
      Reaches p code entries (act p entries span (A (operand (site p vars) (length vars) v)) (stand (over u tracked frame.opened bs) i s' w')) (K x w')) →
      To p code entries (over u tracked frame.opened bs) pc s w (owed 1 w (λ w. and_then (evaluate (setting p vars call m) frame.held v w) K))
  value_op v tracked bs pc q h span A frame s w K f le has after =
      let n : ℕ = length vars in
      let U : Under = over u tracked frame.opened bs in
      let cU : CallsRun p code entries U call m = cr (with_block tracked frame.opened bs) in
      let cv : List Op = value_code (site p vars) n (n + 1) 1 pc v in
      let o : Operand = operand (site p vars) n v in
      value_law p code entries U vars call m cU frame.held v n (n + 1) 1 pc (pc + length cv) s w K (omega (arith, f.room, le)) (ready_in vars m h (n + 1) (height v) 1 tracked frame s w f (omega arith) (omega (arith, f.room, le))) (front code pc q cv _ has)
      (λ x s1 w1 a e.
      (let hl : Stands code (pc + length cv) (op (debt 1 v) span (A o) ∷ []) q = rear code pc q cv _ has in
      pay p code entries U (pc + length cv) (debt 1 v) span (A o) s1 w1 (K x) hl.0
      (λ w2 e2.
      after x s1 w2 (pc + length cv) hl.1 (still_frame p code entries u vars call m h (n + 1) n tracked frame s s1 w w2 f (omega arith) (omega arith) a.kept (omega (arith, a.later, e2)))
      (ap (found o) (look_here U (pc + length cv) s1 w2) ∙ e))))

  -- `assert(e);`
  asserted_by : (b : Bool) (span : Span) (v : Under) (i q : ℕ) (frame : Frame) (s : List Held) (w : State) (K : Done → State → Progress Rest) → q ≡ i + 1 → To p code entries v q s w (K (done normal frame) w) →
      Reaches p code entries (turned (if b then gives None w else ends (AssertionFailed span) w) (λ (x : Option Scalar) w. on (next (with_state w (stand v i s w))))) (and_then (and_then (if b then gives None w else ends (AssertionFailed span) w) (λ (x : Option Scalar) w. goes frame w)) K)
  asserted_by true span v i q frame s w K e r = placed p code entries v (i + 1) q s w _ (sym e) r
  asserted_by false span v i q frame s w K e r = off_reaches p code entries (ends (AssertionFailed span) w) tt

  pub asserts_run : (here at : At) (v : PlainValue) → PartRuns p code entries u vars call m (1 + height v) false (λ j pc. form_code (site p vars) j pc here (asserts at v)) (λ frame w. execute_form (setting p vars call m) here (asserts at v) frame w)
  asserts_run here at v tracked bs j pc q frame s w K f may has after =
      let g : Setting = setting p vars call m in
      comes_to p code entries _ _ _ (node p code entries u vars call m cr w (λ w. evaluate g frame.held v w) (λ x w. and_then (asserted at.span x w) (λ none w. goes frame w)) K)
      (value_op v tracked bs pc q (1 + height v) at.span verify frame s w _ f (omega arith) has
      (λ x s1 w1 i e t fx.
      (let c : Config = stand (over u tracked frame.opened bs) i s1 w1 in
      let o : Operand = operand (site p vars) (length vars) v in
      comes_from p code entries _ (turned (asserted at.span x w1) (λ x w. on (next (with_state w c)))) _ (ap (λ y. turned (asserted at.span (or_zero y) w1) (λ x w. on (next (with_state w c)))) fx)
      (asserted_by (is_true x) at.span (over u tracked frame.opened bs) i q frame s1 w1 K e (after normal frame s1 w1 q t)))))

  -- another expression
  pub expression_runs : (here : At) (v : PlainValue) → PartRuns p code entries u vars call m (1 + height v) false (λ j pc. form_code (site p vars) j pc here (expression v)) (λ frame w. execute_form (setting p vars call m) here (expression v) frame w)
  expression_runs here v tracked bs j pc q frame s w K f may has after =
      let g : Setting = setting p vars call m in
      let n : ℕ = length vars in
      let U : Under = over u tracked frame.opened bs in
      let cU : CallsRun p code entries U call m = cr (with_block tracked frame.opened bs) in
      let cv : List Op = dropped_code (site p vars) n (n + 1) 1 pc v in
      let last : List Op = op (debt 1 v) here.span (jump (pc + length cv + 1)) ∷ [] in
      let hl : Stands code (pc + length cv) last q = rear code pc q cv last has in
      comes_to p code entries _ _ _ (node p code entries u vars call m cr w (λ w. discard g frame.held v w) (λ x w. goes frame w) K)
      (dropped_law p code entries U vars call m cU frame.held v n (n + 1) 1 pc (pc + length cv) s w _ (omega (arith, f.room)) (ready_in vars m (1 + height v) (n + 1) (height v) 1 tracked frame s w f (omega arith) (omega (arith, f.room))) (front code pc q cv last has)
      (λ x s1 w1 a.
      jump_runs p code entries U (debt 1 v) (pc + length cv) (pc + length cv + 1) here.span s1 w1 (λ w. K (done normal frame) w) hl.0
      (λ w2 e2.
      placed p code entries U (pc + length cv + 1) q s1 w2 _ (sym hl.1)
      (after normal frame s1 w2 q (still_frame p code entries u vars call m (1 + height v) (n + 1) n tracked frame s s1 w w2 f (omega arith) (omega arith) a.kept (omega (arith, a.later, e2)))))))

  -- `return`, with a value and without
  pub return_runs : (here : At) (keyword : Span) (v : PlainValue) → PartRuns p code entries u vars call m (1 + height v) false (λ j pc. form_code (site p vars) j pc here (return_form keyword (Some v))) (λ frame w. execute_form (setting p vars call m) here (return_form keyword (Some v)) frame w)
  return_runs here keyword v tracked bs j pc q frame s w K f may has after =
      let g : Setting = setting p vars call m in
      comes_to p code entries _ _ _ (node p code entries u vars call m cr w (λ w. evaluate g frame.held v w) (λ x w. flows (returned (Some x)) frame w) K)
      (value_op v tracked bs pc q (1 + height v) here.span (λ o. return j.all_close (Some o)) frame s w _ f (omega arith) has
      (λ x s1 w1 i e t fx.
      comes_from p code entries _ (leave_call (Some x) (close_blocks j.all_close (stand (over u tracked frame.opened bs) i s1 w1))) _ (ap (λ y. leave_call y (close_blocks j.all_close (stand (over u tracked frame.opened bs) i s1 w1))) fx)
      (after (returned (Some x)) frame s1 w1 i t)))

  -- a statement of one operation
  one_op : (here : At) (a : Action) (flow : Flow) (tracked : Bool) (bs : List (List ℕ)) (j : Exits) (pc q : ℕ) (frame : Frame) (s : List Held) (w : State) (K : Done → State → Progress Rest) → Fits vars m 0 tracked frame s w → slice_get code pc ≡ Some (op 1 here.span a) →
      ((w' : State) → w'.left ≤ w.left → Still vars tracked s w frame s w' → Reaches p code entries (act p entries here.span a (stand (over u tracked frame.opened bs) pc s w')) (K (done flow frame) w')) →
      To p code entries (over u tracked frame.opened bs) pc s w (and_then (step w (λ w. flows flow frame w)) K)
  one_op here a flow tracked bs j pc q frame s w K f at after =
      comes_to p code entries _ _ _ (step_is_owed w (λ w. flows flow frame w) K)
      (pay p code entries (over u tracked frame.opened bs) pc 1 here.span a s w (λ w. K (done flow frame) w) at
      (λ w1 e1. after w1 (omega (arith, e1)) (still_frame p code entries u vars call m 0 (length vars) (length vars) tracked frame s s w w1 f (omega arith) (omega arith) (kept_all (length vars) (length vars) s) (omega (arith, e1)))))

  pub return_none_runs : (here : At) (keyword : Span) → PartRuns p code entries u vars call m 0 false (λ j pc. form_code (site p vars) j pc here (return_form keyword None)) (λ frame w. execute_form (setting p vars call m) here (return_form keyword None) frame w)
  return_none_runs here keyword tracked bs j pc q frame s w K f may has after = one_op here (return j.all_close None) (returned None) tracked bs j pc q frame s w K f has.0 (λ w1 le t. after (returned None) frame s w1 pc t)

  pub break_runs : (here : At) → PartRuns p code entries u vars call m 0 false (λ j pc. form_code (site p vars) j pc here break) (λ frame w. execute_form (setting p vars call m) here break frame w)
  break_runs here tracked bs j pc q frame s w K f may has after = one_op here (leave j.over_close j.over) broken tracked bs j pc q frame s w K f has.0 (λ w1 le t. after broken frame s w1 pc t)

  pub continue_runs : (here : At) → PartRuns p code entries u vars call m 0 false (λ j pc. form_code (site p vars) j pc here continue) (λ frame w. execute_form (setting p vars call m) here continue frame w)
  continue_runs here tracked bs j pc q frame s w K f may has after = one_op here (leave j.again_close j.again) continued tracked bs j pc q frame s w K f has.0 (λ w1 le t. after continued frame s w1 pc t)

  pub empty_runs : (here : At) → PartRuns p code entries u vars call m 0 false (λ j pc. form_code (site p vars) j pc here empty) (λ frame w. execute_form (setting p vars call m) here empty frame w)
  empty_runs here tracked bs j pc q frame s w K f may has after =
      one_op here (jump (pc + 1)) normal tracked bs j pc q frame s w K f has.0 (λ w1 le t. placed p code entries (over u tracked frame.opened bs) (pc + 1) q s w1 _ (sym has.1) (after normal frame s w1 q t))

  -- statements without operations, and the end of initialisation
  nothing_runs : (tracked : Bool) (bs : List (List ℕ)) (j : Exits) (pc q : ℕ) (frame : Frame) (s : List Held) (w : State) (K : Done → State → Progress Rest) → Fits vars m 0 tracked frame s w → q ≡ pc → Afterwards p code entries u vars call m tracked bs j q s w K →
      To p code entries (over u tracked frame.opened bs) pc s w (K (done normal frame) w)
  nothing_runs tracked bs j pc q frame s w K f e after =
      placed p code entries (over u tracked frame.opened bs) pc q s w _ (sym e) (after normal frame s w q (still_frame p code entries u vars call m 0 (length vars) (length vars) tracked frame s s w w f (omega arith) (omega arith) (kept_all (length vars) (length vars) s) (omega arith)))

  pub static_runs : (here : At) (n : ℕ) → PartRuns p code entries u vars call m 0 false (λ j pc. form_code (site p vars) j pc here (declare_static n)) (λ frame w. execute_form (setting p vars call m) here (declare_static n) frame w)
  static_runs here n tracked bs j pc q frame s w K f may has after = nothing_runs tracked bs j pc q frame s w K f has after

  pub loop_mark_runs : (here : At) → PartRuns p code entries u vars call m 0 false (λ j pc. form_code (site p vars) j pc here (mark_form TaskLoop)) (λ frame w. execute_form (setting p vars call m) here (mark_form TaskLoop) frame w)
  loop_mark_runs here tracked bs j pc q frame s w K f may has after = nothing_runs tracked bs j pc q frame s w K f has after

  pub mark_runs : (here : At) → PartRuns p code entries u vars call m 0 false (λ j pc. form_code (site p vars) j pc here (mark_form InitDone)) (λ frame w. execute_form (setting p vars call m) here (mark_form InitDone) frame w)
  mark_runs here tracked bs j pc q frame s w K f may has after =
      free_op p code entries (over u tracked frame.opened bs) pc here.span mark s w _ has.0
      (placed p code entries (over u tracked frame.opened bs) (pc + 1) q s (record w { marked = true }) _ (sym has.1)
      (after normal frame s (record w { marked = true }) q (still_frame p code entries u vars call m 0 (length vars) (length vars) tracked frame s s w (record w { marked = true }) f (omega arith) (omega arith) (kept_all (length vars) (length vars) s) (omega arith))))
