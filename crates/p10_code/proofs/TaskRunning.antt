-- The code of a task loop does what it means: the part of `main` before it, and one turn.
use Rattle.std.proofs.Common.{◌≡◌, ℕ, zero, suc, ◌+◌, ◌<◌, ◌≤◌, Bool, true, false, List, [], ◌∷◌, ◌++◌, length, replicate, Option, Some, None, refl, sym, ap, ◌∙◌, subst, arith, length-append}
use Rattle.std.specs.Prelude.{get_or, slice_get, if◌then◌else◌}
use Rattle.std.proofs.lemmas.List.{length-replicate, get_or_append_left}
use Rattle.p10_core.specs.Typed.{PlainValue, PlainVariable, PlainFunction, PlainProgram}
use Rattle.p10_meaning.specs.declared.pointers.Scalar.{Scalar}
use Rattle.p10_meaning.specs.States.{State, Progress, gives, step, and_then}
use Rattle.p10_meaning.specs.Scalars.{is_true}
use Rattle.p10_meaning.specs.Values.{Setting, Held, absent, evaluate}
use Rattle.p10_meaning.specs.Statements.{Frame, Flow, normal, broken, continued, returned, Done, goes, flows, go_on, test, execute, execute_from}
use Rattle.p10_meaning.specs.Calling.{Depth, no_depth, deeper, raised, Entered, entered, setting_of, call_at}
use Rattle.p10_meaning.specs.Runs.{Task, task_test, task_turn, before_task}
use Rattle.p10_code.specs.Frames.{has_objects, IsFrameOf, IsFrameIn}
use Rattle.p10_code.specs.Operations.{slot, branch, call, return, rest, Op, Entry}
use Rattle.p10_code.specs.Machine.{Config, Standing, Rest, on, off, over as over_with, at_loop, leave_call, look, cell_of, held_in, opened_in, with_block, standing_in, enter, start, Reaches}
use Rattle.p10_code.specs.ValueCode.{op, operand, debt, value_code}
use Rattle.p10_code.specs.StatementCode.{need, statements_need, statement_code, statements_code, test_code, test_length, test_height}
use Rattle.p10_code.specs.ProgramCode.{no_span, site_of, function_code, functions_code, functions_entries, code_of}
use Rattle.p10_code.specs.TaskCode.{standing_of, turn_place, task_room, task_exits, first_items, first_code, task_test_code, turn_code, task_entry, task_code, whole_code, whole_entries, first_rest, turn_rest, FirstPartIsExact, TurnIsExact}
use Rattle.p10_code.proofs.Base.{owed, step_is_owed, owed_zero, owed_same, assoc, Stands, front, rear, stands_at, local, Holds, Under, stand, look_here, To, comes_to, comes_from, pay, free_op, off_reaches}
use Rattle.p10_code.proofs.ValueParts.{CallsRun}
use Rattle.p10_code.proofs.StatementParts.{Tracks, Fits, fits_on, fits_less, resume, over}
use Rattle.p10_code.proofs.Flowing.{test_runs}
use Rattle.p10_code.proofs.StatementLaw.{statement_law, statements_law}
use Rattle.p10_code.proofs.Entering.{Enters, enters, enters_tracked, may_in, may_at}
use Rattle.p10_code.proofs.Running.{AreEntries, goes_back, call_law, whole, linked_from}

-- ## Frames

held_same : (t : ℕ) (held s : List Held) → ((i : ℕ) → i < length held → local s (t + i) ≡ get_or held i absent) → held_in t (length held) (local s) ≡ held
held_same t [] s h = refl
held_same t (x ∷ held) s h =
    let here : local s t ≡ x = (let e : t + 0 ≡ t = omega arith in ap (local s) (sym e) ∙ h 0 (omega arith)) in
    let more : held_in (t + 1) (length held) (local s) ≡ held = held_same (t + 1) held s (λ i lt. (let e : t + 1 + i ≡ t + suc i = omega arith in ap (local s) e ∙ h (suc i) (omega (arith, lt)))) in
    λ i. here i ∷ more i

frame_held : (vars : List PlainVariable) (held s : List Held) → Holds vars held s → held_in 0 (length vars) (local s) ≡ held
frame_held vars held s h =
    ap (λ n. held_in 0 n (local s)) (sym h.size)
    ∙ held_same 0 held s (λ i lt. (let e : 0 + i ≡ i = omega arith in ap (local s) e ∙ h.same i (omega (arith, lt, h.size))))

opened_same : (b : Bool) (opened : List ℕ) → Tracks b opened → opened_in (with_block b opened []) ≡ opened
opened_same true opened t = refl
opened_same false opened t = sym t

-- ## The table

linked_more : (p : PlainProgram) (code : List Op) (at q : ℕ) (fs : List PlainFunction) (more : List Entry) → Stands code at (functions_code p at fs) q → (k : ℕ) → AreEntries p code (slice_get fs k) (slice_get (functions_entries p at fs ++ more) k)
linked_more p code at q [] more h k = tt
linked_more p code at q (f ∷ fs) more h zero = linked_from p code at q (f ∷ fs) h zero
linked_more p code at q (f ∷ fs) more h (suc k) = linked_more p code (at + length (function_code p f at)) q fs more (rear code at q (function_code p f at) _ h) k

last_entry : (p : PlainProgram) (at : ℕ) (fs : List PlainFunction) (e : Entry) → slice_get (functions_entries p at fs ++ e ∷ []) (length fs) ≡ Some e
last_entry p at [] e = refl
last_entry p at (f ∷ fs) e = last_entry p (at + length (function_code p f at)) fs e

-- what stands from a slot on, one by one
held_there : (t n k : ℕ) (look : ℕ → Held) → k < n → get_or (held_in t n look) k absent ≡ look (t + k)
held_there t zero k look lt = absurd (omega (arith, lt))
held_there t (suc n) zero look lt = let e : t ≡ t + 0 = omega arith in ap look e
held_there t (suc n) (suc k) look lt = let e : t + 1 + k ≡ t + suc k = omega arith in held_there (t + 1) n k look (omega (arith, lt)) ∙ ap look e

held_length : (t n : ℕ) (look : ℕ → Held) → length (held_in t n look) ≡ n
held_length t zero look = refl
held_length t (suc n) look = ap suc (held_length (t + 1) n look)

module _ (p : PlainProgram) (f : PlainFunction) (i : ℕ) (task : Task) (n : ℕ) (first : Held) (main : slice_get p.functions p.main ≡ Some f) where
  abbrev code : List Op
  code = whole_code p f i task

  abbrev entries : List Entry
  entries = whole_entries p f i task

  abbrev T : ℕ
  T = length (code_of p)

  abbrev first_at : ℕ
  first_at = T + 2

  abbrev turn_at : ℕ
  turn_at = first_at + length (first_code p f i first_at)

  abbrev vars : List PlainVariable
  vars = f.variables

  abbrev b : Bool
  b = has_objects f.variables

  -- how many slots its frame has
  abbrev size : ℕ
  size = length f.variables + task_room f i task

  abbrev rests : Frame → Standing
  rests = standing_of p f i task

  -- what stands under it
  abbrev u : Under
  u = record { below = first ∷ []; callers = goes_back (T + 1) 0 0 no_depth ∷ []; blocks = []; depth = deeper f no_depth }

  all_there : Stands code 0 code (0 + length code)
  all_there = whole [] code

  functions_there : Stands code 2 (functions_code p 2 p.functions) (0 + T)
  functions_there = (front code 0 (0 + length code) (code_of p) (task_code p f i task T) all_there).1.1

  task_there : Stands code T (task_code p f i task T) (0 + length code)
  task_there = stands_at code (0 + T) T (0 + length code) (task_code p f i task T) (omega arith) (rear code 0 (0 + length code) (code_of p) (task_code p f i task T) all_there)

  parts_there : Stands code first_at (first_code p f i first_at ++ turn_code p f task turn_at) (0 + length code)
  parts_there = stands_at code (T + 1 + 1) first_at (0 + length code) (first_code p f i first_at ++ turn_code p f task turn_at) (omega arith) task_there.1.1

  first_there : Stands code first_at (first_code p f i first_at) turn_at
  first_there = front code first_at (0 + length code) (first_code p f i first_at) (turn_code p f task turn_at) parts_there

  turn_there : Stands code turn_at (turn_code p f task turn_at) (0 + length code)
  turn_there = rear code first_at (0 + length code) (first_code p f i first_at) (turn_code p f task turn_at) parts_there

  calls : (blocks : List (List ℕ)) → CallsRun p code entries (record u { blocks = blocks }) (call_at n p (deeper f no_depth)) n
  calls blocks = call_law p code entries (linked_more p code 2 (0 + T) p.functions (task_entry f i task first_at ∷ []) functions_there) n (record u { blocks = blocks })

  -- the run is over
  over_runs : (x : Option Scalar) (blocks : List (List ℕ)) (k : ℕ) (s : List Held) (w : State) → Reaches p code entries (leave_call x (stand (record u { blocks = blocks }) k s w)) (gives (over_with x) w)
  over_runs x blocks k s w =
      free_op p code entries (record { below = []; callers = []; blocks = blocks; depth = no_depth }) (T + 1) no_span (return 0 (Some (slot 0))) (cell_of x ∷ []) w (gives (over_with x) w) task_there.1.0
      (off_reaches p code entries (gives (over_with x) w) tt)

  -- the machine rests
  rests_at : (d k : ℕ) (frame : Frame) (s : List Held) (w : State) (go : State → Progress Rest) → slice_get code k ≡ Some (op d no_span (rest (length vars))) → ((w : State) → go w ≡ gives (at_loop (rests frame)) w) → length s ≡ size → Holds vars frame.held s → Tracks b frame.opened → To p code entries (over u b frame.opened []) k s w (owed d w go)
  rests_at d k frame s w go at e len h t =
      comes_to p code entries _ _ _ (owed_same d w go (λ w. gives (at_loop (rests frame)) w) e)
      (pay p code entries (over u b frame.opened []) k d no_span (rest (length vars)) s w (λ w. gives (at_loop (rests frame)) w) at
      (λ w1 e1.
      (let eh : held_in 0 (length vars) (look (stand (over u b frame.opened []) k s w1)) ≡ frame.held = ap (held_in 0 (length vars)) (look_here (over u b frame.opened []) k s w1) ∙ frame_held vars frame.held s h in
      let eo : opened_in (with_block b frame.opened []) ≡ frame.opened = opened_same b frame.opened t in
      let es : suc (length s) ≡ 1 + size = omega (arith, len) in
      comes_from p code entries _ (off (gives (at_loop (rests frame)) w1)) _ (λ i. off (gives (at_loop (record (rests frame) { frame = record { held = eh i; opened = eo i }; size = es i })) w1))
      (off_reaches p code entries (gives (at_loop (rests frame)) w1) (subst (λ o. IsFrameIn o frame) (sym main) (record { kinds = h.kinds; tracks = t }))))))

  -- how the first part ends
  first_flows : (flow : Flow) (end k : ℕ) (frame : Frame) (s : List Held) (w : State) → slice_get code end ≡ Some (op 1 no_span (rest (length vars))) → length s ≡ size → Holds vars frame.held s → Tracks b frame.opened →
      Reaches p code entries (resume (task_exits first_at first_at) end flow (stand (over u b frame.opened []) k s w)) (and_then (go_on flow frame w (λ frame w. step w (λ w. goes frame w))) (λ d w. first_rest rests d.flow d.frame w))
  first_flows normal end k frame s w at len h t =
      comes_to p code entries _ _ _ (step_is_owed w (λ w. goes frame w) (λ d w. first_rest rests d.flow d.frame w)) (rests_at 1 end frame s w (λ w. and_then (goes frame w) (λ d w. first_rest rests d.flow d.frame w)) at (λ w. refl) len h t)
  first_flows broken end k frame s w at len h t = free_op p code entries (over u b frame.opened []) first_at no_span (return 0 None) s w (gives (over_with None) w) first_there.0 (over_runs None (with_block b frame.opened []) first_at s w)
  first_flows continued end k frame s w at len h t = free_op p code entries (over u b frame.opened []) first_at no_span (return 0 None) s w (gives (over_with None) w) first_there.0 (over_runs None (with_block b frame.opened []) first_at s w)
  first_flows (returned x) end k frame s w at len h t = over_runs x (with_block b frame.opened []) k s w

  first_exact : (w : State) → w.left ≤ n → Reaches p code entries (on (record (start w) { pc = T; slots = first ∷ [] })) (and_then (before_task (setting_of p n (call_at n p) (deeper f no_depth) f) f i (deeper f no_depth) w) (λ d w. first_rest rests d.flow d.frame w))
  first_exact w le =
      let depth : Depth = deeper f no_depth in
      let g : Setting = setting_of p n (call_at n p) depth f in
      let R : Done → State → Progress Rest = λ d w. first_rest rests d.flow d.frame w in
      let G : Done → State → Progress Done = λ d w. go_on d.flow d.frame w (λ frame w. step w (λ w. goes frame w)) in
      let X : State → Progress Done = λ w. and_then (execute_from g 0 (first_items f i) (entered f.variables [] (raised depth w)).frame (entered f.variables [] (raised depth w)).state) G in
      let e : Entry = task_entry f i task first_at in
      let u0 : Under = record { below = []; callers = []; blocks = []; depth = no_depth } in
      let body : List Op = statements_code (site_of p f) (task_exits first_at first_at) (first_at + 1) (first_items f i) in
      let last : List Op = op 1 no_span (rest (length vars)) ∷ [] in
      comes_to p code entries _ _ _ (step_is_owed w X R)
      (pay p code entries u0 T 1 no_span (call 0 p.main (length p.functions) 0 0) (first ∷ []) w (λ w. and_then (X w) R) task_there.0
      (λ w1 e1.
      (let w2 : State = raised depth w1 in
      let es : Entered = entered f.variables [] w2 in
      let h : Enters f.variables w2 es = enters f.variables [] w2 in
      let s2 : List Held = es.frame.held ++ replicate e.room absent in
      let size2 : length s2 ≡ length vars + task_room f i task = omega (arith, length-append es.frame.held (replicate e.room absent), h.size, length-replicate {A = Held} e.room absent) in
      let holds_it : Holds vars es.frame.held s2 = record { size = h.size; room = omega (arith, size2); same = λ k lt. get_or_append_left es.frame.held (replicate e.room absent) absent k (omega (arith, lt, h.size)); kinds = h.kinds } in
      let fits : Fits vars n (statements_need (first_items f i)) b es.frame s2 es.state = record { room = omega (arith, size2); variables = holds_it; tracks = enters_tracked f.variables w2 es h b refl; bound = omega (arith, h.left, le, e1) } in
      comes_from p code entries _ (enter (Some f) (Some e) 0 [] (stand u0 T (first ∷ []) w1)) _
      (λ j. enter (main j) (last_entry p 2 p.functions e j) 0 [] (stand u0 T (first ∷ []) w1))
      (comes_to p code entries _ _ _ (assoc (execute_from g 0 (first_items f i) es.frame es.state) G R)
      (statements_law p code entries u vars (call_at n p depth) n calls (first_items f i) b [] (task_exits first_at first_at) (first_at + 1) (first_at + 1 + length body) es.frame s2 es.state (λ d w. and_then (G d w) R)
      fits
      (may_in f.variables (first_items f i) b refl) (front code (first_at + 1) turn_at body last first_there.1)
      (λ flow frame1 s1 w3 k t. first_flows flow (first_at + 1 + length body) k frame1 s1 w3 (rear code (first_at + 1) turn_at body last first_there.1).0 (omega (arith, t.len, size2)) t.variables t.tracks))))))

  -- ## Turns

  -- how a turn ends
  turn_flows : (flow : Flow) (end k : ℕ) (frame : Frame) (s : List Held) (w : State) → slice_get code end ≡ Some (op 0 no_span (rest (length vars))) → length s ≡ size → Holds vars frame.held s → Tracks b frame.opened →
      Reaches p code entries (resume (task_exits turn_at (turn_at + 1)) end flow (stand (over u b frame.opened []) k s w)) (turn_rest rests flow frame w)
  turn_flows normal end k frame s w at len h t = comes_to p code entries _ _ _ (sym (owed_zero w (λ w. gives (at_loop (rests frame)) w))) (rests_at 0 end frame s w (λ w. gives (at_loop (rests frame)) w) at (λ w. refl) len h t)
  turn_flows continued end k frame s w at len h t = comes_to p code entries _ _ _ (sym (owed_zero w (λ w. gives (at_loop (rests frame)) w))) (rests_at 0 (turn_at + 1) frame s w (λ w. gives (at_loop (rests frame)) w) turn_there.1.0 (λ w. refl) len h t)
  turn_flows broken end k frame s w at len h t = free_op p code entries (over u b frame.opened []) turn_at no_span (return 0 None) s w (gives (over_with None) w) turn_there.0 (over_runs None (with_block b frame.opened []) turn_at s w)
  turn_flows (returned x) end k frame s w at len h t = over_runs x (with_block b frame.opened []) k s w

  -- the body of a turn
  body_runs : (at : ℕ) → Stands code at (statement_code (site_of p f) (task_exits turn_at (turn_at + 1)) at task.body ++ op 0 no_span (rest (length vars)) ∷ []) (0 + length code) → (frame : Frame) (s : List Held) (w : State) → length s ≡ size → Fits vars n (need task.body) b frame s w →
      To p code entries (over u b frame.opened []) at s w (and_then (execute (setting_of p n (call_at n p) (deeper f no_depth) f) task.body frame w) (λ d w. turn_rest rests d.flow d.frame w))
  body_runs at h frame s w len fits =
      let body : List Op = statement_code (site_of p f) (task_exits turn_at (turn_at + 1)) at task.body in
      statement_law p code entries u vars (call_at n p (deeper f no_depth)) n calls task.body b [] (task_exits turn_at (turn_at + 1)) at (at + length body) frame s w (λ d w. turn_rest rests d.flow d.frame w) fits (may_at f.variables task.body b refl) (front code at (0 + length code) body (op 0 no_span (rest (length vars)) ∷ []) h)
      (λ flow frame1 s1 w1 k t. turn_flows flow (at + length body) k frame1 s1 w1 (rear code at (0 + length code) body (op 0 no_span (rest (length vars)) ∷ []) h).0 (omega (arith, t.len, len)) t.variables t.tracks)

  turn_case : (more : Bool) (at : ℕ) → Stands code at (statement_code (site_of p f) (task_exits turn_at (turn_at + 1)) at task.body ++ op 0 no_span (rest (length vars)) ∷ []) (0 + length code) → (frame : Frame) (s : List Held) (w : State) → length s ≡ size → Fits vars n (need task.body) b frame s w →
      To p code entries (over u b frame.opened []) (if more then at else turn_at) s w (and_then (if more then execute (setting_of p n (call_at n p) (deeper f no_depth) f) task.body frame w else flows broken frame w) (λ d w. turn_rest rests d.flow d.frame w))
  turn_case true at h frame s w len fits = body_runs at h frame s w len fits
  turn_case false at h frame s w len fits = free_op p code entries (over u b frame.opened []) turn_at no_span (return 0 None) s w (gives (over_with None) w) turn_there.0 (over_runs None (with_block b frame.opened []) turn_at s w)

  -- a turn, by its test
  tested_runs : (tested : Option PlainValue) → test_height tested ≤ test_height task.tested →
      Stands code (turn_at + 2)
      (task_test_code p f tested (turn_at + 2) turn_at ++ (statement_code (site_of p f) (task_exits turn_at (turn_at + 1)) (turn_at + 2 + length (task_test_code p f tested (turn_at + 2) turn_at)) task.body ++ op 0 no_span (rest (length vars)) ∷ [])) (0 + length code) →
      (frame : Frame) (s : List Held) (w : State) → length s ≡ size → Fits vars n (task_room f i task) b frame s w →
      To p code entries (over u b frame.opened []) (turn_at + 2) s w
      (and_then (and_then (task_test (setting_of p n (call_at n p) (deeper f no_depth) f) tested frame w) (λ more w. if more then execute (setting_of p n (call_at n p) (deeper f no_depth) f) task.body frame w else flows broken frame w)) (λ d w. turn_rest rests d.flow d.frame w))
  tested_runs None le h frame s w len fits =
      let z : turn_at + 2 + 0 ≡ turn_at + 2 = omega arith in
      body_runs (turn_at + 2) (subst (λ k. Stands code (turn_at + 2) (statement_code (site_of p f) (task_exits turn_at (turn_at + 1)) k task.body ++ op 0 no_span (rest (length vars)) ∷ []) (0 + length code)) z h) frame s w len (fits_less vars n (task_room f i task) (need task.body) b frame s w w fits (omega arith) (omega arith))
  tested_runs (Some v) le h frame s w len fits =
      let g : Setting = setting_of p n (call_at n p) (deeper f no_depth) f in
      let hh : ℕ = task_room f i task in
      let hit : ℕ = turn_at + 2 + test_length (site_of p f) 0 (turn_at + 2) v in
      let ct : List Op = test_code (site_of p f) no_span 0 (turn_at + 2) v hit turn_at in
      let lt : length ct ≡ test_length (site_of p f) 0 (turn_at + 2) v = length-append (value_code (site_of p f) (length vars) (length vars + 1) 0 (turn_at + 2) v) (op (debt 0 v) no_span (branch (operand (site_of p f) (length vars) v) hit turn_at) ∷ []) in
      let at : turn_at + 2 + length ct ≡ hit = omega (arith, lt) in
      let tail : List Op = statement_code (site_of p f) (task_exits turn_at (turn_at + 1)) (turn_at + 2 + length ct) task.body ++ op 0 no_span (rest (length vars)) ∷ [] in
      let B : Bool → State → Progress Done = λ more w. if more then execute g task.body frame w else flows broken frame w in
      let R : Done → State → Progress Rest = λ d w. turn_rest rests d.flow d.frame w in
      comes_to p code entries _ _ _
      (assoc (test g (Some v) frame w) B R ∙ assoc (evaluate g frame.held v w) (λ x w. gives (is_true x) w) (λ more w. and_then (B more w) R) ∙ sym (owed_zero w (λ w. and_then (evaluate g frame.held v w) (λ x w. and_then (B (is_true x) w) R))))
      (test_runs p code entries u vars (call_at n p (deeper f no_depth)) n calls v 0 b [] (turn_at + 2) hit turn_at (turn_at + 2 + length ct) hh no_span frame s w (λ x w. and_then (B (is_true x) w) R) fits (omega (arith, le)) (front code (turn_at + 2) (0 + length code) ct tail h)
      (λ x s1 w1 t later.
      turn_case (is_true x) hit (subst (λ k. Stands code k (statement_code (site_of p f) (task_exits turn_at (turn_at + 1)) k task.body ++ op 0 no_span (rest (length vars)) ∷ []) (0 + length code)) at (rear code (turn_at + 2) (0 + length code) ct tail h)) frame s1 w1 (omega (arith, t.len, len))
      (fits_on vars n hh (need task.body) b frame frame s s1 w w1 fits t (omega arith))))

  turn_exact : (frame : Frame) (s : List Held) (w : State) → IsFrameOf f frame → length s ≡ size → length frame.held ≡ length vars → ((k : ℕ) → k < length vars → get_or s k absent ≡ get_or frame.held k absent) → w.left ≤ n →
      To p code entries (over u b frame.opened []) (turn_at + 2) s w (and_then (task_turn (setting_of p n (call_at n p) (deeper f no_depth) f) task frame w) (λ d w. turn_rest rests d.flow d.frame w))
  turn_exact frame s w kinds len held same le =
      let at : turn_at + 1 + 1 ≡ turn_at + 2 = omega arith in
      let ct : List Op = task_test_code p f task.tested (turn_at + 2) turn_at in
      let parts : List Op = ct ++ (statement_code (site_of p f) (task_exits turn_at (turn_at + 1)) (turn_at + 2 + length ct) task.body ++ op 0 no_span (rest (length vars)) ∷ []) in
      tested_runs task.tested (omega arith) (stands_at code (turn_at + 1 + 1) (turn_at + 2) (0 + length code) parts at turn_there.1.1) frame s w len
      (record { room = omega (arith, len); variables = record { size = held; room = omega (arith, len); same = same; kinds = kinds.kinds }; tracks = kinds.tracks; bound = le })

-- ## How the machine stands before a turn

module _ (p : PlainProgram) (f : PlainFunction) (i : ℕ) (task : Task) (n : ℕ) (main : slice_get p.functions p.main ≡ Some f) (frame : Frame) (kinds : IsFrameOf f frame) where
  turn_with : (slots : List Held) (c : Config) → c.slots ≡ slots → c.pc ≡ turn_place p f i → standing_in (length f.variables) c ≡ standing_of p f i task frame → c.state.left ≤ n →
      Reaches p (whole_code p f i task) (whole_entries p f i task) (on c)
      (and_then (task_turn (setting_of p n (call_at n p) (deeper f no_depth) f) task frame c.state) (λ d w. turn_rest (standing_of p f i task) d.flow d.frame w))
  turn_with [] c there at standing le = absurd (let e : length c.slots ≡ 0 = ap length there in omega (arith, e, ap (λ (x : Standing). x.size) standing))
  turn_with (first ∷ s) c there at standing le =
      let vars : List PlainVariable = f.variables in
      let v : Under = record { below = first ∷ []; callers = goes_back (length (code_of p) + 1) 0 0 no_depth ∷ []; blocks = with_block (has_objects vars) frame.opened []; depth = deeper f no_depth } in
      let held : held_in 0 (length vars) (look c) ≡ frame.held = ap (λ (x : Standing). x.frame.held) standing in
      let is : c ≡ stand v (turn_place p f i) s c.state = (λ j. record { pc = at j; slots = there j; base = (standing j).base; callers = (standing j).callers; blocks = (standing j).blocks; depth = (standing j).depth; state = c.state }) in
      let len : length s ≡ length vars + task_room f i task = (let e : length c.slots ≡ suc (length s) = ap length there in omega (arith, e, ap (λ (x : Standing). x.size) standing)) in
      comes_from p (whole_code p f i task) (whole_entries p f i task) (on c) (on (stand v (turn_place p f i) s c.state)) _ (ap on is)
      (turn_exact p f i task n first main frame s c.state kinds len (ap length (sym held) ∙ held_length 0 (length vars) (look c))
      (λ k lt.
      (let e : 0 + k ≡ k = omega arith in
      sym (ap (λ (l : ℕ → Held). l k) (look_here v (turn_place p f i) s c.state)) ∙ (sym (ap (λ c. look c k) is) ∙ (sym (ap (look c) e) ∙ (sym (held_there 0 (length vars) k (look c) lt) ∙ ap (λ xs. get_or xs k absent) held)))))
      le)

pub first_part_is_exact : FirstPartIsExact
first_part_is_exact p f i task n w main le = first_exact p f i task n absent main w le

pub turn_is_exact : TurnIsExact
turn_is_exact p f i task n frame c main kinds at standing le = turn_with p f i task n main frame kinds c.slots c refl at standing le
