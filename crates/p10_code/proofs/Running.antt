-- The code of calls does what they mean, and so does that of a program.
use Rattle.std.proofs.Common.{◌≡◌, ℕ, zero, suc, ◌+◌, ◌-◌, ◌≤◌, Bool, true, false, List, [], ◌∷◌, ◌++◌, length, take, replicate, Option, Some, None, refl, sym, ap, ◌∙◌, subst, ⊎_elim, arith, append_assoc, length-append}
use Rattle.std.specs.Prelude.{slice_get, slice_set, nat_le}
use Rattle.std.proofs.Math.Seq.{take-append_seam, get_or-append_seam}
use Rattle.std.proofs.lemmas.Bool.{cases_lt, le-leb, lt-leb}
use Rattle.std.proofs.lemmas.List.{length-replicate, set-append_right, get_or_append_left}
use Rattle.std.proofs.lemmas.Option.{slice_get-get_or}
use Rattle.p10_core.specs.Typed.{PlainFunction, PlainProgram}
use Rattle.p10_meaning.specs.declared.pointers.Scalar.{Scalar}
use Rattle.p10_meaning.specs.Objects.{all_closed}
use Rattle.p10_meaning.specs.States.{State, StepsSpent, Progress, gives, ends, and_then}
use Rattle.p10_meaning.specs.Values.{Held, absent}
use Rattle.p10_meaning.specs.Statements.{Flow, normal, broken, continued, returned, execute_from}
use Rattle.p10_meaning.specs.Calling.{Depth, no_depth, deeper, raised, Entered, entered, given, leave_call as left_call, setting_of, enter_call, call_at}
use Rattle.p10_code.specs.Frames.{has_objects}
use Rattle.p10_code.specs.Operations.{slot, call, return, Op, Entry}
use Rattle.p10_code.specs.Machine.{Caller, Rest, on, over as over_with, cell_of, gathered, close_blocks, with_block, enter, back, leave_call, Reaches}
use Rattle.p10_code.specs.StatementCode.{one_more, statements_need, statements_code}
use Rattle.p10_code.specs.ProgramCode.{no_span, site_of, function_exits, no_return, function_code, functions_code, functions_entries, code_of, entries_of}
use Rattle.p10_code.specs.Law.{CodeIsExact}
use Rattle.p10_code.proofs.Base.{owed, owed_step, owed_zero, assoc, Stands, front, rear, Holds, Under, stand, look_here, put_runs, To, comes_to, comes_from, placed, pay, free_op, off_reaches}
use Rattle.p10_code.proofs.ValueParts.{CallsRun}
use Rattle.p10_code.proofs.StatementParts.{Tracks, Fits, resume, over}
use Rattle.p10_code.proofs.StatementLaw.{statements_law}
use Rattle.p10_code.proofs.Entering.{Enters, enters, enters_tracked, may_in}

-- an entry of the table stands for a function
pub record IsEntry (p : PlainProgram) (code : List Op) (f : PlainFunction) (e : Entry) : Type 0 where
  pub before : ℕ
  pub past : ℕ
  pub start_at : e.at ≡ before + 1
  pub there : Stands code before (function_code p f before) past
  pub room : e.room ≡ statements_need f.body
  pub tracked : e.tracked ≡ has_objects f.variables

abbrev pub AreEntries : PlainProgram → List Op → Option PlainFunction → Option Entry → Type 0
AreEntries p code None e = Unit {0}
AreEntries p code (Some f) None = ⊥
AreEntries p code (Some f) (Some e) = IsEntry p code f e

abbrev pub goes_back : ℕ → ℕ → ℕ → Depth → Caller
goes_back pc base k depth = record { pc = pc; base = base; to = k; depth = depth }

-- the frame of a call goes, and the value is written in the frame below
back_here : (u : Under) (s s1 : List Held) (there : Depth) (pc i k : ℕ) (x : Option Scalar) (w : State) →
    back (goes_back pc (length u.below) k u.depth ∷ u.callers) x (stand (record { below = u.below ++ s; callers = goes_back pc (length u.below) k u.depth ∷ u.callers; blocks = u.blocks; depth = there }) i s1 w) ≡ on (stand u pc (slice_set s k (cell_of x)) w)
back_here u s s1 there pc i k x w =
    let ts : take (length (u.below ++ s)) ((u.below ++ s) ++ s1) ≡ u.below ++ s = take-append_seam (u.below ++ s) s1 in
    let e : length u.below + k - length u.below ≡ k = omega arith in
    let st : slice_set (u.below ++ s) (length u.below + k) (cell_of x) ≡ u.below ++ slice_set s k (cell_of x) =
    set-append_right u.below s (length u.below) (length u.below + k) (cell_of x) refl (omega arith) ∙ ap (λ i. u.below ++ slice_set s i (cell_of x)) e in
    ap (λ (l : List Held). on (record (stand u pc s w) { slots = l })) (ap (λ l. slice_set l (length u.below + k) (cell_of x)) ts ∙ st)

too_few : {A : Type 0} (d : ℕ) (w : State) (go : State → Progress A) → w.left ≤ d → owed d w (λ w. ends StepsSpent w) ≡ owed (d + 1) w go
too_few d w go le =
    let g : nat_le (d + 1) w.left ≡ false = lt-leb (d + 1) w.left (omega arith) in
    ⊎_elim
    (λ lt. (let f : nat_le d w.left ≡ false = lt-leb d w.left lt in rw (f, g)))
    (λ ge. (let f : nat_le d w.left ≡ true = le-leb d w.left ge in let h : w.left - d ≡ 0 = omega arith in rw (f, g) (ap (λ n. ends StepsSpent (record w { left = n })) h)))
    (cases_lt w.left d)

module _ (p : PlainProgram) (code : List Op) (entries : List Entry) (linked : (k : ℕ) → AreEntries p code (slice_get p.functions k) (slice_get entries k)) where
  -- a function is left: its outermost block is closed
  left_by : (b : Bool) (u : Under) (s s1 : List Held) (there : Depth) (opened : List ℕ) (pc i k : ℕ) (x : Option Scalar) (w : State) (o : Progress Rest) → Tracks b opened → To p code entries u pc (slice_set s k (cell_of x)) (record w { objects = all_closed opened w.objects }) o →
      Reaches p code entries (leave_call x (close_blocks (one_more b 0) (stand (over (record { below = u.below ++ s; callers = goes_back pc (length u.below) k u.depth ∷ u.callers; blocks = u.blocks; depth = there }) b opened u.blocks) i s1 w))) o
  left_by true u s s1 there opened pc i k x w o t r = comes_from p code entries _ (on (stand u pc (slice_set s k (cell_of x)) (record w { objects = all_closed opened w.objects }))) o (back_here u s s1 there pc i k x (record w { objects = all_closed opened w.objects })) r
  left_by false u s s1 there opened pc i k x w o t r =
      comes_from p code entries _ (on (stand u pc (slice_set s k (cell_of x)) w)) o (back_here u s s1 there pc i k x w)
      (subst (λ (opened : List ℕ). To p code entries u pc (slice_set s k (cell_of x)) (record w { objects = all_closed opened w.objects }) o) t r)

  -- how a body ends
  flow_case : (f : PlainFunction) (flow : Flow) (before next : ℕ) (u : Under) (s s1 : List Held) (there : Depth) (opened : List ℕ) (pc i k : ℕ) (w : State) (K : Option Scalar → State → Progress Rest) → slice_get code before ≡ Some (no_return f) → slice_get code next ≡ Some (no_return f) → Tracks (has_objects f.variables) opened →
      ((x : Option Scalar) → To p code entries u pc (slice_set s k (cell_of x)) (record w { objects = all_closed opened w.objects }) (K x (record w { objects = all_closed opened w.objects }))) →
      Reaches p code entries (resume (function_exits f before) next flow (stand (over (record { below = u.below ++ s; callers = goes_back pc (length u.below) k u.depth ∷ u.callers; blocks = u.blocks; depth = there }) (has_objects f.variables) opened u.blocks) i s1 w)) (K (given flow) (record w { objects = all_closed opened w.objects }))
  flow_case f normal before next u s s1 there opened pc i k w K hb hn t r =
      free_op p code entries _ next no_span (return (one_more (has_objects f.variables) 0) None) s1 w _ hn (left_by (has_objects f.variables) u s s1 there opened pc next k None w _ t (r None))
  flow_case f broken before next u s s1 there opened pc i k w K hb hn t r =
      free_op p code entries _ before no_span (return (one_more (has_objects f.variables) 0) None) s1 w _ hb (left_by (has_objects f.variables) u s s1 there opened pc before k None w _ t (r None))
  flow_case f continued before next u s s1 there opened pc i k w K hb hn t r =
      free_op p code entries _ before no_span (return (one_more (has_objects f.variables) 0) None) s1 w _ hb (left_by (has_objects f.variables) u s s1 there opened pc before k None w _ t (r None))
  flow_case f (returned x) before next u s s1 there opened pc i k w K hb hn t r = left_by (has_objects f.variables) u s s1 there opened pc i k x w _ t (r x)

  entered_runs : (m : ℕ) → ((u : Under) → CallsRun p code entries u (call_at m p u.depth) m) → (fo : Option PlainFunction) (eo : Option Entry) → AreEntries p code fo eo → (u : Under) (k pc q : ℕ) (xs : List Scalar) (s : List Held) (w : State) (K : Option Scalar → State → Progress Rest) → q ≡ pc + 1 → w.left ≤ m →
      ((x : Option Scalar) (w' : State) → w'.left ≤ w.left → To p code entries u q (slice_set s k (cell_of x)) w' (K x w')) →
      Reaches p code entries (enter fo eo k xs (stand u pc s w)) (and_then (enter_call p m (call_at m p) u.depth fo xs w) K)
  entered_runs m cr None eo h u k pc q xs s w K e wm after = put_runs p code entries u k pc q (cell_of None) s w (K None w) e (after None w (omega arith))
  entered_runs m cr (Some f) None h u k pc q xs s w K e wm after = absurd h
  entered_runs m cr (Some f) (Some en) h u k pc q xs s w K e wm after =
      let there : Depth = deeper f u.depth in
      let w1 : State = raised there w in
      let start_of : Entered = entered f.variables xs w1 in
      let es : Enters f.variables w1 start_of = enters f.variables xs w1 in
      let u2 : Under = record { below = u.below ++ s; callers = goes_back (pc + 1) (length u.below) k u.depth ∷ u.callers; blocks = u.blocks; depth = there } in
      let s2 : List Held = start_of.frame.held ++ replicate en.room absent in
      let b : Bool = has_objects f.variables in
      let body : List Op = statements_code (site_of p f) (function_exits f h.before) (h.before + 1) f.body in
      let last : List Op = no_return f ∷ [] in
      let rest : Stands code (h.before + 1) (body ++ last) h.past = h.there.1 in
      let size2 : length s2 ≡ length f.variables + statements_need f.body = omega (arith, length-append start_of.frame.held (replicate en.room absent), es.size, length-replicate {A = Held} en.room absent, h.room) in
      let holds_it : Holds f.variables start_of.frame.held s2 = record {
        size = es.size;
        room = omega (arith, size2);
        same = λ i lt. get_or_append_left start_of.frame.held (replicate en.room absent) absent i (omega (arith, lt, es.size));
        kinds = es.kinds;
      } in
      let fits : Fits f.variables m (statements_need f.body) b start_of.frame s2 start_of.state = record { room = omega (arith, size2); variables = holds_it; tracks = enters_tracked f.variables w1 start_of es b refl; bound = omega (arith, es.left, wm) } in
      let begins : stand (record u2 { blocks = with_block en.tracked start_of.frame.opened u.blocks }) en.at s2 start_of.state ≡ stand (over u2 b start_of.frame.opened u.blocks) (h.before + 1) s2 start_of.state =
      (λ i. stand (record u2 { blocks = with_block (h.tracked i) start_of.frame.opened u.blocks }) (h.start_at i) s2 start_of.state) in
      comes_from p code entries _ (on (stand (over u2 b start_of.frame.opened u.blocks) (h.before + 1) s2 start_of.state)) _ (ap on begins)
      (comes_to p code entries _ _ _ (assoc (execute_from (setting_of p m (call_at m p) there f) 0 f.body start_of.frame start_of.state) left_call K)
      (statements_law p code entries u2 f.variables (call_at m p there) m (λ blocks. cr (record u2 { blocks = blocks })) f.body b u.blocks (function_exits f h.before) (h.before + 1) (h.before + 1 + length body) start_of.frame s2 start_of.state (λ d w. and_then (left_call d w) K)
      fits (may_in f.variables f.body b refl) (front code (h.before + 1) h.past body last rest)
      (λ flow frame1 s3 w3 i t.
      flow_case f flow h.before (h.before + 1 + length body) u s s3 there frame1.opened (pc + 1) i k w3 K h.there.0 (rear code (h.before + 1) h.past body last rest).0 t.tracks
      (λ x. placed p code entries u (pc + 1) q (slice_set s k (cell_of x)) (record w3 { objects = all_closed frame1.opened w3.objects }) _ (sym e) (after x (record w3 { objects = all_closed frame1.opened w3.objects }) (omega (arith, t.later, es.left)))))))

  pub call_law : (m : ℕ) (u : Under) → CallsRun p code entries u (call_at m p u.depth) m
  call_law zero u k f t n d pc q span xs s w K at ex wm after =
      comes_to p code entries _ _ _ (too_few d w (λ w. K None w) (omega arith))
      (pay p code entries u pc (d + 1) span (call k f f t n) s w (K None) at.0 (λ w1 e1. absurd (omega arith)))
  call_law (suc m) u k f t n d pc q span xs s w K at ex wm after =
      comes_to p code entries _ _ _ (owed_step d w (λ w. enter_call p m (call_at m p) u.depth (slice_get p.functions f) xs w) K)
      (pay p code entries u pc (d + 1) span (call k f f t n) s w (λ w. and_then (enter_call p m (call_at m p) u.depth (slice_get p.functions f) xs w) K) at.0
      (λ w1 e1.
      comes_from p code entries _ (enter (slice_get p.functions f) (slice_get entries f) k xs (stand u pc s w1)) _
      (ap (λ l. enter (slice_get p.functions f) (slice_get entries f) k l (stand u pc s w1)) (ap (gathered t n) (look_here u pc s w1) ∙ ex))
      (entered_runs m (call_law m) (slice_get p.functions f) (slice_get entries f) (linked f) u k pc q xs s w1 K at.1 (omega arith)
      (λ x w2 later. after x w2 (omega arith)))))

-- ## The code of a program

get_here : (a : List Op) (x : Op) (b : List Op) → slice_get (a ++ x ∷ b) (length a) ≡ Some x
get_here a x b = slice_get-get_or (a ++ x ∷ b) (length a) x (omega (arith, length-append a (x ∷ b))) ∙ ap Some (get_or-append_seam a x b x)

pub whole : (a b : List Op) → Stands (a ++ b) (length a) b (length a + length b)
whole a [] = omega arith
whole a (x ∷ b) =
    let e : (a ++ x ∷ []) ++ b ≡ a ++ x ∷ b = append_assoc a (x ∷ []) b in
    let l : length (a ++ x ∷ []) ≡ length a + 1 = length-append a (x ∷ []) in
    let q : length a + 1 + length b ≡ length a + length (x ∷ b) = omega arith in
    (get_here a x b, subst (λ n. Stands (a ++ x ∷ b) (length a + 1) b n) q (subst (λ n. Stands (a ++ x ∷ b) n b (n + length b)) l (subst (λ c. Stands c (length (a ++ x ∷ [])) b (length (a ++ x ∷ []) + length b)) e (whole (a ++ x ∷ []) b))))

pub linked_from : (p : PlainProgram) (code : List Op) (at q : ℕ) (fs : List PlainFunction) → Stands code at (functions_code p at fs) q → (k : ℕ) → AreEntries p code (slice_get fs k) (slice_get (functions_entries p at fs) k)
linked_from p code at q [] h k = tt
linked_from p code at q (f ∷ fs) h zero = record {
  before = at;
  past = at + length (function_code p f at);
  start_at = refl;
  there = front code at q (function_code p f at) _ h;
  room = refl;
  tracked = refl;
}
linked_from p code at q (f ∷ fs) h (suc k) = linked_from p code (at + length (function_code p f at)) q fs (rear code at q (function_code p f at) _ h) k

pub code_is_exact : CodeIsExact
code_is_exact p n w le =
    let code : List Op = code_of p in
    let entries : List Entry = entries_of p in
    let all : Stands code 0 code (0 + length code) = whole [] code in
    let u : Under = record { below = []; callers = []; blocks = []; depth = no_depth } in
    let F : Option Scalar → State → Progress Rest = λ x w. gives (over_with x) w in
    comes_to p code entries _ _ _ (sym (owed_zero w (λ w. and_then (call_at n p no_depth p.main [] w) F)))
    (call_law p code entries (linked_from p code 2 (0 + length code) p.functions all.1.1) n u 0 p.main 0 0 0 0 1 no_span [] (absent ∷ []) w F (all.0, refl) refl (omega (arith, le))
    (λ x w1 later.
    free_op p code entries u 1 no_span (return 0 (Some (slot 0))) (cell_of x ∷ []) w1 (F x w1) all.1.0
    (off_reaches p code entries (F x w1) tt)))
