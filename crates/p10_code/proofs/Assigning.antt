-- The code of assignments does what they mean.
use Rattle.std.proofs.Common.{◌≡◌, ℕ, ◌+◌, ◌<◌, ◌≤◌, max, Bool, false, List, [], ◌∷◌, ◌++◌, length, Some, refl, sym, ap, ◌∙◌, subst, arith}
use Rattle.std.specs.Prelude.{slice_get, slice_set, Ok}
use Rattle.std.proofs.lemmas.List.{get_or-set_same}
use Rattle.std.proofs.lemmas.Option.{slice_get_within}
use Rattle.p10_base.specs.declared.span.Span.{Span}
use Rattle.p10_base.specs.declared.at.At.{At}
use Rattle.p10_int.specs.declared.operators.Stop.TheVariants.{U8}
use Rattle.p10_int.specs.declared.operators.BinOp.{BinOp}
use Rattle.p10_core.specs.declared.statements.UpdateKind.{UpdateKind}
use Rattle.p10_core.specs.Types.{PlainType, integer}
use Rattle.p10_core.specs.Typed.{PlainValue, PlainPlace, place_at, place_type, set as set_form, update as update_form, PlainVariable, PlainProgram}
use Rattle.p10_meaning.specs.declared.pointers.Ptr.{Ptr}
use Rattle.p10_meaning.specs.declared.pointers.Scalar.{Scalar}
use Rattle.p10_meaning.specs.declared.pointers.Scalar.TheVariants.{Pointer}
use Rattle.p10_meaning.specs.Pointers.{holding, read_of}
use Rattle.p10_meaning.specs.Objects.{on_ok, cell_at, write_at}
use Rattle.p10_meaning.specs.States.{State, Undefined, Progress, gives, ends, step, and_then, or_undefined}
use Rattle.p10_meaning.specs.Scalars.{integer_type, converted_to, operated, pointer_of}
use Rattle.p10_meaning.specs.Values.{Calls, Setting, Held, holds, absent, Target, Variable, Sensor, Element, read_target, sensed, evaluate, locate}
use Rattle.p10_meaning.specs.Statements.{Frame, normal, Done, goes, holding_at, write_target, execute_form}
use Rattle.p10_code.specs.Operations.{slot, class_of, update, content, compute, present, store, halt, Op, Entry}
use Rattle.p10_code.specs.Machine.{Rest, scalar_in, or_zero, converted_by, set_or_stop, with_block}
use Rattle.p10_code.specs.ValueCode.{op, Spot, in_frame, at_sensor, in_object, nowhere, spot_of, debt_by, place_debt, operand, debt, height, place_height, value_code, place_code}
use Rattle.p10_code.specs.StatementCode.{Exits, set_code, update_code, form_code}
use Rattle.p10_code.proofs.Base.{owed, owed_step, step_is_owed, owed_zero, owed_same, assoc, owed_assoc, result_then, then_same, ok_same, Stands, front, rear, joined, stands_at, local, FitsFlag, Holds, Kept, kept_set, kept_on, kept_both, kept_under, holds_kept, Under, To, comes_to, pay, compute_runs, off_reaches}
use Rattle.p10_code.proofs.Acts.{class_same, framed, present_then, check_then, sensed_then}
use Rattle.p10_code.proofs.ValueParts.{Ready, After, ready_after, site, setting, Spotted, CallsRun}
use Rattle.p10_code.proofs.Places.{IsSpot, place_is, IsFrame, place_frame}
use Rattle.p10_code.proofs.Values.{binary_class, variable_read}
use Rattle.p10_code.proofs.ValueLaw.{value_law, into_law, place_law}
use Rattle.p10_code.proofs.StatementParts.{Fits, ready_in, IsDeclared, done, over, Afterwards, PartRuns, still_frame, still_assigned, store_runs}

-- a frame variable may hold a cell
frame_declared : (vars : List PlainVariable) (n : ℕ) (x : Scalar) → IsFrame vars n → IsDeclared vars n (holds (holding x))
frame_declared vars n x (v, e, f) = record { variable = v; there = e; fits = subst (λ b. FitsFlag b (holds (holding x))) (sym f) tt }

module _ (p : PlainProgram) (code : List Op) (entries : List Entry) (u : Under) (vars : List PlainVariable) (call : Calls) (m : ℕ) (cr : (blocks : List (List ℕ)) → CallsRun p code entries (record u { blocks = blocks }) call m) where
  -- a statement's step, a part, and the rest
  pub node : {A B C : Type 0} (w : State) (o : State → Progress A) (G : A → State → Progress B) (K : B → State → Progress C) → and_then (step w (λ w. and_then (o w) G)) K ≡ owed 1 w (λ w. and_then (o w) (λ x w. and_then (G x w) K))
  node w o G K = step_is_owed w (λ w. and_then (o w) G) K ∙ owed_assoc 1 w o G K

  -- the place of an object
  pub object_place : (v : Under) → CallsRun p code entries v call m → (held : List _) (pl : PlainPlace) → spot_of (site p vars) pl ≡ in_object → (k t d pc q : ℕ) (s : List Held) (w : State) (K : Target → State → Progress Rest) → k < length s → Ready vars held m t (place_height pl) d s w →
      Stands code pc (place_code (site p vars) k t d pc pl) q → ((z : Ptr) (s' : List Held) (w' : State) → After 0 k t d 0 s w s' w' → local s' k ≡ holds (holding (Pointer z)) → To p code entries v q s' w' (K (Element z) w')) →
      To p code entries v pc s w (owed d w (λ w. and_then (locate (setting p vars call m) held pl w) K))
  object_place v cv held pl e k t d pc q s w K ks r has after =
      place_law p code entries v vars call m cv held pl k t d pc q s w K ks r has
      (λ target s1 w1 a spotted.
      (let none : place_debt (site p vars) d pl ≡ 0 = ap (λ x. debt_by x d) e in
      let (z, et, ez) = subst (λ x. Spotted x k target s1) e spotted in
      comes_to p code entries _ _ _ ((λ i. owed (none i) w1 (K (et i))) ∙ owed_zero w1 (K (Element z)))
      (after z s1 w1 (record { kept = a.kept; later = omega (arith, a.later, none) }) ez)))

  -- a place that stops the run
  pub nowhere_place : (v : Under) (held : List Held) (pl : PlainPlace) (d pc q : ℕ) (s : List Held) (w : State) (K : Target → State → Progress Rest) → spot_of (site p vars) pl ≡ nowhere → Holds vars held s → Stands code pc (op d (place_at pl).span (halt U8) ∷ []) q →
      To p code entries v pc s w (owed d w (λ w. and_then (locate (setting p vars call m) held pl w) K))
  nowhere_place v held pl d pc q s w K e h has =
      let is : (w : State) → locate (setting p vars call m) held pl w ≡ ends (Undefined U8 (place_at pl).span) w = subst (λ x. IsSpot p vars call m held s h pl x) e (place_is p vars call m held s h pl) in
      comes_to p code entries _ _ _ (owed_same d w _ (λ w. ends (Undefined U8 (place_at pl).span) w) (λ w. ap (λ o. and_then o K) (is w)))
      (pay p code entries v pc d (place_at pl).span (halt U8) s w (λ w. ends (Undefined U8 (place_at pl).span) w) has.0 (λ w1 e1. off_reaches p code entries (ends (Undefined U8 (place_at pl).span) w1) tt))

  -- the place of a frame variable
  pub frame_place : (v : Under) (held : List Held) (pl : PlainPlace) (n d pc q : ℕ) (s : List Held) (w : State) (K : Target → State → Progress Rest) → spot_of (site p vars) pl ≡ in_frame n → Holds vars held s → Stands code pc (op d (place_at pl).span (present n) ∷ []) q →
      ((w' : State) → w'.left + d ≡ w.left → slice_get held n ≡ Some (local s n) → To p code entries v q s w' (K (Variable n) w')) →
      To p code entries v pc s w (owed d w (λ w. and_then (locate (setting p vars call m) held pl w) K))
  frame_place v held pl n d pc q s w K e h has after =
      let (is, there) =
      subst (λ x. IsSpot p vars call m held s h pl x) e (place_is p vars call m held s h pl) in
      comes_to p code entries _ _ _ (owed_same d w _ (λ w. or_undefined (framed n (local s n)) (place_at pl).span w (λ target. K target w)) (λ w. ap (λ o. and_then o K) (is w) ∙ result_then (framed n (local s n)) (place_at pl).span w (λ target. gives target w) K))
      (present_then p code entries v n d pc q (place_at pl).span s w K has (λ w1 e1. after w1 e1 there))

  -- a sensor's place
  pub sensor_place : (held : List Held) (pl : PlainPlace) (s : List Held) → spot_of (site p vars) pl ≡ at_sensor → Holds vars held s → (w : State) → locate (setting p vars call m) held pl w ≡ gives Sensor w
  sensor_place held pl s e h = subst (λ x. IsSpot p vars call m held s h pl x) e (place_is p vars call m held s h pl)

  -- ## `P = e;`

  set_by : (here : At) (pl : PlainPlace) (v : PlainValue) (spot : Spot) → spot_of (site p vars) pl ≡ spot → (tracked : Bool) (bs : List (List ℕ)) (j : Exits) (pc q : ℕ) (frame : Frame) (s : List Held) (w : State) (K : Done → State → Progress Rest) → Fits vars m (2 + max (place_height pl) (height v)) tracked frame s w →
      Stands code pc (set_code (site p vars) spot here.span (place_at pl).span pc pl v) q → Afterwards p code entries u vars call m tracked bs j q s w K →
      To p code entries (over u tracked frame.opened bs) pc s w (owed 1 w (λ w. and_then (locate (setting p vars call m) frame.held pl w) (λ target w. and_then (evaluate (setting p vars call m) frame.held v w) (λ x w. and_then (write_target (place_at pl).span target (holding x) frame w) K))))
  set_by here pl v in_object e tracked bs j pc q frame s w K f has after =
      let n : ℕ = length vars in
      let h : ℕ = 2 + max (place_height pl) (height v) in
      let U : Under = over u tracked frame.opened bs in
      let cU : CallsRun p code entries U call m = cr (with_block tracked frame.opened bs) in
      let span : Span = (place_at pl).span in
      let cp : List Op = place_code (site p vars) n (n + 1) 1 pc pl in
      let cv : List Op = value_code (site p vars) (n + 1) (n + 2) 0 (pc + length cp) v in
      let last : List Op = op (debt 0 v) span (store (slot n) (operand (site p vars) (n + 1) v)) ∷ [] in
      let hv : Stands code (pc + length cp) (cv ++ last) q = rear code pc q cp (cv ++ last) has in
      object_place U cU frame.held pl e n (n + 1) 1 pc (pc + length cp) s w _ (omega (arith, f.room)) (ready_in vars m h (n + 1) (place_height pl) 1 tracked frame s w f (omega arith) (omega (arith, f.room))) (front code pc q cp (cv ++ last) has)
      (λ z s1 w1 a ez.
      comes_to p code entries _ _ _ (sym (owed_zero w1 (λ w. and_then (evaluate (setting p vars call m) frame.held v w) (λ x w. and_then (write_target span (Element z) (holding x) frame w) K))))
      (value_law p code entries U vars call m cU frame.held v (n + 1) (n + 2) 0 (pc + length cp) (pc + length cp + length cv) s1 w1 (λ x w. and_then (write_target span (Element z) (holding x) frame w) K) (omega (arith, f.room, a.kept.len))
      (ready_after vars frame.held m (n + 1) (place_height pl) 1 (n + 2) (height v) 0 0 n (n + 1) s s1 w w1 (ready_in vars m h (n + 1) (place_height pl) 1 tracked frame s w f (omega arith) (omega (arith, f.room))) a (omega arith) (omega arith) (omega arith) (omega (arith, f.room)))
      (front code (pc + length cp) q cv last hv)
      (λ x s2 w2 b ex.
      comes_to p code entries _ _ _ (owed_same (debt 0 v) w2 _ _ (λ w. result_then (write_at w.objects z (holding x)) span w (λ objects. goes frame (record w { objects = objects })) K))
      (store_runs p code entries u vars call m U (slot n) (operand (site p vars) (n + 1) v) z x (debt 0 v) (pc + length cp + length cv) q span s2 w2 (λ w. K (done normal frame) w) (rear code (pc + length cp) q cv last hv)
      (ap scalar_in (b.kept.same n (omega arith) (λ e. omega arith) ∙ ez)) ex
      (λ w3 e3 objects.
      after normal frame s2 (record w3 { objects = objects }) q
      (still_frame p code entries u vars call m h n n tracked frame s s2 w (record w3 { objects = objects }) f (omega arith) (omega arith) (kept_both n n (n + 1) n (n + 2) (n + 1) s s1 s2 (omega arith) (omega arith) (omega arith) (omega arith) a.kept b.kept) (omega (arith, a.later, b.later, e3))))))))
  set_by here pl v (in_frame i) e tracked bs j pc q frame s w K f has after =
      let n : ℕ = length vars in
      let h : ℕ = 2 + max (place_height pl) (height v) in
      let U : Under = over u tracked frame.opened bs in
      let cU : CallsRun p code entries U call m = cr (with_block tracked frame.opened bs) in
      let span : Span = (place_at pl).span in
      let is : IsFrame vars i = place_frame p vars pl i e in
      let lt : i < n = slice_get_within vars i is.0 is.1 in
      frame_place U frame.held pl i 1 pc (pc + 1) s w _ e f.variables (has.0, refl)
      (λ w1 e1 there.
      comes_to p code entries _ _ _ (sym (owed_zero w1 (λ w. and_then (evaluate (setting p vars call m) frame.held v w) (λ x w. and_then (write_target span (Variable i) (holding x) frame w) K))))
      (into_law p code entries U vars call m cU frame.held v i n 0 (pc + 1) q s w1 (λ x w. and_then (write_target span (Variable i) (holding x) frame w) K) (omega (arith, lt, f.room)) (record { free = omega arith; room = omega (arith, f.room); bound = omega (arith, f.bound, e1); variables = f.variables }) has.1
      (λ x s2 w2 b ex.
      after normal (holding_at frame i (holds (holding x))) s2 w2 q
      (still_assigned p code entries u vars call m h i (holds (holding x)) tracked frame s s2 w w2 f (frame_declared vars i x is) b.kept ex (omega (arith, b.later, e1))))))
  set_by here pl v at_sensor e tracked bs j pc q frame s w K f has after =
      let n : ℕ = length vars in
      let h : ℕ = 2 + max (place_height pl) (height v) in
      let U : Under = over u tracked frame.opened bs in
      let cU : CallsRun p code entries U call m = cr (with_block tracked frame.opened bs) in
      comes_to p code entries _ _ _ (owed_same 1 w _ _ (λ w. ap (λ o. and_then o (λ target w. and_then (evaluate (setting p vars call m) frame.held v w) (λ x w. and_then (write_target (place_at pl).span target (holding x) frame w) K))) (sensor_place frame.held pl s e f.variables w)))
      (into_law p code entries U vars call m cU frame.held v n (n + 1) 1 pc q s w _ (omega (arith, f.room)) (ready_in vars m h (n + 1) (height v) 1 tracked frame s w f (omega arith) (omega (arith, f.room))) has
      (λ x s2 w2 b ex.
      after normal frame s2 w2 q (still_frame p code entries u vars call m h (n + 1) n tracked frame s s2 w w2 f (omega arith) (omega arith) b.kept (omega (arith, b.later)))))
  set_by here pl v nowhere e tracked bs j pc q frame s w K f has after = nowhere_place (over u tracked frame.opened bs) frame.held pl 1 pc q s w _ e f.variables has

  pub set_runs : (here : At) (pl : PlainPlace) (v : PlainValue) → PartRuns p code entries u vars call m (2 + max (place_height pl) (height v)) false (λ j at. form_code (site p vars) j at here (set_form pl v)) (λ frame w. execute_form (setting p vars call m) here (set_form pl v) frame w)
  set_runs here pl v tracked bs j pc q frame s w K f o has after =
      let g : Setting = setting p vars call m in
      comes_to p code entries _ _ _
      (node w (λ w. locate g frame.held pl w) (λ target w. and_then (evaluate g frame.held v w) (λ x w. write_target (place_at pl).span target (holding x) frame w)) K
      ∙ owed_same 1 w _ _ (λ w. then_same (locate g frame.held pl w) _ _ (λ target w. assoc (evaluate g frame.held v w) (λ x w. write_target (place_at pl).span target (holding x) frame w) K)))
      (set_by here pl v (spot_of (site p vars) pl) refl tracked bs j pc q frame s w K f has after)

  -- ## `P op= e;`

  -- the value and the operator of an update, where the value that was read is in slot l; the result goes to slot k
  operator_runs : (v : Under) (cv : CallsRun p code entries v call m) (held : List Held) (o : BinOp) (t pt : PlainType) (here : Span) (e : PlainValue) (k l j pc q : ℕ) (x : Scalar) (s : List Held) (w : State) (W : Scalar → State → Progress Done) (K : Done → State → Progress Rest) →
      length vars ≤ j → j + 1 + height e ≤ length s → l < j → w.left ≤ m → Holds vars held s → scalar_in (local s l) ≡ Some x →
      Stands code pc (value_code (site p vars) j (j + 1) 0 pc e ++ op (debt 0 e + 1) here (compute k (update o (integer_type t) (class_of t) (class_of pt) (slot l) (operand (site p vars) j e))) ∷ []) q →
      ((z : Scalar) (s' : List Held) (w' : State) → Kept j j s s' → w'.left + 1 ≤ w.left → To p code entries v q (slice_set s' k (holds (holding (converted_to pt z)))) w' (and_then (W (converted_to pt z) w') K)) →
      To p code entries v pc s w (and_then (and_then (evaluate (setting p vars call m) held e w) (λ y w. step w (λ w. or_undefined (operated o t w.objects (converted_to t x) y) here w (λ z. W (converted_to pt z) w)))) K)
  operator_runs v cv held o t pt here e k l j pc q x s w W K nj room lj wm h ex has after =
      let g : Setting = setting p vars call m in
      let ce : List Op = value_code (site p vars) j (j + 1) 0 pc e in
      let last : List Op = op (debt 0 e + 1) here (compute k (update o (integer_type t) (class_of t) (class_of pt) (slot l) (operand (site p vars) j e))) ∷ [] in
      let R : Scalar → State → Progress Done = λ y w. step w (λ w. or_undefined (operated o t w.objects (converted_to t x) y) here w (λ z. W (converted_to pt z) w)) in
      comes_to p code entries _ _ _ (assoc (evaluate g held e w) R K ∙ sym (owed_zero w (λ w. and_then (evaluate g held e w) (λ y w. and_then (R y w) K))))
      (value_law p code entries v vars call m cv held e j (j + 1) 0 pc (pc + length ce) s w _ (omega (arith, room)) (record { free = omega arith; room = omega (arith, room); bound = omega arith; variables = h }) (front code pc q ce last has)
      (λ y s1 w1 a ey.
      comes_to p code entries _ _ _
      (owed_step (debt 0 e) w1 (λ w. or_undefined (operated o t w.objects (converted_to t x) y) here w (λ z. W (converted_to pt z) w)) K
      ∙ owed_same (debt 0 e + 1) w1 _ _ (λ w. result_then (operated o t w.objects (converted_to t x) y) here w (λ z. W (converted_to pt z) w) K ∙ ap (λ r. or_undefined r here w (λ z. and_then (W (converted_to pt z) w) K)) (binary_class o t w.objects (converted_to t x) y ∙ ap (λ x. operated o (integer false (integer_type t)) w.objects x y) (class_same t x))))
      (compute_runs p code entries (λ z. converted_by (class_of pt) z) v k (pc + length ce) q (debt 0 e + 1) (update o (integer_type t) (class_of t) (class_of pt) (slot l) (operand (site p vars) j e)) here s1 w1
      (λ objects. operated o (integer false (integer_type t)) objects (converted_by (class_of t) x) y) (λ z w. and_then (W (converted_to pt z) w) K) (rear code pc q ce last has)
      (λ objects. (λ i. on_ok (operated o (integer false (integer_type t)) objects (converted_by (class_of t) (or_zero ((ap scalar_in (a.kept.same l (omega arith) (λ e. omega arith)) ∙ ex) i))) (or_zero (ey i))) (λ z. Ok (converted_by (class_of pt) z))))
      (λ z w2 e2.
      subst (λ c. To p code entries v q (slice_set s1 k (holds (holding c))) w2 (and_then (W (converted_to pt z) w2) K)) (class_same pt z)
      (after z s1 w2 (kept_under j j (j + 1) j s s1 (omega arith) (omega arith) a.kept) (omega (arith, a.later, e2)))))))

  -- what an update does once its place is known
  abbrev Updated : BinOp → PlainType → Span → PlainPlace → PlainValue → Frame → Target → State → Progress Done
  Updated o t here pl v frame target w =
      step w (λ w. and_then (read_target (place_at pl).span (place_type pl) frame.held target w) (λ x w. and_then (evaluate (setting p vars call m) frame.held v w) (λ y w. step w (λ w. or_undefined (operated o t w.objects (converted_to t x) y) here w (λ z. write_target (place_at pl).span target (holding (converted_to (place_type pl) z)) frame w)))))

  -- the same after its step
  abbrev Reads : BinOp → PlainType → Span → PlainPlace → PlainValue → Frame → Target → Scalar → State → Progress Done
  Reads o t here pl v frame target x w =
      and_then (evaluate (setting p vars call m) frame.held v w) (λ y w. step w (λ w. or_undefined (operated o t w.objects (converted_to t x) y) here w (λ z. write_target (place_at pl).span target (holding (converted_to (place_type pl) z)) frame w)))

  update_by : (here : At) (o : BinOp) (t : PlainType) (pl : PlainPlace) (v : PlainValue) (spot : Spot) → spot_of (site p vars) pl ≡ spot → (tracked : Bool) (bs : List (List ℕ)) (j : Exits) (pc q : ℕ) (frame : Frame) (s : List Held) (w : State) (K : Done → State → Progress Rest) → Fits vars m (3 + max (place_height pl) (height v)) tracked frame s w →
      Stands code pc (update_code (site p vars) spot here.span (place_at pl).span pc o t pl v) q → Afterwards p code entries u vars call m tracked bs j q s w K →
      To p code entries (over u tracked frame.opened bs) pc s w (owed 1 w (λ w. and_then (locate (setting p vars call m) frame.held pl w) (λ target w. and_then (Updated o t here.span pl v frame target w) K)))
  update_by here o t pl v in_object e tracked bs j pc q frame s w K f has after =
      let n : ℕ = length vars in
      let h : ℕ = 3 + max (place_height pl) (height v) in
      let U : Under = over u tracked frame.opened bs in
      let cU : CallsRun p code entries U call m = cr (with_block tracked frame.opened bs) in
      let span : Span = (place_at pl).span in
      let pt : PlainType = place_type pl in
      let cp : List Op = place_code (site p vars) n (n + 1) 1 pc pl in
      let cv : List Op = value_code (site p vars) (n + 2) (n + 2 + 1) 0 (pc + length cp + 1) v in
      let l1 : Op = op (debt 0 v + 1) here.span (compute (n + 1) (update o (integer_type t) (class_of t) (class_of pt) (slot (n + 1)) (operand (site p vars) (n + 2) v))) in
      let l2 : Op = op 0 span (store (slot n) (slot (n + 1))) in
      let tail : List Op = cv ++ l1 ∷ l2 ∷ [] in
      let hr : Stands code (pc + length cp) (op 1 span (compute (n + 1) (content (slot n))) ∷ tail) q = rear code pc q cp _ has in
      let hv : Stands code (pc + length cp + 1) (cv ++ l1 ∷ []) (pc + length cp + 1 + length cv + 1) = (let a : Stands code (pc + length cp + 1) cv (pc + length cp + 1 + length cv) = front code (pc + length cp + 1) q cv (l1 ∷ l2 ∷ []) hr.1 in let b : Stands code (pc + length cp + 1 + length cv) (l1 ∷ l2 ∷ []) q = rear code (pc + length cp + 1) q cv (l1 ∷ l2 ∷ []) hr.1 in joined code (pc + length cp + 1) cv l1 a b.0) in
      let hs : Stands code (pc + length cp + 1 + length cv + 1) (l2 ∷ []) q = (rear code (pc + length cp + 1) q cv (l1 ∷ l2 ∷ []) hr.1).1 in
      object_place U cU frame.held pl e n (n + 1) 1 pc (pc + length cp) s w _ (omega (arith, f.room)) (ready_in vars m h (n + 1) (place_height pl) 1 tracked frame s w f (omega arith) (omega (arith, f.room))) (front code pc q cp _ has)
      (λ z s1 w1 a ez.
      comes_to p code entries _ _ _
      (step_is_owed w1 (λ w. and_then (read_target span pt frame.held (Element z) w) (λ x w. Reads o t here.span pl v frame (Element z) x w)) K
      ∙ owed_same 1 w1 _ _ (λ w. assoc (read_target span pt frame.held (Element z) w) (λ x w. Reads o t here.span pl v frame (Element z) x w) K ∙ result_then (on_ok (cell_at w.objects z) read_of) span w (λ x. gives x w) (λ x w. and_then (Reads o t here.span pl v frame (Element z) x w) K)))
      (compute_runs p code entries (λ x. x) U (n + 1) (pc + length cp) (pc + length cp + 1) 1 (content (slot n)) span s1 w1 (λ o. on_ok (cell_at o z) read_of) (λ x w. and_then (Reads o t here.span pl v frame (Element z) x w) K) (hr.0, refl)
      (λ o. ap (λ x. on_ok (cell_at o (pointer_of (or_zero (scalar_in x)))) read_of) ez ∙ ok_same (on_ok (cell_at o z) read_of))
      (λ x w2 e2.
      (let s2 : List Held = slice_set s1 (n + 1) (holds (holding x)) in
      let kx : Kept (n + 1) (n + 1) s1 s2 = kept_set (n + 1) (n + 1) (holds (holding x)) s1 in
      let k2 : Kept n n s s2 = kept_both n n (n + 1) n (n + 1) (n + 1) s s1 s2 (omega arith) (omega arith) (omega arith) (omega arith) a.kept kx in
      operator_runs U cU frame.held o t pt here.span v (n + 1) (n + 1) (n + 2) (pc + length cp + 1) (pc + length cp + 1 + length cv + 1) x s2 w2 (λ y w. write_target span (Element z) (holding y) frame w) K (omega arith) (omega (arith, f.room, k2.len)) (omega arith) (omega (arith, f.bound, a.later, e2)) (holds_kept vars n n frame.held s s2 (omega arith) (omega arith) k2 f.variables)
      (ap scalar_in (get_or-set_same s1 (n + 1) (holds (holding x)) absent (omega (arith, f.room, a.kept.len)))) hv
      (λ y s3 w3 k3 later.
      (let s4 : List Held = slice_set s3 (n + 1) (holds (holding (converted_to pt y))) in
      let k4 : Kept (n + 1) (n + 1) s3 s4 = kept_set (n + 1) (n + 1) (holds (holding (converted_to pt y))) s3 in
      comes_to p code entries _ _ _ (result_then (write_at w3.objects z (holding (converted_to pt y))) span w3 (λ objects. goes frame (record w3 { objects = objects })) K ∙ sym (owed_zero w3 (λ w. or_undefined (write_at w.objects z (holding (converted_to pt y))) span w (λ objects. K (done normal frame) (record w { objects = objects })))))
      (store_runs p code entries u vars call m U (slot n) (slot (n + 1)) z (converted_to pt y) 0 (pc + length cp + 1 + length cv + 1) q span s4 w3 (λ w. K (done normal frame) w) hs
      (ap scalar_in (k4.same n (omega arith) (λ e. omega arith) ∙ k3.same n (omega arith) (λ e. omega arith) ∙ kx.same n (omega arith) (λ e. omega arith) ∙ ez))
      (ap scalar_in (get_or-set_same s3 (n + 1) (holds (holding (converted_to pt y))) absent (omega (arith, f.room, k2.len, k3.len))))
      (λ w4 e4 objects.
      after normal frame s4 (record w4 { objects = objects }) q
      (still_frame p code entries u vars call m h n n tracked frame s s4 w (record w4 { objects = objects }) f (omega arith) (omega arith)
      (kept_both n n n n n n s s2 s4 (omega arith) (omega arith) (omega arith) (omega arith) k2 (kept_both n n (n + 2) (n + 2) (n + 1) (n + 1) s2 s3 s4 (omega arith) (omega arith) (omega arith) (omega arith) k3 k4)) (omega (arith, a.later, e2, later, e4)))))))))))
  update_by here o t pl v (in_frame i) e tracked bs j pc q frame s w K f has after =
      let n : ℕ = length vars in
      let h : ℕ = 3 + max (place_height pl) (height v) in
      let U : Under = over u tracked frame.opened bs in
      let cU : CallsRun p code entries U call m = cr (with_block tracked frame.opened bs) in
      let span : Span = (place_at pl).span in
      let pt : PlainType = place_type pl in
      let is : IsFrame vars i = place_frame p vars pl i e in
      let lt : i < n = slice_get_within vars i is.0 is.1 in
      frame_place U frame.held pl i 1 pc (pc + 1) s w _ e f.variables (has.0, refl)
      (λ w1 e1 there.
      comes_to p code entries _ _ _
      (step_is_owed w1 (λ w. and_then (read_target span pt frame.held (Variable i) w) (λ x w. Reads o t here.span pl v frame (Variable i) x w)) K
      ∙ owed_same 1 w1 _ _ (λ w. assoc (read_target span pt frame.held (Variable i) w) (λ x w. Reads o t here.span pl v frame (Variable i) x w) K ∙ ap (λ r. and_then r (λ x w. and_then (Reads o t here.span pl v frame (Variable i) x w) K)) (variable_read frame.held i span pt w (local s i) there) ∙ result_then (set_or_stop (scalar_in (local s i))) span w (λ x. gives x w) (λ x w. and_then (Reads o t here.span pl v frame (Variable i) x w) K)))
      (check_then p code entries U i 1 (pc + 1) (pc + 2) span s w1 (λ x w. and_then (Reads o t here.span pl v frame (Variable i) x w) K) (has.1.0, omega arith)
      (λ x w2 e2 ex.
      operator_runs U cU frame.held o t pt here.span v i i n (pc + 2) q x s w2 (λ y w. write_target span (Variable i) (holding y) frame w) K (omega arith) (omega (arith, f.room)) lt (omega (arith, f.bound, e1, e2)) f.variables ex (stands_at code (pc + 1 + 1) (pc + 2) q _ (omega arith) has.1.1)
      (λ y s3 w3 k3 later.
      (let s4 : List Held = slice_set s3 i (holds (holding (converted_to pt y))) in
      after normal (holding_at frame i (holds (holding (converted_to pt y)))) s4 w3 q
      (still_assigned p code entries u vars call m h i (holds (holding (converted_to pt y))) tracked frame s s4 w w3 f (frame_declared vars i (converted_to pt y) is)
      (kept_on n n i n s s3 s4 (omega arith) (omega arith) k3 (kept_set n i (holds (holding (converted_to pt y))) s3))
      (get_or-set_same s3 i (holds (holding (converted_to pt y))) absent (omega (arith, f.room, k3.len))) (omega (arith, e1, e2, later))))))))
  update_by here o t pl v at_sensor e tracked bs j pc q frame s w K f has after =
      let n : ℕ = length vars in
      let h : ℕ = 3 + max (place_height pl) (height v) in
      let U : Under = over u tracked frame.opened bs in
      let cU : CallsRun p code entries U call m = cr (with_block tracked frame.opened bs) in
      let span : Span = (place_at pl).span in
      let pt : PlainType = place_type pl in
      comes_to p code entries _ _ _
      (owed_same 1 w _ _ (λ w. ap (λ r. and_then r (λ target w. and_then (Updated o t here.span pl v frame target w) K)) (sensor_place frame.held pl s e f.variables w))
      ∙ owed_step 1 w (λ w. and_then (sensed pt w) (λ x w. Reads o t here.span pl v frame Sensor x w)) K
      ∙ owed_same 2 w _ _ (λ w. assoc (sensed pt w) (λ x w. Reads o t here.span pl v frame Sensor x w) K))
      (sensed_then p code entries U pt n 2 pc (pc + 1) span s w (λ x w. and_then (Reads o t here.span pl v frame Sensor x w) K) (has.0, refl)
      (λ x w2 e2.
      (let s2 : List Held = slice_set s n (holds (holding x)) in
      let k2 : Kept n n s s2 = kept_set n n (holds (holding x)) s in
      operator_runs U cU frame.held o t pt here.span v n n (n + 1) (pc + 1) q x s2 w2 (λ y w. write_target span Sensor (holding y) frame w) K (omega arith) (omega (arith, f.room, k2.len)) (omega arith) (omega (arith, f.bound, e2)) (holds_kept vars n n frame.held s s2 (omega arith) (omega arith) k2 f.variables)
      (ap scalar_in (get_or-set_same s n (holds (holding x)) absent (omega (arith, f.room)))) has.1
      (λ y s3 w3 k3 later.
      (let s4 : List Held = slice_set s3 n (holds (holding (converted_to pt y))) in
      after normal frame s4 w3 q
      (still_frame p code entries u vars call m h n n tracked frame s s4 w w3 f (omega arith) (omega arith) (kept_both n n n n n n s s2 s4 (omega arith) (omega arith) (omega arith) (omega arith) k2 (kept_both n n (n + 1) (n + 1) n n s2 s3 s4 (omega arith) (omega arith) (omega arith) (omega arith) k3 (kept_set n n (holds (holding (converted_to pt y))) s3))) (omega (arith, e2, later))))))))
  update_by here o t pl v nowhere e tracked bs j pc q frame s w K f has after = nowhere_place (over u tracked frame.opened bs) frame.held pl 1 pc q s w _ e f.variables has

  pub update_runs : (here : At) (kind : UpdateKind) (o : BinOp) (t : PlainType) (pl : PlainPlace) (v : PlainValue) → PartRuns p code entries u vars call m (3 + max (place_height pl) (height v)) false (λ j at. form_code (site p vars) j at here (update_form kind o t pl v)) (λ frame w. execute_form (setting p vars call m) here (update_form kind o t pl v) frame w)
  update_runs here kind o t pl v tracked bs j pc q frame s w K f may has after =
      comes_to p code entries _ _ _ (node w (λ w. locate (setting p vars call m) frame.held pl w) (λ target w. Updated o t here.span pl v frame target w) K)
      (update_by here o t pl v (spot_of (site p vars) pl) refl tracked bs j pc q frame s w K f has after)
