-- The code of declarations and initialisers does what they mean.
use Rattle.std.proofs.Common.{◌≡◌, ℕ, zero, suc, ◌+◌, ◌<◌, ◌≤◌, max, Bool, true, false, List, [], ◌∷◌, ◌++◌, length, Option, Some, None, refl, sym, ap, ◌∙◌, subst, arith}
use Rattle.std.specs.Prelude.{slice_get, slice_set, not, if◌then◌else◌, Result, Ok, Err}
use Rattle.std.proofs.lemmas.List.{get_or-set_same}
use Rattle.std.proofs.lemmas.Option.{slice_get_within}
use Rattle.p10_base.specs.declared.span.Span.{Span}
use Rattle.p10_base.specs.declared.at.At.{At}
use Rattle.p10_int.specs.declared.operators.Stop.{Stop}
use Rattle.p10_core.specs.Types.{PlainType}
use Rattle.p10_core.specs.Typed.{PlainPlace, place_at, PlainWritten, one_scalar, scalars_of_text, PlainItem, PlainInitializer, not_initialized, single, copied as copied_from, listed, declare, PlainVariable, PlainProgram}
use Rattle.p10_meaning.specs.declared.pointers.Ptr.{Ptr}
use Rattle.p10_meaning.specs.declared.pointers.Ptr.TheVariants.{Null}
use Rattle.p10_meaning.specs.declared.pointers.Scalar.{Scalar}
use Rattle.p10_meaning.specs.declared.pointers.Scalar.TheVariants.{Pointer}
use Rattle.p10_meaning.specs.Pointers.{holding, unset as unset_cell, first_of}
use Rattle.p10_meaning.specs.Objects.{declared, write_at}
use Rattle.p10_meaning.specs.States.{State, Progress, gives, ends, step, step_at, and_then, or_undefined}
use Rattle.p10_meaning.specs.Scalars.{pointer_of, unset_cells}
use Rattle.p10_meaning.specs.Values.{Calls, Setting, Held, holds, stands, absent, scalars, width, open_object, Target, Variable, Element, pointer_to, evaluate, locate}
use Rattle.p10_meaning.specs.Statements.{Frame, normal, Done, goes, holding_at, write_target, write_part, copy_scalars, text_scalars, written_scalars, listed_scalars, listed_scalar, fill as fill_scalars, initialize, declare_variable, execute_form}
use Rattle.p10_code.specs.Operations.{Operand, slot, fixed, object, compute, store, unset, opens, fill, Op, Entry}
use Rattle.p10_code.specs.Machine.{Config, Rest, Turned, on, look, next, with_state, scalar_in, or_zero, value_of, written_in, item_slots, listed_in, turned, object_at, with_block, no_frame, Reaches}
use Rattle.p10_code.specs.ValueCode.{op, spot_of, pointer_operand, place_debt, operand, debt, height, place_height, value_code, place_code}
use Rattle.p10_code.specs.StatementCode.{Exits, is_object, written_height, items_height, initializer_height, written_code, items_code, copied_code, listed_code, frame_initializer, object_initializer, declare_code, form_code}
use Rattle.p10_code.proofs.Base.{step_is_owed, owed_zero, owed_same, assoc, owed_assoc, result_then, Stands, front, rear, local, FitsFlag, Kept, kept_all, kept_set, kept_both, kept_under, holds_kept, Under, stand, look_here, put_here, To, comes_to, comes_from, placed, pay, free_op, compute_runs, jump_runs, off_reaches}
use Rattle.p10_code.proofs.Acts.{unset_then}
use Rattle.p10_code.proofs.ValueParts.{Ready, ready_for, site, setting, pointer_spotted, CallsRun}
use Rattle.p10_code.proofs.ValueLaw.{value_law, into_law, place_law}
use Rattle.p10_code.proofs.StatementParts.{MayOpen, Fits, Still, fits_on, still_on, ready_in, IsDeclared, done, over, Afterwards, PartRuns, still_frame, still_assigned, assigned, store_runs}
use Rattle.p10_code.proofs.Steps.{copy_runs}

-- ## Lists

-- a list is written, and the frame stays
abbrev Filled : Frame → State → Progress Done → Progress Done → Type 0
Filled frame w (gives d to) o = (o ≡ goes frame to) × (to.left ≤ w.left)
Filled frame w (ends end to) o = o ≡ ends end to

later_filled : (frame : Frame) (w w2 : State) (a b : Progress Done) → w2.left ≤ w.left → Filled frame w2 a b → Filled frame w a b
later_filled frame w w2 (gives d to) b le (e, l) = (e, (let h : to.left ≤ w.left = omega (arith, l, le) in h))
later_filled frame w w2 (ends end to) b le e = e

filled_step : (n : ℕ) (frame : Frame) (w : State) (a b : State → Progress Done) → ((w2 : State) → w2.left ≤ w.left → Filled frame w2 (a w2) (b w2)) → n ≡ w.left → Filled frame w (step_at n w a) (step_at n w b)
filled_step zero frame w a b h e = refl
filled_step (suc n) frame w a b h e = later_filled frame w (record w { left = n }) (a (record w { left = n })) (b (record w { left = n })) (omega (arith, e)) (h (record w { left = n }) (omega (arith, e)))

filled_result : {A : Type 0} (r : Result A Stop) (span : Span) (frame : Frame) (w : State) (a b : A → Progress Done) → ((x : A) → Filled frame w (a x) (b x)) → Filled frame w (or_undefined r span w a) (or_undefined r span w b)
filled_result (Ok x) span frame w a b h = h x
filled_result (Err stop) span frame w a b h = refl

filled : (span : Span) (xs : List (ℕ × Scalar)) (types : List PlainType) (i : ℕ) (z : Ptr) (frame : Frame) (w : State) → Filled frame w (fill_scalars span xs types i z no_frame w) (fill_scalars span xs types i z frame w)
filled span xs [] i z frame w = (refl, (let h : w.left ≤ w.left = omega arith in h))
filled span xs (t ∷ types) i z frame w =
    filled_step w.left frame w _ _
    (λ w2 le.
    filled_result (write_part w2.objects z i (holding (listed_scalar i t xs))) span frame w2 _ _
    (λ objects. filled span xs types (suc i) z frame (record w2 { objects = objects }))) refl

module _ (p : PlainProgram) (code : List Op) (entries : List Entry) where
  filled_by : (o o2 : Progress Done) (frame : Frame) (w : State) (F : State → Turned) (K : Done → State → Progress Rest) → Filled frame w o o2 → ((w2 : State) → w2.left ≤ w.left → Reaches p code entries (F w2) (K (done normal frame) w2)) → Reaches p code entries (turned o (λ d w. F w)) (and_then o2 K)
  filled_by (gives d to) o2 frame w F K (e, le) h = comes_to p code entries _ _ _ (ap (λ o. and_then o K) e) (h to le)
  filled_by (ends end to) o2 frame w F K e h = comes_to p code entries _ _ _ (ap (λ o. and_then o K) e) (off_reaches p code entries (ends end to) tt)

  -- a list is written
  fill_runs : (v : Under) (a : Operand) (z : Ptr) (t : PlainType) (items : List PlainItem) (xs : List (ℕ × Scalar)) (from pc q : ℕ) (span : Span) (frame : Frame) (s : List Held) (w : State) (K : Done → State → Progress Rest) → Stands code pc (op 0 span (fill a t items from) ∷ []) q → pointer_of (value_of a (local s)) ≡ z → listed_in from items (local s) ≡ xs →
      ((w' : State) → w'.left ≤ w.left → To p code entries v q s w' (K (done normal frame) w')) →
      To p code entries v pc s w (and_then (fill_scalars span xs (scalars p t) 0 z frame w) K)
  fill_runs v a z t items xs from pc q span frame s w K at ez ex after =
      let c : Config = stand v pc s w in
      let fa : pointer_of (value_of a (look c)) ≡ z = ap (λ l. pointer_of (value_of a l)) (look_here v pc s w) ∙ ez in
      let fx : listed_in from items (look c) ≡ xs = ap (listed_in from items) (look_here v pc s w) ∙ ex in
      free_op p code entries v pc span (fill a t items from) s w _ at.0
      (comes_from p code entries _ (turned (fill_scalars span xs (scalars p t) 0 z no_frame w) (λ d w. on (next (with_state w c)))) _ (λ i. turned (fill_scalars span (fx i) (scalars p t) 0 (fa i) no_frame w) (λ d w. on (next (with_state w c))))
      (filled_by (fill_scalars span xs (scalars p t) 0 z no_frame w) (fill_scalars span xs (scalars p t) 0 z frame w) frame w (λ w. on (next (with_state w c))) K (filled span xs (scalars p t) 0 z frame w)
      (λ w2 le. placed p code entries v (pc + 1) q s w2 _ (sym at.1) (after w2 le))))

module _ (p : PlainProgram) (code : List Op) (entries : List Entry) (u : Under) (vars : List PlainVariable) (call : Calls) (m : ℕ) (cr : (blocks : List (List ℕ)) → CallsRun p code entries (record u { blocks = blocks }) call m) where
  -- the values of a list's items
  abbrev ItemsThen : Under → List PlainItem → ℕ → ℕ → List Held → State → (List (ℕ × Scalar) → State → Progress Rest) → Type 0
  ItemsThen v items t q s w K = (xs : List (ℕ × Scalar)) (s' : List Held) (w' : State) → Kept t t s s' → w'.left ≤ w.left → listed_in t items (local s') ≡ xs → To p code entries v q s' w' (K xs w')

  written_runs : (v : Under) (cv : CallsRun p code entries v call m) (held : List Held) (written : PlainWritten) (i t h pc q : ℕ) (s : List Held) (w : State) (K : List (ℕ × Scalar) → State → Progress Rest) → Ready vars held m t h 0 s w → items_height (record { scalar = i; written = written } ∷ []) ≤ h → Stands code pc (written_code (site p vars) t pc written) q →
      ((xs : List (ℕ × Scalar)) (s' : List Held) (w' : State) → Kept t t s s' → w'.left ≤ w.left → ((s2 : List Held) → Kept (t + item_slots written) (t + item_slots written) s' s2 → written_in t i written (local s2) ≡ xs) → To p code entries v q s' w' (K xs w')) →
      To p code entries v pc s w (and_then (written_scalars (setting p vars call m) held i written w) K)
  written_runs v cv held (scalars_of_text bytes) i t h pc q s w K r le has after =
      placed p code entries v pc q s w _ (sym has) (after (text_scalars i bytes) s w (kept_all t t s) (omega arith) (λ s2 k. refl))
  written_runs v cv held (one_scalar e) i t h pc q s w K r le has after =
      let g : Setting = setting p vars call m in
      comes_to p code entries _ _ _ (assoc (evaluate g held e w) (λ x w. gives ((i, x) ∷ []) w) K ∙ sym (owed_zero w (λ w. and_then (evaluate g held e w) (λ x w. K ((i, x) ∷ []) w))))
      (into_law p code entries v vars call m cv held e t (t + 1) 0 pc q s w (λ x w. K ((i, x) ∷ []) w) (omega (arith, r.room, le)) (ready_for vars held m t h 0 (t + 1) (height e) 0 s w r (omega arith) (omega (arith, le)) (omega arith)) has
      (λ x s1 w1 a f.
      after ((i, x) ∷ []) s1 w1 (kept_under t t (t + 1) t s s1 (omega arith) (omega arith) a.kept) (omega (arith, a.later))
      (λ s2 k. ap (λ y. (i, or_zero (scalar_in y)) ∷ []) (k.same t (omega arith) (λ e. omega arith) ∙ f))))

  items_run : (v : Under) (cv : CallsRun p code entries v call m) (held : List Held) (items : List PlainItem) (t h pc q : ℕ) (s : List Held) (w : State) (K : List (ℕ × Scalar) → State → Progress Rest) → Ready vars held m t h 0 s w → items_height items ≤ h → Stands code pc (items_code (site p vars) t pc items) q → ItemsThen v items t q s w K →
      To p code entries v pc s w (and_then (listed_scalars (setting p vars call m) held items w) K)
  items_run v cv held [] t h pc q s w K r le has after = placed p code entries v pc q s w _ (sym has) (after [] s w (kept_all t t s) (omega arith) refl)
  items_run v cv held (item ∷ items) t h pc q s w K r le has after =
      let g : Setting = setting p vars call m in
      let cw : List Op = written_code (site p vars) t pc item.written in
      let n : ℕ = item_slots item.written in
      let (l1, l2) = item_heights item.written (items_height items) h le in
      comes_to p code entries _ _ _ (assoc (written_scalars g held item.scalar item.written w) (λ xs w. and_then (listed_scalars g held items w) (λ ys w. gives (xs ++ ys) w)) K)
      (written_runs v cv held item.written item.scalar t h pc (pc + length cw) s w _ r l1 (front code pc q cw _ has)
      (λ xs s1 w1 k1 e1 f1.
      comes_to p code entries _ _ _ (assoc (listed_scalars g held items w1) (λ ys w. gives (xs ++ ys) w) K)
      (items_run v cv held items (t + n) (items_height items) (pc + length cw) q s1 w1 (λ ys w. K (xs ++ ys) w)
      (record { free = omega (arith, r.free); room = omega (arith, r.room, l2, k1.len); bound = omega (arith, r.bound, e1); variables = holds_kept vars t t held s s1 r.free r.free k1 r.variables }) (omega arith) (rear code pc q cw _ has)
      (λ ys s2 w2 k2 e2 f2.
      after (xs ++ ys) s2 w2 (kept_both t t t t (t + n) (t + n) s s1 s2 (omega arith) (omega arith) (omega arith) (omega arith) k1 k2) (omega (arith, e1, e2)) (λ i. f1 s2 k2 i ++ f2 i)))))
    where
      item_heights : (written : PlainWritten) (more h : ℕ) → written_height written more ≤ h → (written_height written 0 ≤ h) × (item_slots written + more ≤ h)
      item_heights (one_scalar e) more h le = ((let a : 1 + max (height e) 0 ≤ h = omega (arith, le) in a), (let b : 1 + more ≤ h = omega (arith, le) in b))
      item_heights (scalars_of_text bytes) more h le = ((let a : 0 ≤ h = omega arith in a), (let b : 0 + more ≤ h = omega (arith, le) in b))

  -- ## Initialisers

  -- a structure is copied to the object at a pointer
  copied_runs : (h : ℕ) (span : Span) (t : PlainType) (a : Operand) (z : Ptr) (pl : PlainPlace) (tracked : Bool) (bs : List (List ℕ)) (j : Exits) (pc q : ℕ) (frame : Frame) (s : List Held) (w : State) (K : Done → State → Progress Rest) → Fits vars m h tracked frame s w → 2 + place_height pl ≤ h →
      ((s2 : List Held) → Kept (length vars + 1) (length vars + 1) s s2 → pointer_of (value_of a (local s2)) ≡ z) → Stands code pc (copied_code (site p vars) span t a pc pl) q → Afterwards p code entries u vars call m tracked bs j q s w K →
      To p code entries (over u tracked frame.opened bs) pc s w (and_then (step w (λ w. and_then (locate (setting p vars call m) frame.held pl w) (λ source w. copy_scalars (width p t) 0 span z (place_at pl).span (pointer_to source) frame w))) K)
  copied_runs h span t a z pl tracked bs j pc q frame s w K f le ez has after =
      let g : Setting = setting p vars call m in
      let n : ℕ = length vars in
      let U : Under = over u tracked frame.opened bs in
      let cU : CallsRun p code entries U call m = cr (with_block tracked frame.opened bs) in
      let cp : List Op = place_code (site p vars) (n + 1) (n + 2) 1 pc pl in
      let C : Target → State → Progress Done = λ source w. copy_scalars (width p t) 0 span z (place_at pl).span (pointer_to source) frame w in
      comes_to p code entries _ _ _ (step_is_owed w (λ w. and_then (locate g frame.held pl w) C) K ∙ owed_assoc 1 w (λ w. locate g frame.held pl w) C K)
      (place_law p code entries U vars call m cU frame.held pl (n + 1) (n + 2) 1 pc (pc + length cp) s w _ (omega (arith, f.room, le)) (ready_in vars m h (n + 2) (place_height pl) 1 tracked frame s w f (omega arith) (omega (arith, f.room, le))) (front code pc q cp _ has)
      (λ x s1 w1 b sx.
      (let k1 : Kept (n + 1) (n + 1) s s1 = kept_under (n + 1) (n + 1) (n + 2) (n + 1) s s1 (omega arith) (omega arith) b.kept in
      copy_runs p code entries U a (pointer_operand (site p vars) (n + 1) pl) z (pointer_to x) (width p t) (place_debt (site p vars) 1 pl) (pc + length cp) q span (place_at pl).span frame s1 w1 K (rear code pc q cp _ has) (ez s1 k1) (pointer_spotted (spot_of (site p vars) pl) (n + 1) x s1 sx)
      (λ w2 e2.
      after normal frame s1 w2 q (still_frame p code entries u vars call m h (n + 1) (n + 1) tracked frame s s1 w w2 f (omega arith) (omega arith) k1 (omega (arith, b.later, e2)))))))

  -- a list is written to the object at a pointer
  listed_runs : (h : ℕ) (span : Span) (t : PlainType) (a : Operand) (z : Ptr) (items : List PlainItem) (tracked : Bool) (bs : List (List ℕ)) (j : Exits) (pc q : ℕ) (frame : Frame) (s : List Held) (w : State) (K : Done → State → Progress Rest) → Fits vars m h tracked frame s w → 1 + items_height items ≤ h →
      ((s2 : List Held) → Kept (length vars + 1) (length vars + 1) s s2 → pointer_of (value_of a (local s2)) ≡ z) → Stands code pc (listed_code (site p vars) span t a pc items) q → Afterwards p code entries u vars call m tracked bs j q s w K →
      To p code entries (over u tracked frame.opened bs) pc s w (and_then (and_then (listed_scalars (setting p vars call m) frame.held items w) (λ xs w. fill_scalars span xs (scalars p t) 0 z frame w)) K)
  listed_runs h span t a z items tracked bs j pc q frame s w K f le ez has after =
      let g : Setting = setting p vars call m in
      let n : ℕ = length vars in
      let U : Under = over u tracked frame.opened bs in
      let cU : CallsRun p code entries U call m = cr (with_block tracked frame.opened bs) in
      let ci : List Op = items_code (site p vars) (n + 1) pc items in
      comes_to p code entries _ _ _ (assoc (listed_scalars g frame.held items w) (λ xs w. fill_scalars span xs (scalars p t) 0 z frame w) K)
      (items_run U cU frame.held items (n + 1) (items_height items) pc (pc + length ci) s w _ (ready_in vars m h (n + 1) (items_height items) 0 tracked frame s w f (omega arith) (omega (arith, f.room, le))) (omega arith) (front code pc q ci _ has)
      (λ xs s1 w1 k1 e1 f1.
      fill_runs p code entries U a z t items xs (n + 1) (pc + length ci) q span frame s1 w1 K (rear code pc q ci _ has) (ez s1 k1) f1
      (λ w2 e2.
      after normal frame s1 w2 q (still_frame p code entries u vars call m h (n + 1) (n + 1) tracked frame s s1 w w2 f (omega arith) (omega arith) k1 (omega (arith, e1, e2))))))

  -- a frame variable
  abbrev Starts : PlainInitializer → Span → PlainType → Target → Bool → List (List ℕ) → ℕ → ℕ → Frame → List Held → State → (Done → State → Progress Rest) → Type 0
  Starts i span t target tracked bs pc q frame s w K = To p code entries (over u tracked frame.opened bs) pc s w (and_then (initialize (setting p vars call m) span t target i frame w) K)

  frame_starts : (i : PlainInitializer) (h n : ℕ) (span : Span) (t : PlainType) → ((x : Scalar) → IsDeclared vars n (holds (holding x))) → n < length vars → (tracked : Bool) (bs : List (List ℕ)) (j : Exits) (pc q : ℕ) (frame : Frame) (s : List Held) (w : State) (K : Done → State → Progress Rest) → Fits vars m h tracked frame s w → initializer_height i ≤ h →
      Stands code pc (frame_initializer (site p vars) span t n pc i) q → Afterwards p code entries u vars call m tracked bs j q s w K → Starts i span t (Variable n) tracked bs pc q frame s w K
  frame_starts not_initialized h n span t d lt tracked bs j pc q frame s w K f le has after =
      placed p code entries (over u tracked frame.opened bs) pc q s w _ (sym has) (after normal frame s w q (still_frame p code entries u vars call m h (length vars) (length vars) tracked frame s s w w f (omega arith) (omega arith) (kept_all (length vars) (length vars) s) (omega arith)))
  frame_starts (single v) h n span t d lt tracked bs j pc q frame s w K f le has after =
      let g : Setting = setting p vars call m in
      let U : Under = over u tracked frame.opened bs in
      let cU : CallsRun p code entries U call m = cr (with_block tracked frame.opened bs) in
      comes_to p code entries _ _ _ (assoc (evaluate g frame.held v w) (λ x w. write_target span (Variable n) (holding x) frame w) K ∙ sym (owed_zero w (λ w. and_then (evaluate g frame.held v w) (λ x w. and_then (write_target span (Variable n) (holding x) frame w) K))))
      (into_law p code entries U vars call m cU frame.held v n (length vars) 0 pc q s w _ (omega (arith, f.room)) (ready_in vars m h (length vars) (height v) 0 tracked frame s w f (omega arith) (omega (arith, f.room, le))) has
      (λ x s1 w1 a e.
      after normal (holding_at frame n (holds (holding x))) s1 w1 q (still_assigned p code entries u vars call m h n (holds (holding x)) tracked frame s s1 w w1 f (d x) a.kept e (omega (arith, a.later)))))
  frame_starts (copied_from pl) h n span t d lt tracked bs j pc q frame s w K f le has after = copied_runs h span t (fixed (Pointer Null)) Null pl tracked bs j pc q frame s w K f le (λ s2 k. refl) has after
  frame_starts (listed here items) h n span t d lt tracked bs j pc q frame s w K f le has after = listed_runs h span t (fixed (Pointer Null)) Null items tracked bs j pc q frame s w K f le (λ s2 k. refl) has after

  -- an object: its address first
  address_runs : (n o : ℕ) (span : Span) (t : PlainType) (v : Under) (pc : ℕ) (s : List Held) (w : State) (R : State → Progress Rest) → length vars < length s → local s n ≡ stands o → slice_get code pc ≡ Some (op 0 span (compute (length vars) (object n (width p t)))) →
      ((s2 : List Held) (w2 : State) → Kept (length vars) (length vars) s s2 → w2.left ≤ w.left → local s2 (length vars) ≡ holds (holding (Pointer (first_of o (width p t) 1))) → To p code entries v (pc + 1) s2 w2 (R w2)) → To p code entries v pc s w (R w)
  address_runs n o span t v pc s w R ls eo at after =
      let b : Scalar = Pointer (first_of o (width p t) 1) in
      comes_to p code entries _ _ _ (sym (owed_zero w R))
      (compute_runs p code entries (λ (x : Unit {0}). b) v (length vars) pc (pc + 1) 0 (object n (width p t)) span s w (λ objects. Ok tt) (λ x. R) (at, refl) (λ objects. ap (λ x. object_at (width p t) x) eo)
      (λ x w2 e2. after (slice_set s (length vars) (holds (holding b))) w2 (kept_set (length vars) (length vars) (holds (holding b)) s) (omega (arith, e2)) (get_or-set_same s (length vars) (holds (holding b)) absent ls)))

  -- the address stays in its slot
  address_kept : (z : Ptr) (s s2 : List Held) → local s (length vars) ≡ holds (holding (Pointer z)) → Kept (length vars + 1) (length vars + 1) s s2 → pointer_of (value_of (slot (length vars)) (local s2)) ≡ z
  address_kept z s s2 e k = ap (λ x. pointer_of (or_zero (scalar_in x))) (k.same (length vars) (omega arith) (λ e. omega arith) ∙ e)

  object_starts : (i : PlainInitializer) (h n o : ℕ) (span : Span) (t : PlainType) (tracked : Bool) (bs : List (List ℕ)) (j : Exits) (pc q : ℕ) (frame : Frame) (s : List Held) (w : State) (K : Done → State → Progress Rest) → Fits vars m h tracked frame s w → initializer_height i ≤ h → local s n ≡ stands o →
      Stands code pc (object_initializer (site p vars) span t n pc i) q → Afterwards p code entries u vars call m tracked bs j q s w K → Starts i span t (Element (first_of o (width p t) 1)) tracked bs pc q frame s w K
  object_starts not_initialized h n o span t tracked bs j pc q frame s w K f le eo has after =
      placed p code entries (over u tracked frame.opened bs) pc q s w _ (sym has) (after normal frame s w q (still_frame p code entries u vars call m h (length vars) (length vars) tracked frame s s w w f (omega arith) (omega arith) (kept_all (length vars) (length vars) s) (omega arith)))
  object_starts (single v) h n o span t tracked bs j pc q frame s w K f le eo has after =
      let g : Setting = setting p vars call m in
      let l : ℕ = length vars in
      let z : Ptr = first_of o (width p t) 1 in
      let U : Under = over u tracked frame.opened bs in
      let cU : CallsRun p code entries U call m = cr (with_block tracked frame.opened bs) in
      let cv : List Op = value_code (site p vars) (l + 1) (l + 2) 0 (pc + 1) v in
      let last : List Op = op (debt 0 v) span (store (slot l) (operand (site p vars) (l + 1) v)) ∷ [] in
      address_runs n o span t U pc s w (λ w. and_then (initialize g span t (Element z) (single v) frame w) K) (omega (arith, f.room, le)) eo has.0
      (λ s1 w1 k1 e1 ez.
      comes_to p code entries _ _ _ (assoc (evaluate g frame.held v w1) (λ x w. write_target span (Element z) (holding x) frame w) K ∙ sym (owed_zero w1 (λ w. and_then (evaluate g frame.held v w) (λ x w. and_then (write_target span (Element z) (holding x) frame w) K))))
      (value_law p code entries U vars call m cU frame.held v (l + 1) (l + 2) 0 (pc + 1) (pc + 1 + length cv) s1 w1 _ (omega (arith, f.room, le, k1.len))
      (record { free = omega arith; room = omega (arith, f.room, le, k1.len); bound = omega (arith, f.bound, e1); variables = holds_kept vars l l frame.held s s1 (omega arith) (omega arith) k1 f.variables }) (front code (pc + 1) q cv last has.1)
      (λ x s2 w2 b ex.
      comes_to p code entries _ _ _ (owed_same (debt 0 v) w2 _ _ (λ w. result_then (write_at w.objects z (holding x)) span w (λ objects. goes frame (record w { objects = objects })) K))
      (store_runs p code entries u vars call m U (slot l) (operand (site p vars) (l + 1) v) z x (debt 0 v) (pc + 1 + length cv) q span s2 w2 (λ w. K (done normal frame) w) (rear code (pc + 1) q cv last has.1)
      (ap scalar_in (b.kept.same l (omega arith) (λ e. omega arith) ∙ ez)) ex
      (λ w3 e3 objects.
      after normal frame s2 (record w3 { objects = objects }) q
      (still_frame p code entries u vars call m h l l tracked frame s s2 w (record w3 { objects = objects }) f (omega arith) (omega arith) (kept_both l l l l (l + 2) (l + 1) s s1 s2 (omega arith) (omega arith) (omega arith) (omega arith) k1 b.kept) (omega (arith, e1, b.later, e3))))))))
  object_starts (copied_from pl) h n o span t tracked bs j pc q frame s w K f le eo has after =
      let g : Setting = setting p vars call m in
      let l : ℕ = length vars in
      let z : Ptr = first_of o (width p t) 1 in
      let U : Under = over u tracked frame.opened bs in
      address_runs n o span t U pc s w (λ w. and_then (initialize g span t (Element z) (copied_from pl) frame w) K) (omega (arith, f.room, le)) eo has.0
      (λ s1 w1 k1 e1 ez.
      copied_runs h span t (slot l) z pl tracked bs j (pc + 1) q frame s1 w1 K (fits_on vars m h h tracked frame frame s s1 w w1 f (still_frame p code entries u vars call m h l l tracked frame s s1 w w1 f (omega arith) (omega arith) k1 e1) (omega arith)) le (λ s2 k. address_kept z s1 s2 ez k) has.1
      (λ flow frame2 s2 w2 i t2. after flow frame2 s2 w2 i (still_on vars tracked s s1 s2 w w1 w2 frame2 k1.len e1 t2)))
  object_starts (listed here items) h n o span t tracked bs j pc q frame s w K f le eo has after =
      let g : Setting = setting p vars call m in
      let l : ℕ = length vars in
      let z : Ptr = first_of o (width p t) 1 in
      let U : Under = over u tracked frame.opened bs in
      address_runs n o span t U pc s w (λ w. and_then (initialize g span t (Element z) (listed here items) frame w) K) (omega (arith, f.room, le)) eo has.0
      (λ s1 w1 k1 e1 ez.
      listed_runs h span t (slot l) z items tracked bs j (pc + 1) q frame s1 w1 K (fits_on vars m h h tracked frame frame s s1 w w1 f (still_frame p code entries u vars call m h l l tracked frame s s1 w w1 f (omega arith) (omega arith) k1 e1) (omega arith)) le (λ s2 k. address_kept z s1 s2 ez k) has.1
      (λ flow frame2 s2 w2 i t2. after flow frame2 s2 w2 i (still_on vars tracked s s1 s2 w w1 w2 frame2 k1.len e1 t2)))

  -- ## Declarations

  declare_flag : (here : At) (n : ℕ) (v : PlainVariable) (i : PlainInitializer) (b : Bool) → slice_get vars n ≡ Some v → v.frame ≡ b → (tracked : Bool) (bs : List (List ℕ)) (j : Exits) (pc q : ℕ) (frame : Frame) (s : List Held) (w : State) (K : Done → State → Progress Rest) → Fits vars m (initializer_height i) tracked frame s w → MayOpen tracked (not b) →
      Stands code pc (if b then op 1 here.span (unset n) ∷ frame_initializer (site p vars) here.span v.type n (pc + 1) i else op 1 here.span (opens n v.type) ∷ object_initializer (site p vars) here.span v.type n (pc + 1) i) q → Afterwards p code entries u vars call m tracked bs j q s w K →
      To p code entries (over u tracked frame.opened bs) pc s w (and_then (step w (λ w.
      if b
      then initialize (setting p vars call m) here.span v.type (Variable n) i (holding_at frame n (holds unset_cell)) w
      else initialize (setting p vars call m) here.span v.type (Element (first_of w.opened (width p v.type) 1)) i (record { held = slice_set frame.held n (stands w.opened); opened = w.opened ∷ frame.opened }) (open_object declared (unset_cells (scalars p v.type)) w))) K)
  declare_flag here n v i true e eb tracked bs j pc q frame s w K f may has after =
      let g : Setting = setting p vars call m in
      let lt : n < length vars = slice_get_within vars n v e in
      let fits : (x : Held) → FitsFlag true x → IsDeclared vars n x = λ x h. record { variable = v; there = e; fits = subst (λ b. FitsFlag b x) (sym eb) h } in
      comes_to p code entries _ _ _ (step_is_owed w (λ w. initialize g here.span v.type (Variable n) i (holding_at frame n (holds unset_cell)) w) K)
      (unset_then p code entries (over u tracked frame.opened bs) n 1 pc (pc + 1) here.span s w _ (has.0, refl)
      (λ w1 e1.
      (let s1 : List Held = slice_set s n (holds unset_cell) in
      let t1 : Still vars tracked s w (holding_at frame n (holds unset_cell)) s1 w1 = still_assigned p code entries u vars call m (initializer_height i) n (holds unset_cell) tracked frame s s1 w w1 f (fits (holds unset_cell) tt) (kept_set (length vars) n (holds unset_cell) s) (get_or-set_same s n (holds unset_cell) absent (omega (arith, lt, f.room))) (omega (arith, e1)) in
      frame_starts i (initializer_height i) n here.span v.type (λ x. fits (holds (holding x)) tt) lt tracked bs j (pc + 1) q (holding_at frame n (holds unset_cell)) s1 w1 K
      (fits_on vars m (initializer_height i) (initializer_height i) tracked frame (holding_at frame n (holds unset_cell)) s s1 w w1 f t1 (omega arith)) (omega arith) has.1
      (λ flow frame2 s2 w2 k t2. after flow frame2 s2 w2 k (still_on vars tracked s s1 s2 w w1 w2 frame2 t1.len t1.later t2)))))
  declare_flag here n v i false e eb false bs j pc q frame s w K f may has after = absurd (let d : true ≡ false = may in cc)
  declare_flag here n v i false e eb true bs j pc q frame s w K f may has after =
      let g : Setting = setting p vars call m in
      let lt : n < length vars = slice_get_within vars n v e in
      comes_to p code entries _ _ _ (step_is_owed w (λ w. initialize g here.span v.type (Element (first_of w.opened (width p v.type) 1)) i (record { held = slice_set frame.held n (stands w.opened); opened = w.opened ∷ frame.opened }) (open_object declared (unset_cells (scalars p v.type)) w)) K)
      (pay p code entries (over u true frame.opened bs) pc 1 here.span (opens n v.type) s w _ has.0
      (λ w1 e1.
      (let s1 : List Held = slice_set s n (stands w1.opened) in
      let w2 : State = open_object declared (unset_cells (scalars p v.type)) w1 in
      let frame1 : Frame = record { held = slice_set frame.held n (stands w1.opened); opened = w1.opened ∷ frame.opened } in
      let d : IsDeclared vars n (stands w1.opened) = record { variable = v; there = e; fits = subst (λ b. FitsFlag b (stands w1.opened)) (sym eb) tt } in
      let k1 : Kept (length vars) n s s1 = kept_set (length vars) n (stands w1.opened) s in
      let there : local s1 n ≡ stands w1.opened = get_or-set_same s n (stands w1.opened) absent (omega (arith, lt, f.room)) in
      let t1 : Still vars true s w frame1 s1 w2 = record { variables = assigned vars frame.held s s1 n (stands w1.opened) f.variables d k1 there; len = k1.len; tracks = tt; later = omega (arith, e1) } in
      comes_from p code entries _ (on (stand (over u true frame1.opened bs) (pc + 1) s1 w2)) _ (ap (λ (c : Config). on (record c { blocks = (w1.opened ∷ frame.opened) ∷ bs; state = w2 })) (put_here (over u true frame.opened bs) n pc (stands w1.opened) s w1))
      (object_starts i (initializer_height i) n w1.opened here.span v.type true bs j (pc + 1) q frame1 s1 w2 K (fits_on vars m (initializer_height i) (initializer_height i) true frame frame1 s s1 w w2 f t1 (omega arith)) (omega arith) there has.1
      (λ flow frame2 s2 w3 k t2. after flow frame2 s2 w3 k (still_on vars true s s1 s2 w w2 w3 frame2 t1.len t1.later t2))))))

  declare_by : (here : At) (n : ℕ) (ov : Option PlainVariable) (i : PlainInitializer) → slice_get vars n ≡ ov → (tracked : Bool) (bs : List (List ℕ)) (j : Exits) (pc q : ℕ) (frame : Frame) (s : List Held) (w : State) (K : Done → State → Progress Rest) → Fits vars m (initializer_height i) tracked frame s w → MayOpen tracked (is_object ov) →
      Stands code pc (declare_code (site p vars) here.span n pc ov i) q → Afterwards p code entries u vars call m tracked bs j q s w K →
      To p code entries (over u tracked frame.opened bs) pc s w (and_then (step w (λ w. declare_variable (setting p vars call m) here.span n ov i frame w)) K)
  declare_by here n (Some v) i e tracked bs j pc q frame s w K f may has after = declare_flag here n v i v.frame e refl tracked bs j pc q frame s w K f may has after
  declare_by here n None i e tracked bs j pc q frame s w K f may has after =
      comes_to p code entries _ _ _ (step_is_owed w (λ w. goes frame w) K)
      (jump_runs p code entries (over u tracked frame.opened bs) 1 pc (pc + 1) here.span s w (λ w. K (done normal frame) w) has.0
      (λ w1 e1.
      placed p code entries (over u tracked frame.opened bs) (pc + 1) q s w1 _ (sym has.1)
      (after normal frame s w1 q (still_frame p code entries u vars call m (initializer_height i) (length vars) (length vars) tracked frame s s w w1 f (omega arith) (omega arith) (kept_all (length vars) (length vars) s) (omega (arith, e1))))))

  pub declare_runs : (here : At) (n : ℕ) (i : PlainInitializer) → PartRuns p code entries u vars call m (initializer_height i) (is_object (slice_get vars n)) (λ j pc. form_code (site p vars) j pc here (declare n i)) (λ frame w. execute_form (setting p vars call m) here (declare n i) frame w)
  declare_runs here n i tracked bs j pc q frame s w K f may has after = declare_by here n (slice_get vars n) i refl tracked bs j pc q frame s w K f may has after
