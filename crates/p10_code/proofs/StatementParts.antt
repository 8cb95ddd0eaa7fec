-- What the code of statements does, and the parts that forms share.
use Rattle.std.proofs.Common.{◌≡◌, ◌≢◌, ◌⊎◌, ℕ, zero, suc, ◌+◌, ◌≤◌, Bool, true, false, List, [], ◌∷◌, length, Option, Some, None, refl, sym, ap, ◌∙◌, subst, inl, inr, ⊎_elim, arith}
use Rattle.std.specs.Prelude.{get_or, slice_get, slice_set}
use Rattle.std.proofs.lemmas.List.{get_or-set_same, get_or-set_other, length-set}
use Rattle.p10_base.specs.declared.span.Span.{Span}
use Rattle.p10_core.specs.Typed.{PlainStatement, PlainStatements, PlainVariable, PlainProgram}
use Rattle.p10_meaning.specs.declared.pointers.Ptr.{Ptr}
use Rattle.p10_meaning.specs.declared.pointers.Scalar.{Scalar}
use Rattle.p10_meaning.specs.declared.pointers.Scalar.TheVariants.{Pointer}
use Rattle.p10_meaning.specs.Pointers.{holding}
use Rattle.p10_meaning.specs.Objects.{Object, write_at}
use Rattle.p10_meaning.specs.States.{State, Progress, and_then, or_undefined}
use Rattle.p10_meaning.specs.Scalars.{pointer_of}
use Rattle.p10_meaning.specs.Values.{Calls, Held, absent}
use Rattle.p10_meaning.specs.Statements.{Frame, Flow, normal, broken, continued, returned, Done, go_on, holding_at, execute, execute_from}
pub use Rattle.p10_code.specs.Frames.{Tracks}
use Rattle.p10_code.specs.Operations.{Operand, store, Op, Entry}
use Rattle.p10_code.specs.Machine.{Config, Rest, Turned, on, look, next, with_state, or_zero, found, value_of, close_blocks, with_block, leave_call, unless_stopped, Reaches}
use Rattle.p10_code.specs.ValueCode.{op}
use Rattle.p10_code.specs.StatementCode.{Exits, opens_object, any_opens, need, statements_need, statement_code, statements_code}
use Rattle.p10_code.proofs.Base.{owed, Stands, local, FitsFlag, FitsOption, IsVariable, Holds, Kept, holds_kept, Under, stand, look_here, To, comes_from, placed, pay, unless_runs}
use Rattle.p10_code.proofs.ValueParts.{Ready, site, setting}

-- ## Frames

-- a statement opens no object where its block has none
abbrev pub MayOpen : Bool → Bool → Type 0
MayOpen true b = Unit {0}
MayOpen false b = b ≡ false

-- what a statement finds: its free slots are there, the variables stand in their slots, and the steps are within the bound
pub record Fits (vars : List PlainVariable) (m h : ℕ) (tracked : Bool) (frame : Frame) (s : List Held) (w : State) : Type 0 where
  pub room : length vars + h ≤ length s
  pub variables : Holds vars frame.held s
  pub tracks : Tracks tracked frame.opened
  pub bound : w.left ≤ m

-- what it leaves
pub record Still (vars : List PlainVariable) (tracked : Bool) (s : List Held) (w : State) (frame' : Frame) (s' : List Held) (w' : State) : Type 0 where
  pub variables : Holds vars frame'.held s'
  pub len : length s' ≡ length s
  pub tracks : Tracks tracked frame'.opened
  pub later : w'.left ≤ w.left

-- what the next statement finds
pub fits_on : (vars : List PlainVariable) (m h h2 : ℕ) (tracked : Bool) (frame frame2 : Frame) (s s2 : List Held) (w w2 : State) → Fits vars m h tracked frame s w → Still vars tracked s w frame2 s2 w2 → h2 ≤ h → Fits vars m h2 tracked frame2 s2 w2
fits_on vars m h h2 tracked frame frame2 s s2 w w2 f t le = record { room = omega (arith, f.room, t.len); variables = t.variables; tracks = t.tracks; bound = omega (arith, f.bound, t.later) }

pub fits_less : (vars : List PlainVariable) (m h h2 : ℕ) (tracked : Bool) (frame : Frame) (s : List Held) (w w2 : State) → Fits vars m h tracked frame s w → h2 ≤ h → w2.left ≤ w.left → Fits vars m h2 tracked frame s w2
fits_less vars m h h2 tracked frame s w w2 f le later = record { room = omega (arith, f.room); variables = f.variables; tracks = f.tracks; bound = omega (arith, f.bound, later) }

-- one statement after another
pub still_on : (vars : List PlainVariable) (tracked : Bool) (s s1 s2 : List Held) (w w1 w2 : State) (frame2 : Frame) → length s1 ≡ length s → w1.left ≤ w.left → Still vars tracked s1 w1 frame2 s2 w2 → Still vars tracked s w frame2 s2 w2
still_on vars tracked s s1 s2 w w1 w2 frame2 len later t = record { variables = t.variables; len = t.len ∙ len; tracks = t.tracks; later = omega (arith, later, t.later) }

-- a value of a statement finds what it needs
pub ready_in : (vars : List PlainVariable) (m h t h2 d : ℕ) (tracked : Bool) (frame : Frame) (s : List Held) (w : State) → Fits vars m h tracked frame s w → length vars ≤ t → t + h2 ≤ length s → Ready vars frame.held m t h2 d s w
ready_in vars m h t h2 d tracked frame s w f nt room = record { free = nt; room = room; bound = omega (arith, f.bound); variables = f.variables }

-- ## Variables that are written

none_some : {A : Type 0} (x : A) → None ≡ Some x → ⊥
none_some x h = cc

get_set_same : {A : Type 0} (xs : List A) (i : ℕ) (c y : A) → slice_get xs i ≡ Some y → slice_get (slice_set xs i c) i ≡ Some c
get_set_same [] i c y e = absurd (none_some _ e)
get_set_same (x ∷ xs) zero c y e = refl
get_set_same (x ∷ xs) (suc i) c y e = get_set_same xs i c y e

get_set_other : {A : Type 0} (xs : List A) (i j : ℕ) (c : A) → i ≢ j → slice_get (slice_set xs i c) j ≡ slice_get xs j
get_set_other [] i j c d = refl
get_set_other (x ∷ xs) zero zero c d = absurd (d refl)
get_set_other (x ∷ xs) zero (suc j) c d = refl
get_set_other (x ∷ xs) (suc i) zero c d = refl
get_set_other (x ∷ xs) (suc i) (suc j) c d = get_set_other xs i j c (λ e. d (ap suc e))

-- a variable that is declared as the flag says
pub record IsDeclared (vars : List PlainVariable) (n : ℕ) (held : Held) : Type 0 where
  pub variable : PlainVariable
  pub there : slice_get vars n ≡ Some variable
  pub fits : FitsFlag variable.frame held

same_or_not : (i n : ℕ) → (i ≡ n) ⊎ (i ≢ n)
same_or_not zero zero = inl refl
same_or_not zero (suc n) = inr (λ e. absurd (omega arith))
same_or_not (suc i) zero = inr (λ e. absurd (omega arith))
same_or_not (suc i) (suc n) = ⊎_elim (λ e. inl (ap suc e)) (λ d. inr (λ e. d (omega arith))) (same_or_not i n)

kind_there : (vars : List PlainVariable) (held : List Held) (n : ℕ) (v : PlainVariable) (oh : Option Held) → slice_get vars n ≡ Some v → slice_get held n ≡ oh → IsVariable (slice_get vars n) (slice_get held n) → (y : Held) × (slice_get held n ≡ Some y)
kind_there vars held n v None ev eh k = absurd (subst (λ o. IsVariable o None) ev (subst (λ o. IsVariable (slice_get vars n) o) eh k))
kind_there vars held n v (Some y) ev eh k = (y, eh)

-- another thing stands for a variable, in its slot too
pub assigned : (vars : List PlainVariable) (held s s' : List Held) (n : ℕ) (x : Held) → Holds vars held s → IsDeclared vars n x → Kept (length vars) n s s' → local s' n ≡ x → Holds vars (slice_set held n x) s'
assigned vars held s s' n x h d kept e = record {
  size = length-set held n x ∙ h.size;
  room = omega (arith, h.room, kept.len);
  same = λ i lt. ⊎_elim
      (λ (eq : i ≡ n). ap (local s') eq ∙ e ∙ sym (get_or-set_same held n x absent (omega (arith, lt, h.size, eq))) ∙ ap (λ j. get_or (slice_set held n x) j absent) (sym eq))
      (λ (ne : i ≢ n). kept.same i lt ne ∙ h.same i lt ∙ sym (get_or-set_other held n i x absent ne))
      (same_or_not i n);
  kinds = λ i. ⊎_elim
      (λ (eq : i ≡ n).
      (let (y, ey) = kind_there vars held n d.variable (slice_get held n) d.there refl (h.kinds n) in
      let k : IsVariable (slice_get vars n) (slice_get (slice_set held n x) n) = subst (λ o. IsVariable o (slice_get (slice_set held n x) n)) (sym d.there) (subst (λ o. FitsOption d.variable.frame o) (sym (get_set_same held n x y ey)) d.fits) in
      subst (λ j. IsVariable (slice_get vars j) (slice_get (slice_set held n x) j)) (sym eq) k))
      (λ (ne : i ≢ n). subst (λ o. IsVariable (slice_get vars i) o) (sym (get_set_other held n i x (λ e. ne (sym e)))) (h.kinds i))
      (same_or_not i n);
}

-- ## What is claimed

-- where the machine goes on after a statement
abbrev pub resume : Exits → ℕ → Flow → Config → Turned
resume j q normal c = on (record c { pc = q })
resume j q broken c = on (record (close_blocks j.over_close c) { pc = j.over })
resume j q continued c = on (record (close_blocks j.again_close c) { pc = j.again })
resume j q (returned x) c = leave_call x (close_blocks j.all_close c)

abbrev pub done : Flow → Frame → Done
done flow frame = record { flow = flow; frame = frame }

-- what stands under the open frame, where its innermost block has opened objects
abbrev pub over : Under → Bool → List ℕ → List (List ℕ) → Under
over u tracked opened bs = record u { blocks = with_block tracked opened bs }

module _ (p : PlainProgram) (code : List Op) (entries : List Entry) (u : Under) (vars : List PlainVariable) (call : Calls) (m : ℕ) where
  -- what comes after a statement
  abbrev pub Afterwards : Bool → List (List ℕ) → Exits → ℕ → List Held → State → (Done → State → Progress Rest) → Type 0
  Afterwards tracked bs j q s w K =
      (flow : Flow) (frame' : Frame) (s' : List Held) (w' : State) (i : ℕ) → Still vars tracked s w frame' s' w' → Reaches p code entries (resume j q flow (stand (over u tracked frame'.opened bs) i s' w')) (K (done flow frame') w')

  -- a part of a statement's code does what a part of the meaning does, whatever follows
  abbrev pub PartRuns : ℕ → Bool → (Exits → ℕ → List Op) → (Frame → State → Progress Done) → Type 0
  PartRuns h opens part run =
      (tracked : Bool) (bs : List (List ℕ)) (j : Exits) (pc q : ℕ) (frame : Frame) (s : List Held) (w : State) (K : Done → State → Progress Rest) → Fits vars m h tracked frame s w → MayOpen tracked opens → Stands code pc (part j pc) q → Afterwards tracked bs j q s w K →
      To p code entries (over u tracked frame.opened bs) pc s w (and_then (run frame w) K)

  -- a part that goes on is followed by another
  pub then_runs : (h : ℕ) (opens : Bool) (part : Exits → ℕ → List Op) (run : Frame → State → Progress Done) → PartRuns h opens part run → (flow : Flow) (tracked : Bool) (bs : List (List ℕ)) (j : Exits) (pc q i : ℕ) (frame frame1 : Frame) (s s1 : List Held) (w w1 : State) (K : Done → State → Progress Rest) →
      Fits vars m h tracked frame s w → Still vars tracked s w frame1 s1 w1 → MayOpen tracked opens → Stands code pc (part j pc) q → Afterwards tracked bs j q s w K →
      Reaches p code entries (resume j pc flow (stand (over u tracked frame1.opened bs) i s1 w1)) (and_then (go_on flow frame1 w1 run) K)
  then_runs h opens part run r normal tracked bs j pc q i frame frame1 s s1 w w1 K f t o has after =
      r tracked bs j pc q frame1 s1 w1 K (fits_on vars m h h tracked frame frame1 s s1 w w1 f t (omega arith)) o has
      (λ flow frame2 s2 w2 i2 t2. after flow frame2 s2 w2 i2 (still_on vars tracked s s1 s2 w w1 w2 frame2 t.len t.later t2))
  then_runs h opens part run r broken tracked bs j pc q i frame frame1 s s1 w w1 K f t o has after = after broken frame1 s1 w1 i t
  then_runs h opens part run r continued tracked bs j pc q i frame frame1 s s1 w w1 K f t o has after = after continued frame1 s1 w1 i t
  then_runs h opens part run r (returned x) tracked bs j pc q i frame frame1 s s1 w w1 K f t o has after = after (returned x) frame1 s1 w1 i t

  -- the code of a statement does what it means
  abbrev pub StatementRuns : PlainStatement → Type 0
  StatementRuns x = PartRuns (need x) (opens_object vars x) (λ j at. statement_code (site p vars) j at x) (λ frame w. execute (setting p vars call m) x frame w)

  -- the same of statements in order
  abbrev pub StatementsRun : PlainStatements → Type 0
  StatementsRun ss = PartRuns (statements_need ss) (any_opens vars ss) (λ j at. statements_code (site p vars) j at ss) (λ frame w. execute_from (setting p vars call m) 0 ss frame w)

  -- ## Parts

  -- a statement goes on with the next one
  pub goes_on : (tracked : Bool) (bs : List (List ℕ)) (j : Exits) (q : ℕ) (frame : Frame) (s s' : List Held) (w w' : State) (K : Done → State → Progress Rest) → Afterwards tracked bs j q s w K → Still vars tracked s w frame s' w' →
      To p code entries (over u tracked frame.opened bs) q s' w' (K (done normal frame) w')
  goes_on tracked bs j q frame s s' w w' K after t = after normal frame s' w' q t

  -- the frame is as before
  pub still_frame : (h t k : ℕ) (tracked : Bool) (frame : Frame) (s s' : List Held) (w w' : State) → Fits vars m h tracked frame s w → length vars ≤ t → length vars ≤ k → Kept t k s s' → w'.left ≤ w.left → Still vars tracked s w frame s' w'
  still_frame h t k tracked frame s s' w w' f nt nk kept later = record { variables = holds_kept vars t k frame.held s s' nt nk kept f.variables; len = kept.len; tracks = f.tracks; later = later }

  -- a variable of the frame has a new value
  pub still_assigned : (h n : ℕ) (x : Held) (tracked : Bool) (frame : Frame) (s s' : List Held) (w w' : State) → Fits vars m h tracked frame s w → IsDeclared vars n x → Kept (length vars) n s s' → local s' n ≡ x → w'.left ≤ w.left → Still vars tracked s w (holding_at frame n x) s' w'
  still_assigned h n x tracked frame s s' w w' f d kept e later = record { variables = assigned vars frame.held s s' n x f.variables d kept e; len = kept.len; tracks = f.tracks; later = later }

  -- a scalar is written through a pointer
  pub store_runs : (v : Under) (a b : Operand) (z : Ptr) (x : Scalar) (d pc q : ℕ) (span : Span) (s : List Held) (w : State) (K : State → Progress Rest) → Stands code pc (op d span (store a b) ∷ []) q → found a (local s) ≡ Some (Pointer z) → found b (local s) ≡ Some x →
      ((w' : State) → w'.left + d ≡ w.left → (objects : List Object) → To p code entries v q s (record w' { objects = objects }) (K (record w' { objects = objects }))) →
      To p code entries v pc s w (owed d w (λ w. or_undefined (write_at w.objects z (holding x)) span w (λ objects. K (record w { objects = objects }))))
  store_runs v a b z x d pc q span s w K at ea eb after =
      pay p code entries v pc d span (store a b) s w (λ w. or_undefined (write_at w.objects z (holding x)) span w (λ objects. K (record w { objects = objects }))) at.0
      (λ w1 e1.
      (let c : Config = stand v pc s w1 in
      let fa : pointer_of (value_of a (look c)) ≡ z = ap (λ l. pointer_of (value_of a l)) (look_here v pc s w1) ∙ ap (λ y. pointer_of (or_zero y)) ea in
      let fb : value_of b (look c) ≡ x = ap (value_of b) (look_here v pc s w1) ∙ ap or_zero eb in
      comes_from p code entries _ (unless_stopped (write_at w1.objects z (holding x)) span c (λ objects. on (next (with_state (record w1 { objects = objects }) c)))) _
      (λ i. unless_stopped (write_at w1.objects (fa i) (holding (fb i))) span c (λ objects. on (next (with_state (record w1 { objects = objects }) c))))
      (unless_runs p code entries (write_at w1.objects z (holding x)) span c (λ objects. on (next (with_state (record w1 { objects = objects }) c))) (λ objects. K (record w1 { objects = objects }))
      (λ objects. placed p code entries v (pc + 1) q s (record w1 { objects = objects }) _ (sym at.1) (after w1 e1 objects)))))
