-- The code of blocks, branches, loops and `switch` does what they mean.
use Rattle.std.proofs.Common.{◌≡◌, ℕ, ◌+◌, ◌≤◌, max, Bool, true, false, List, [], ◌∷◌, ◌++◌, length, Some, refl, sym, ap, subst, arith, length-append}
use Rattle.std.specs.Prelude.{slice_get, if◌then◌else◌, ◌||◌}
use Rattle.p10_base.specs.declared.span.Span.{Span}
use Rattle.p10_base.specs.declared.at.At.{At}
use Rattle.p10_core.specs.Typed.{PlainValue, PlainStatement, block, if_then, if_else, PlainStatements, no_statements, more_statements, PlainVariable, PlainProgram}
use Rattle.p10_meaning.specs.declared.pointers.Scalar.{Scalar}
use Rattle.p10_meaning.specs.Objects.{all_closed}
use Rattle.p10_meaning.specs.States.{State, Progress, and_then}
use Rattle.p10_meaning.specs.Scalars.{is_true}
use Rattle.p10_meaning.specs.Values.{Calls, Setting, Held, evaluate}
use Rattle.p10_meaning.specs.Statements.{Frame, Flow, normal, broken, continued, returned, Done, goes, go_on, leave_block, in_block, execute, execute_from, execute_form}
use Rattle.p10_code.specs.Operations.{begin, close, jump, branch, Op, Entry}
use Rattle.p10_code.specs.Machine.{Rest, with_block, Reaches}
use Rattle.p10_code.specs.ValueCode.{op, operand, debt, height, value_code}
use Rattle.p10_code.specs.StatementCode.{Exits, within, opens_object, any_opens, inner_place, block_code, need, statements_need, test_code, statement_code, statements_code, form_code}
use Rattle.p10_code.proofs.Base.{owed, assoc, Stands, front, rear, end_of, stands_at, kept_all, Under, stand, To, comes_to, placed, free_op, free_jump}
use Rattle.p10_code.proofs.ValueParts.{site, setting, CallsRun}
use Rattle.p10_code.proofs.ValueLaw.{value_law}
use Rattle.p10_code.proofs.Branching.{branch_runs}
use Rattle.p10_code.proofs.StatementParts.{Tracks, MayOpen, Fits, Still, fits_on, fits_less, still_on, ready_in, resume, done, over, Afterwards, PartRuns, then_runs, StatementRuns, StatementsRun, still_frame}
use Rattle.p10_code.proofs.Assigning.{node}

-- one of two opens nothing
pub neither : (tracked a b : Bool) → MayOpen tracked (a || b) → MayOpen tracked a × MayOpen tracked b
neither true a b h = (tt, tt)
neither false true b h = absurd (let e : true ≡ false = h in cc)
neither false false b h = (refl, h)

-- where nothing is opened nothing may be
may_open : (b : Bool) → MayOpen b b
may_open true = tt
may_open false = refl

module _ (p : PlainProgram) (code : List Op) (entries : List Entry) (u : Under) (vars : List PlainVariable) (call : Calls) (m : ℕ) (cr : (blocks : List (List ℕ)) → CallsRun p code entries (record u { blocks = blocks }) call m) where
  -- ## Statements in order

  pub none_run : StatementsRun p code entries u vars call m no_statements
  none_run tracked bs j pc q frame s w K f may has after =
      placed p code entries (over u tracked frame.opened bs) pc q s w _ (sym has)
      (after normal frame s w q (still_frame p code entries u vars call m 0 (length vars) (length vars) tracked frame s s w w f (omega arith) (omega arith) (kept_all (length vars) (length vars) s) (omega arith)))

  pub more_run : (x : PlainStatement) (rest : PlainStatements) → StatementRuns p code entries u vars call m x → StatementsRun p code entries u vars call m rest → StatementsRun p code entries u vars call m (more_statements x rest)
  more_run x rest rx rr tracked bs j pc q frame s w K f may has after =
      let g : Setting = setting p vars call m in
      let cx : List Op = statement_code (site p vars) j pc x in
      let cs : List Op = statements_code (site p vars) j (pc + length cx) rest in
      let (mx, mr) = neither tracked (opens_object vars x) (any_opens vars rest) may in
      comes_to p code entries _ _ _ (assoc (execute g x frame w) (λ done w. go_on done.flow done.frame w (λ frame w. execute_from g 0 rest frame w)) K)
      (rx tracked bs j pc (pc + length cx) frame s w (λ done w. and_then (go_on done.flow done.frame w (λ frame w. execute_from g 0 rest frame w)) K) (fits_less vars m (max (need x) (statements_need rest)) (need x) tracked frame s w w f (omega arith) (omega arith)) mx (front code pc q cx cs has)
      (λ flow frame1 s1 w1 i t.
      then_runs p code entries u vars call m (statements_need rest) (any_opens vars rest) (λ j at. statements_code (site p vars) j at rest) (λ frame w. execute_from g 0 rest frame w) rr flow tracked bs j (pc + length cx) q i frame frame1 s s1 w w1 K
      (fits_less vars m (max (need x) (statements_need rest)) (statements_need rest) tracked frame s w w f (omega arith) (omega arith)) t mr (rear code pc q cx cs has) after))

  -- ## Blocks

  -- a part is executed as a block that opens objects, or none: the exits close one block more
  block_resumes : (j : Exits) (q last i : ℕ) (span : Span) (flow : Flow) (bs : List (List ℕ)) (outer : List ℕ) (tracked : Bool) (frame1 : Frame) (s1 : List Held) (w1 : State) (K : Done → State → Progress Rest) → slice_get code last ≡ Some (op 0 span close) → q ≡ last + 1 →
      Reaches p code entries (resume j q flow (stand (over u tracked outer bs) i s1 (record w1 { objects = all_closed frame1.opened w1.objects }))) (K (done flow (record { held = frame1.held; opened = outer })) (record w1 { objects = all_closed frame1.opened w1.objects })) →
      Reaches p code entries (resume (within true j) last flow (stand (over u true frame1.opened (with_block tracked outer bs)) i s1 w1)) (and_then (leave_block outer (done flow frame1) w1) K)
  block_resumes j q last i span normal bs outer tracked frame1 s1 w1 K at e r =
      free_op p code entries (over u true frame1.opened (with_block tracked outer bs)) last span close s1 w1 _ at
      (placed p code entries (over u tracked outer bs) (last + 1) q s1 (record w1 { objects = all_closed frame1.opened w1.objects }) _ (sym e) r)
  block_resumes j q last i span broken bs outer tracked frame1 s1 w1 K at e r = r
  block_resumes j q last i span continued bs outer tracked frame1 s1 w1 K at e r = r
  block_resumes j q last i span (returned x) bs outer tracked frame1 s1 w1 K at e r = r

  -- the frame of a block
  abbrev inner : Frame → Frame
  inner frame = record { held = frame.held; opened = [] }

  -- what a block leaves
  block_still : (inside tracked : Bool) (frame frame1 : Frame) (s s1 : List Held) (w w1 : State) → Tracks tracked frame.opened → Still vars inside s w frame1 s1 w1 → Still vars tracked s w (record { held = frame1.held; opened = frame.opened }) s1 (record w1 { objects = all_closed frame1.opened w1.objects })
  block_still inside tracked frame frame1 s s1 w w1 t h = record { variables = h.variables; len = h.len; tracks = t; later = h.later }

  -- where no object was opened none is closed
  same_state : (opened : List ℕ) (w : State) → opened ≡ [] → record w { objects = all_closed opened w.objects } ≡ w
  same_state opened w e = ap (λ o. record w { objects = all_closed o w.objects }) e

  plain_resumes : (j : Exits) (q i : ℕ) (flow : Flow) (bs : List (List ℕ)) (outer : List ℕ) (tracked : Bool) (frame1 : Frame) (s1 : List Held) (w1 : State) (K : Done → State → Progress Rest) → frame1.opened ≡ [] →
      Reaches p code entries (resume j q flow (stand (over u tracked outer bs) i s1 (record w1 { objects = all_closed frame1.opened w1.objects }))) (K (done flow (record { held = frame1.held; opened = outer })) (record w1 { objects = all_closed frame1.opened w1.objects })) →
      Reaches p code entries (resume j q flow (stand (over u false frame1.opened (with_block tracked outer bs)) i s1 w1)) (and_then (leave_block outer (done flow frame1) w1) K)
  plain_resumes j q i flow bs outer tracked frame1 s1 w1 K e r =
      subst (λ x. Reaches p code entries (resume j q flow (stand (over u tracked outer bs) i s1 x)) (K (done flow (record { held = frame1.held; opened = outer })) (record w1 { objects = all_closed frame1.opened w1.objects }))) (same_state frame1.opened w1 e) r

  -- a part as a block, where something holds of the slots
  pub block_if : (P : List Held → Type 0) (h : ℕ) (inside : Bool) (part : Exits → ℕ → List Op) (run : Frame → State → Progress Done) →
      ((tracked : Bool) (bs : List (List ℕ)) (j : Exits) (pc q : ℕ) (frame : Frame) (s : List Held) (w : State) (K : Done → State → Progress Rest) → P s → Fits vars m h tracked frame s w → MayOpen tracked inside → Stands code pc (part j pc) q → Afterwards p code entries u vars call m tracked bs j q s w K →
      To p code entries (over u tracked frame.opened bs) pc s w (and_then (run frame w) K)) → (span : Span) (tracked : Bool) (bs : List (List ℕ)) (j : Exits) (pc q : ℕ) (frame : Frame) (s : List Held) (w : State) (K : Done → State → Progress Rest) → P s → Fits vars m h tracked frame s w →
      Stands code pc (block_code inside span (part (within inside j) (inner_place inside pc))) q → Afterwards p code entries u vars call m tracked bs j q s w K →
      To p code entries (over u tracked frame.opened bs) pc s w (and_then (in_block run frame w) K)
  block_if P h true part run r span tracked bs j pc q frame s w K holds_here f has after =
      let body : List Op = part (within true j) (pc + 1) in
      let hl : Stands code (pc + 1 + length body) (op 0 span close ∷ []) q = rear code (pc + 1) q body (op 0 span close ∷ []) has.1 in
      comes_to p code entries _ _ _ (assoc (run (inner frame) w) (λ d w. leave_block frame.opened d w) K)
      (free_op p code entries (over u tracked frame.opened bs) pc span begin s w _ has.0
      (r true (with_block tracked frame.opened bs) (within true j) (pc + 1) (pc + 1 + length body) (inner frame) s w (λ d w. and_then (leave_block frame.opened d w) K) holds_here
      (record { room = f.room; variables = f.variables; tracks = tt; bound = f.bound }) tt (front code (pc + 1) q body (op 0 span close ∷ []) has.1)
      (λ flow frame1 s1 w1 i t.
      block_resumes j q (pc + 1 + length body) i span flow bs frame.opened tracked frame1 s1 w1 K hl.0 hl.1
      (after flow (record { held = frame1.held; opened = frame.opened }) s1 (record w1 { objects = all_closed frame1.opened w1.objects }) i (block_still true tracked frame frame1 s s1 w w1 f.tracks t)))))
  block_if P h false part run r span tracked bs j pc q frame s w K holds_here f has after =
      comes_to p code entries _ _ _ (assoc (run (inner frame) w) (λ d w. leave_block frame.opened d w) K)
      (r false (with_block tracked frame.opened bs) (within false j) pc q (inner frame) s w (λ d w. and_then (leave_block frame.opened d w) K) holds_here
      (record { room = f.room; variables = f.variables; tracks = refl; bound = f.bound }) refl has
      (λ flow frame1 s1 w1 i t.
      plain_resumes j q i flow bs frame.opened tracked frame1 s1 w1 K t.tracks
      (after flow (record { held = frame1.held; opened = frame.opened }) s1 (record w1 { objects = all_closed frame1.opened w1.objects }) i (block_still false tracked frame frame1 s s1 w w1 f.tracks t))))

  pub block_by : (h : ℕ) (inside : Bool) (part : Exits → ℕ → List Op) (run : Frame → State → Progress Done) → PartRuns p code entries u vars call m h inside part run → (span : Span) (tracked : Bool) (bs : List (List ℕ)) (j : Exits) (pc q : ℕ) (frame : Frame) (s : List Held) (w : State) (K : Done → State → Progress Rest) → Fits vars m h tracked frame s w →
      Stands code pc (block_code inside span (part (within inside j) (inner_place inside pc))) q → Afterwards p code entries u vars call m tracked bs j q s w K →
      To p code entries (over u tracked frame.opened bs) pc s w (and_then (in_block run frame w) K)
  block_by h inside part run r span tracked bs j pc q frame s w K f has after =
      block_if (λ s. Unit {0}) h inside part run (λ tracked bs j pc q frame s w K t f may has after. r tracked bs j pc q frame s w K f may has after) span tracked bs j pc q frame s w K tt f has after

  pub block_runs : (here : At) (ss : PlainStatements) → StatementsRun p code entries u vars call m ss → PartRuns p code entries u vars call m (statements_need ss) false (λ j pc. form_code (site p vars) j pc here (block ss)) (λ frame w. execute_form (setting p vars call m) here (block ss) frame w)
  block_runs here ss r tracked bs j pc q frame s w K f may has after =
      block_by (statements_need ss) (any_opens vars ss) (λ j at. statements_code (site p vars) j at ss) (λ frame w. execute_from (setting p vars call m) 0 ss frame w) r here.span tracked bs j pc q frame s w K f has after

  -- ## `if`

  -- a test of a statement
  pub test_runs : (v : PlainValue) (d : ℕ) (tracked : Bool) (bs : List (List ℕ)) (pc hit miss q h : ℕ) (span : Span) (frame : Frame) (s : List Held) (w : State) (K : Scalar → State → Progress Rest) → Fits vars m h tracked frame s w → 1 + height v ≤ h → Stands code pc (test_code (site p vars) span d pc v hit miss) q →
      ((x : Scalar) (s' : List Held) (w' : State) → Still vars tracked s w frame s' w' → w'.left + d + 1 ≤ w.left → To p code entries (over u tracked frame.opened bs) (if is_true x then hit else miss) s' w' (K x w')) →
      To p code entries (over u tracked frame.opened bs) pc s w (owed d w (λ w. and_then (evaluate (setting p vars call m) frame.held v w) K))
  test_runs v d tracked bs pc hit miss q h span frame s w K f le has after =
      let n : ℕ = length vars in
      let U : Under = over u tracked frame.opened bs in
      let cU : CallsRun p code entries U call m = cr (with_block tracked frame.opened bs) in
      branch_runs p code entries U vars call m frame.held v (value_law p code entries U vars call m cU frame.held v) n d pc hit miss q span [] s w K (ready_in vars m h n (1 + height v) d tracked frame s w f (omega arith) (omega (arith, f.room, le))) has
      (λ x s1 w1 a. after x s1 w1 (still_frame p code entries u vars call m h n n tracked frame s s1 w w1 f (omega arith) (omega arith) a.kept (omega (arith, a.later))) (omega (arith, a.later)))

  pub after_still : (tracked : Bool) (bs : List (List ℕ)) (j : Exits) (q : ℕ) (s s1 : List Held) (w w1 : State) (K : Done → State → Progress Rest) → length s1 ≡ length s → w1.left ≤ w.left → Afterwards p code entries u vars call m tracked bs j q s w K → Afterwards p code entries u vars call m tracked bs j q s1 w1 K
  after_still tracked bs j q s s1 w w1 K len later after flow frame2 s2 w2 i t = after flow frame2 s2 w2 i (still_on vars tracked s s1 s2 w w1 w2 frame2 len later t)

  -- a jump follows where execution goes on with the next statement
  pub resume_jump : (flow : Flow) (tracked : Bool) (bs : List (List ℕ)) (j : Exits) (last q i : ℕ) (span : Span) (frame : Frame) (s : List Held) (w : State) (o : Progress Rest) → slice_get code last ≡ Some (op 0 span (jump q)) →
      Reaches p code entries (resume j q flow (stand (over u tracked frame.opened bs) i s w)) o → Reaches p code entries (resume j last flow (stand (over u tracked frame.opened bs) i s w)) o
  resume_jump normal tracked bs j last q i span frame s w o at r = free_jump p code entries (over u tracked frame.opened bs) last q span s w o at r
  resume_jump broken tracked bs j last q i span frame s w o at r = r
  resume_jump continued tracked bs j last q i span frame s w o at r = r
  resume_jump (returned x) tracked bs j last q i span frame s w o at r = r

  then_case : (b : Bool) (a : PlainStatement) → StatementRuns p code entries u vars call m a → (tracked : Bool) (bs : List (List ℕ)) (j : Exits) (hit q : ℕ) (frame : Frame) (s s1 : List Held) (w w1 : State) (K : Done → State → Progress Rest) → Fits vars m (need a) tracked frame s w → Still vars tracked s w frame s1 w1 → MayOpen tracked (opens_object vars a) → Stands code hit (statement_code (site p vars) j hit a) q → Afterwards p code entries u vars call m tracked bs j q s w K →
      To p code entries (over u tracked frame.opened bs) (if b then hit else q) s1 w1 (and_then (if b then execute (setting p vars call m) a frame w1 else goes frame w1) K)
  then_case true a ra tracked bs j hit q frame s s1 w w1 K f t may has after =
      ra tracked bs j hit q frame s1 w1 K (fits_on vars m (need a) (need a) tracked frame frame s s1 w w1 f t (omega arith)) may has (after_still tracked bs j q s s1 w w1 K t.len t.later after)
  then_case false a ra tracked bs j hit q frame s s1 w w1 K f t may has after = after normal frame s1 w1 q t

  pub if_then_runs : (here : At) (v : PlainValue) (a : PlainStatement) → StatementRuns p code entries u vars call m a → PartRuns p code entries u vars call m (max (1 + height v) (need a)) (opens_object vars a) (λ j pc. form_code (site p vars) j pc here (if_then v a)) (λ frame w. execute_form (setting p vars call m) here (if_then v a) frame w)
  if_then_runs here v a ra tracked bs j pc q frame s w K f may has after =
      let g : Setting = setting p vars call m in
      let n : ℕ = length vars in
      let h : ℕ = max (1 + height v) (need a) in
      let cv : List Op = value_code (site p vars) n (n + 1) 1 pc v in
      let hit : ℕ = pc + (length cv + 1) in
      let ca : List Op = statement_code (site p vars) j hit a in
      let test : List Op = test_code (site p vars) here.span 1 pc v hit (hit + length ca) in
      let lt : length test ≡ length cv + 1 = length-append cv (op (debt 1 v) here.span (branch (operand (site p vars) n v) hit (hit + length ca)) ∷ []) in
      let ha : Stands code hit ca q = stands_at code (pc + length test) hit q ca (omega (arith, lt)) (rear code pc q test ca has) in
      let eq : hit + length ca ≡ q = omega (arith, end_of code hit q ca ha) in
      comes_to p code entries _ _ _ (node p code entries u vars call m cr w (λ w. evaluate g frame.held v w) (λ x w. if is_true x then execute g a frame w else goes frame w) K)
      (test_runs v 1 tracked bs pc hit q (pc + length test) h here.span frame s w _ f (omega arith) (subst (λ e. Stands code pc (test_code (site p vars) here.span 1 pc v hit e) (pc + length test)) eq (front code pc q test ca has))
      (λ x s1 w1 t later. then_case (is_true x) a ra tracked bs j hit q frame s s1 w w1 K (fits_less vars m h (need a) tracked frame s w w f (omega arith) (omega arith)) t may ha after))

  else_case : (b : Bool) (x y : PlainStatement) → StatementRuns p code entries u vars call m x → StatementRuns p code entries u vars call m y → (tracked : Bool) (bs : List (List ℕ)) (j : Exits) (hit miss last q : ℕ) (span : Span) (frame : Frame) (s s1 : List Held) (w w1 : State) (K : Done → State → Progress Rest) → Fits vars m (max (need x) (need y)) tracked frame s w → Still vars tracked s w frame s1 w1 →
      MayOpen tracked (opens_object vars x) → MayOpen tracked (opens_object vars y) → Stands code hit (statement_code (site p vars) j hit x) last → slice_get code last ≡ Some (op 0 span (jump q)) → Stands code miss (statement_code (site p vars) j miss y) q → Afterwards p code entries u vars call m tracked bs j q s w K →
      To p code entries (over u tracked frame.opened bs) (if b then hit else miss) s1 w1 (and_then (if b then execute (setting p vars call m) x frame w1 else execute (setting p vars call m) y frame w1) K)
  else_case true x y rx ry tracked bs j hit miss last q span frame s s1 w w1 K f t mx my hx hj hy after =
      rx tracked bs j hit last frame s1 w1 K (fits_on vars m (max (need x) (need y)) (need x) tracked frame frame s s1 w w1 f t (omega arith)) mx hx
      (λ flow frame2 s2 w2 i t2. resume_jump flow tracked bs j last q i span frame2 s2 w2 _ hj (after_still tracked bs j q s s1 w w1 K t.len t.later after flow frame2 s2 w2 i t2))
  else_case false x y rx ry tracked bs j hit miss last q span frame s s1 w w1 K f t mx my hx hj hy after =
      ry tracked bs j miss q frame s1 w1 K (fits_on vars m (max (need x) (need y)) (need y) tracked frame frame s s1 w w1 f t (omega arith)) my hy (after_still tracked bs j q s s1 w w1 K t.len t.later after)

  pub if_else_runs : (here : At) (v : PlainValue) (x y : PlainStatement) → StatementRuns p code entries u vars call m x → StatementRuns p code entries u vars call m y → PartRuns p code entries u vars call m (max (1 + height v) (max (need x) (need y))) (opens_object vars x || opens_object vars y) (λ j pc. form_code (site p vars) j pc here (if_else v x y)) (λ frame w. execute_form (setting p vars call m) here (if_else v x y) frame w)
  if_else_runs here v x y rx ry tracked bs j pc q frame s w K f may has after =
      let g : Setting = setting p vars call m in
      let n : ℕ = length vars in
      let h : ℕ = max (1 + height v) (max (need x) (need y)) in
      let cv : List Op = value_code (site p vars) n (n + 1) 1 pc v in
      let hit : ℕ = pc + (length cv + 1) in
      let ca : List Op = statement_code (site p vars) j hit x in
      let miss : ℕ = hit + length ca + 1 in
      let cb : List Op = statement_code (site p vars) j miss y in
      let test : List Op = test_code (site p vars) here.span 1 pc v hit miss in
      let tail : List Op = ca ++ op 0 here.span (jump (miss + length cb)) ∷ cb in
      let lt : length test ≡ length cv + 1 = length-append cv (op (debt 1 v) here.span (branch (operand (site p vars) n v) hit miss) ∷ []) in
      let h1 : Stands code hit tail q = stands_at code (pc + length test) hit q tail (omega (arith, lt)) (rear code pc q test tail has) in
      let h2 : Stands code (hit + length ca) (op 0 here.span (jump (miss + length cb)) ∷ cb) q = rear code hit q ca _ h1 in
      let eq : miss + length cb ≡ q = omega (arith, end_of code miss q cb h2.1) in
      let (mx, my) = neither tracked (opens_object vars x) (opens_object vars y) may in
      comes_to p code entries _ _ _ (node p code entries u vars call m cr w (λ w. evaluate g frame.held v w) (λ z w. if is_true z then execute g x frame w else execute g y frame w) K)
      (test_runs v 1 tracked bs pc hit miss (pc + length test) h here.span frame s w _ f (omega arith) (front code pc q test tail has)
      (λ z s1 w1 t later.
      else_case (is_true z) x y rx ry tracked bs j hit miss (hit + length ca) q here.span frame s s1 w w1 K (fits_less vars m h (max (need x) (need y)) tracked frame s w w f (omega arith) (omega arith)) t mx my (front code hit q ca _ h1)
      (subst (λ e. slice_get code (hit + length ca) ≡ Some (op 0 here.span (jump e))) eq h2.0) h2.1 after))
