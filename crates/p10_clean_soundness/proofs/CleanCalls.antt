-- Calls stay clean, by induction on the bound of nested calls.
use Rattle.std.proofs.Common.{◌≡◌, ℕ, zero, suc, ◌≤◌, Bool, true, false, List, [], refl, sym, subst, arith, Option, Some, slice_get}
use Rattle.std.specs.Bool.{nat_eq}
use Rattle.p10_core.specs.Rows.{is_void}
use Rattle.p10_core.specs.Typed.{PlainStatement, PlainStatements, PlainFunction, PlainProgram}
use Rattle.p10_core.specs.WholePrograms.{is_among, numbers_from, around, parameter_types, IsWholeStatement, AreWholeStatements, IsWholeProgram}
use Rattle.p10_cert.specs.Claims.{Func, Loop, Claims}
use Rattle.p10_meaning.specs.declared.pointers.Scalar.{Scalar}
use Rattle.p10_meaning.specs.Objects.{Object, all_closed}
use Rattle.p10_meaning.specs.States.{State, Progress, and_then}
use Rattle.p10_meaning.specs.Values.{Setting}
use Rattle.p10_meaning.specs.Statements.{Frame, Done, execute_from}
use Rattle.p10_meaning.specs.Calling.{Depth, deeper, raised, Entered, entered, given, leave_call, setting_of, enter_call, call_at}
use Rattle.p10_meaning.specs.Sound.{Kind, Sound, ScalarsFit, region_at}
use Rattle.p10_meaning.proofs.SoundStatements.{scope_after_all}
use Rattle.p10_sums.specs.Counting.{loops_claimed}
use Rattle.p10_sums.specs.Keeping.{HoldsOf}
use Rattle.p10_absx.specs.Environments.{Environment}
use Rattle.p10_absx.specs.Entering.{claims_on, entry_at}
use Rattle.p10_pass.specs.Passing.{Manner, manner_in, manner_of, pass_statements, pass_body}
use Rattle.p10_evaluation.specs.Claimed.{ArgumentsLie, ResultsLie}
use Rattle.p10_execution.specs.Leaving.{NoneFails}
use Rattle.p10_execution.proofs.Ends.{block_none}
use Rattle.p10_task.proofs.Passes.{result_claimed, manner_is}
use Rattle.p10_soundness.proofs.Beginning.{body_before, entered_in_frame}
use Rattle.p10_soundness.proofs.Entering.{EntersAsDescribed, calls_enter}
use Rattle.p10_clean.specs.Settings.{set_at_entry, ways_of_all}
use Rattle.p10_clean.specs.Statements.{flaws_in_statements}
use Rattle.p10_clean_soundness.specs.private.Stays.{Stays, HasValue}
use Rattle.p10_clean_soundness.specs.private.Objects.{Settled, Survives, LeavesClean}
use Rattle.p10_clean_soundness.specs.private.Standing.{StandsClean, CallsStayClean}
use Rattle.p10_clean_soundness.proofs.Apart.{body_apart}
use Rattle.p10_clean_soundness.proofs.CleanFunctions.{IsCleanFunction}
use Rattle.p10_clean_soundness.proofs.CleanStatements.{statement_clean, statements_clean}
use Rattle.p10_clean_soundness.proofs.CleanUpdates.{UpdatesGive}
use Rattle.p10_clean_soundness.proofs.CleanValues.{values_clean, discards_clean, places_clean, reads_clean}
use Rattle.p10_clean_soundness.proofs.Closing.{leaves_then, closing_leaves}
use Rattle.p10_clean_soundness.proofs.Endings.{body_returns}
use Rattle.p10_clean_soundness.proofs.EntryFrames.{EntersFunction, function_entered}
use Rattle.p10_clean_soundness.proofs.Reaching.{Next, GoesClean, AllClean, statements_next}
use Rattle.p10_clean_soundness.proofs.UpdatedOperators.{update_ok}
use Rattle.p10_clean_soundness.proofs.Staying.{stays_step, stays_then, stays_weaker, stays_with}

module _ (p : PlainProgram) (whole : IsWholeProgram p) (c : Claims) (results : (n : ℕ) (depth : Depth) → ResultsLie p (Some c) n (call_at n p depth))
    (fine : (k : ℕ) (f : PlainFunction) → slice_get p.functions k ≡ Some f → NoneFails (pass_body f (Some c) k (entry_at p c k)))
    (clean : (k : ℕ) (f : PlainFunction) → slice_get p.functions k ≡ Some f → IsCleanFunction p c k f) where
  -- ## The body of a function

  module _ (n : ℕ) (depth : Depth) (stay : CallsStayClean p (Some c) n (call_at n p depth)) (k : ℕ) (f : PlainFunction) (there : slice_get p.functions k ≡ Some f) where
    abbrev pub claim : Option Func
    claim = slice_get c.funcs k

    abbrev pub ls : List Loop
    ls = loops_claimed claim

    abbrev pub m : Manner
    m = manner_in f (Some c) (Some ls) (result_claimed claim)

    abbrev s : Setting
    s = setting_of p n (call_at n p) depth f

    abbrev pub entry : Environment
    entry = entry_at p c k

    abbrev scope : List ℕ
    scope = numbers_from 0 f.parameters

    pub none : NoneFails (pass_statements m f.body entry)
    none = subst (λ m. NoneFails (pass_statements m f.body entry)) (manner_is c f claim) (block_none f.body (pass_statements (manner_of f (Some c) k) f.body entry) (fine k f there))

    pub flaws : flaws_in_statements m f.body (set_at_entry f) entry ≡ []
    flaws = subst (λ m. flaws_in_statements m f.body (set_at_entry f) entry ≡ []) (manner_is c f claim) (clean k f there).body

    updates_give : UpdatesGive p whole n depth k f there (Some c) (Some ls) (result_claimed claim) (results n depth)
    updates_give scope at kind op t q v i env head held none target points d ks js x y read fx fy held_by objects =
        update_ok p ks js (around (region_at p k f scope false false)) (Some c) kind at.span op t q v i f.variables env head held none target points x y read d fx fy held_by objects

    -- each of its statements leaves a clean state
    pub statement_goes : (x : PlainStatement) (scope : List ℕ) (l b : Bool) → IsWholeStatement (region_at p k f scope l b) x → GoesClean p whole n depth k f there (Some c) (Some ls) (result_claimed claim) (results n depth) scope x
    statement_goes x scope l b i = statement_clean p whole n depth k f there (Some c) ls (result_claimed claim) (results n depth)
        (values_clean p whole n depth k f there (Some c) (Some ls) (result_claimed claim) (results n depth) stay) (places_clean p whole n depth k f there (Some c) (Some ls) (result_claimed claim) (results n depth) stay)
        (discards_clean p whole n depth k f there (Some c) (Some ls) (result_claimed claim) (results n depth) stay) (reads_clean p whole n depth k f there (Some c) (Some ls) (result_claimed claim) (results n depth) stay)
        updates_give x scope l b i

    pub statements_go : (xs : PlainStatements) (scope : List ℕ) (l b : Bool) → AreWholeStatements (region_at p k f scope l b) xs → AllClean p whole n depth k f there (Some c) (Some ls) (result_claimed claim) (results n depth) scope xs
    statements_go xs scope l b i = statements_clean p whole n depth k f there (Some c) ls (result_claimed claim) (results n depth)
        (values_clean p whole n depth k f there (Some c) (Some ls) (result_claimed claim) (results n depth) stay) (places_clean p whole n depth k f there (Some c) (Some ls) (result_claimed claim) (results n depth) stay)
        (discards_clean p whole n depth k f there (Some c) (Some ls) (result_claimed claim) (results n depth) stay) (reads_clean p whole n depth k f there (Some c) (Some ls) (result_claimed claim) (results n depth) stay)
        updates_give xs scope l b i

    abbrev BodyLeft : Entered → List ℕ → Done → State → Type 0
    BodyLeft start opening d u = Next p whole n depth k f there (Some c) (Some ls) (result_claimed claim) (results n depth) (scope_after_all f.body scope) scope opening (ways_of_all f.body (set_at_entry f)) (pass_statements m f.body entry) [] start.state.objects start.frame.opened d u

    -- where it is entered
    stands_at : (opening : List ℕ) (xs : List Scalar) (w : State) (ks : List Kind) → Settled p opening w.objects → EntersAsDescribed p c n k f [] ks (entered f.variables xs w) → EntersFunction p f opening w.objects (entered f.variables xs w) →
        StandsClean p f.variables n scope opening (set_at_entry f) (entered f.variables xs w).frame (entered f.variables xs w).state
    stands_at opening xs w ks settled d h = record {
      soundly = record { kinds = d.kinds; sound = d.described.sound; fits = d.described.fits; in_frame = entered_in_frame f.variables xs w; left = d.described.few };
      set_up = h.set_up;
      live = h.live;
      settled = h.clean.settled;
    }

    -- its execution
    pub body_next : (opening : List ℕ) (xs : List Scalar) (w : State) (ks : List Kind) → Sound p ks w → ScalarsFit p ks (parameter_types f) xs → ArgumentsLie (claims_on (slice_get c.funcs k)) xs → w.left ≤ n → Settled p opening w.objects →
        let start : Entered = entered f.variables xs (raised depth w) in Stays (BodyLeft start opening) (execute_from s 0 f.body start.frame start.state)
    body_next opening xs w ks sound fit lie few settled =
        let start : Entered = entered f.variables xs (raised depth w) in
        let d : EntersAsDescribed p c n k f [] ks start = calls_enter p whole c n k f there depth xs w ks sound fit lie few [] in
        let h : EntersFunction p f opening w.objects start = function_entered p whole k f there opening xs (raised depth w) ks fit sound settled in
        let stands : StandsClean p f.variables n scope opening (set_at_entry f) start.frame start.state = stands_at opening xs (raised depth w) ks settled d h in
        let apart = body_apart p k f (whole.functions k f there) in
        statements_next p whole n depth k f there (Some c) (Some ls) (result_claimed claim) (results n depth) f.body scope false false (whole.functions k f there).body entry (body_before p whole c k f there) none (set_at_entry f) apart opening [] start.frame start.state stands d.described.describes
        (statements_go f.body scope false false (whole.functions k f there).body entry (body_before p whole c k f there) none (set_at_entry f) flaws apart opening [] start.frame start.state stands d.described.describes)

    -- its objects die where its call ends
    not_among : (o : ℕ) (b : Bool) → (b ≡ true → ⊥) → b ≡ false
    not_among o true h = absurd (h refl)
    not_among o false h = refl

    left_clean : (opening : List ℕ) (xs : List Scalar) (w : State) → Settled p opening w.objects → (h : EntersFunction p f opening w.objects (entered f.variables xs w)) → (d : Done) (u : State) → BodyLeft (entered f.variables xs w) opening d u →
        LeavesClean p opening w.objects (record u { objects = all_closed d.frame.opened u.objects })
    left_clean opening xs w settled h d u j =
        closing_leaves p j.ready.kinds u j.ready.sound opening w.objects d.frame.opened settled (leaves_then p opening w.objects (entered f.variables xs w).state u h.clean j.moved.clean) (λ o x e.
        not_among o (is_among o d.frame.opened) (λ a.
        let alive : Survives o x (entered f.variables xs w).state.objects = h.clean.survive.each o x e in
        let inside : is_among o (entered f.variables xs w).frame.opened ≡ true = j.moved.opens.each o alive.object alive.there a in
        let none : is_among o [] ≡ true = h.opens.each o x e inside in absurd cc))

    -- what it gives
    pub returns_value : nat_eq k p.main ≡ false → is_void f.result ≡ false → (frame : Frame) (w : State) → HoldsOf (λ (d : Done) w. HasValue (given d.flow)) (execute_from s 0 f.body frame w)
    returns_value other result_is frame w =
        body_returns p whole n depth k f there result_is ((clean k f there).returns other result_is) frame w

  -- ## Calls

  -- what comes of a function that is entered: it has a value, if it has a result and isn't `main`
  abbrev pub CallLeft : ℕ → PlainFunction → List ℕ → List Object → Option Scalar → State → Type 0
  CallLeft k f opening before x u = LeavesClean p opening before u × (nat_eq k p.main ≡ false → is_void f.result ≡ false → HasValue x)

  pub enter_clean : (n : ℕ) → ((depth : Depth) → CallsStayClean p (Some c) n (call_at n p depth)) → (depth : Depth) (k : ℕ) (f : PlainFunction) → slice_get p.functions k ≡ Some f → (opening : List ℕ) (xs : List Scalar) (w : State) (ks : List Kind) → Sound p ks w → ScalarsFit p ks (parameter_types f) xs →
      ArgumentsLie (claims_on (slice_get c.funcs k)) xs → w.left ≤ n → Settled p opening w.objects → Stays (CallLeft k f opening w.objects) (enter_call p n (call_at n p) depth (Some f) xs w)
  enter_clean n stay depth k f there opening xs w ks sound fit lie few settled = by_result (nat_eq k p.main) (is_void f.result) refl refl
    where
      inside : Depth
      inside = deeper f depth

      start : Entered
      start = entered f.variables xs (raised inside w)

      run : Progress Done
      run = execute_from (setting_of p n (call_at n p) inside f) 0 f.body start.frame start.state

      BodyEnds : Done → State → Type 0
      BodyEnds d u = BodyLeft n inside (stay inside) k f there start opening d u

      body : Stays BodyEnds run
      body = body_next n inside (stay inside) k f there opening xs w ks sound fit lie few settled

      h : EntersFunction p f opening w.objects start
      h = function_entered p whole k f there opening xs (raised inside w) ks fit sound settled

      by_result : (main void : Bool) → nat_eq k p.main ≡ main → is_void f.result ≡ void → Stays (CallLeft k f opening w.objects) (and_then run leave_call)
      by_result false false m v =
          stays_then (λ d u. BodyEnds d u × HasValue (given d.flow)) (CallLeft k f opening w.objects) run leave_call (stays_with BodyEnds (λ d u. HasValue (given d.flow)) run body (returns_value n inside (stay inside) k f there m v start.frame start.state))
          (λ d u j. (left_clean n inside (stay inside) k f there opening xs (raised inside w) settled h d u j.0, λ a b. j.1))
      by_result true void m v = stays_then BodyEnds (CallLeft k f opening w.objects) run leave_call body (λ d u j. (left_clean n inside (stay inside) k f there opening xs (raised inside w) settled h d u j, λ a b. absurd cc))
      by_result false true m v = stays_then BodyEnds (CallLeft k f opening w.objects) run leave_call body (λ d u j. (left_clean n inside (stay inside) k f there opening xs (raised inside w) settled h d u j, λ a b. absurd cc))

  fewer : (n l m : ℕ) → suc l ≡ m → m ≤ suc n → l ≤ n
  fewer n l m e b = omega (arith, e, b)

  -- a call of a function that is there
  pub call_clean : (n : ℕ) → ((depth : Depth) → CallsStayClean p (Some c) n (call_at n p depth)) → (depth : Depth) (k : ℕ) (f : PlainFunction) → slice_get p.functions k ≡ Some f → (opening : List ℕ) (xs : List Scalar) (w : State) (ks : List Kind) → Sound p ks w → ScalarsFit p ks (parameter_types f) xs →
      ArgumentsLie (claims_on (slice_get c.funcs k)) xs → w.left ≤ suc n → Settled p opening w.objects → Stays (CallLeft k f opening w.objects) (call_at (suc n) p depth k xs w)
  call_clean n stay depth k f there opening xs w ks sound fit lie few settled =
      stays_step (CallLeft k f opening w.objects) w (λ w. enter_call p n (call_at n p) depth (slice_get p.functions k) xs w) (λ left e.
      subst (λ o. Stays (CallLeft k f opening w.objects) (enter_call p n (call_at n p) depth o xs (record w { left = left }))) (sym there)
      (enter_clean n stay depth k f there opening xs (record w { left = left }) ks sound fit lie (fewer n left w.left e few) settled))

  pub calls_clean : (n : ℕ) (depth : Depth) → CallsStayClean p (Some c) n (call_at n p depth)
  calls_clean zero depth = record { stay = λ g xs w covered opening settled. tt }
  calls_clean (suc n) depth = record {
    stay = λ g xs w covered opening settled.
        stays_weaker (CallLeft g covered.callee opening w.objects) (λ x u. LeavesClean p opening w.objects u × (is_void covered.callee.result ≡ false → HasValue x)) (call_at (suc n) p depth g xs w)
        (call_clean n (calls_clean n) depth g covered.callee covered.there opening xs w covered.kinds covered.sound covered.fit covered.lie covered.few settled) (λ x u h. (h.0, h.1 covered.other));
  }
