-- Calls keep what is claimed of them, by induction on the bound of nested calls.
use Rattle.std.proofs.Common.{◌≡◌, ℕ, zero, suc, ◌≤◌, false, List, [], refl, sym, subst, arith, Option, Some, None, slice_get}
use Rattle.std.specs.Bool.{nat_eq}
use Rattle.p10_core.specs.Constants.{integer_of}
use Rattle.p10_core.specs.Typed.{PlainFunction, PlainProgram}
use Rattle.p10_core.specs.WholePrograms.{IsWholeProgram, parameter_types}
use Rattle.p10_cert.specs.Claims.{Claims}
use Rattle.p10_meaning.specs.declared.pointers.Scalar.{Scalar}
use Rattle.p10_meaning.specs.States.{State, Progress, gives, ends, step_at, and_then}
use Rattle.p10_meaning.specs.Values.{Held}
use Rattle.p10_meaning.specs.Statements.{Frame, Done, execute_from}
use Rattle.p10_meaning.specs.Calling.{Depth, deeper, raised, Entered, entered, given, leave_call, setting_of, enter_call, call_at}
use Rattle.p10_meaning.specs.Sound.{Kind, Sound, ScalarsFit}
use Rattle.p10_sums.specs.Counting.{counting_of}
use Rattle.p10_sums.specs.Sums.{sum_under}
use Rattle.p10_sums.specs.Keeping.{OnGives, AfterStepAt, StatementsKeep}
use Rattle.p10_sums.specs.Laws.{CallKeeps, BodyKeeps}
use Rattle.p10_sums.specs.CallLaws.{Allows, CallsKeepTheirClaims}
use Rattle.p10_absx.specs.Assessing.{call_claimed}
use Rattle.p10_absx.specs.Entering.{claims_on, entry_at}
use Rattle.p10_evaluation.specs.Claimed.{ResultLies, ArgumentsLie, IsCoveredCall, ResultsLie}
use Rattle.p10_evaluation.specs.Laws.{IsDescribed}
use Rattle.p10_execution.specs.Standing.{AreInFrame}
use Rattle.p10_soundness.proofs.Entering.{EntersAsDescribed, CallsEnterAsDescribed}
use Rattle.p10_soundness.specs.Calls.{BodyIsCovered, KeepsClaims}
use Rattle.p10_soundness.proofs.Mapping.{after_step, statements_mapped}
use Rattle.p10_soundness.proofs.Beginning.{entered_in_frame}

-- ## Bodies

-- the body of a function, entered in a frame that the environment at its entry describes, makes only covered calls, its loops keep
-- their claims, and what it returns lies in the claimed range
pub record BodyIsSafe (p : PlainProgram) (c : Claims) (k : ℕ) (f : PlainFunction) : Type 0 where
  pub keeps : (n : ℕ) (depth : Depth) → ResultsLie p (Some c) n (call_at n p depth) → (head : List Held) (frame : Frame) (ks : List Kind) (w : State) → IsDescribed p n f.variables (entry_at p c k) head frame.held ks w → AreInFrame f.variables frame.held →
      StatementsKeep (counting_of p c.funcs k f) (setting_of p n (call_at n p) depth f) (IsCoveredCall p (Some c) n) 0 f.body frame w
  pub returns : (n : ℕ) (depth : Depth) → ResultsLie p (Some c) n (call_at n p depth) → (head : List Held) (frame : Frame) (ks : List Kind) (w : State) → IsDescribed p n f.variables (entry_at p c k) head frame.held ks w → AreInFrame f.variables frame.held →
      OnGives (λ (done : Done) w. ResultLies (call_claimed (Some c) k (integer_of f.result)) (given done.flow)) (execute_from (setting_of p n (call_at n p) depth f) 0 f.body frame w)

-- a function that is called: its claims are no less than its sums, and its body is safe
pub record CalleeIsSafe (p : PlainProgram) (c : Claims) (k : ℕ) (f : PlainFunction) : Type 0 where
  pub allows : Allows (slice_get c.funcs k) (sum_under (counting_of p c.funcs k f) None f)
  pub body : BodyIsSafe p c k f

module _ (p : PlainProgram) (whole : IsWholeProgram p) (c : Claims) (costs : CallsKeepTheirClaims) (enters : CallsEnterAsDescribed) (safe : (k : ℕ) (f : PlainFunction) → slice_get p.functions k ≡ Some f → nat_eq k p.main ≡ false → CalleeIsSafe p c k f) where
  abbrev Keeps : ℕ → Depth → ℕ → List Scalar → State → Type 0
  Keeps n depth g xs w = (caller : PlainFunction) → CallKeeps (setting_of p n (call_at n p) depth caller) c.funcs depth g xs w

  -- every covered call keeps its claims
  abbrev CoveredKeep : ℕ → Type 0
  CoveredKeep n = (depth : Depth) (g : ℕ) (xs : List Scalar) (w : State) → IsCoveredCall p (Some c) n g xs w → Keeps n depth g xs w

  abbrev CoveredReturn : ℕ → Type 0
  CoveredReturn n = (depth : Depth) → ResultsLie p (Some c) n (call_at n p depth)

  -- what a callee returns
  given_so : (P : Option Scalar → Type 0) (o : Progress Done) → OnGives (λ (done : Done) w. P (given done.flow)) o → OnGives (λ x w. P x) (and_then o leave_call)
  given_so P (gives done w) h = record { given = h.given }
  given_so P (ends e w) h = record { given = tt }

  fewer : (n m l : ℕ) → l ≤ suc n → l ≡ suc m → m ≤ n
  fewer n m l b e = omega (arith, b, e)

  -- what the body of a function keeps that is entered with arguments that fit and lie
  module _ (n : ℕ) (keep : CoveredKeep n) (return : CoveredReturn n) (depth : Depth) (g : ℕ) (f : PlainFunction) (there : slice_get p.functions g ≡ Some f) (body : BodyIsSafe p c g f) (xs : List Scalar) (w : State) (ks : List Kind)
      (sound : Sound p ks w) (fit : ScalarsFit p ks (parameter_types f) xs) (lie : ArgumentsLie (claims_on (slice_get c.funcs g)) xs) (few : w.left ≤ suc n) where
    abbrev inside : Depth
    inside = deeper f depth

    abbrev start_at : ℕ → Entered
    start_at m = entered f.variables xs (raised inside (record w { left = m }))

    entered_so : (m : ℕ) → m ≤ n → EntersAsDescribed p c n g f [] ks (start_at m)
    entered_so m b = enters p whole c n g f there inside xs (record w { left = m }) ks sound fit lie b []

    covered_after : (l : ℕ) → w.left ≡ l →
        AfterStepAt l w (λ w. let start : Entered = entered f.variables xs (raised inside w) in StatementsKeep (counting_of p c.funcs g f) (setting_of p n (call_at n p) inside f) (IsCoveredCall p (Some c) n) 0 f.body start.frame start.state)
    covered_after zero e = tt
    covered_after (suc m) e =
        let d : EntersAsDescribed p c n g f [] ks (start_at m) = entered_so m (fewer n m w.left few e) in
        body.keeps n inside (return inside) [] (start_at m).frame d.kinds (start_at m).state d.described (entered_in_frame f.variables xs (raised inside (record w { left = m })))

    pub body_covered : BodyIsCovered p c n depth g f xs w
    body_covered = record { after = covered_after w.left refl }

    pub body_keeps : BodyKeeps p c.funcs n depth g f xs w
    body_keeps = after_step w _ _
        (λ v h. statements_mapped (setting_of p n (call_at n p) inside f) (IsCoveredCall p (Some c) n) (CallKeeps (setting_of p n (call_at n p) inside f) c.funcs inside) (λ g xs w j. keep inside g xs w j f)
        (counting_of p c.funcs g f) 0 f.body (entered f.variables xs (raised inside v)).frame (entered f.variables xs (raised inside v)).state h) body_covered

    returns_after : (l : ℕ) → w.left ≡ l → OnGives (λ x w. ResultLies (call_claimed (Some c) g (integer_of f.result)) x) (step_at l w (λ w. enter_call p n (call_at n p) depth (Some f) xs w))
    returns_after zero e = record { given = tt }
    returns_after (suc m) e =
        let d : EntersAsDescribed p c n g f [] ks (start_at m) = entered_so m (fewer n m w.left few e) in
        given_so (λ x. ResultLies (call_claimed (Some c) g (integer_of f.result)) x) (execute_from (setting_of p n (call_at n p) inside f) 0 f.body (start_at m).frame (start_at m).state)
        (body.returns n inside (return inside) [] (start_at m).frame d.kinds (start_at m).state d.described (entered_in_frame f.variables xs (raised inside (record w { left = m }))))

    body_returns : OnGives (λ x w. ResultLies (call_claimed (Some c) g (integer_of f.result)) x) (step_at w.left w (λ w. enter_call p n (call_at n p) depth (Some f) xs w))
    body_returns = returns_after w.left refl

  mutual
    pub covered_keep : (n : ℕ) → CoveredKeep n
    covered_keep zero depth g xs w i caller = costs p c.funcs 0 depth caller g i.callee xs w i.there (safe g i.callee i.there i.other).allows i.few tt
    covered_keep (suc n) depth g xs w i caller =
        costs p c.funcs (suc n) depth caller g i.callee xs w i.there (safe g i.callee i.there i.other).allows i.few
        (body_keeps n (covered_keep n) (covered_return n) depth g i.callee i.there (safe g i.callee i.there i.other).body xs w i.kinds i.sound i.fit i.lie i.few)

    pub covered_return : (n : ℕ) → CoveredReturn n
    covered_return zero depth = record { lies = λ g xs w i. record { given = tt } }
    covered_return (suc n) depth = record {
      lies = λ g xs w i.
          subst (λ o. OnGives (λ x w. ResultLies (call_claimed (Some c) g (integer_of i.callee.result)) x) (step_at w.left w (λ w. enter_call p n (call_at n p) depth o xs w))) (sym i.there)
          (body_returns n (covered_keep n) (covered_return n) depth g i.callee i.there (safe g i.callee i.there i.other).body xs w i.kinds i.sound i.fit i.lie i.few);
    }

  covered_inside : (n : ℕ) (depth : Depth) (g : ℕ) (xs : List Scalar) (w : State) → (i : IsCoveredCall p (Some c) n g xs w) → (m : ℕ) → n ≡ suc m → BodyIsCovered p c m depth g i.callee xs w
  covered_inside n depth g xs w i m e =
      body_covered m (covered_keep m) (covered_return m) depth g i.callee i.there (safe g i.callee i.there i.other).body xs w i.kinds i.sound i.fit i.lie (subst (λ n. w.left ≤ n) e i.few)

  -- each covered call keeps what is claimed of its function, and so do the calls below it
  pub covered_claims : (n : ℕ) (depth : Depth) (g : ℕ) (xs : List Scalar) (w : State) → (i : IsCoveredCall p (Some c) n g xs w) → KeepsClaims p c n depth g xs w i
  covered_claims n depth g xs w i = record {
    takes = λ caller. covered_keep n depth g xs w i caller;
    result = (covered_return n depth).lies g xs w i;
    inside = λ m e. covered_inside n depth g xs w i m e;
  }
