-- Calls that claims cover give results in the claimed ranges, where none of K3, K5, K6 and K7 fails; ranks don't count here.
use Rattle.std.proofs.Common.{◌≡◌, ℕ, zero, suc, ◌≤◌, List, [], refl, sym, subst, arith, Option, Some, slice_get}
use Rattle.p10_core.specs.Constants.{integer_of}
use Rattle.p10_core.specs.Typed.{PlainFunction, PlainProgram}
use Rattle.p10_core.specs.WholePrograms.{numbers_from, parameter_types, IsWholeProgram}
use Rattle.p10_cert.specs.Claims.{Func, Claims}
use Rattle.p10_meaning.specs.declared.pointers.Scalar.{Scalar}
use Rattle.p10_meaning.specs.States.{State}
use Rattle.p10_meaning.specs.Statements.{Done, execute_from}
use Rattle.p10_meaning.specs.Calling.{Depth, deeper, raised, Entered, entered, given, leave_call, setting_of, enter_call, call_at}
use Rattle.p10_meaning.specs.Sound.{Kind, Sound, ScalarsFit}
use Rattle.p10_sums.specs.Counting.{loops_claimed}
use Rattle.p10_sums.specs.Keeping.{HoldsOf}
use Rattle.p10_absx.specs.Assessing.{call_claimed}
use Rattle.p10_absx.specs.Environments.{Environment}
use Rattle.p10_absx.specs.Entering.{claims_on, entry_at}
use Rattle.p10_pass.specs.Passing.{Left, manner_of, pass_statements, pass_body, pass_of}
use Rattle.p10_check.specs.Passes.{Standing}
use Rattle.p10_check.specs.Accepting.{HoldsIn, Holds}
use Rattle.p10_evaluation.specs.Claimed.{ResultLies, ArgumentsLie, ResultsLie}
use Rattle.p10_execution.specs.Leaving.{NoneFails}
use Rattle.p10_execution.proofs.Ends.{block_none}
use Rattle.p10_execution.proofs.Giving.{holds_step, holds_then}
use Rattle.p10_task.proofs.Passes.{manner_is}
use Rattle.p10_soundness.proofs.Beginning.{body_before, entered_in_frame}
use Rattle.p10_soundness.proofs.Entering.{EntersAsDescribed, calls_enter}
use Rattle.p10_soundness.proofs.Returning.{body_returns}

-- none of K3, K5, K6 and K7 fails in a function of an accepted certificate
pub none_fails : (stands : Standing) (p : PlainProgram) (c : Claims) → Holds stands p c → (k : ℕ) (f : PlainFunction) → slice_get p.functions k ≡ Some f → NoneFails (pass_body f (Some c) k (entry_at p c k))
none_fails stands p c e k f there =
    let h : HoldsIn stands p c k f = e.functions k f there in
    subst (λ (a : Left). NoneFails a) (pass_is (entry_at p c k)) (record { arguments = h.arguments; results = h.results; entries = h.entries; backs = h.backs })
  where
    pass_is : (env : Environment) → pass_of p c k env ≡ pass_body f (Some c) k env
    pass_is env = rw there refl

module _ (p : PlainProgram) (whole : IsWholeProgram p) (c : Claims) (fine : (k : ℕ) (f : PlainFunction) → slice_get p.functions k ≡ Some f → NoneFails (pass_body f (Some c) k (entry_at p c k))) where
  abbrev Lies : ℕ → PlainFunction → Option Scalar → State → Type 0
  Lies k f x u = ResultLies (call_claimed (Some c) k (integer_of f.result)) x

  fewer : (n l m : ℕ) → suc l ≡ m → m ≤ suc n → l ≤ n
  fewer n l m e b = omega (arith, e, b)

  entered_lies : (n : ℕ) → ((depth : Depth) → ResultsLie p (Some c) n (call_at n p depth)) → (depth : Depth) (k : ℕ) (f : PlainFunction) → slice_get p.functions k ≡ Some f → (xs : List Scalar) (w : State) (ks : List Kind) → Sound p ks w → ScalarsFit p ks (parameter_types f) xs →
      ArgumentsLie (claims_on (slice_get c.funcs k)) xs → w.left ≤ n → HoldsOf (Lies k f) (enter_call p n (call_at n p) depth (Some f) xs w)
  entered_lies n lie depth k f there xs w ks sound fit lies few =
      let inside : Depth = deeper f depth in
      let start : Entered = entered f.variables xs (raised inside w) in
      let claim : Option Func = slice_get c.funcs k in
      let d : EntersAsDescribed p c n k f [] ks start = calls_enter p whole c n k f there inside xs w ks sound fit lies few [] in
      let none = subst (λ m. NoneFails (pass_statements m f.body (entry_at p c k))) (manner_is c f claim) (block_none f.body (pass_statements (manner_of f (Some c) k) f.body (entry_at p c k)) (fine k f there)) in
      holds_then (λ (done : Done) u. Lies k f (given done.flow) u) (Lies k f) (execute_from (setting_of p n (call_at n p) inside f) 0 f.body start.frame start.state) leave_call
      (body_returns p whole n inside k f there c (loops_claimed claim) claim (lie inside) (numbers_from 0 f.parameters) (whole.functions k f there).body (entry_at p c k) (body_before p whole c k f there) none [] start.frame start.state
      (record { kinds = d.kinds; sound = d.described.sound; fits = d.described.fits; in_frame = entered_in_frame f.variables xs (raised inside w); left = d.described.few }) d.described.describes).given
      (λ done u h. h)

  pub results_lie : (n : ℕ) (depth : Depth) → ResultsLie p (Some c) n (call_at n p depth)
  results_lie zero depth = record { lies = λ g xs w i. record { given = tt } }
  results_lie (suc n) depth = record {
    lies = λ g xs w i. record {
      given = holds_step (Lies g i.callee) w (λ w. enter_call p n (call_at n p) depth (slice_get p.functions g) xs w) (λ left e.
          subst (λ o. HoldsOf (Lies g i.callee) (enter_call p n (call_at n p) depth o xs (record w { left = left }))) (sym i.there)
          (entered_lies n (results_lie n) depth g i.callee i.there xs (record w { left = left }) i.kinds i.sound i.fit i.lie (fewer n left w.left e i.few)));
    };
  }
