-- What an accepted certificate is worth for single calls: each call that a run makes keeps what is claimed of its function.
use Rattle.std.specs.Prelude.{◌≡◌, ℕ, suc, List, [], Option, Some, None}
use Rattle.p10_base.specs.declared.report.Bounds.{Bounds}
use Rattle.p10_core.specs.Constants.{integer_of}
use Rattle.p10_core.specs.Typed.{PlainFunction, PlainProgram}
use Rattle.p10_core.specs.WholePrograms.{IsWholeProgram}
use Rattle.p10_cert.specs.Claims.{Claims}
use Rattle.p10_meaning.specs.declared.pointers.Scalar.{Scalar}
use Rattle.p10_meaning.specs.declared.world.World.{World}
use Rattle.p10_meaning.specs.States.{IsWorld, State}
use Rattle.p10_meaning.specs.Calling.{Depth, no_depth, deeper, raised, Entered, entered, setting_of, call_at}
use Rattle.p10_meaning.specs.Opening.{opening}
use Rattle.p10_meaning.specs.Runs.{Task}
use Rattle.p10_meaning.specs.SoundRuns.{HasTask}
use Rattle.p10_sums.specs.Counting.{counting_of}
use Rattle.p10_sums.specs.Keeping.{OnGives, AfterStep, StatementsKeep}
use Rattle.p10_sums.specs.Laws.{CallKeeps}
use Rattle.p10_absx.specs.Assessing.{call_claimed}
use Rattle.p10_check.specs.declared.verdict.Verdict.TheVariants.{Accepted}
use Rattle.p10_check.specs.Passes.{Standing}
use Rattle.p10_check.specs.Conditions.{IsVerdict}
use Rattle.p10_evaluation.specs.Claimed.{ResultLies, IsCoveredCall}
use Rattle.p10_task.specs.Covering.{RunIsCovered}
use Rattle.p10_turns.specs.Laws.{IsLawful}

-- the body of a function makes only calls that claims cover, and its loops keep their claims
abbrev pub BodyIsCovered : PlainProgram → Claims → ℕ → Depth → ℕ → PlainFunction → List Scalar → State → Type 0
BodyIsCovered p c n depth k f xs w =
    let there : Depth = deeper f depth in
    AfterStep w (λ w. let start : Entered = entered f.variables xs (raised there w) in
    StatementsKeep (counting_of p c.funcs k f) (setting_of p n (call_at n p) there f) (IsCoveredCall p (Some c) n) 0 f.body start.frame start.state)

-- a covered call takes at most the claimed steps, depths and allocation, gives a result in the claimed range, and makes only covered
-- calls in its body, so that the same holds of all calls below it
pub record KeepsClaims (p : PlainProgram) (c : Claims) (n : ℕ) (depth : Depth) (g : ℕ) (xs : List Scalar) (w : State) (covered : IsCoveredCall p (Some c) n g xs w) : Type 0 where
  pub takes : (caller : PlainFunction) → CallKeeps (setting_of p n (call_at n p) depth caller) c.funcs depth g xs w
  pub result : OnGives (λ x w. ResultLies (call_claimed (Some c) g (integer_of covered.callee.result)) x) (call_at n p depth g xs w)
  pub inside : (m : ℕ) → n ≡ suc m → BodyIsCovered p c m depth g covered.callee xs w

-- each call that `main` makes is covered: in its whole body where there is no task loop, and else before the loop and in each turn
pub record MainIsCovered (p : PlainProgram) (c : Claims) (main : PlainFunction) (world : World) : Type 0 where
  pub body : p.task ≡ None → (n : ℕ) → BodyIsCovered p c n no_depth p.main main [] (opening p world (suc n))
  pub task : (i : ℕ) (task : Task) → HasTask p main i task → (prefix turn : ℕ) → RunIsCovered p c world prefix turn main i task

-- of a certificate that is accepted for a whole program with lawful evidence: each call that a run makes is covered, and each covered
-- call keeps its function's claims
pub record BoundsCalls (p : PlainProgram) (whole : IsWholeProgram p) (c : Claims) : Type 0 where
  pub main : (world : World) → IsWorld world → MainIsCovered p c whole.main.function world
  pub calls : (n : ℕ) (depth : Depth) (g : ℕ) (xs : List Scalar) (w : State) → (covered : IsCoveredCall p (Some c) n g xs w) → KeepsClaims p c n depth g xs w covered

abbrev pub AcceptedCertificatesBoundCalls : Type 0
AcceptedCertificatesBoundCalls =
    (p : PlainProgram) → (whole : IsWholeProgram p) → (stands : Standing) → IsLawful p stands → (c : Claims) (b : Bounds) → IsVerdict stands p c (Accepted b) → BoundsCalls p whole c
