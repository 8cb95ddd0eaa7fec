-- How often a run of a loop enters its body.
use Rattle.std.specs.Prelude.{◌≡◌, ℕ, zero, suc, Bool, true, false}
use Rattle.p10_core.specs.declared.statements.LoopKeyword.{LoopKeyword}
use Rattle.p10_core.specs.declared.statements.LoopKeyword.TheVariants.{While, Do, For}
use Rattle.p10_meaning.specs.States.{State, Progress}
use Rattle.p10_meaning.specs.Statements.{Frame, Done}
use Rattle.p10_sums.specs.Keeping.{OnGives, OnBack}

-- from a test on, a body is entered at most n times: each test that is true leads into it, and each way back to a test
abbrev pub EntersFromTest : ℕ → (Frame → State → Progress Bool) → (Frame → State → Progress Done) → Frame → State → Type 0
EntersFromTest zero test body frame w = OnGives (λ more w. more ≡ false) (test frame w)
EntersFromTest (suc n) test body frame w =
    OnGives (λ more w. more ≡ true → OnGives (λ (done : Done) w. OnBack done.flow (EntersFromTest n test body done.frame w)) (body frame w)) (test frame w)

-- the same from an entrance of the body on, which is the first of them
abbrev pub EntersFromBody : ℕ → (Frame → State → Progress Bool) → (Frame → State → Progress Done) → Frame → State → Type 0
EntersFromBody zero test body frame w = ⊥
EntersFromBody (suc n) test body frame w = OnGives (λ (done : Done) w. OnBack done.flow (EntersFromTest n test body done.frame w)) (body frame w)

-- a loop enters its body at most n times: `while` and `for` begin with the test, `do` with the body (C99 6.8.5)
abbrev pub EntersAtMost : LoopKeyword → ℕ → (Frame → State → Progress Bool) → (Frame → State → Progress Done) → Frame → State → Type 0
EntersAtMost While n test body frame w = EntersFromTest n test body frame w
EntersAtMost For n test body frame w = EntersFromTest n test body frame w
EntersAtMost Do n test body frame w = EntersFromBody n test body frame w
