-- Whatever the machine comes to comes after the state that it is in.
use Rattle.std.proofs.Common.{◌≡◌, ℕ, zero, suc, ◌<◌, ◌≤◌, ◌⊎◌, inl, inr, List, [], ◌∷◌, sym, subst, arith}
use Rattle.std.proofs.Math.Nat.{eq-or-lt_of_le}
use Rattle.p10_core.specs.Typed.{PlainProgram}
use Rattle.p10_meaning.specs.States.{State, Progress, gives, ends, and_then}
use Rattle.p10_meaning.specs.Statements.{Flow, normal, broken, continued, returned}
use Rattle.p10_meaning.specs.Laws.{Follows}
use Rattle.p10_interp.specs.private.Tasks.{Task, Operand, Open, Rig}
use Rattle.p10_interp.specs.private.Resuming.{proceed}
use Rattle.p10_interp.specs.private.Acts.{next_act}
use Rattle.p10_interp.specs.private.Weights.{weights}
use Rattle.p10_interp.proofs.Following.{Goes, goes_here, goes_from}
use Rattle.p10_interp.proofs.Right.{next_right}
use Rattle.p10_interp.proofs.Lighter.{IsLighter, weighs, next_light}

module _ (p : PlainProgram) (n : ℕ) where
  -- what the machine comes to comes after the state in which it is
  abbrev Comes : Rig → State → Type 0
  Comes r w = Goes w (proceed p n r w)

  no_tasks : (flow : Flow) (operands : List Operand) (calls : List Open) (w : State) → Comes (record { flow = flow; tasks = []; operands = operands; calls = calls }) w
  no_tasks normal operands calls w = goes_here _ w
  no_tasks broken operands calls w = goes_here _ w
  no_tasks continued operands calls w = goes_here _ w
  no_tasks (returned x) operands calls w = goes_here _ w

  -- after an act: a step was taken, or less is left to be done
  after_act : (from : State) (most : ℕ) (o : Progress Rig) → IsLighter from most o → from.left ≤ n →
      ((r : Rig) (w : State) → w.left < from.left → w.left ≤ n → Comes r w) →
      ((r : Rig) (w : State) → w.left ≤ from.left → w.left ≤ n → weights r.tasks < most → Comes r w) → Goes from (and_then o (proceed p n))
  after_act from most (ends end w) light b lower here = record { after = light.after }
  after_act from most (gives r w) light b lower here = by (eq-or-lt_of_le few)
    where
      few : w.left ≤ from.left
      few = let f : Follows from w = light.after in f.left

      same : w.left ≡ from.left → from.left ≤ w.left
      same e = omega (arith, e)

      by : (w.left ≡ from.left) ⊎ (w.left < from.left) → Goes from (proceed p n r w)
      by (inl e) = goes_from from w _ light.after (here r w few (omega (arith, few, b)) (light.less (same e)))
      by (inr l) = goes_from from w _ light.after (lower r w l (omega (arith, few, b)))

  up_to : (l : ℕ) → ((r : Rig) (w : State) → w.left < l → w.left ≤ n → Comes r w) → (m : ℕ) → (flow : Flow) (k : List Task) (operands : List Operand) (calls : List Open) (w : State) →
      w.left ≤ l → w.left ≤ n → weights k ≤ m → Comes (record { flow = flow; tasks = k; operands = operands; calls = calls }) w
  up_to l lower m flow [] operands calls w a b c = no_tasks flow operands calls w
  up_to l lower zero flow (t ∷ k) operands calls w a b c = absurd (let h : weights k < weights (t ∷ k) = weighs t k in omega (arith, h, c))
  up_to l lower (suc m) flow (t ∷ k) operands calls w a b c =
      subst (λ o. Goes w o) (sym (next_right p n flow t k operands calls w b))
      (after_act w (weights (t ∷ k)) (next_act p flow t k operands calls w) (next_light p flow t k operands calls w) b
      (λ r v d e. lower r v (omega (arith, d, a)) e)
      (λ r v d e f. up_to l lower m r.flow r.tasks r.operands r.calls v (omega (arith, d, a)) e (omega (arith, f, c))))

  below : (l : ℕ) (r : Rig) (w : State) → w.left < l → w.left ≤ n → Comes r w
  below zero r w a b = absurd (omega (arith, a))
  below (suc l) r w a b = up_to l (below l) (weights r.tasks) r.flow r.tasks r.operands r.calls w (omega (arith, a)) b (omega arith)

  pub proceed_goes : (r : Rig) (w : State) → w.left ≤ n → Comes r w
  proceed_goes r w b = below (suc w.left) r w (omega arith) b
