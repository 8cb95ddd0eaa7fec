-- The loops of the machine: each act leaves what the work comes to as it was, and takes a step or leaves less to be done.
use Rattle.std.proofs.Common.{◌≡◌, ℕ, ◌<◌, ◌≤◌, ◌⊎◌, inl, inr, List, ◌∷◌, sym, ◌∙◌, ap, subst, arith, Result, Ok, Err}
use Rattle.std.proofs.Math.Nat.{eq-or-lt_of_le}
use Rattle.p10_core.specs.Typed.{PlainProgram}
use Rattle.p10_meaning.specs.States.{State, Progress, gives, and_then}
use Rattle.p10_meaning.specs.Laws.{Follows}
use Rattle.p10_interp.specs.declared.work.Halt.{Halt}
use Rattle.p10_interp.specs.declared.work.Halt.TheVariants.{Failed, Undefined, Spent, Memory}
use Rattle.p10_interp.specs.declared.work.Flow.{Flow as Way}
use Rattle.p10_interp.specs.declared.work.Pause.{Pause}
use Rattle.p10_interp.specs.declared.work.Pause.TheVariants.{Over, Held}
use Rattle.p10_interp.specs.declared.stacks.Stacks.{Stacks}
use Rattle.p10_interp.specs.private.Tasks.{Task, Operand, Open, Left, Rig}
use Rattle.p10_interp.specs.private.Views.{flow_of, tasks_in}
use Rattle.p10_interp.specs.private.OpenCalls.{calls_in}
use Rattle.p10_interp.specs.private.Machines.{rig_of, Moves}
use Rattle.p10_interp.specs.private.Resuming.{proceed}
use Rattle.p10_interp.specs.private.Acts.{next_act}
use Rattle.p10_interp.specs.private.Weights.{weights}
use Rattle.p10_interp.specs.private.Arriving.{Arrives, Falls}
use Rattle.p10_interp.specs.private.Turning.{Turns}
use Rattle.p10_interp.proofs.Right.{next_right}
use Rattle.p10_interp.proofs.Lighter.{IsLighter, next_light}

-- the machine with a task on top
abbrev pub rig_with : Way → Task → List Task → List Operand → List Open → Rig
rig_with flow t k operands calls = record { flow = flow_of flow; tasks = t ∷ k; operands = operands; calls = calls }

-- ## One act

pub moved : (p : PlainProgram) (n : ℕ) (flow next : Way) (t : Task) (k : List Task) (operands : List Operand) (calls : List Open) (w v : State) (new : Stacks) → w.left ≤ n →
    Moves (next_act p (flow_of flow) t k operands calls w) (Ok next) new v → proceed p n (rig_with flow t k operands calls) w ≡ proceed p n (rig_of (flow_of next) new) v
moved p n flow next t k operands calls w v new l h = next_right p n (flow_of flow) t k operands calls w l ∙ ap (λ o. and_then o (proceed p n)) h

pub stopped : (p : PlainProgram) (n : ℕ) (flow : Way) (halt : Halt) (t : Task) (k : List Task) (operands : List Operand) (calls : List Open) (w v : State) (new : Stacks) → w.left ≤ n →
    Moves (next_act p (flow_of flow) t k operands calls w) (Err halt) new v → Arrives p n (proceed p n (rig_with flow t k operands calls) w) (Err halt) new v
stopped p n flow (Failed span) t k operands calls w v new l h = next_right p n (flow_of flow) t k operands calls w l ∙ ap (λ o. and_then o (proceed p n)) h
stopped p n flow (Undefined stop span) t k operands calls w v new l h = next_right p n (flow_of flow) t k operands calls w l ∙ ap (λ o. and_then o (proceed p n)) h
stopped p n flow Spent t k operands calls w v new l h = next_right p n (flow_of flow) t k operands calls w l ∙ ap (λ o. and_then o (proceed p n)) h
stopped p n flow Memory t k operands calls w v new l h = tt

-- an act takes a step, or leaves less to be done
pub record IsLess (most : ℕ) (r : Rig) (w v : State) : Type 0 where
  pub few : v.left ≤ w.left
  pub less : w.left ≤ v.left → weights r.tasks < most

light : (most : ℕ) (o : Progress Rig) (r : Rig) (w v : State) → o ≡ gives r v → IsLighter w most o → IsLess most r w v
light most o r w v e h =
    let l : IsLighter w most (gives r v) = subst (λ o. IsLighter w most o) e h in
    let f : Follows w v = l.after in
    record { few = f.left; less = l.less }

pub lighter : (p : PlainProgram) (flow next : Way) (t : Task) (k : List Task) (operands : List Operand) (calls : List Open) (w v : State) (new : Stacks) → Moves (next_act p (flow_of flow) t k operands calls w) (Ok next) new v → IsLess (weights (t ∷ k)) (rig_of (flow_of next) new) w v
lighter p flow next t k operands calls w v new h = light _ _ _ w v h (next_light p (flow_of flow) t k operands calls w)

-- ## Where the work arrives

-- what the work comes to, from where it was to where it is
pub arrived : (p : PlainProgram) (n : ℕ) (o next : Progress Left) (r : Result Pause Halt) (new : Stacks) (w : State) → o ≡ next → Arrives p n next r new w → Arrives p n o r new w
arrived p n o next r new w e h = subst (λ o. Arrives p n o r new w) (sym e) h

-- ## One turn of the loop

with_tasks : (p : PlainProgram) (n : ℕ) (flow : Way) (t : Task) (k : List Task) (s : Stacks) (w : State) → tasks_in s.tasks ≡ t ∷ k →
    proceed p n (rig_of (flow_of flow) s) w ≡ proceed p n (rig_with flow t k s.operands (calls_in s.calls)) w
with_tasks p n flow t k s w e = ap (λ tasks. proceed p n (record { flow = flow_of flow; tasks = tasks; operands = s.operands; calls = calls_in s.calls }) w) e

pub turned : (p : PlainProgram) (n : ℕ) (flow next : Way) (t : Task) (k : List Task) (s new : Stacks) (w v : State) (o : Progress Left) → tasks_in s.tasks ≡ t ∷ k → w.left ≤ n → o ≡ proceed p n (rig_of (flow_of flow) s) w →
    Turns p (rig_with flow t k s.operands (calls_in s.calls)) w (Ok next) new v → o ≡ proceed p n (rig_of (flow_of next) new) v
turned p n flow next t k s new w v o is l e h = e ∙ (with_tasks p n flow t k s w is ∙ h.same n l)

pub turn_stopped : (p : PlainProgram) (n : ℕ) (flow : Way) (halt : Halt) (t : Task) (k : List Task) (s new : Stacks) (w v : State) (o : Progress Left) (r : Result Pause Halt) → tasks_in s.tasks ≡ t ∷ k → w.left ≤ n → o ≡ proceed p n (rig_of (flow_of flow) s) w → r ≡ Err halt →
    Turns p (rig_with flow t k s.operands (calls_in s.calls)) w (Err halt) new v → Arrives p n o r new v
turn_stopped p n flow halt t k s new w v o r is l e stops h = subst (λ r. Arrives p n o r new v) (sym stops) (arrived p n o _ (Err halt) new v (e ∙ with_tasks p n flow t k s w is) (h n l))

pub turn_lighter : (p : PlainProgram) (flow next : Way) (t : Task) (k : List Task) (s new : Stacks) (w v : State) → tasks_in s.tasks ≡ t ∷ k →
    Turns p (rig_with flow t k s.operands (calls_in s.calls)) w (Ok next) new v → IsLess (weights (tasks_in s.tasks)) (rig_of (flow_of next) new) w v
turn_lighter p flow next t k s new w v is h = subst (λ tasks. IsLess (weights tasks) (rig_of (flow_of next) new) w v) (sym is) (record { few = h.few; less = h.less })

-- a step was taken, or less is left to be done
pub falls_by : (first most now left a left_now : ℕ) → left ≡ a → left_now ≤ left → (left ≤ left_now → now < most) → most ≤ first → (left_now < a) ⊎ ((left_now ≡ a) × (now < first))
falls_by first most now left a left_now same few less all = by (eq-or-lt_of_le few)
  where
    by : (left_now ≡ left) ⊎ (left_now < left) → (left_now < a) ⊎ ((left_now ≡ a) × (now < first))
    by (inl e) = let l : now < most = less (omega (arith, e)) in inr (e ∙ same, omega (arith, l, all))
    by (inr l) = inl (omega (arith, l, same))

-- ## One turn of the loop round it

-- no more is left than at first
pub never_more : (a most b now n : ℕ) → (b < a) ⊎ ((b ≡ a) × (now ≤ most)) → a ≤ n → b ≤ n
never_more a most b now n (inl l) few = omega (arith, l, few)
never_more a most b now n (inr h) few = let e : b ≡ a = h.0 in omega (arith, e, few)

-- what falls after that falls from the first moment on
pub falls_from : (pause : Pause) (a most b now c then : ℕ) → (b < a) ⊎ ((b ≡ a) × (now ≤ most)) → Falls pause b now c then → Falls pause a most c then
falls_from (Over flow) a most b now c then h f = let few : b ≤ a = never_more a most b now a h (omega (arith)) in omega (arith, few, f)
falls_from (Held flow) a most b now c then (inl l) (inl f) = inl (omega (arith, l, f))
falls_from (Held flow) a most b now c then (inl l) (inr f) = let e : c ≡ b = f.0 in inl (omega (arith, l, e))
falls_from (Held flow) a most b now c then (inr h) (inl f) = let e : b ≡ a = h.0 in inl (omega (arith, e, f))
falls_from (Held flow) a most b now c then (inr h) (inr f) = let less : then < now = f.1 in let most_now : now ≤ most = h.1 in inr (f.0 ∙ h.0, omega (arith, less, most_now))
