-- Work that is done at once, piece after piece.
use Rattle.std.proofs.Common.{◌≡◌, ℕ, ◌<◌, ◌≤◌, Bool, true, false, List, [], ◌∷◌, refl, sym, ◌∙◌, ap, subst, arith, OnOk, IfOk, Result, Ok, Err}
use Rattle.p10_base.specs.declared.at.At.{At}
use Rattle.p10_core.specs.Typed.{PlainProgram, PlainStatements, no_statements, statement, block}
use Rattle.p10_meaning.specs.States.{State, gives, and_then}
use Rattle.p10_meaning.specs.Statements.{Flow, normal}
use Rattle.p10_interp.specs.declared.work.Halt.{Halt}
use Rattle.p10_interp.specs.declared.work.Flow.{Flow as Way}
use Rattle.p10_interp.specs.declared.work.Flow.TheVariants.{Normal}
use Rattle.p10_interp.specs.declared.stacks.Stacks.{Stacks}
use Rattle.p10_interp.specs.private.Tasks.{Task, execute_statement, execute_statements, end_block, Open, Rig}
use Rattle.p10_interp.specs.private.Operations.{after_block, block_closed}
use Rattle.p10_interp.specs.private.Acts.{goes_back as goes_by_flow, act}
use Rattle.p10_interp.specs.private.Nothing.{is_nil}
use Rattle.p10_interp.specs.private.Views.{flow_of, tasks_in}
use Rattle.p10_interp.specs.private.OpenCalls.{calls_in}
use Rattle.p10_interp.specs.declared.outside.Outside.{Outside}
use Rattle.p10_interp.specs.declared.work.Halt.TheVariants.{Memory}
use Rattle.p10_interp.specs.private.Machines.{Around, state_of, rig_of}
use Rattle.p10_interp.specs.private.Resuming.{proceed}
use Rattle.p10_interp.specs.private.Weights.{weights}
use Rattle.p10_interp.specs.private.Turning.{with_work, Turns, IsTurned, IsDone, Does, Goes, ActsOn}
use Rattle.p10_interp.proofs.Right.{next_right}
use Rattle.p10_interp.proofs.Advanced.{IsLess, lighter}

pub stays : (p : PlainProgram) (r : Rig) (w : State) → Goes p r w r w
stays p r w = record { few = omega (arith); light = λ l. omega (arith); same = λ n l. refl }

pub goes_then : (p : PlainProgram) (r q s : Rig) (w v u : State) → Goes p r w q v → Goes p q v s u → Goes p r w s u
goes_then p r q s w v u h k =
    let few : v.left ≤ w.left = h.few in
    let more : u.left ≤ v.left = k.few in
    record {
      few = omega (arith, few, more);
      light = λ l. let a : weights q.tasks ≤ weights r.tasks = h.light (omega (arith, l, more)) in let b : weights s.tasks ≤ weights q.tasks = k.light (omega (arith, l, few)) in omega (arith, a, b);
      same = λ n l. h.same n l ∙ k.same n (omega (arith, few, l));
    }

-- nothing has changed
pub goes_nowhere : (p : PlainProgram) (r q : Rig) (w v : State) → q ≡ r → v ≡ w → Goes p r w q v
goes_nowhere p r q w v e d = subst (λ q. Goes p r w q v) (sym e) (subst (λ v. Goes p r w r v) (sym d) (stays p r w))

-- a piece of work that was taken and done at once
pub goes_at_once : (p : PlainProgram) (t : Task) (s popped new : Stacks) (w v : State) → rig_of normal s ≡ with_work t popped → IsDone p t popped w new v → Goes p (rig_of normal s) w (rig_of normal new) v
goes_at_once p t s popped new w v e h =
    subst (λ r. Goes p r w (rig_of normal new) v) (sym e)
    (record {
      few = let l : v.left < w.left = h.paid in omega (arith, l);
      light = λ m. absurd (let l : v.left < w.left = h.paid in omega (arith, l, m));
      same = h.same;
    })

-- a piece of work that was taken and done by its act
pub goes_by_act : (p : PlainProgram) (t : Task) (s popped new : Stacks) (w v : State) → rig_of normal s ≡ with_work t popped → ActsOn p t popped w true new v → Goes p (rig_of normal s) w (rig_of normal new) v
goes_by_act p t s popped new w v e h =
    let l : IsLess (weights (t ∷ tasks_in popped.tasks)) (rig_of normal new) w v = lighter p Normal Normal t (tasks_in popped.tasks) popped.operands (calls_in popped.calls) w v new h in
    subst (λ r. Goes p r w (rig_of normal new) v) (sym e)
    (record {
      few = l.few;
      light = λ m. let less : weights (tasks_in new.tasks) < weights (t ∷ tasks_in popped.tasks) = l.less m in omega (arith, less);
      same = λ n few. next_right p n normal t (tasks_in popped.tasks) popped.operands (calls_in popped.calls) w few ∙ ap (λ o. and_then o (proceed p n)) h;
    })

-- a piece of work that was taken and put back
pub goes_back : (p : PlainProgram) (t : Task) (s popped mid new : Stacks) (w v : State) → rig_of normal s ≡ with_work t popped → rig_of normal mid ≡ rig_of normal popped → v ≡ w → rig_of normal new ≡ with_work t mid → Goes p (rig_of normal s) w (rig_of normal new) v
goes_back p t s popped mid new w v e d same put =
    goes_nowhere p (rig_of normal s) (rig_of normal new) w v (put ∙ (ap (λ (r : Rig). record r { tasks = t ∷ r.tasks }) d ∙ sym e)) same

-- a turn, and then what is done at once
pub turned_then : (p : PlainProgram) (r : Rig) (next : Way) (mid new : Stacks) (w u v : State) → IsTurned p r w next mid u → flow_of next ≡ normal → Goes p (rig_of normal mid) u (rig_of normal new) v → IsTurned p r w next new v
turned_then p r next mid new w u v h e k =
    let few : u.left ≤ w.left = h.few in
    let more : v.left ≤ u.left = k.few in
    record {
      few = omega (arith, few, more);
      less = λ l. let a : weights (tasks_in mid.tasks) < weights r.tasks = h.less (omega (arith, l, more)) in let b : weights (tasks_in new.tasks) ≤ weights (tasks_in mid.tasks) = k.light (omega (arith, l, few)) in omega (arith, a, b);
      same = λ n l. h.same n l ∙ (ap (λ fl. proceed p n (rig_of fl mid) u) e ∙ (k.same n (omega (arith, few, l)) ∙ ap (λ fl. proceed p n (rig_of fl new) v) (sym e)));
    }

-- what was done before goes on
pub goes_from : {A E : Type 0} (p : PlainProgram) (r : Result A E) (old mid new : Stacks) (a b c : Outside) → ((io : Around) → Goes p (rig_of normal old) (state_of a io) (rig_of normal mid) (state_of b io)) → OnOk r ((io : Around) → Goes p (rig_of normal mid) (state_of b io) (rig_of normal new) (state_of c io)) →
    OnOk r ((io : Around) → Goes p (rig_of normal old) (state_of a io) (rig_of normal new) (state_of c io))
goes_from p (Ok x) old mid new a b c h k = λ io. goes_then p (rig_of normal old) (rig_of normal mid) (rig_of normal new) (state_of a io) (state_of b io) (state_of c io) (h io) (k io)
goes_from p (Err e) old mid new a b c h k = tt

-- the machine whose piece of work on top was taken
pub popped_rig : (s popped : Stacks) (t : Task) → s.operands ≡ popped.operands → calls_in s.calls ≡ calls_in popped.calls → tasks_in s.tasks ≡ t ∷ tasks_in popped.tasks → rig_of normal s ≡ with_work t popped
popped_rig s popped t a b e =
    ap (λ tasks. record { flow = normal; tasks = tasks; operands = s.operands; calls = calls_in s.calls }) e ∙
    (ap (λ operands. record { flow = normal; tasks = t ∷ tasks_in popped.tasks; operands = operands; calls = calls_in s.calls }) a ∙
    ap (λ calls. record { flow = normal; tasks = t ∷ tasks_in popped.tasks; operands = popped.operands; calls = calls }) b)

-- a piece of work that was taken from the stack and done at once
pub top_done : (p : PlainProgram) (t : Task) (s popped new : Stacks) (w v : State) (done : Bool) → rig_of normal s ≡ with_work t popped → done ≡ true → Does p t popped w done new v → Goes p (rig_of normal s) w (rig_of normal new) v
top_done p t s popped new w v done e is h = goes_at_once p t s popped new w v e (subst (λ done. Does p t popped w done new v) is h)

-- the same by its act
pub top_acted : (p : PlainProgram) (t : Task) (s popped new : Stacks) (w v : State) (done : Bool) → rig_of normal s ≡ with_work t popped → done ≡ true → ActsOn p t popped w done new v → Goes p (rig_of normal s) w (rig_of normal new) v
top_acted p t s popped new w v done e is h = goes_by_act p t s popped new w v e (subst (λ done. ActsOn p t popped w done new v) is h)

-- a piece of work that was taken from the stack and put back
put_back : (p : PlainProgram) (t : Task) (s popped mid new : Stacks) (w v : State) → rig_of normal s ≡ with_work t popped → (rig_of normal mid ≡ rig_of normal popped) × (v ≡ w) → rig_of normal new ≡ with_work t mid → Goes p (rig_of normal s) w (rig_of normal new) v
put_back p t s popped mid new w v e h put = goes_back p t s popped mid new w v e h.0 h.1 put

pub top_back : (p : PlainProgram) (t : Task) (s popped mid new : Stacks) (w v : State) (done : Bool) → rig_of normal s ≡ with_work t popped → done ≡ false → Does p t popped w done mid v → rig_of normal new ≡ with_work t mid → Goes p (rig_of normal s) w (rig_of normal new) v
top_back p t s popped mid new w v done e is h put = put_back p t s popped mid new w v e (subst (λ done. Does p t popped w done mid v) is h) put

pub top_left : (p : PlainProgram) (t : Task) (s popped mid new : Stacks) (w v : State) (done : Bool) → rig_of normal s ≡ with_work t popped → done ≡ false → ActsOn p t popped w done mid v → rig_of normal new ≡ with_work t mid → Goes p (rig_of normal s) w (rig_of normal new) v
top_left p t s popped mid new w v done e is h put = put_back p t s popped mid new w v e (subst (λ done. ActsOn p t popped w done mid v) is h) put

-- steps that were taken after others
pub fewer_after : {E : Type 0} (r : Result Bool E) (a b c : ℕ) → b ≤ a → IfOk r (λ again. again ≡ true → c < b) → IfOk r (λ again. again ≡ true → c < a)
fewer_after (Ok again) a b c l h = λ e. let m : c < b = h e in omega (arith, l, m)
fewer_after (Err e) a b c l h = tt

-- out of memory a turn has no answer
pub turn_fails : (p : PlainProgram) (r : Rig) (w v : State) (halt : Halt) (new : Stacks) → halt ≡ Memory → Turns p r w (Err halt) new v
turn_fails p r w v halt new e = subst (λ halt. Turns p r w (Err halt) new v) (sym e) (λ n l. tt)

-- ## Work without a step

-- what is said of a task in the innermost call
abbrev pub ActsInCall : Task → Stacks → Result Bool Halt → Stacks → Type 0
ActsInCall t old r new = IfOk r (λ done. (p : PlainProgram) (w : State) (f : Open) (calls : List Open) → calls_in old.calls ≡ f ∷ calls → ActsOn p t old w done new w)

-- a task that is another
pub acts_as : (t other : Task) (old new : Stacks) (r : Result Bool Halt) → t ≡ other → ActsInCall other old r new → ActsInCall t old r new
acts_as t other old new r e h = subst (λ t. ActsInCall t old r new) (sym e) h

-- a block, wherever its tree stands
pub block_acts : (at : At) (t : Task) (xs : PlainStatements) (old new : Stacks) (r : Result Bool Halt) → t ≡ execute_statement (statement at (block xs)) →
    IfOk r (λ done. (p : PlainProgram) (w : State) (f : Open) (calls : List Open) → calls_in old.calls ≡ f ∷ calls → (at : At) → ActsOn p (execute_statement (statement at (block xs))) old w done new w) → ActsInCall t old r new
block_acts at t xs old new (Ok done) e h = λ p w f calls opens. subst (λ t. ActsOn p t old w done new w) (sym e) (h p w f calls opens at)
block_acts at t xs old new (Err halt) e h = tt

-- an act in the innermost call
pub acted_in : (p : PlainProgram) (t : Task) (old new : Stacks) (cs : List Open) (w v : State) → calls_in old.calls ≡ cs → act p t (tasks_in old.tasks) old.operands cs w ≡ gives (rig_of normal new) v → ActsOn p t old w true new v
acted_in p t old new cs w v e h = subst (λ cs. act p t (tasks_in old.tasks) old.operands cs w ≡ gives (rig_of normal new) v) (sym e) h

-- a call is open
acts_there : (p : PlainProgram) (t : Task) (old new : Stacks) (w v : State) (done : Bool) (cs : List Open) → is_nil cs ≡ false → ((f : Open) (calls : List Open) → cs ≡ f ∷ calls → ActsOn p t old w done new v) → ActsOn p t old w done new v
acts_there p t old new w v done [] e h = absurd (let no : true ≡ false = e in cc)
acts_there p t old new w v done (f ∷ calls) e h = h f calls refl

-- work where a call is open
pub work_acts : (p : PlainProgram) (t other : Task) (old new : Stacks) (idle : Bool) (r : Result Bool Halt) (a b : Outside) → idle ≡ is_nil (calls_in old.calls) → idle ≡ false → t ≡ other → a ≡ b → ActsInCall other old r new → IfOk r (λ done. (io : Around) → ActsOn p t old (state_of a io) done new (state_of b io))
work_acts p t other old new idle (Ok done) a b nil is e same h = λ io.
    subst (λ b. ActsOn p t old (state_of a io) done new (state_of b io)) same
    (subst (λ t. ActsOn p t old (state_of a io) done new (state_of a io)) (sym e) (acts_there p other old new (state_of a io) (state_of a io) done (calls_in old.calls) (sym nil ∙ is) (λ f calls opens. h p (state_of a io) f calls opens)))
work_acts p t other old new idle (Err halt) a b nil is e same h = tt

-- the end of a block where a call is open
pub block_ends : (p : PlainProgram) (t : Task) (old new : Stacks) (w v : State) (idle : Bool) → idle ≡ is_nil (calls_in old.calls) → idle ≡ false → t ≡ end_block →
    ((flow : Flow) (f : Open) (calls : List Open) → calls_in old.calls ≡ f ∷ calls → goes_by_flow flow (tasks_in old.tasks) old.operands (after_block f ∷ calls) (block_closed f w) ≡ gives (rig_of flow new) v) → ActsOn p t old w true new v
block_ends p t old new w v idle nil is e h =
    subst (λ t. ActsOn p t old w true new v) (sym e) (acts_there p end_block old new w v true (calls_in old.calls) (sym nil ∙ is) (λ f calls opens. acted_in p end_block old new (f ∷ calls) w v opens (h normal f calls opens)))

-- no statements where a call is open
pub nothing_acts : (p : PlainProgram) (t : Task) (xs : PlainStatements) (b : Bool) (old : Stacks) (w : State) (idle : Bool) → idle ≡ is_nil (calls_in old.calls) → idle ≡ false → t ≡ execute_statements xs → (b ≡ true → xs ≡ no_statements) → ActsOn p t old w b old w
nothing_acts p t xs false old w idle nil is e h = (refl, refl)
nothing_acts p t xs true old w idle nil is e h =
    subst (λ t. ActsOn p t old w true old w) (sym (e ∙ ap execute_statements (h refl)))
    (acts_there p (execute_statements no_statements) old old w w true (calls_in old.calls) (sym nil ∙ is) (λ f calls opens. acted_in p (execute_statements no_statements) old old (f ∷ calls) w w opens (ap (λ cs. gives (record { flow = normal; tasks = tasks_in old.tasks; operands = old.operands; calls = cs }) w) (sym opens))))
