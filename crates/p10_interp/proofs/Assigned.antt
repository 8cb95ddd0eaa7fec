-- Reads, updates and copies, where their operands are there.
use Rattle.std.proofs.Common.{◌≡◌, ◌≢◌, ◌-◌, ℕ, List, ◌∷◌, refl, sym, ◌∙◌, ap, subst, Result, Ok, Err, Some, OnOk, IfErr}
use Rattle.p10_base.specs.declared.span.Span.{Span}
use Rattle.p10_int.specs.declared.operators.BinOp.{BinOp}
use Rattle.p10_core.specs.Types.{PlainType}
use Rattle.p10_core.specs.Typed.{PlainProgram}
use Rattle.p10_meaning.specs.declared.pointers.Ptr.{Ptr}
use Rattle.p10_meaning.specs.declared.pointers.Scalar.{Scalar}
use Rattle.p10_meaning.specs.Pointers.{holding}
use Rattle.p10_meaning.specs.States.{State, Progress, gives, and_then, or_undefined}
use Rattle.p10_meaning.specs.Scalars.{converted_to, operated}
use Rattle.p10_meaning.specs.Values.{Target, width, pointer_to, read_target}
use Rattle.p10_meaning.specs.Statements.{Done, normal, write_target, copy_scalars}
use Rattle.p10_interp.specs.declared.work.Halt.{Halt}
use Rattle.p10_interp.specs.declared.work.Halt.TheVariants.{Failed, Undefined, Spent, Memory}
use Rattle.p10_interp.specs.private.Tasks.{read_at, read_old, write_new, copy_between, Operand, evaluated, located, Open, Left}
use Rattle.p10_interp.specs.private.Operations.{first_value, first_target, below, on_some, leaves, leaves_value, leaves_done, done_by}
use Rattle.p10_interp.specs.private.Views.{Answers, Gives, left_with}
use Rattle.p10_interp.proofs.Begun.{step_paid}

-- ## Copies

-- a piece of a statement that leaves the frame as it was
pub done_left : {B : Type 0} (o : Progress Done) (operands : List Operand) (f : Open) (calls : List Open) (r : Result B Halt) (v : State) → Answers o r (record { flow = normal; frame = f.frame }) v → Answers (leaves_done operands f calls o) r (left_with operands (f ∷ calls)) v
done_left o operands f calls (Ok x) v h = ap (λ o. leaves_done operands f calls o) h
done_left o operands f calls (Err (Failed span)) v h = ap (λ o. leaves_done operands f calls o) h
done_left o operands f calls (Err (Undefined stop span)) v h = ap (λ o. leaves_done operands f calls o) h
done_left o operands f calls (Err Spent) v h = ap (λ o. leaves_done operands f calls o) h
done_left o operands f calls (Err Memory) v h = tt

pub copied : {B : Type 0} (p : PlainProgram) (to_span from_span : Span) (t : PlainType) (operands rest : List Operand) (f : Open) (calls cs : List Open) (w v : State) (source target : Target) (to from : Ptr) (n : ℕ) (r : Result B Halt) →
    first_target operands ≡ Some source → first_target (below operands) ≡ Some target → rest ≡ below (below operands) → cs ≡ f ∷ calls → to ≡ pointer_to target → from ≡ pointer_to source → n ≡ width p t →
    Answers (copy_scalars n 0 to_span to from_span from f.frame w) r (record { flow = normal; frame = f.frame }) v → Answers (done_by p (copy_between to_span from_span t) operands (f ∷ calls) w) r (left_with rest cs) v
copied p to_span from_span t operands rest f calls cs w v source target to from n r found again left same is was most h =
    subst (λ cs. Answers (done_by p (copy_between to_span from_span t) operands (f ∷ calls) w) r (left_with rest cs) v) (sym same)
    (subst (λ rest. Answers (done_by p (copy_between to_span from_span t) operands (f ∷ calls) w) r (left_with rest (f ∷ calls)) v) (sym left)
    (subst (λ o. Answers (on_some o w (λ source. on_some (first_target (below operands)) w (λ target. leaves_done (below (below operands)) f calls (copy_scalars (width p t) 0 to_span (pointer_to target) from_span (pointer_to source) f.frame w)))) r (left_with (below (below operands)) (f ∷ calls)) v) (sym found)
    (subst (λ o. Answers (on_some o w (λ target. leaves_done (below (below operands)) f calls (copy_scalars (width p t) 0 to_span (pointer_to target) from_span (pointer_to source) f.frame w))) r (left_with (below (below operands)) (f ∷ calls)) v) (sym again)
    (done_left _ _ _ _ _ _
    (subst (λ n. Answers (copy_scalars n 0 to_span (pointer_to target) from_span (pointer_to source) f.frame w) r (record { flow = normal; frame = f.frame }) v) most
    (subst (λ from. Answers (copy_scalars n 0 to_span (pointer_to target) from_span from f.frame w) r (record { flow = normal; frame = f.frame }) v) was
    (subst (λ to. Answers (copy_scalars n 0 to_span to from_span from f.frame w) r (record { flow = normal; frame = f.frame }) v) is h)))))))

-- ## Reads

-- what stops a piece stops what comes after it
pub gives_err : {A B C : Type 0} (o : Progress A) (go : A → State → Progress C) (r : Result B Halt) (halt : Halt) (new : C) (v : State) → r ≡ Err halt → Gives o (Err halt) v → Answers (and_then o go) r new v
gives_err o go r (Failed span) new v e h = subst (λ r. Answers (and_then o go) r new v) (sym e) (ap (λ o. and_then o go) h)
gives_err o go r (Undefined stop span) new v e h = subst (λ r. Answers (and_then o go) r new v) (sym e) (ap (λ o. and_then o go) h)
gives_err o go r Spent new v e h = subst (λ r. Answers (and_then o go) r new v) (sym e) (ap (λ o. and_then o go) h)
gives_err o go r Memory new v e h = subst (λ r. Answers (and_then o go) r new v) (sym e) tt

pub read_stops : {B : Type 0} (p : PlainProgram) (span : Span) (t : PlainType) (operands : List Operand) (f : Open) (calls : List Open) (w v : State) (target : Target) (r : Result B Halt) (halt : Halt) (new : Left) → first_target operands ≡ Some target → r ≡ Err halt →
    Gives (read_target span t f.frame.held target w) (Err halt) v → Answers (done_by p (read_at span t) operands (f ∷ calls) w) r new v
read_stops p span t operands f calls w v target r halt new found e h =
    subst (λ o. Answers (on_some o w (λ target. and_then (read_target span t f.frame.held target w) (λ x w. leaves_value x (below operands) (f ∷ calls) w))) r new v) (sym found) (gives_err _ _ r halt new v e h)

-- what a read of an update does, where its place is there
abbrev reads_old : Span → PlainType → PlainType → List Operand → Open → List Open → State → Target → Progress Left
reads_old span t for operands f calls w target =
    and_then (read_target span t f.frame.held target w) (λ x w. leaves (evaluated (Some (converted_to for x)) ∷ (located target ∷ below operands)) (f ∷ calls) w)

old_paid : {B : Type 0} (p : PlainProgram) (span : Span) (t for : PlainType) (operands : List Operand) (f : Open) (calls : List Open) (w v : State) (target : Target) (r : Result B Halt) (new : Left) → w.left ≢ 0 → first_target operands ≡ Some target →
    Answers (reads_old span t for operands f calls (record w { left = w.left - 1 }) target) r new v → Answers (done_by p (read_old span t for) operands (f ∷ calls) w) r new v
old_paid p span t for operands f calls w v target r new l found h =
    subst (λ o. Answers o r new v) (sym (step_paid w (λ w. on_some (first_target operands) w (λ target. reads_old span t for operands f calls w target)) l))
    (subst (λ o. Answers (on_some o (record w { left = w.left - 1 }) (λ target. reads_old span t for operands f calls (record w { left = w.left - 1 }) target)) r new v) (sym found) h)

pub old_stops : {B : Type 0} (p : PlainProgram) (span : Span) (t for : PlainType) (operands : List Operand) (f : Open) (calls : List Open) (w v : State) (target : Target) (r : Result B Halt) (halt : Halt) (new : Left) → w.left ≢ 0 → first_target operands ≡ Some target → r ≡ Err halt →
    Gives (read_target span t f.frame.held target (record w { left = w.left - 1 })) (Err halt) v → Answers (done_by p (read_old span t for) operands (f ∷ calls) w) r new v
old_stops p span t for operands f calls w v target r halt new l found e h = old_paid p span t for operands f calls w v target r new l found (gives_err _ _ r halt new v e h)

old_failed : (B C : Type 0) (o : Progress C) (r : Result B Halt) (halt : Halt) (x : C) (v : State) → r ≡ Err halt → halt ≡ Memory → Answers o r x v
old_failed B C o r halt x v e m = subst (λ r. Answers o r x v) (sym (e ∙ ap (λ h. Err h) m)) tt

old_pushed : (B : Type 0) (operands rest new : List Operand) (f : Open) (calls cs : List Open) (o : Progress Scalar) (for : PlainType) (v : State) (target : Target) (x old : Scalar) (r : Result B Halt) → o ≡ gives x v → old ≡ converted_to for x → rest ≡ below operands → cs ≡ f ∷ calls →
    OnOk r (new ≡ evaluated (Some old) ∷ (located target ∷ rest)) → IfErr r (λ halt. halt ≡ Memory) →
    Answers (and_then o (λ x w. leaves (evaluated (Some (converted_to for x)) ∷ (located target ∷ below operands)) (f ∷ calls) w)) r (left_with new cs) v
old_pushed B operands rest new f calls cs o for v target x old (Ok done) read is left same ok err =
    ap (λ o. and_then o (λ x w. leaves (evaluated (Some (converted_to for x)) ∷ (located target ∷ below operands)) (f ∷ calls) w)) read ∙
    (ap (λ x. leaves (evaluated (Some x) ∷ (located target ∷ below operands)) (f ∷ calls) v) (sym is) ∙
    (ap (λ rest. leaves (evaluated (Some old) ∷ (located target ∷ rest)) (f ∷ calls) v) (sym left) ∙
    (ap (λ operands. leaves operands (f ∷ calls) v) (sym ok) ∙ ap (λ cs. leaves new cs v) (sym same))))
old_pushed B operands rest new f calls cs o for v target x old (Err halt) read is left same ok err =
    old_failed B Left (and_then o (λ x w. leaves (evaluated (Some (converted_to for x)) ∷ (located target ∷ below operands)) (f ∷ calls) w)) (Err halt) halt (left_with new cs) v refl err

-- what was read stands on its place
pub old_put : {B : Type 0} (r : Result B Halt) (below_it between new : List Operand) (a b : Operand) → between ≡ b ∷ below_it → OnOk r (new ≡ a ∷ between) → OnOk r (new ≡ a ∷ (b ∷ below_it))
old_put (Ok done) below_it between new a b e h = h ∙ ap (λ k. a ∷ k) e
old_put (Err halt) below_it between new a b e h = tt

pub old_read : (B : Type 0) (p : PlainProgram) (span : Span) (t for : PlainType) (operands rest new : List Operand) (f : Open) (calls cs : List Open) (w v : State) (target : Target) (x old : Scalar) (r : Result B Halt) → w.left ≢ 0 → first_target operands ≡ Some target →
    read_target span t f.frame.held target (record w { left = w.left - 1 }) ≡ gives x v → old ≡ converted_to for x → rest ≡ below operands → cs ≡ f ∷ calls → OnOk r (new ≡ evaluated (Some old) ∷ (located target ∷ rest)) → IfErr r (λ halt. halt ≡ Memory) →
    Answers (done_by p (read_old span t for) operands (f ∷ calls) w) r (left_with new cs) v
old_read B p span t for operands rest new f calls cs w v target x old r l found read is left same ok err =
    old_paid p span t for operands f calls w v target r (left_with new cs) l found (old_pushed B operands rest new f calls cs _ for v target x old r read is left same ok err)

-- ## Updates

pub new_written : {B : Type 0} (p : PlainProgram) (op : BinOp) (at : Span) (for : PlainType) (span : Span) (t : PlainType) (operands rest : List Operand) (f : Open) (calls cs : List Open) (w v : State) (x y z value : Scalar) (target : Target) (r : Result B Halt) → w.left ≢ 0 →
    first_value operands ≡ Some y → first_value (below operands) ≡ Some x → first_target (below (below operands)) ≡ Some target → rest ≡ below (below (below operands)) → operated op for w.objects x y ≡ Ok z → value ≡ converted_to t z →
    Answers (leaves_done rest f calls (write_target span target (holding value) f.frame (record w { left = w.left - 1 }))) r (left_with rest cs) v →
    Answers (done_by p (write_new op at for span t) operands (f ∷ calls) w) r (left_with rest cs) v
new_written p op at for span t operands rest f calls cs w v x y z value target r l first second third left result is h =
    let u : State = record w { left = w.left - 1 } in
    subst (λ o. Answers o r (left_with rest cs) v) (sym (step_paid w _ l))
    (subst (λ o. Answers (on_some o u (λ y. on_some (first_value (below operands)) u (λ x. on_some (first_target (below (below operands))) u (λ target. or_undefined (operated op for u.objects x y) at u (λ z. leaves_done (below (below (below operands))) f calls (write_target span target (holding (converted_to t z)) f.frame u)))))) r (left_with rest cs) v) (sym first)
    (subst (λ o. Answers (on_some o u (λ x. on_some (first_target (below (below operands))) u (λ target. or_undefined (operated op for u.objects x y) at u (λ z. leaves_done (below (below (below operands))) f calls (write_target span target (holding (converted_to t z)) f.frame u))))) r (left_with rest cs) v) (sym second)
    (subst (λ o. Answers (on_some o u (λ target. or_undefined (operated op for u.objects x y) at u (λ z. leaves_done (below (below (below operands))) f calls (write_target span target (holding (converted_to t z)) f.frame u)))) r (left_with rest cs) v) (sym third)
    (subst (λ o. Answers (or_undefined o at u (λ z. leaves_done (below (below (below operands))) f calls (write_target span target (holding (converted_to t z)) f.frame u))) r (left_with rest cs) v) (sym result)
    (subst (λ ops. Answers (leaves_done ops f calls (write_target span target (holding (converted_to t z)) f.frame u)) r (left_with rest cs) v) left
    (subst (λ x. Answers (leaves_done rest f calls (write_target span target (holding x) f.frame u)) r (left_with rest cs) v) is h))))))
