-- What the machine gives for constant expressions, outside of functions.
use Rattle.std.proofs.Common.{◌≡◌, ℕ, ◌+◌, ◌^◌, Bool, true, false, List, [], ◌∷◌, length, append-nil, refl, sym, ◌∙◌, ap, subst, arith, Option, Some, None, Err}
use Rattle.std.specs.List.{All}
use Rattle.p10_core.specs.Typed.{PlainValue, PlainFunction, PlainProgram, PlainItem}
use Rattle.p10_core.specs.Addresses.{is_static_value}
use Rattle.p10_core.specs.WholePrograms.{IsStaticWritten}
use Rattle.p10_meaning.specs.declared.pointers.Scalar.{Scalar}
use Rattle.p10_meaning.specs.States.{State, AssertionFailed, Undefined as IsUndefined, StepsSpent, Progress, gives, ends, and_then}
use Rattle.p10_meaning.specs.Values.{Setting, evaluate}
use Rattle.p10_meaning.specs.Statements.{normal, listed_scalars}
use Rattle.p10_meaning.specs.Calling.{Depth, call_at, setting_of}
use Rattle.p10_meaning.specs.Opening.{constant_setting, constant_state, constant_scalars}
use Rattle.p10_meaning.specs.Laws.{with_more}
use Rattle.p10_interp.specs.declared.work.Halt.{Halt}
use Rattle.p10_interp.specs.declared.work.Halt.TheVariants.{Failed, Undefined, Spent, Memory}
use Rattle.p10_interp.specs.declared.stacks.Stacks.{Stacks}
use Rattle.p10_interp.specs.private.Tasks.{Task, evaluate_value, evaluate_items, Operand, evaluated, Open, Left, Rig}
use Rattle.p10_interp.specs.private.Operations.{first_value, taken_before, put_values, count_of_items, scalars_of_items}
use Rattle.p10_interp.specs.private.Resuming.{values_of_items, proceed}
use Rattle.p10_interp.proofs.Operands.{taken_put, AreMany, items_are_many, items_right}
use Rattle.p10_interp.specs.private.Constants.{IsConstantState, value_given, scalars_if, is_ended, IsOutside}
use Rattle.p10_interp.specs.private.Running.{Comes}
use Rattle.p10_interp.proofs.ConstantValues.{OnlySteps, Constant, evaluated_constant, listed_constant}

-- a call without variables
abbrev pub outside_call : PlainFunction → Depth → Open
outside_call h d = record { function = h; depth = d; frame = record { held = []; opened = [] }; outer = [] }

-- the machine with one task, outside of functions
abbrev pub rig_outside : Task → PlainFunction → Depth → Rig
rig_outside t h d = record { flow = normal; tasks = t ∷ []; operands = []; calls = outside_call h d ∷ [] }

abbrev state_at : {A : Type 0} → Progress A → State
state_at (gives a u) = u
state_at (ends end u) = u

abbrev operands_at : Progress Left → List Operand
operands_at (gives l u) = l.operands
operands_at (ends end u) = []

-- where a run ends by itself
abbrev pub EndsEarly : {A : Type 0} → Progress A → State → Type 0
EndsEarly (gives a u) w = ⊥
EndsEarly (ends (AssertionFailed span) u) w = u ≡ w
EndsEarly (ends (IsUndefined stop span) u) w = u ≡ w
EndsEarly (ends StepsSpent u) w = ⊥

pub ended_early : (o : Progress Left) (halt : Halt) (s : Stacks) (w : State) → is_ended halt ≡ true → Comes o (Err halt) s w → EndsEarly o w
ended_early o (Failed span) s w e h = subst (λ o. EndsEarly o w) (sym h) refl
ended_early o (Undefined stop span) s w e h = subst (λ o. EndsEarly o w) (sym h) refl
ended_early o Spent s w e h = absurd cc
ended_early o Memory s w e h = absurd cc

early_then : {A B : Type 0} (o : Progress A) (go : A → State → Progress B) (w : State) → ((a : A) (u : State) → EndsEarly (go a u) w → ⊥) → EndsEarly (and_then o go) w → EndsEarly o w
early_then (gives a u) go w never h = absurd (never a u h)
early_then (ends (AssertionFailed span) u) go w never h = h
early_then (ends (IsUndefined stop span) u) go w never h = h
early_then (ends StepsSpent u) go w never h = h

-- the state in which constant expressions are evaluated, with one step less
one_more : (p : PlainProgram) (w : State) → IsConstantState p w → w.left + 1 ≡ 2 ^ 64 → with_more 1 w ≡ constant_state p
one_more p w e l = ap (λ (w : State). record w { left = w.left + 1 }) e ∙ ap (λ n. record (constant_state p) { left = n }) l

sensors_none : (p : PlainProgram) (w : State) → IsConstantState p w → w.sensors ≡ []
sensors_none p w e = ap (λ (w : State). w.sensors) e

still_constant : (p : PlainProgram) (w u v : State) → IsConstantState p w → OnlySteps w u → u ≡ v → IsConstantState p v
still_constant p w u v e only is = subst (λ u. IsConstantState p u) is (only ∙ ap (λ (w : State). record w { left = u.left }) e)

-- ## One value

pub record GivesValue (p : PlainProgram) (v : PlainValue) (given : Option Scalar) (u : State) : Type 0 where
  pub value : given ≡ value_given (evaluate (constant_setting p) [] v (constant_state p))
  pub zero : IsConstantState p u

value_came : (p : PlainProgram) (h : PlainFunction) (d : Depth) (o : Progress Scalar) (other : Progress Scalar) (w u : State) (l : Left) (x : Scalar) → IsConstantState p w → Constant w o other → first_value l.operands ≡ Some x →
    and_then o (λ x u. gives (record { flow = normal; operands = evaluated (Some x) ∷ []; calls = outside_call h d ∷ [] }) u) ≡ gives l u → (Some x ≡ value_given other) × IsConstantState p u
value_came p h d (gives y v) other w u l x e c f is =
    let ops : evaluated (Some y) ∷ [] ≡ l.operands = ap operands_at is in
    let same : Some y ≡ Some x = ap first_value ops ∙ f in
    (sym same ∙ sym (ap value_given c.value.1), still_constant p w v u e c.only (ap state_at is))
value_came p h d (ends end v) other w u l x e c f is = absurd cc

pub value_comes : (p : PlainProgram) (n : ℕ) (h : PlainFunction) (d : Depth) (v : PlainValue) (r : Rig) (w u : State) (l : Left) (x : Scalar) → r ≡ rig_outside (evaluate_value v) h d → is_static_value v ≡ true → IsConstantState p w → w.left + 1 ≡ 2 ^ 64 →
    proceed p n r w ≡ gives l u → first_value l.operands ≡ Some x → GivesValue p v (Some x) u
value_comes p n h d v r w u l x is q e one come f =
    let c : Constant w (evaluate (setting_of p n (call_at n p) d h) [] v w) (evaluate (constant_setting p) [] v (with_more 1 w)) = evaluated_constant p h.variables (call_at n p d) n v q w (sensors_none p w e) in
    let g : (Some x ≡ value_given (evaluate (constant_setting p) [] v (with_more 1 w))) × IsConstantState p u = value_came p h d (evaluate (setting_of p n (call_at n p) d h) [] v w) _ w u l x e c f (subst (λ r. proceed p n r w ≡ gives l u) is come) in
    record { value = g.0 ∙ ap (λ w. value_given (evaluate (constant_setting p) [] v w)) (one_more p w e one); zero = g.1 }

value_ended : (p : PlainProgram) (o other : Progress Scalar) (w u : State) → IsConstantState p w → Constant w o other → EndsEarly o u → (None ≡ value_given other) × IsConstantState p u
value_ended p (gives y v) other w u e c h = absurd h
value_ended p (ends (AssertionFailed span) v) other w u e c h = (sym (ap value_given c.value.1), still_constant p w v u e c.only h)
value_ended p (ends (IsUndefined stop span) v) other w u e c h = (sym (ap value_given c.value.1), still_constant p w v u e c.only h)
value_ended p (ends StepsSpent v) other w u e c h = absurd h

pub value_ends : (p : PlainProgram) (n : ℕ) (h : PlainFunction) (d : Depth) (v : PlainValue) (r : Rig) (w u : State) → r ≡ rig_outside (evaluate_value v) h d → is_static_value v ≡ true → IsConstantState p w → w.left + 1 ≡ 2 ^ 64 →
    EndsEarly (proceed p n r w) u → GivesValue p v None u
value_ends p n h d v r w u is q e one come =
    let c : Constant w (evaluate (setting_of p n (call_at n p) d h) [] v w) (evaluate (constant_setting p) [] v (with_more 1 w)) = evaluated_constant p h.variables (call_at n p d) n v q w (sensors_none p w e) in
    let early : EndsEarly (evaluate (setting_of p n (call_at n p) d h) [] v w) u = early_then (evaluate (setting_of p n (call_at n p) d h) [] v w) _ u (λ x v e. e) (subst (λ r. EndsEarly (proceed p n r w) u) is come) in
    let g : (None ≡ value_given (evaluate (constant_setting p) [] v (with_more 1 w))) × IsConstantState p u = value_ended p (evaluate (setting_of p n (call_at n p) d h) [] v w) _ w u e c early in
    record { value = g.0 ∙ ap (λ w. value_given (evaluate (constant_setting p) [] v w)) (one_more p w e one); zero = g.1 }

-- ## Lists

pub record GivesList (p : PlainProgram) (items : List PlainItem) (given : Bool) (xs : List Scalar) (u : State) : Type 0 where
  pub value : scalars_if given items xs ≡ constant_scalars (listed_scalars (constant_setting p) [] items (constant_state p))
  pub zero : IsConstantState p u

and_gives : {A : Type 0} (o : Progress A) → and_then o (λ a w. gives a w) ≡ o
and_gives (gives a w) = refl
and_gives (ends end w) = refl

all_taken : (n : ℕ) (ys : List Scalar) → length ys ≡ n → taken_before n [] (put_values ys []) ≡ Some (ys, [])
all_taken n ys e =
    ap (λ n. taken_before n [] (put_values ys [])) (let d : length ys ≡ n = e in let f : n ≡ length ys + 0 = omega (arith, d) in f) ∙ (taken_put ys [] 0 [] ∙ ap (λ ys. Some (ys, [])) (append-nil ys))

abbrev values_in : Option (List Scalar × List Operand) → List Scalar
values_in None = []
values_in (Some taken) = taken.0

list_came : (p : PlainProgram) (h : PlainFunction) (d : Depth) (items : List PlainItem) (vs : Progress (List Scalar)) (o other : Progress (List (ℕ × Scalar))) (w u : State) (l : Left) (n : ℕ) (xs : List Scalar) (mid : List Operand) → IsConstantState p w → Constant w o other →
    o ≡ and_then vs (λ xs w. gives (scalars_of_items items xs) w) → AreMany n vs → taken_before n [] l.operands ≡ Some (xs, mid) →
    and_then vs (λ xs u. gives (record { flow = normal; operands = put_values xs []; calls = outside_call h d ∷ [] }) u) ≡ gives l u → (scalars_of_items items xs ≡ constant_scalars other) × IsConstantState p u
list_came p h d items (gives ys v) o other w u l n xs mid e c is many taken come =
    let k : Constant w (gives (scalars_of_items items ys) v) other = subst (λ o. Constant w o other) is c in
    let ops : put_values ys [] ≡ l.operands = ap operands_at come in
    let same : ys ≡ xs = ap values_in (sym (all_taken n ys many) ∙ (ap (λ ops. taken_before n [] ops) ops ∙ taken)) in
    (ap (λ xs. scalars_of_items items xs) (sym same) ∙ sym (ap constant_scalars k.value.1), still_constant p w v u e k.only (ap state_at come))
list_came p h d items (ends end v) o other w u l n xs mid e c is many taken come = absurd cc

pub list_comes : (p : PlainProgram) (n : ℕ) (h : PlainFunction) (d : Depth) (items : List PlainItem) (r : Rig) (w u : State) (l : Left) (count : ℕ) (xs : List Scalar) (mid : List Operand) → r ≡ rig_outside (evaluate_items items) h d → All (λ (i : PlainItem). IsStaticWritten i.written) items → IsConstantState p w → w.left + 1 ≡ 2 ^ 64 →
    proceed p n r w ≡ gives l u → count ≡ count_of_items items → taken_before count [] l.operands ≡ Some (xs, mid) → GivesList p items true xs u
list_comes p n h d items r w u l count xs mid is q e one come many taken =
    let s : Setting = setting_of p n (call_at n p) d h in
    let c : Constant w (listed_scalars s [] items w) (listed_scalars (constant_setting p) [] items (with_more 1 w)) = listed_constant p h.variables (call_at n p d) n items q w (sensors_none p w e) in
    let right : listed_scalars s [] items w ≡ and_then (values_of_items s [] items w) (λ xs w. gives (scalars_of_items items xs) w) = sym (and_gives (listed_scalars s [] items w)) ∙ items_right s [] items w (λ xs w. gives xs w) in
    let g : (scalars_of_items items xs ≡ constant_scalars (listed_scalars (constant_setting p) [] items (with_more 1 w))) × IsConstantState p u =
    list_came p h d items (values_of_items s [] items w) (listed_scalars s [] items w) _ w u l (count_of_items items) xs mid e c right (items_are_many s [] items w) (ap (λ n. taken_before n [] l.operands) (sym many) ∙ taken) (subst (λ r. proceed p n r w ≡ gives l u) is come) in
    record { value = g.0 ∙ ap (λ w. constant_scalars (listed_scalars (constant_setting p) [] items w)) (one_more p w e one); zero = g.1 }

list_ended : (p : PlainProgram) (o other : Progress (List (ℕ × Scalar))) (w u : State) → IsConstantState p w → Constant w o other → EndsEarly o u → ([] ≡ constant_scalars other) × IsConstantState p u
list_ended p (gives y v) other w u e c h = absurd h
list_ended p (ends (AssertionFailed span) v) other w u e c h = (sym (ap constant_scalars c.value.1), still_constant p w v u e c.only h)
list_ended p (ends (IsUndefined stop span) v) other w u e c h = (sym (ap constant_scalars c.value.1), still_constant p w v u e c.only h)
list_ended p (ends StepsSpent v) other w u e c h = absurd h

pub list_ends : (p : PlainProgram) (n : ℕ) (h : PlainFunction) (d : Depth) (items : List PlainItem) (r : Rig) (w u : State) (xs : List Scalar) → r ≡ rig_outside (evaluate_items items) h d → All (λ (i : PlainItem). IsStaticWritten i.written) items → IsConstantState p w → w.left + 1 ≡ 2 ^ 64 →
    EndsEarly (proceed p n r w) u → GivesList p items false xs u
list_ends p n h d items r w u xs is q e one come =
    let s : Setting = setting_of p n (call_at n p) d h in
    let c : Constant w (listed_scalars s [] items w) (listed_scalars (constant_setting p) [] items (with_more 1 w)) = listed_constant p h.variables (call_at n p d) n items q w (sensors_none p w e) in
    let right : listed_scalars s [] items w ≡ and_then (values_of_items s [] items w) (λ xs w. gives (scalars_of_items items xs) w) = sym (and_gives (listed_scalars s [] items w)) ∙ items_right s [] items w (λ xs w. gives xs w) in
    let early : EndsEarly (values_of_items s [] items w) u = early_then (values_of_items s [] items w) _ u (λ x v e. e) (subst (λ r. EndsEarly (proceed p n r w) u) is come) in
    let ends_too : EndsEarly (listed_scalars s [] items w) u = subst (λ o. EndsEarly o u) (sym right) (early_on (values_of_items s [] items w) u early) in
    let g : ([] ≡ constant_scalars (listed_scalars (constant_setting p) [] items (with_more 1 w))) × IsConstantState p u = list_ended p (listed_scalars s [] items w) _ w u e c ends_too in
    record { value = g.0 ∙ ap (λ w. constant_scalars (listed_scalars (constant_setting p) [] items w)) (one_more p w e one); zero = g.1 }
  where
    early_on : (o : Progress (List Scalar)) (u : State) → EndsEarly o u → EndsEarly (and_then o (λ xs w. gives (scalars_of_items items xs) w)) u
    early_on (gives ys v) u h = absurd h
    early_on (ends (AssertionFailed span) v) u h = h
    early_on (ends (IsUndefined stop span) v) u h = h
    early_on (ends StepsSpent v) u h = h

-- the machine before it evaluates something outside of functions
pub rig_is : (t : Task) (before tasks : List Task) (operands : List Operand) (calls : List Open) → (o : IsOutside before operands calls) → tasks ≡ t ∷ before → record { flow = normal; tasks = tasks; operands = operands; calls = calls } ≡ rig_outside t o.function o.depth
rig_is t before tasks operands calls o e =
    ap (λ tasks. record { flow = normal; tasks = tasks; operands = operands; calls = calls }) (e ∙ ap (λ k. t ∷ k) o.no_tasks) ∙
    (ap (λ operands. record { flow = normal; tasks = t ∷ []; operands = operands; calls = calls }) o.no_operands ∙
    ap (λ calls. record { flow = normal; tasks = t ∷ []; operands = []; calls = calls }) o.call)

pub constant_from : (p : PlainProgram) (w : State) (n : ℕ) → IsConstantState p w → IsConstantState p (record w { left = n })
constant_from p w n e = ap (λ (w : State). record w { left = n }) e
