-- What a declaration does to the open calls and to the state.
use Rattle.std.proofs.Common.{◌≡◌, ℕ, suc, ◌*◌, true, false, List, [], ◌∷◌, length, replicate, refl, sym, ◌∙◌, subst, ap, arith, Result, Err, Option, Some, slice_get}
use Rattle.p10_base.specs.declared.span.Span.{Span}
use Rattle.p10_core.specs.Types.{PlainType}
use Rattle.p10_core.specs.Typed.{PlainInitializer, PlainVariable, PlainProgram}
use Rattle.p10_meaning.specs.declared.pointers.Ptr.{Ptr}
use Rattle.p10_meaning.specs.Pointers.{unset, first_of}
use Rattle.p10_meaning.specs.Objects.{declared, opened_with}
use Rattle.p10_meaning.specs.States.{State, Progress}
use Rattle.p10_meaning.specs.Scalars.{unset_cells}
use Rattle.p10_meaning.specs.Values.{holds, scalars, width, open_object, Variable, Element}
use Rattle.p10_meaning.specs.Statements.{holding_at}
use Rattle.p10_store.specs.declared.shape.Origin.TheVariants.{Declared}
use Rattle.p10_store.specs.Stores.{Held, Opens}
use Rattle.p10_interp.specs.declared.work.Halt.{Halt}
use Rattle.p10_interp.specs.declared.work.Halt.TheVariants.{Failed, Undefined, Spent, Memory}
use Rattle.p10_interp.specs.declared.work.Target.{Target as Aim}
use Rattle.p10_interp.specs.private.Tasks.{Task, Operand, Open, Rig}
use Rattle.p10_interp.specs.private.Operations.{with_frame}
use Rattle.p10_interp.specs.private.OpenCalls.{standing_at, innermost_variables}
use Rattle.p10_interp.specs.private.Views.{Answers, target_of}
use Rattle.p10_interp.specs.private.Acts.{declared_by, initialized}
use Rattle.p10_interp.specs.private.Declaring.{IsDeclared, Declares}

-- ## Objects

all_unset : (types : List PlainType) → replicate (length types) unset ≡ unset_cells types
all_unset [] = refl
all_unset (t ∷ types) = ap (λ cells. unset ∷ cells) (all_unset types)

pub object_opened : (p : PlainProgram) (t : PlainType) (old new : Held) (n : ℕ) → n ≡ width p t → Opens old new n 1 Declared → (w : State) → w.objects ≡ old.objects → w.opened ≡ old.opened →
    record w { objects = new.objects; opened = new.opened } ≡ open_object declared (unset_cells (scalars p t)) w
object_opened p t old new n e o w same number =
    let m : 1 * n ≡ length (scalars p t) = omega (arith, e) in
    let cells : replicate (1 * n) unset ≡ unset_cells (scalars p t) = ap (λ n. replicate n unset) m ∙ all_unset (scalars p t) in
    let one : new.opened ≡ suc w.opened = omega (arith, o.opened, number) in
    ap (λ objects. record w { objects = objects; opened = new.opened })
    (o.objects ∙ (ap (λ cells. opened_with old.objects old.opened declared cells) cells ∙ (ap (λ objects. opened_with objects old.opened declared (unset_cells (scalars p t))) (sym same) ∙ ap (λ k. opened_with w.objects k declared (unset_cells (scalars p t))) (sym number)))) ∙
    ap (λ k. record w { objects = opened_with w.objects w.opened declared (unset_cells (scalars p t)); opened = k }) one

-- ## Variables

pub declared_held : (p : PlainProgram) (span : Span) (n : ℕ) (v : PlainVariable) (i : PlainInitializer) (k : List Task) (operands : List Operand) (f : Open) (calls : List Open) (w : State) → v.frame ≡ true →
    declared_by p span n (Some v) i k operands f calls w ≡ initialized span v.type (Variable n) i k operands (with_frame f (holding_at f.frame n (holds unset))) calls w
declared_held p span n v i k operands f calls w e = rw e refl

declared_standing : (p : PlainProgram) (span : Span) (n : ℕ) (v : PlainVariable) (i : PlainInitializer) (k : List Task) (operands : List Operand) (f : Open) (calls : List Open) (w : State) → v.frame ≡ false →
    declared_by p span n (Some v) i k operands f calls w ≡
    initialized span v.type (Element (first_of w.opened (width p v.type) 1)) i k operands (with_frame f (standing_at f.frame n w.opened)) calls (open_object declared (unset_cells (scalars p v.type)) w)
declared_standing p span n v i k operands f calls w e = rw e refl

pub declared_object : (p : PlainProgram) (span : Span) (n : ℕ) (v : PlainVariable) (i : PlainInitializer) (k : List Task) (operands : List Operand) (f : Open) (calls : List Open) (w : State) (object most : ℕ) (q : Ptr) (new : State) → v.frame ≡ false →
    object ≡ w.opened → most ≡ width p v.type → q ≡ first_of object most 1 → new ≡ open_object declared (unset_cells (scalars p v.type)) w →
    declared_by p span n (Some v) i k operands f calls w ≡ initialized span v.type (Element q) i k operands (with_frame f (standing_at f.frame n object)) calls new
declared_object p span n v i k operands f calls w object most q new e o m at is =
    declared_standing p span n v i k operands f calls w e ∙
    (ap (λ q. initialized span v.type (Element q) i k operands (with_frame f (standing_at f.frame n w.opened)) calls (open_object declared (unset_cells (scalars p v.type)) w))
    (ap (λ m. first_of w.opened m 1) (sym m) ∙ (ap (λ o. first_of o most 1) (sym o) ∙ sym at)) ∙
    (ap (λ o. initialized span v.type (Element q) i k operands (with_frame f (standing_at f.frame n o)) calls (open_object declared (unset_cells (scalars p v.type)) w)) (sym o) ∙
    ap (λ w. initialized span v.type (Element q) i k operands (with_frame f (standing_at f.frame n object)) calls w) (sym is)))

-- the variable that is declared is there
pub variable_is : (o : Option PlainVariable) (v : PlainVariable) (n : ℕ) (old : List Open) (f : Open) (calls : List Open) → o ≡ slice_get (innermost_variables old) n → o ≡ Some v → old ≡ f ∷ calls → slice_get f.function.variables n ≡ Some v
variable_is o v n old f calls d e same = sym (ap (λ calls. slice_get (innermost_variables calls) n) same) ∙ (sym d ∙ e)

-- a declaration that stops is out of memory
pub declares_err : {A B : Type 0} (r : Result B Halt) (halt : Halt) (p : PlainProgram) (n : ℕ) (v : PlainVariable) (f : Open) (calls : List Open) (w : State) (now : List Open) (new after : State) (o : Progress A) (x : A) →
    r ≡ Err halt → Declares p n v f calls w (Err halt) now new → Answers o r x after
declares_err r (Failed span) p n v f calls w now new after o x e h = absurd h
declares_err r (Undefined stop span) p n v f calls w now new after o x e h = absurd h
declares_err r Spent p n v f calls w now new after o x e h = absurd h
declares_err r Memory p n v f calls w now new after o x e h = subst (λ r. Answers o r x after) (sym e) tt

-- a declared variable is initialised
pub declares_ok : {B : Type 0} (p : PlainProgram) (span : Span) (n : ℕ) (v : PlainVariable) (o : Option PlainVariable) (i : PlainInitializer) (k : List Task) (operands : List Operand) (f : Open) (calls : List Open) (w : State) (target : Aim) (now : List Open) (new : State) (r : Result B Halt) (x : Rig) (after : State) →
    o ≡ Some v → (d : IsDeclared p n v f calls w target now new) → ((g : Open) → now ≡ g ∷ calls → Answers (initialized span v.type (target_of target) i k operands g calls new) r x after) → Answers (declared_by p span n o i k operands f calls w) r x after
declares_ok p span n v o i k operands f calls w target now new r x after is d h =
    subst (λ o. Answers (declared_by p span n o i k operands f calls w) r x after) (sym is)
    (subst (λ o. Answers o r x after) (sym (d.same span i k operands)) (h d.call d.here))
