-- The act for a task that is another.
use Rattle.std.proofs.Common.{◌≡◌, ◌≢◌, ◌-◌, List, ◌∷◌, sym, subst, Result, Some}
use Rattle.p10_base.specs.declared.span.Span.{Span}
use Rattle.p10_core.specs.Types.{PlainType}
use Rattle.p10_core.specs.Typed.{PlainPlace, place_at, PlainProgram}
use Rattle.p10_meaning.specs.States.{State, step}
use Rattle.p10_meaning.specs.Values.{Target}
use Rattle.p10_interp.specs.declared.work.Halt.{Halt}
use Rattle.p10_interp.specs.private.Tasks.{Task, operate, copy_between, copy_into, Operand, located, Open, Rig}
use Rattle.p10_interp.specs.private.Operations.{on_some, first_target, below}
use Rattle.p10_interp.specs.private.Views.{Answers}
use Rattle.p10_interp.specs.private.Acts.{act, sought}
use Rattle.p10_interp.proofs.Begun.{sought_paid}

pub act_by : {B : Type 0} (p : PlainProgram) (t other : Task) (k : List Task) (operands : List Operand) (calls : List Open) (w v : State) (r : Result B Halt) (new : Rig) → t ≡ other →
    Answers (act p other k operands calls w) r new v → Answers (act p t k operands calls w) r new v
act_by p t other k operands calls w v r new e h = subst (λ t. Answers (act p t k operands calls w) r new v) (sym e) h

-- a structure is copied into the place on top: its source is looked for with a step
pub copy_sought : {B : Type 0} (p : PlainProgram) (span : Span) (t : PlainType) (q : PlainPlace) (k put : List Task) (operands others : List Operand) (f : Open) (calls : List Open) (w v : State) (target : Target) (r : Result B Halt) (new : Rig) → w.left ≢ 0 →
    first_target operands ≡ Some target → others ≡ located target ∷ below operands → put ≡ operate (copy_between span (place_at q).span t) ∷ k →
    Answers (sought p q put others f calls (record w { left = w.left - 1 })) r new v → Answers (act p (copy_into span t q) k operands (f ∷ calls) w) r new v
copy_sought p span t q k put operands others f calls w v target r new l found is same h =
    subst (λ o. Answers (on_some o w (λ target. step w (λ w. sought p q (operate (copy_between span (place_at q).span t) ∷ k) (located target ∷ below operands) f calls w))) r new v) (sym found)
    (sought_paid p q (operate (copy_between span (place_at q).span t) ∷ k) put (located target ∷ below operands) f calls w v r new l same
    (subst (λ operands. Answers (sought p q put operands f calls (record w { left = w.left - 1 })) r new v) is h))
