-- What writes leave of a store.
use Rattle.std.specs.Prelude.{◌≡◌, List, Result, Ok, Err}
use Rattle.p10_base.specs.declared.span.Span.{Span}
use Rattle.p10_int.specs.declared.operators.Stop.{Stop}
use Rattle.p10_meaning.specs.Objects.{Object}
use Rattle.p10_meaning.specs.States.{State, AssertionFailed, Undefined as IsUndefined, StepsSpent, Progress, ends}
use Rattle.p10_store.specs.Stores.{Held}
use Rattle.p10_interp.specs.declared.work.Halt.{Halt}
use Rattle.p10_interp.specs.declared.work.Halt.TheVariants.{Failed, Undefined, Spent, Memory}

-- the store has the objects that a write gives, or the write stops at the span of a tree and changes nothing
abbrev pub Changes : {A : Type 0} → Held → Held → Result (List Object) Stop → Span → Result A Halt → Type 0
Changes old new written span (Ok done) = (written ≡ Ok new.objects) × (new.opened ≡ old.opened)
Changes old new written span (Err (Undefined stop at)) = (written ≡ Err stop) × (at ≡ span) × (new ≡ old)
Changes old new written span (Err (Failed at)) = ⊥
Changes old new written span (Err Spent) = ⊥
Changes old new written span (Err Memory) = Unit {0}

-- what comes of a piece is what comes of the next one, or it ends with this state, unless memory runs out
abbrev pub Continues : {A B : Type 0} → Progress A → Progress A → Result B Halt → State → Type 0
Continues o next (Ok done) w = o ≡ next
Continues o next (Err (Failed span)) w = o ≡ ends (AssertionFailed span) w
Continues o next (Err (Undefined stop span)) w = o ≡ ends (IsUndefined stop span) w
Continues o next (Err Spent) w = o ≡ ends StepsSpent w
Continues o next (Err Memory) w = Unit {0}
