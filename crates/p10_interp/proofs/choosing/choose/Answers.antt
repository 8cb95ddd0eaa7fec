-- The two values of a `?:`.
use Rattle.std.proofs.Common.{◌∙◌, sym, ap}
use Rattle.p10_core.specs.declared.typed.Value.{Value}
use Rattle.p10_core.specs.Types.{plain_type}
use Rattle.p10_core.specs.Typed.{value}
use Rattle.p10_core.specs.Views.{plain_value, plain_form}
use Rattle.p10_interp.specs.private.Tasks.{choose}
use Rattle.p10_interp.specs.private.Views.{choice_of}
use Rattle.p10_interp.proofs.Chosen.{act_by}
use Rattle.p10_interp.proofs.choosing.choose.Goals as goal

pub returns-in-Cond : goal.returns-in-Cond
returns-in-Cond c = λ p w f calls e.
    act_by p _ (choose (plain_value c.deref.result.now) (plain_value c.deref-in-Cond.result.now)) _ _ _ _ _ _ _
    (ap (λ g. choice_of (value c.args.value.now.at (plain_type c.args.value.now.ty) g)) (ap plain_form c.in-Cond.is) ∙
    (ap (λ (v : Value). choose (plain_value v) (plain_value c.in-Cond.second.value)) (sym c.deref.ensures) ∙ ap (λ (v : Value). choose (plain_value c.deref.result.now) (plain_value v)) (sym c.deref-in-Cond.ensures)))
    (c.choose_of.ensures p w f calls e)
