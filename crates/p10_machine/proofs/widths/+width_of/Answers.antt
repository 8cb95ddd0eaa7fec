-- An array has the scalars of each element.
use Rattle.std.proofs.Common.{◌∙◌, ap, length}
use Rattle.p10_core.specs.declared.c_type.CType.{CType}
use Rattle.p10_core.specs.Types.{plain_type, plain_form_of_type, bare}
use Rattle.p10_core.specs.Sizes.{scalars_of}
use Rattle.p10_core.specs.Views.{plain_types}
use Rattle.p10_store.proofs.ScalarsOfTypes.{array_counted}
use Rattle.p10_machine.proofs.widths.+width_of.Goals as goal

pub returns-in_ok-width_of-in-Array : goal.returns-in_ok-width_of-in-Array
returns-in_ok-width_of-in-Array t c =
    array_counted _ _ _ _ _ _ _ _ (ap (λ f. bare (plain_types c.args.types.now) (plain_form_of_type c.args.t.now.is_const f)) c.in-Array.is)
    (c.in_ok-width_of-in-Array.ensures ∙ ap (λ (e : CType). length (scalars_of (plain_types c.args.types.now) (bare (plain_types c.args.types.now) (plain_type e)))) c.deref.ensures)
    c.checked_mul.ensures
