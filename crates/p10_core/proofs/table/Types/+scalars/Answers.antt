use Rattle.std.proofs.Common.{length, ◌∙◌, ap}
use Rattle.p10_core.specs.declared.c_type.CType.{CType}
use Rattle.p10_core.specs.Types.{plain_type, plain_form_of_type}
use Rattle.p10_core.specs.Sizes.{scalars_of}
use Rattle.p10_core.specs.Views.{plain_types}
use Rattle.p10_core.proofs.MemberLayouts.{array_scalars_fit, array_scalars_are}
use Rattle.p10_core.proofs.table.Types.+scalars.Goals as goal

pub overflow_mul-result : goal.overflow_mul-result
overflow_mul-result t c =
    array_scalars_fit _ c.args.self.now.built.whole _ _ _ _ _ (ap (plain_form_of_type c.args.t.now.is_const) c.in-Array.is) c.requires.object
    (c.scalars.ensures ∙ ap (λ (e : CType). length (scalars_of (plain_types c.args.self.now) (plain_type e))) c.deref.ensures)

pub returns-in-Array : goal.returns-in-Array
returns-in-Array t c =
    array_scalars_are _ _ _ _ _ _ (ap (plain_form_of_type c.args.t.now.is_const) c.in-Array.is)
    (c.scalars.ensures ∙ ap (λ (e : CType). length (scalars_of (plain_types c.args.self.now) (plain_type e))) c.deref.ensures)
