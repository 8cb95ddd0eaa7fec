use Rattle.std.proofs.Common.{◌∙◌, ap}
use Rattle.p10_core.specs.declared.c_type.CType.{CType}
use Rattle.p10_core.specs.Types.{plain_type, plain_form_of_type}
use Rattle.p10_core.specs.Sizes.{size_of}
use Rattle.p10_core.specs.Views.{plain_types}
use Rattle.p10_core.proofs.SizesOfTypes.{array_fits}
use Rattle.p10_core.proofs.table.Types.+size.Goals as goal

pub overflow_mul-result : goal.overflow_mul-result
overflow_mul-result t c =
    array_fits _ _ _ _ _ _ (ap (plain_form_of_type c.args.t.now.is_const) c.in-Array.is) c.requires.whole
    (c.size.ensures ∙ ap (λ (e : CType). size_of (plain_types c.args.self.now) (plain_type e)) c.deref.ensures)
