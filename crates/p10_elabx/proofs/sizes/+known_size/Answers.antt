use Rattle.std.proofs.Common.{sym, ◌∙◌, ap}
use Rattle.p10_core.specs.declared.c_type.CType.{CType}
use Rattle.p10_core.specs.Types.{plain_type, plain_form_of_type, array}
use Rattle.p10_core.specs.Views.{plain_types}
use Rattle.p10_elabx.proofs.KnownSizes.{known_small, array_known}
use Rattle.p10_elabx.proofs.sizes.+known_size.Goals as goal

pub product-requires : goal.product-requires
product-requires t c = known_small (plain_types c.args.types.now) (plain_type c.deref.result.now) c.in-Some.size (sym c.in-Some.is ∙ c.known_size.ensures)

pub returns-in-Some : goal.returns-in-Some
returns-in-Some t c =
    array_known (plain_types c.args.types.now) (plain_type c.args.ty.now) c.args.ty.now.is_const (plain_type c.deref.result.now) c.in-Array.length c.in-Some.size _
    (ap (plain_form_of_type c.args.ty.now.is_const) c.in-Array.is ∙ ap (λ (e : CType). array c.args.ty.now.is_const (plain_type e) c.in-Array.length) (sym c.deref.ensures))
    (sym c.in-Some.is ∙ c.known_size.ensures) c.product.ensures
