use Rattle.std.proofs.Common.{◌∙◌, sym, ap}
use Rattle.p10_elabd.specs.declared.declaration.ParameterList.TheVariants as list_is
use Rattle.p10_linkage.specs.Linkage.{parameters_of, goes_with_none}
use Rattle.p10_linkage.specs.LinkedViews.{plain_kind}
use Rattle.p10_linkage.proofs.LinkedTypes.{bare_count}
use Rattle.p10_linkage.proofs.listing.goes_with_none.Goals as goal

pub returns-then-defines : goal.returns-then-defines
returns-then-defines c =
    bare_count (parameters_of (plain_kind c.args.kind.now)) c.count_of.result c.count_of.ensures
    ∙ ap (λ d. goes_with_none d list_is.Fixed (parameters_of (plain_kind c.args.kind.now))) (sym c.if-defines.true)
    ∙ ap (λ l. goes_with_none c.args.defines l (parameters_of (plain_kind c.args.kind.now))) (sym c.in-Fixed.is ∙ c.list_form.ensures)
