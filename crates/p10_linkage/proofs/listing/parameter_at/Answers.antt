use Rattle.std.proofs.Common.{◌∙◌, sym, ap, map, None, option_map, slice_get}
use Rattle.std.specs.Option.{unwrap_or}
use Rattle.p10_core.specs.Types.{plain_type}
use Rattle.p10_linkage.specs.Linkage.{parameters_of}
use Rattle.p10_linkage.specs.LinkedViews.{plain_kind}
use Rattle.p10_linkage.proofs.LinkedTypes.{known_place}
use Rattle.p10_linkage.proofs.listing.parameter_at.Goals as goal

pub returns-in-Function : goal.returns-in-Function
returns-in-Function c =
    c.type_at.ensures
    ∙ ap (λ xs. slice_get (map plain_type xs) c.args.place) c.as_slice.ensures.value
    ∙ known_place (map plain_type c.in-Function.types.items) c.args.place
    ∙ ap (λ k. unwrap_or (slice_get (parameters_of (plain_kind k)) c.args.place) None) (sym c.in-Function.is)

pub returns-in-Refused : goal.returns-in-Refused
returns-in-Refused c =
    c.if_known.ensures
    ∙ ap (λ o. unwrap_or o None) (c.entry_at.ensures ∙ ap (λ xs. slice_get (map (option_map plain_type) xs) c.args.place) c.as_slice-in-Refused.ensures.value)
    ∙ ap (λ k. unwrap_or (slice_get (parameters_of (plain_kind k)) c.args.place) None) (sym c.in-Refused.is)
