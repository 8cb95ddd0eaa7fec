use Rattle.std.proofs.Common.{map, None, is_some, option_copied, sym, ◌∙◌, ap}
use Rattle.p10_linkage.specs.LinkedViews.{linked_of_name}
use Rattle.p10_linkage.specs.private.Grouping.{rows_at}
use Rattle.p10_linkage.specs.private.Lookups.{last_in_root}
use Rattle.p10_linkage.proofs.ByNumbers.{some_mapped}
use Rattle.p10_linkage.proofs.LastNames.{some_is_defined}
use Rattle.p10_linkage.proofs.linked_names.LinkedNames.is_defined.Goals as goal

pub returns : goal.returns
returns c =
    c.is_some.ensures
    ∙ sym (some_mapped _ c.last_of_root.result)
    ∙ sym (some_mapped linked_of_name (option_copied c.last_of_root.result))
    ∙ ap is_some c.last_of_root.ensures
    ∙ ap (λ rows. is_some (last_in_root None c.args.root (rows_at c.of.result.now (map linked_of_name rows)))) c.as_slice.ensures.value
    ∙ some_is_defined c.args.root c.args.name.now (map linked_of_name c.args.self.now.rows.items) c.of.result.now (c.of.ensures ∙ c.args.self.now.definitions_named c.args.name.now)
