use Rattle.std.proofs.Common.{map, None, ◌∙◌, ap}
use Rattle.p10_linkage.specs.LinkedViews.{linked_of_name}
use Rattle.p10_linkage.specs.private.Grouping.{rows_at}
use Rattle.p10_linkage.specs.private.Lookups.{last_in_root}
use Rattle.p10_linkage.proofs.LastNames.{last_is}
use Rattle.p10_linkage.proofs.linked_names.LinkedNames.last.Goals as goal

pub returns : goal.returns
returns c =
    c.last_of_root.ensures
    ∙ ap (λ rows. last_in_root None c.args.root (rows_at c.of.result.now (map linked_of_name rows))) c.as_slice.ensures.value
    ∙ last_is c.args.root c.args.name.now (map linked_of_name c.args.self.now.rows.items) c.of.result.now (c.of.ensures ∙ c.args.self.now.all_named c.args.name.now)
