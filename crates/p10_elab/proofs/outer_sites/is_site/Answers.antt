use Rattle.std.proofs.Common.{◌≡◌, true, map, slice_get, sym, ap, ◌∙◌}
use Rattle.p10_heads.specs.HeadViews.{plain_head}
use Rattle.p10_elab.specs.Outer.{is_defined_at}
use Rattle.p10_elab.specs.private.Defining.{is_there}
use Rattle.p10_elab.proofs.DefinedSites.{found_among}
use Rattle.p10_elab.proofs.outer_sites.is_site.Goals as goal

pub returns-then-has_at : goal.returns-then-has_at
returns-then-has_at c =
    sym (ap (is_defined_at c.args.first) (sym c.objects-objects.ensures) ∙ found_among c.args.first c.args.number (map plain_head c.objects-objects.result.now) (sym c.has_at.ensures ∙ c.if-has_at.true))

pub returns-else-has_at : goal.returns-else-has_at
returns-else-has_at c = c.is_among.ensures ∙ ap (is_defined_at c.args.first) c.objects-objects.ensures
