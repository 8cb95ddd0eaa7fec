use Rattle.std.specs.Prelude.{option_map}
use Rattle.std.proofs.Common.{sym, ◌∙◌}
use Rattle.p10_core.specs.Types.{plain_type}
use Rattle.p10_core.specs.Views.{plain_value}
use Rattle.p10_elabx.proofs.Allocated.{allocated_is}
use Rattle.p10_elabx.proofs.allocations.allocation.Goals as goal

pub returns-in_ok-v : goal.returns-in_ok-v
returns-in_ok-v c =
    let site = c.args.site in
    allocated_is site.cast_at site.call_at site.name_at (plain_type c.args.ty) c.args.function (plain_type c.args.element.now) (option_map plain_value c.args.count) (plain_value c.in_ok-v.v)
    (sym c.points_to.ensures ∙ c.if-points_to.true) c.in_ok-v.ensures
