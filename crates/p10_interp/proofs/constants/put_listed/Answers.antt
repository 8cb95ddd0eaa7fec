-- The cells are those that the list gives.
use Rattle.std.proofs.Common.{◌∙◌, ap}
use Rattle.p10_core.specs.Types.{plain_type}
use Rattle.p10_core.specs.Views.{plain_program}
use Rattle.p10_meaning.specs.Values.{scalars}
use Rattle.p10_meaning.specs.Opening.{listed_cells}
use Rattle.p10_interp.proofs.Starting.{on_ok_then}
use Rattle.p10_interp.proofs.Ordered.{same_scalars}
use Rattle.p10_interp.proofs.constants.put_listed.Goals as goal

pub returns-clause-cells : goal.returns-clause-cells
returns-clause-cells c =
    on_ok_then c.put_listed_cells.result _ _ _ (ap (λ xs. listed_cells 0 (scalars (plain_program c.args.p.now) (plain_type c.args.t.now)) xs) (same_scalars c.list-listed.result.items.now c.items_if.result.now c.list-listed.result.values.now c.constants.new.values c.list-listed.ensures.items c.list-listed.ensures.values ∙ (c.items_if.ensures c.constants.new.values ∙ c.in_ok-given.ensures.values))) c.put_listed_cells.ensures
