-- The list gives the scalar.
use Rattle.std.proofs.Common.{map, arith}
use Rattle.p10_core.specs.Types.{plain_type, bare}
use Rattle.p10_core.specs.Sizes.{scalars_of}
use Rattle.p10_core.specs.Views.{plain_types, plain_item}
use Rattle.p10_meaning.specs.Pointers.{holding}
use Rattle.p10_meaning.specs.Opening.{listed_cells}
use Rattle.p10_interp.specs.private.Operations.{scalars_of_items}
use Rattle.p10_interp.proofs.Filled.{listed_at}
use Rattle.p10_interp.proofs.Requested.{puts_cell}
use Rattle.p10_interp.proofs.constants.put_listed_cell.Goals as goal

pub returns-in_ok-scalar_for-in-Some : goal.returns-in_ok-scalar_for-in-Some
returns-in_ok-scalar_for-in-Some c =
    puts_cell c.args.cells.now.items (listed_cells 0 (scalars_of (plain_types c.args.types.now) (bare (plain_types c.args.types.now) (plain_type c.args.t.now))) (scalars_of_items (map plain_item c.args.listed.items.now) c.args.listed.values.now)) c.args.number c.put_cell.new.cells.items c.put_cell.result (holding c.in_ok-scalar_for-in-Some.field-0)
    (listed_at (scalars_of (plain_types c.args.types.now) (bare (plain_types c.args.types.now) (plain_type c.args.t.now))) 0 c.args.number c.args.number c.in-Some.kind c.in_ok-scalar_for-in-Some.field-0 (scalars_of_items (map plain_item c.args.listed.items.now) c.args.listed.values.now) (omega arith) c.in-Some.ensures (λ t k. c.in_ok-scalar_for-in-Some.ensures.value t k)) c.put_cell.ensures.ok
