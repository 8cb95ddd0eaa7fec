-- The scalar has its type.
use Rattle.p10_core.specs.Types.{plain_type, bare}
use Rattle.p10_core.specs.Sizes.{scalars_of}
use Rattle.p10_core.specs.Views.{plain_types}
use Rattle.p10_meaning.specs.Pointers.{holding}
use Rattle.p10_meaning.specs.Scalars.{zero_cells}
use Rattle.p10_machine.proofs.Requested.{zero_at, puts_cell}
use Rattle.p10_machine.proofs.allocating.put_zero.Goals as goal

pub returns-in-Some : goal.returns-in-Some
returns-in-Some c =
    puts_cell c.args.cells.now.items (zero_cells (scalars_of (plain_types c.args.types.now) (bare (plain_types c.args.types.now) (plain_type c.args.t.now)))) c.args.number c.put_cell.new.cells.items c.put_cell.result (holding c.zero_of_kind.result) (zero_at (scalars_of (plain_types c.args.types.now) (bare (plain_types c.args.types.now) (plain_type c.args.t.now))) c.args.number c.in-Some.kind c.zero_of_kind.result c.in-Some.ensures c.zero_of_kind.ensures) c.put_cell.ensures
