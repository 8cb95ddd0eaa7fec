-- The next cell is put.
use Rattle.std.proofs.Common.{◌+◌, refl, arith}
use Rattle.p10_core.specs.Types.{plain_type, bare}
use Rattle.p10_core.specs.Sizes.{scalars_of}
use Rattle.p10_core.specs.Views.{plain_types}
use Rattle.p10_meaning.specs.Scalars.{zero_cells}
use Rattle.p10_machine.proofs.Requested.{puts_next, puts_all}
use Rattle.p10_machine.proofs.allocating.put_zeros_of_one.Goals as goal

pub loop-i-preserved : goal.loop-i-preserved
loop-i-preserved c =
    puts_next c.args.cells.now.items c.loop-i.cells.items c.put_zero.new.cells.items (zero_cells (scalars_of (plain_types c.args.types.now) (bare (plain_types c.args.types.now) (plain_type c.args.t.now)))) c.loop-i.i (c.loop-i.i + 1) refl c.loop-i.invariant c.in_ok-put_zero.ensures

pub returns : goal.returns
returns c =
    puts_all c.args.cells.now.items c.loop-i.cells.items (scalars_of (plain_types c.args.types.now) (bare (plain_types c.args.types.now) (plain_type c.args.t.now))) c.loop-i.i (omega (arith, c.loop-i-test.false, c.requires.width)) c.loop-i.invariant
