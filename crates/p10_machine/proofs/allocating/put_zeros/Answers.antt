-- The cells of the next element are put.
use Rattle.std.proofs.Common.{◌+◌, refl}
use Rattle.p10_core.specs.Types.{plain_type, bare}
use Rattle.p10_core.specs.Sizes.{scalars_of}
use Rattle.p10_core.specs.Views.{plain_types}
use Rattle.p10_machine.proofs.Requested.{zeros_next}
use Rattle.p10_machine.proofs.allocating.put_zeros.Goals as goal

pub loop-i-preserved : goal.loop-i-preserved
loop-i-preserved c =
    zeros_next c.loop-i.i (c.loop-i.i + 1) (scalars_of (plain_types c.args.types.now) (bare (plain_types c.args.types.now) (plain_type c.args.t.now))) c.loop-i.cells.items c.put_zeros_of_one.new.cells.items refl c.loop-i.invariant c.in_ok-put_zeros_of_one.ensures
