-- The cells of the scalars so far were put.
use Rattle.std.proofs.Common.{◌≡◌, ◌++◌, take}
use Rattle.p10_core.specs.Types.{plain_type, bare}
use Rattle.p10_core.specs.Sizes.{scalars_of}
use Rattle.p10_core.specs.Views.{plain_types}
use Rattle.p10_meaning.specs.Scalars.{zero_cells}
use Rattle.p10_machine.proofs.allocating.put_zeros_of_one.Given as goal

abbrev pub invariant-loop-i : goal.invariant-loop-i
invariant-loop-i l = l.cells.items ≡ l.initial.cells.items ++ take l.i (zero_cells (scalars_of (plain_types l.types) (bare (plain_types l.types) (plain_type l.t))))
