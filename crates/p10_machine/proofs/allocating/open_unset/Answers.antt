-- An allocation is opened.
use Rattle.std.proofs.Common.{refl}
use Rattle.p10_core.specs.Sizes.{repeated}
use Rattle.p10_meaning.specs.Objects.{allocated}
use Rattle.p10_meaning.specs.Scalars.{unset_cells}
use Rattle.p10_store.specs.declared.shape.Origin.TheVariants.{Allocated}
use Rattle.p10_machine.specs.Views.{state_of}
use Rattle.p10_machine.proofs.Requested.{opened_is, unset_repeated}
use Rattle.p10_machine.proofs.allocating.open_unset.Goals as goal

pub returns-in-Ok : goal.returns-in-Ok
returns-in-Ok c = λ types left io e.
    opened_is Allocated c.args.outside.now.store c.open.new.self c.args.stride c.args.count allocated (unset_cells (repeated c.args.count types)) (state_of left c.args.outside.now io) c.in-Ok.ensures.ok refl (unset_repeated c.args.count c.args.stride types e) refl refl
