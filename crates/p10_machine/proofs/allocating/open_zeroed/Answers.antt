-- An allocation is opened.
use Rattle.std.proofs.Common.{refl}
use Rattle.p10_meaning.specs.Objects.{allocated}
use Rattle.p10_machine.specs.Views.{state_of}
use Rattle.p10_machine.proofs.Requested.{opened_is}
use Rattle.p10_machine.proofs.allocating.open_zeroed.Goals as goal

pub returns-in-Ok : goal.returns-in-Ok
returns-in-Ok c = λ left io.
    opened_is _ c.args.outside.now.store c.open.new.self c.args.stride c.args.count allocated c.args.outside.now.cells.items (state_of left c.args.outside.now io) c.in-Ok.ensures.ok refl c.as_slice-cells.ensures.value refl refl
