-- As many cells were put as there are scalars.
use Rattle.std.proofs.Common.{◌∙◌, ap, length}
use Rattle.p10_core.specs.Sizes.{repeated}
use Rattle.p10_core.specs.Types.{plain_type}
use Rattle.p10_core.specs.Views.{plain_program}
use Rattle.p10_meaning.specs.Values.{scalars}
use Rattle.p10_machine.specs.Views.{state_of}
use Rattle.p10_machine.proofs.Requested.{zeros_length, zeroed_done, unset_done}
use Rattle.p10_machine.proofs.allocating.open_allocated.Goals as goal

pub open_zeroed-requires-clause-cells : goal.open_zeroed-requires-clause-cells
open_zeroed-requires-clause-cells c = ap (λ cells. length cells) c.in_ok-put_zeros.ensures ∙ zeros_length c.args.count c.args.stride (scalars (plain_program c.args.p.now) (plain_type c.args.t.now)) c.requires.width

pub returns-in_ok-put_zeros : goal.returns-in_ok-put_zeros
returns-in_ok-put_zeros c =
    zeroed_done c.open_zeroed.result c.args.zero (repeated c.args.count (scalars (plain_program c.args.p.now) (plain_type c.args.t.now))) c.put_zeros.new.cells.items (λ left io. state_of left c.args.outside.now io) (λ left io. state_of left c.open_zeroed.new.outside io) c.if-zero.true c.in_ok-put_zeros.ensures c.open_zeroed.ensures

pub returns-else-zero : goal.returns-else-zero
returns-else-zero c =
    unset_done c.open_unset.result c.args.zero c.args.count c.args.stride (scalars (plain_program c.args.p.now) (plain_type c.args.t.now)) (λ left io. state_of left c.args.outside.now io) (λ left io. state_of left c.open_unset.new.outside io) c.if-zero.false c.requires.width c.open_unset.ensures
