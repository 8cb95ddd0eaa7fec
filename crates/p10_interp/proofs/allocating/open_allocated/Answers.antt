-- As many cells were put as there are scalars.
use Rattle.std.proofs.Common.{◌∙◌, ap, length}
use Rattle.p10_core.specs.Types.{plain_type}
use Rattle.p10_core.specs.Views.{plain_program}
use Rattle.p10_meaning.specs.Values.{scalars}
use Rattle.p10_interp.proofs.Requested.{zeros_length}
use Rattle.p10_interp.proofs.allocating.open_allocated.Goals as goal

pub open_zeroed-requires-clause-cells : goal.open_zeroed-requires-clause-cells
open_zeroed-requires-clause-cells c = ap (λ cells. length cells) c.in_ok-put_zeros.ensures.ok ∙ zeros_length c.args.count c.args.stride (scalars (plain_program c.args.p.now) (plain_type c.args.t.now)) c.requires.width
