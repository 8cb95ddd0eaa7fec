use Rattle.std.proofs.Common.{false, ◌∙◌, ap}
use Rattle.p10_core.specs.Types.{array}
use Rattle.p10_core.specs.WholePrograms.{most_bytes}
use Rattle.p10_elabs.proofs.locals.without_size.Goals as goal

pub returns : goal.returns
unfolding most_bytes
returns c = c.in_ok-array.ensures ∙ ap (λ t. array false t 1099511627777) c.in_ok-element.ensures
