use Rattle.p10_calls.proofs.Uniqueness.{no_ranks_on_cycles}
use Rattle.p10_calls.proofs.laws.no_ranks_on_cycles.Goals as goal

pub returns : goal.returns
returns c = no_ranks_on_cycles
