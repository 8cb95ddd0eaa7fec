use Rattle.p10_direct.proofs.Breaking.{unclosed_found}
use Rattle.p10_direct.proofs.balance.first_unclosed.Goals as goal

pub returns : goal.returns
returns c = unclosed_found _ _ _ _ c.loop-place-test.false c.loop-place.invariant.behind
