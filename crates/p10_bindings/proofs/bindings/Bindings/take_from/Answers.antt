use Rattle.p10_bindings.proofs.Later.{in_order}
use Rattle.p10_bindings.proofs.bindings.Bindings.take_from.Goals as goal

pub returns-clause-taken : goal.returns-clause-taken
returns-clause-taken g c = in_order c.in_ok-taken.taken.items c.reverse.new.self.items _ c.in_ok-taken.ensures.taken c.reverse.ensures.items
