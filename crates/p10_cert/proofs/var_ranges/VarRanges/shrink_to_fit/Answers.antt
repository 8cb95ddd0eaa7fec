use Rattle.p10_cert.proofs.PackingLaws.{same_packed}
use Rattle.p10_cert.proofs.var_ranges.VarRanges.shrink_to_fit.Goals as goal

pub invariant_of-self : goal.invariant_of-self
invariant_of-self c = same_packed c.self.inside.count c.self.inside.last c.self.inside.bytes.items c.shrink_to_fit.new.self.items c.shrink_to_fit.ensures.items c.self.invariant
