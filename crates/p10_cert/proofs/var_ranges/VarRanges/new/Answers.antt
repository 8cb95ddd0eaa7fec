use Rattle.p10_cert.proofs.PackingLaws.{none_packed}
use Rattle.p10_cert.proofs.var_ranges.VarRanges.new.Goals as goal

pub invariant_of-result : goal.invariant_of-result
invariant_of-result c = none_packed c.new.result.items c.new.ensures.items
