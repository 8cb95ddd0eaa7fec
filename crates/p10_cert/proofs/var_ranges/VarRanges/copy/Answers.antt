use Rattle.std.proofs.Common.{◌∙◌}
use Rattle.p10_cert.proofs.PackingLaws.{same_packed}
use Rattle.p10_cert.proofs.var_ranges.VarRanges.copy.Goals as goal

pub invariant_of-result : goal.invariant_of-result
invariant_of-result c =
    same_packed c.self.inside.count c.self.inside.last c.self.inside.bytes.items _ (c.in_ok-from_slice.ensures.items ∙ c.as_slice.ensures.value) c.self.invariant
