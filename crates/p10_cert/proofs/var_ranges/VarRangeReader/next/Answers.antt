use Rattle.std.proofs.Common.{arith}
use Rattle.p10_cert.specs.Vars.{var_of}
use Rattle.p10_cert.proofs.PackingLaws.{next_view}
use Rattle.p10_cert.proofs.var_ranges.VarRangeReader.next.Goals as goal

pub returns : goal.returns
returns c =
    next_view c.self.inside.left c.self.inside.last c.self.inside.bytes.now c.unpacked.result.1.now (var_of c.unpacked.result.0) _ (omega (arith, c.if-self-eq0.false)) c.unpacked.ensures.line c.unpacked.ensures.rest c.self.view_is
