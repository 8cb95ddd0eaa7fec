use Rattle.std.proofs.Common.{◌∙◌, ap}
use Rattle.p10_cert.specs.private.Seals.{second_digest}
use Rattle.p10_cert.proofs.Seals.{digest_told}
use Rattle.p10_cert.proofs.record.FuncRecord.digest.Goals as goal

pub returns : goal.returns
returns c = λ e sealed good exact. c.second_digest.ensures ∙ ap second_digest exact ∙ digest_told sealed e good
