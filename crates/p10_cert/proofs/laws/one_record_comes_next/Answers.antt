use Rattle.p10_cert.proofs.TextLaws.{one_record}
use Rattle.p10_cert.proofs.laws.one_record_comes_next.Goals as goal

pub returns : goal.returns
returns c = one_record
