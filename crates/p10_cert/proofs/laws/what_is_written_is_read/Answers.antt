use Rattle.p10_cert.proofs.TextLaws.{written_is_read}
use Rattle.p10_cert.proofs.laws.what_is_written_is_read.Goals as goal

pub returns : goal.returns
returns c = written_is_read
