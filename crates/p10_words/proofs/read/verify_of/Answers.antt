use Rattle.p10_words.proofs.Answering.{cert_given}
use Rattle.p10_words.proofs.read.verify_of.Goals as goal

pub returns-in-Some : goal.returns-in-Some
returns-in-Some c = cert_given _ _ c.args.cert c.in-Some.cert _ c.verify_with.result c.in-Some.is c.verify_with.ensures
