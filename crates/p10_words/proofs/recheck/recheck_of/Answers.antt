use Rattle.p10_words.proofs.Answering.{rechecked_given}
use Rattle.p10_words.proofs.recheck.recheck_of.Goals as goal

pub returns-in-Some-cert : goal.returns-in-Some-cert
returns-in-Some-cert c = rechecked_given _ c.args.since c.args.cert c.in-Some.since c.in-Some-cert.cert _ c.recheck_with.result c.in-Some.is c.in-Some-cert.is c.recheck_with.ensures
