use Rattle.p10_words.proofs.Answering.{verify_done, verify_without, verify_lost}
use Rattle.p10_words.proofs.read.verify.Goals as goal

pub returns-in-Some : goal.returns-in-Some
returns-in-Some c = verify_done _ c.in-Ok.found _ _ _ _ _ c.verify_of.result c.in-Ok.ensures c.get_str-in-Some.ensures c.is_given-clean.ensures c.get_str.ensures c.get_str-in-Some-2.ensures c.in-Some.ensures c.verify_of.ensures

pub returns-in-Ok : goal.returns-in-Ok
returns-in-Ok c = verify_without _ c.in-Ok.found c.in-Ok.ensures c.in-None.ensures

pub returns : goal.returns
returns c = verify_lost _ c.in-Err.fault c.in-Err.ensures
