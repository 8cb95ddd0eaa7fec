use Rattle.p10_words.proofs.Answering.{check_done, check_without, check_lost}
use Rattle.p10_words.proofs.read.check.Goals as goal

pub returns-in-Some : goal.returns-in-Some
returns-in-Some c = check_done _ c.in-Ok.found _ _ _ c.check_of.result c.in-Ok.ensures c.get_str.ensures c.get_str-in-Some.ensures c.in-Some.ensures c.check_of.ensures

pub returns-in-Ok : goal.returns-in-Ok
returns-in-Ok c = check_without _ c.in-Ok.found c.in-Ok.ensures c.in-None.ensures

pub returns : goal.returns
returns c = check_lost _ c.in-Err.fault c.in-Err.ensures
