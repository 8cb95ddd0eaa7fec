use Rattle.p10_words.proofs.Answering.{recheck_done, recheck_without, recheck_lost}
use Rattle.p10_words.proofs.recheck.recheck.Goals as goal

pub returns-in-Some : goal.returns-in-Some
returns-in-Some c = recheck_done _ c.in-Ok.found _ _ _ _ c.recheck_of.result c.in-Ok.ensures c.get_str.ensures c.get_str-in-Some.ensures c.get_str-in-Some-2.ensures c.in-Some.ensures c.recheck_of.ensures

pub returns-in-Ok : goal.returns-in-Ok
returns-in-Ok c = recheck_without _ c.in-Ok.found c.in-Ok.ensures c.in-None.ensures

pub returns : goal.returns
returns c = recheck_lost _ c.in-Err.fault c.in-Err.ensures
