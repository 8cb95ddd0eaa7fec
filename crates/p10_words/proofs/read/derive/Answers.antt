use Rattle.p10_words.proofs.Answering.{derive_done, derive_without, derive_lost}
use Rattle.p10_words.proofs.read.derive.Goals as goal

pub returns-in-Some : goal.returns-in-Some
returns-in-Some c = derive_done _ c.in-Ok.found _ _ _ _ _ c.derive_of.result c.in-Ok.ensures c.get_str-in-Some.ensures c.get_str-in-Some-2.ensures c.is_given-diff.ensures c.get_str.ensures c.in-Some.ensures c.derive_of.ensures

pub returns-in-Ok : goal.returns-in-Ok
returns-in-Ok c = derive_without _ c.in-Ok.found c.in-Ok.ensures c.in-None.ensures

pub returns : goal.returns
returns c = derive_lost _ c.in-Err.fault c.in-Err.ensures
