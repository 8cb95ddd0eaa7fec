use Rattle.p10_words.proofs.Answering.{run_done, run_without, run_lost}
use Rattle.p10_words.proofs.read.run.Goals as goal

pub returns-in-Some : goal.returns-in-Some
returns-in-Some c =
    run_done _ c.in-Ok.found _ _ _ _ _ _ _ c.run_of.result c.in-Ok.ensures c.get_str.ensures c.get_str-in-Some.ensures c.get_str-in-Some-2.ensures c.get_str-in-Some-3.ensures
    c.get_str-in-Some-4.ensures c.get_str-in-Some-5.ensures c.in-Some.ensures c.run_of.ensures

pub returns-in-Ok : goal.returns-in-Ok
returns-in-Ok c = run_without _ c.in-Ok.found c.in-Ok.ensures c.in-None.ensures

pub returns : goal.returns
returns c = run_lost _ c.in-Err.fault c.in-Err.ensures
